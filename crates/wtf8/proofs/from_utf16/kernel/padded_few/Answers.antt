use Rattle.wtf8.proofs.lemmas.from_utf16.Padded.{quarters}
use Rattle.wtf8.proofs.from_utf16.kernel.padded_few.Goals as goal

pub returns : goal.returns
returns c = rw (c.first_quarter.ensures, c.without_first-rest.ensures, c.first_quarter-last.ensures)
    (quarters c.args.units.now c.requires.least c.requires.few)
