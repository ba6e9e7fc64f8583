use Rattle.wtf8.proofs.Common.{drop}
use Rattle.wtf8.proofs.lemmas.codec.Readings.{IsWellFormed-equal_bytes}
use Rattle.wtf8.proofs.lemmas.strings.Surrogates.{lossy_written}
use Rattle.wtf8.proofs.strings.view.Wtf8.write_lossy.Goals as goal

pub returns-clause-text : goal.returns-clause-text
returns-clause-text c =
    let h = c.args.self.now.well_formed in
    lossy_written h (drop c.len-count.result c.args.out.now)
    (c.replace_surrogates.ensures (IsWellFormed-equal_bytes h c.copy_from_slice.ensures.after)) c.len-count.ensures.bytes
