use Rattle.wtf8.proofs.Common.{subst, ReadsAll}
use Rattle.wtf8.proofs.lemmas.from_utf16.Decoding.{reads_all}
use Rattle.wtf8.proofs.from_utf16.decode.decode_utf16.Goals as goal

pub returns-clause-reads : goal.returns-clause-reads
returns-clause-reads g c items d =
    let steps = g.I.Iterator.next_gives in
    subst (λ i. ReadsAll steps i items) c.peekable.ensures.source
    (reads_all steps items (record { units = c.peekable.result }) c.peekable.ensures.peeked d)
