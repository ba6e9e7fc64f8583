use Rattle.unit_text.proofs.MarkLemmas.{AreKept-append}
use Rattle.unit_text.proofs.marks.count_more.Goals as goal

pub add_to_kept-requires : goal.add_to_kept-requires
add_to_kept-requires g c =
    let old = c.requires.marks in
    rw c.new.ensures.bytes (rw c.new.ensures.units
    (AreKept-append c.law_marks.ensures.kept old.0 c.args.text.now old.1 old.2.0 c.args.marks.now old.2.1))
