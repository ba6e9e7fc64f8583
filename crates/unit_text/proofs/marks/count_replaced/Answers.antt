use Rattle.unit_text.proofs.EditLemmas.{AreKept-edited}
use Rattle.unit_text.proofs.marks.count_replaced.Goals as goal

pub renew_after-requires : goal.renew_after-requires
renew_after-requires g c =
    let old = c.requires.marks in
    rw (c.new.ensures.bytes, c.new.ensures.units) (AreKept-edited c.law_marks.ensures.kept c.law_marks.ensures.cut old.0 c.args.text.now
    c.args.begin old.1 old.2.0 old.2.1 c.args.marks.now old.2.2)
