use Rattle.std.proofs.Common.{arith}
use Rattle.std.specs.Prelude.{vec_capacity}
use Rattle.unit_text.specs.Marks.{AreMarks}
use Rattle.unit_text.proofs.marks.shrink_kept.Goals as goal

pub returns-in-Some : goal.returns-in-Some
returns-in-Some g c = λ w u h.
    let held = c.deref_mut.result.now in
    let old : AreMarks w u held.items (vec_capacity held) = rw c.deref_mut.ensures.value (rw c.in-Some.is at h) in
    let shrunk = c.shrink_to_fit.ensures in
    rw shrunk.items (record { kept = old.kept; all = λ room. old.all (omega (arith, room, shrunk.capacity)) })
