use Rattle.std.proofs.Common.{arith, length-drop}
use Rattle.std.proofs.Math.Seq.{take-add}
use Rattle.std.proofs.KnownBytes.{Appends-trans}
use Rattle.std.proofs.lemmas.List.{take_rest}
use Rattle.dump_lines.proofs.session.write_output.Goals as goal

pub loop-written-preserved : goal.loop-written-preserved
loop-written-preserved g c =
    let bound = rw take_rest at c.in-Ok.ensures.bound in
    let taken = rw take_rest at c.in-Ok.ensures.bytes in
    record {
      within = omega (arith, simp length-drop at bound);
      beginning = rw take-add (Appends-trans _ _ _ _ _ c.loop-written.invariant.beginning taken);
    }
