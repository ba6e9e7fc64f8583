use Rattle.wtf8.proofs.Common.{◌∙◌, ap, arith, length}
use Rattle.wtf8.proofs.lemmas.codec.Readings.{lists_have_lengths}
use Rattle.wtf8.proofs.lemmas.units.UnitEnds.{Writes-trans}
use Rattle.wtf8.proofs.units.writing.decode_blocks.Goals as goal

pub loop-units-preserved : goal.loop-units-preserved
loop-units-preserved c =
    let done = c.loop-units.invariant in
    let step = c.decode_next-left.ensures in
    let rest = c.decode_next-left.result.view in
    let written = Writes-trans done.written step.written in
    let many = (lists_have_lengths rest.well_formed.points).units_most in
    record {
      written = written;
      kept = λ long n after. step.written.later n (omega (arith, long, after, written.same_total, step.kept, many, ap length rest.well_formed.encoded))
          ∙ done.kept long n after;
    }
