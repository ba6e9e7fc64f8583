use Rattle.std.proofs.Common.{refl}
use Rattle.wtf8.specs.View.{view_units}
use Rattle.wtf8_uses.proofs.PartLemmas.{slice_split-part_pushed, slice_split-last_part}
use Rattle.wtf8_uses.proofs.file_names.components.Goals as goal

pub loop-part-preserved : goal.loop-part-preserved
loop-part-preserved c =
    let e = c.in-Some.ensures in
    slice_split-part_pushed view_units c.loop-part.parts.items c.push.new.self.items c.in-Some.part
    (view_units c.loop-part.rest) _ c.in_ok-push.ensures.items c.loop-part.invariant
    (view_units c.in-Some.after) _ e.joined e.separator e.before

pub returns : goal.returns
returns c =
    slice_split-last_part view_units c.loop-part.parts.items c.push-2.new.self.items c.loop-part.rest
    (view_units c.loop-part.rest) _ c.in_ok-push-2.ensures.items c.loop-part.invariant refl c.in_default.ensures.none
