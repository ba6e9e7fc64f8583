use Rattle.wtf8.proofs.Common.{◌≡◌, ◌-◌, ◌+◌, ◌≤◌, ◌∙◌, ◌++◌, ap, arith, drop, get_or-drop, length, length-drop, replicate, subst, sym, take}
use Rattle.wtf8.proofs.Common.{Fits, w16, IsKnownForm}
use Rattle.wtf8.specs.private.PackedUnits.{packed_units, tagged_units}
use Rattle.wtf8.proofs.lemmas.from_utf16.PackedUnits.{last_block-form}
use Rattle.wtf8.proofs.from_utf16.kernel.write_last_block.Goals.{After-write_any_block-written}
use Rattle.wtf8.proofs.from_utf16.kernel.write_last_block.Goals as goal

-- the bytes without the zeros are the form of the units
without_zeros : (c : After-write_any_block-written) → let written = c.write_any_block-written in
    let u = drop c.args.at c.args.v.now in
    let zeros = 16 - (length c.args.v.now - c.args.at) in
    let kept = take c.args.len c.args.scratch.now in
    let part = packed_units 0 (tagged_units 0 u 0) in
    (length kept + zeros ≤ written.result.end) × (take (written.result.end - zeros) written.new.scratch ≡ kept ++ part)
    × IsKnownForm part u written.result.is_utf8
without_zeros c =
    let v = c.args.v.now in
    let at = c.args.at in
    let u = drop at v in
    let written = c.write_any_block-written in
    let end = written.result.end in
    let kept = take c.args.len c.args.scratch.now in
    let left : length u ≡ length v - at = length-drop at v in
    let all = last_block-form written.new.scratch kept u written.result.units end (omega (arith, left, c.requires.most))
    (λ i. subst (Fits w16) (sym (get_or-drop at v i 0)) (c.type_inv.v (at + i)))
    (c.padded.ensures ∙ ap (λ n. u ++ replicate (16 - n) 0) (sym left)) written.ensures.taken written.ensures.scalar written.ensures.bytes
    (omega (arith, c.requires.room, written.ensures.within, written.auto.scratch)) in (
      omega (arith, all.0, left),
      subst (λ n. take (end - (16 - n)) written.new.scratch ≡ kept ++ packed_units 0 (tagged_units 0 u 0)) left all.1,
      all.2,
    )

pub overflow_sub-result : goal.overflow_sub-result
overflow_sub-result c = omega (arith, (without_zeros (goal.at.overflow_sub-result c).After-write_any_block-written).0)

pub returns : goal.returns
returns c =
    let all = without_zeros (goal.at.returns c).After-write_any_block-written in
    record { within = omega (arith, c.write_any_block-written.ensures.within); bytes = all.1; form = all.2 }
