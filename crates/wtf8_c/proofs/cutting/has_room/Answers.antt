use Rattle.std.proofs.Common.{ap, ◌∙◌, arith}
use mir.Val.{bool_byte}
use Rattle.wtf8_c.proofs.Halves.{slice_room}
use Rattle.wtf8_c.proofs.cutting.has_room.Goals as goal

pub returns-then-whole-capacity : goal.returns-then-whole-capacity
returns-then-whole-capacity c =
    let room = slice_room c.args.slice c.requires c.len-whole.result c.from.result c.from-2.result c.args.capacity
    c.len-whole.ensures.bytes (c.from.ensures ∙ ap bool_byte c.is_some.ensures) (c.from-2.ensures ∙ ap bool_byte c.is_some-2.ensures) in
    (λ is. room.0 (grind (arith, is, c.if-whole-capacity.true)), λ fit. grind (arith, room.1 fit))

pub returns-else-whole-capacity : goal.returns-else-whole-capacity
returns-else-whole-capacity c =
    let room = slice_room c.args.slice c.requires c.len-whole.result c.from.result c.from-2.result c.args.capacity
    c.len-whole.ensures.bytes (c.from.ensures ∙ ap bool_byte c.is_some.ensures) (c.from-2.ensures ∙ ap bool_byte c.is_some-2.ensures) in
    (λ is. absurd (grind (arith, is)), λ fit. grind (arith, room.1 fit, c.if-whole-capacity.false))
