use Rattle.std.proofs.Common.{◌≡◌, ◌<◌, ◌+◌, arith, refl}
use Rattle.wtf8.specs.Position.{IsBack}
use Rattle.wtf8.specs.Unicode.{units}
use Rattle.wtf8.specs.View.{view_units}
use Rattle.wtf8_uses.proofs.file_names.is_in_folder.Goals as goal

pub returns : goal.returns
returns c =
    let is_backslash : c.ascii_byte_at.result ≡ 0x5C = omega (arith, c.if-ascii_byte_at-ne92.false) in
    let low : c.ascii_byte_at.result < 0x80 = omega (arith, is_backslash) in
    let b = c.ascii_byte_at.ensures.after low in
    let back : IsBack (view_units c.args.path) (c.len-end.result + 1) (units b.back) =
    record { front = b.front; back = b.back; splits = b.splits; same_units = refl } in (
      λ t. (
        units b.back,
        cc (c.ascii_byte_at.ensures.unit _ _ low c.slice_to-front.ensures.units back, c.eq.ensures.units.0 t, is_backslash),
      ),
      λ x. c.eq.ensures.units.1 (c.law_equal_views.ensures.0
          (cc (c.slice_to-front.ensures.bytes, c.law_begins_by_ascii.ensures.front x.0 x.1, c.len-end.ensures.bytes))),
    )
