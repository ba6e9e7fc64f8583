use Rattle.wtf8.proofs.Common.{◌-◌, ◌++◌, arith, drop, length, refl, subst, take, IsReadTo}
use Rattle.std.proofs.Math.Bool.{and-true}
use Rattle.wtf8.proofs.lemmas.codec.Scalars.{IsKnownForm-ascii}
use Rattle.wtf8.proofs.lemmas.from_utf16.PackedUnits.{last_units-read}
use Rattle.wtf8.proofs.from_utf16.transcode.append_ascii_end.Goals as goal

pub returns-clause-read : goal.returns-clause-read
returns-clause-read g c front read =
    let v = c.args.v.now in
    let at = c.args.from.at in
    let units = take (length v - at) (drop at v) in
    rw c.push_ends.ensures.items (subst (IsReadTo (c.args.bytes.now.items ++ units) front v (length v)) (and-true c.args.from.is_utf8)
    (last_units-read read (omega (arith, c.if-units.false)) (IsKnownForm-ascii units (c.if-not-are_ends_ascii.ensures refl))))
