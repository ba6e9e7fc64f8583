use Rattle.wtf8.proofs.Common.{◌≡◌, arith, bytes, lossy_points, drop, length}
use Rattle.wtf8.proofs.lemmas.codec.Readings.{IsWellFormed-equal_bytes}
use Rattle.wtf8.proofs.lemmas.strings.Surrogates.{utf8_lossy_points, length-lossy_points, lossy_points-scalar, lossy_written}
use Rattle.wtf8.proofs.buffers.buf.Wtf8Buf.into_string_lossy.Goals.{Joined-not-is_utf8, then-not-is_utf8, else-not-is_utf8}
use Rattle.wtf8.proofs.buffers.buf.Wtf8Buf.into_string_lossy.Goals as goal

lossy : (g : _) (c : Joined-not-is_utf8 g) → c.if-not-is_utf8.bytes.items ≡ bytes (lossy_points c.args.self.form.points)
lossy g c = elim c.if-not-is_utf8.branch [
  | then-not-is_utf8 w ↦
      let string = c.self.inside in
      let text = w.replace_surrogates.new.bytes in
      let is = w.replace_surrogates.ensures (IsWellFormed-equal_bytes string.well_formed w.as_mut_slice.ensures.value) in
      let written = lossy_written string.well_formed (drop (length text) string.bytes.items) is string.bytes.ok.0 in
      grind (arith, written, w.bytes-is)
  | else-not-is_utf8 w ↦ grind (arith, lossy_points-scalar, c.is_utf8-is_utf8.ensures, w.if-not-is_utf8, w.bytes-is)
]

pub from_utf8_unchecked-requires : goal.from_utf8_unchecked-requires
from_utf8_unchecked-requires g c =
    grind (arith, utf8_lossy_points, lossy g (goal.at.from_utf8_unchecked-requires g c).Joined-not-is_utf8)

pub returns-clause-text : goal.returns-clause-text
returns-clause-text g c =
    grind (arith, c.from_utf8_unchecked.ensures.value, lossy g (goal.at.returns-clause-text g c).Joined-not-is_utf8)

pub returns-clause-len : goal.returns-clause-len
returns-clause-len g c = grind (arith, length-lossy_points, returns-clause-text g c)
