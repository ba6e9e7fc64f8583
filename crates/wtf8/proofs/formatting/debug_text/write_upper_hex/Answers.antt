use Rattle.wtf8.proofs.Common.{refl, sym, has_written_styled_nil}
use Rattle.wtf8.proofs.lemmas.formatting.DebugTexts.{then_written, written_as, written_to, upper_hex-four, upper_hex-five, upper_hex-six}
use Rattle.wtf8.proofs.formatting.debug_text.write_upper_hex.Goals.{then-value-ge1048576+in_ok-write_hex_digit+in_ok-write_hex_digit-2}
use Rattle.wtf8.proofs.formatting.debug_text.write_upper_hex.Goals.{else-value-ge1048576+then-value-ge65536+in_ok-write_hex_digit-3}
use Rattle.wtf8.proofs.formatting.debug_text.write_upper_hex.Goals.{else-value-ge1048576+else-value-ge65536}
use Rattle.wtf8.proofs.formatting.debug_text.write_upper_hex.Goals as goal

pub returns : goal.returns
returns g c = λ flush ok. elim c.if-value-ge1048576.branch [
  | then-value-ge1048576+in_ok-write_hex_digit+in_ok-write_hex_digit-2 w ↦
      let first = w.in_ok-write_hex_digit.ensures flush refl in
      let front = written_to w.f-is (then_written first (w.in_ok-write_hex_digit-2.ensures first.flush refl)) in
      written_as (sym (upper_hex-six c.args.value w.if-value-ge1048576.true))
      (then_written front (c.write_last_four_digits.ensures front.flush ok))
  | else-value-ge1048576+then-value-ge65536+in_ok-write_hex_digit-3 w ↦
      let front = written_to w.f-is (w.in_ok-write_hex_digit-3.ensures flush refl) in
      written_as (sym (upper_hex-five c.args.value w.if-value-ge65536.true w.if-value-ge1048576.false))
      (then_written front (c.write_last_four_digits.ensures front.flush ok))
  | else-value-ge1048576+else-value-ge65536 w ↦
      let front = written_to w.f-is (has_written_styled_nil _ c.args.f.now flush) in
      written_as (sym (upper_hex-four c.args.value w.if-value-ge65536.false))
      (then_written front (c.write_last_four_digits.ensures front.flush ok))
]
