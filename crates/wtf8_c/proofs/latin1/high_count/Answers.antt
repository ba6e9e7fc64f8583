use Rattle.std.proofs.Common.{◌≡◌, ℕ, ◌+◌, ◌<◌, ◌≤◌, List, length, take, get_or, ap, ◌∙◌, arith, length-append}
use Rattle.std.proofs.lemmas.List.{take_all, take_more}
use Rattle.std.proofs.lemmas.List.Elements.{All-from_get_or}
use Rattle.wtf8.specs.Form.{bytes, encoding}
use Rattle.wtf8.proofs.lemmas.codec.Encoding.{bytes-pushed, encoding_one, encoding_two}
use Rattle.wtf8.proofs.lemmas.codec.Readings.{same_form}
use Rattle.wtf8_c.proofs.Latin1Units.{form_of_latin1}
use Rattle.wtf8_c.proofs.latin1.high_count.Goals.{then-bytes-at-ge128, else-bytes-at-ge128}
use Rattle.wtf8_c.proofs.latin1.high_count.Goals as goal

-- the bytes of one more code point
next_length : (c : List ℕ) (at : ℕ) → at < length c
    → length (bytes (take (at + 1) c)) ≡ length (bytes (take at c)) + length (encoding (get_or c at 0))
next_length c at l =
    ap (λ v. length (bytes v)) (take_more c at 0 l) ∙ (ap length (bytes-pushed (take at c) (get_or c at 0))
    ∙ length-append (bytes (take at c)) (encoding (get_or c at 0)))

pub loop-at-preserved : goal.loop-at-preserved
loop-at-preserved c =
    let b = c.args.bytes.now in
    let x = get_or b c.loop-at.at 0 in
    let next = next_length b c.loop-at.at c.loop-at-test.true in
    let inv = c.loop-at.invariant in
    elim c.if-bytes-at-ge128.branch [
      | then-bytes-at-ge128 w ↦
          let two = ap length (encoding_two x w.if-bytes-at-ge128.true (omega (arith, (c.type_inv.bytes c.loop-at.at).fits))) in
          record { few = omega (arith, inv.few, w.high-is); counted = omega (arith, next, two, inv.counted, w.high-is) }
      | else-bytes-at-ge128 w ↦
          let one = ap length (encoding_one x w.if-bytes-at-ge128.false) in
          record { few = omega (arith, inv.few, w.high-is); counted = omega (arith, next, one, inv.counted, w.high-is) }
    ]

pub returns : goal.returns
returns c w f =
    let b = c.args.bytes.now in
    let low = All-from_get_or (λ n. n ≤ 0xFF) b 0 (λ i _. omega (arith, (c.type_inv.bytes i).fits)) in
    let all = take_all c.loop-at.at b c.loop-at-test.false in
    omega (
      arith,
      ap length (same_form w (bytes b) b f (form_of_latin1 b low)),
      ap (λ v. length (bytes v)) all,
      c.loop-at.invariant.counted,
      c.loop-at.auto.at-end,
      c.loop-at-test.false,
    )
