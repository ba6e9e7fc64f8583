use Rattle.std.proofs.Common.{ℕ, ◌≤◌, List, length, ap, arith}
use Rattle.std.proofs.lemmas.List.Elements.{All-from_get_or}
use Rattle.wtf8.specs.Form.{IsForm, bytes}
use Rattle.wtf8.proofs.lemmas.codec.Readings.{lists_have_lengths}
use Rattle.wtf8_c.proofs.Latin1Units.{form_of_latin1}
use Rattle.wtf8_c.proofs.latin1.has_room.Goals as goal

-- a form has a byte for each unit at least
no_shorter : {w u : List ℕ} → IsForm w u → length u ≤ length w
no_shorter f = omega (arith, (lists_have_lengths f.points).units_least, ap length f.encoded, ap length f.reads.same_units)

pub returns-then-bytes-capacity : goal.returns-then-bytes-capacity
returns-then-bytes-capacity c =
    let b = c.args.bytes.now in
    let form = form_of_latin1 b (All-from_get_or (λ n. n ≤ 0xFF) b 0 (λ i _. omega (arith, (c.type_inv.bytes i).fits))) in (
      λ is. record { whole = bytes b; form = form; within = grind (arith, is, c.if-bytes-capacity.true, c.high_count.ensures (bytes b) form) },
      λ fit. grind (arith, c.high_count.ensures fit.whole fit.form, fit.within),
    )

pub returns-else-bytes-capacity : goal.returns-else-bytes-capacity
returns-else-bytes-capacity c = (
  λ is. absurd (grind (arith, is, c.if-bytes-capacity.false)),
  λ fit. absurd (omega (arith, no_shorter fit.form, fit.within, c.if-bytes-capacity.false)),
)
