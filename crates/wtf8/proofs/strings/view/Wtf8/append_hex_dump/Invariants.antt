use Rattle.wtf8.proofs.Common.{◌≡◌, ◌++◌, ◌+◌, ◌*◌, ◌-◌, ◌≤◌, length, take, vec_len, vec_capacity, flat_map, hex_of, ◌∷◌}
use Rattle.wtf8.proofs.strings.view.Wtf8.append_hex_dump.Given as goal

-- the first `at` bytes are written, and the spare capacity suffices for the others
abbrev pub invariant-loop-at : goal.invariant-loop-at
invariant-loop-at g l = record {
  within : l.at ≤ length l.rest;
  written : l.text.items ≡ l.initial.text.items ++ flat_map (λ b. 32 ∷ hex_of b) (take l.at l.rest);
  room : vec_len l.text + 3 * (length l.rest - l.at) ≤ vec_capacity l.text;
}

abbrev pub decreases-loop-at : goal.decreases-loop-at
decreases-loop-at g l = length l.rest - l.at
