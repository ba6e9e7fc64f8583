use Rattle.wtf8.proofs.Common.{◌≡◌, ◌++◌, ◌+◌, ◌*◌, ◌-◌, ◌≤◌, length, take, vec_len, vec_capacity, flat_map, hex_of, ◌∷◌}
use Rattle.wtf8.proofs.formatting.hex_dump.push_spaced.Given as goal

-- the bytes so far are written, and the spare capacity suffices for the others
abbrev pub invariant-loop-byte : goal.invariant-loop-byte
invariant-loop-byte g l = record {
  written : l.text.items ≡ l.initial.text.items ++ flat_map (λ b. 32 ∷ hex_of b) (take l.byte-index l.bytes);
  room : vec_len l.text + 3 * (length l.bytes - l.byte-index) ≤ vec_capacity l.text;
}
