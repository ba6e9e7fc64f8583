-- A list appended by its first and its last `n` items, which may overlap.
use Rattle.wtf8.proofs.Common.{◌≡◌, ℕ, ◌+◌, ◌-◌, ◌*◌, ◌≤◌, List, ◌++◌, length, take, drop, arith, append_assoc, length-drop}
use Rattle.wtf8.proofs.Common.{take_all, take-append-drop, take-append-add, take-take}

-- the first `n` items, cut where the last `n` begin, followed by these, are the whole list
pub ends_appended : (w v : List ℕ) (n end : ℕ) → end ≡ length w + (length v - n) → n ≤ length v → length v ≤ 2 * n
    → take end (w ++ take n v) ++ take n (drop (length v - n) v) ≡ w ++ v
ends_appended w v n end e h k = grind (arith, take-append-add, take-take, take_all, length-drop, take-append-drop, append_assoc)
