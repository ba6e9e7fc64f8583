-- Units counted in parts of bytes, and in bytes with zeros after them.
use Rattle.wtf8.proofs.Common.{◌≡◌, ◌+◌, ◌≤◌, ℕ, List, ◌++◌, take, drop, replicate, ap, sym, ◌∙◌, arith, sum_by-append, take-append-drop}
use Rattle.wtf8.proofs.Common.{utf16_len, sum_utf16_len}
use Rattle.std.proofs.lemmas.List.Folds.{sum_by-replicate}
use Rattle.std.proofs.lemmas.List.Sums.{sum_by-take-le}
use Rattle.wtf8.proofs.lemmas.lanes.UnitCounts.{utf16_len-ascii}

pub sum_utf16_len_parts : (w : List ℕ) (i : ℕ) → sum_utf16_len (take i w) + sum_utf16_len (drop i w) ≡ sum_utf16_len w
sum_utf16_len_parts w i = sym (sum_by-append utf16_len (take i w) (drop i w)) ∙ ap sum_utf16_len (take-append-drop i w)

pub sum_utf16_len_front_le : (w : List ℕ) (i : ℕ) → sum_utf16_len (take i w) ≤ sum_utf16_len w
sum_utf16_len_front_le = sum_by-take-le utf16_len

-- each zero after the bytes is a unit
pub sum_utf16_len_padded : (w : List ℕ) (n : ℕ) → sum_utf16_len (w ++ replicate n 0) ≡ sum_utf16_len w + n
sum_utf16_len_padded w n = grind (arith, utf16_len-ascii, sum_by-append, sum_by-replicate)
