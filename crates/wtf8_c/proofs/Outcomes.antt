-- The codes that calls return.
use Rattle.std.proofs.Common.{◌≡◌, ℕ, pos, false, nat_eq, arith}
use Rattle.std.proofs.lemmas.Bool.Decides.{nat_tests}

-- a code is none of the others
pub other_code : {A : Type 0} (m n : ℕ) → nat_eq m n ≡ false → pos m ≡ pos n → A
other_code m n d e = absurd (grind (arith, nat_tests))
