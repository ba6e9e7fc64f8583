-- `Before` agrees with the comparison of lists.
use Rattle.std.proofs.Common.{◌≡◌, ℕ, List, subst}
use Rattle.std.specs.Cmp.Lexicographic.{slice_cmp}
use Rattle.std.specs.Ordering.{MatchOrdering, nat_cmp}
use Rattle.std.specs.declared.cmp.Ordering.{Ordering}
use Rattle.wtf8.specs.Order.{Before}
use Rattle.wtf8.specs.StringLaws.{ComparisonIsOrder}

-- the result of a comparison says which list is before the other
pub MatchOrdering-slice_cmp : ComparisonIsOrder → (c d : List ℕ) (r : Ordering) → slice_cmp nat_cmp c d ≡ r
    → MatchOrdering r (Before c d) (c ≡ d) (Before d c)
MatchOrdering-slice_cmp law c d r e = subst (λ s. MatchOrdering s (Before c d) (c ≡ d) (Before d c)) e (law c d)
