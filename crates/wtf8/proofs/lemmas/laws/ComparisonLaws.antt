-- The laws of comparisons: of equal strings, and of strings that binary search does not find.
use Rattle.wtf8.proofs.Common.{◌≡◌, ◌≢◌, ◌↔◌, ℕ, List, ap, ◌∙◌, sym, arith, inl, inr, cases_lt, All, Err, Equal, nat_cmp, slice_cmp}
use Rattle.wtf8.proofs.Common.{false≢true, UnitString}
use Rattle.wtf8.specs.StringLaws.{EqualBuffersCompareEqual, EqualViewsCompareEqual}
use Rattle.std.proofs.lemmas.Cmp.{nat_list_cmp_total, tied_itself}
use Rattle.std.proofs.lemmas.List.Sorted.{searchable_from_sorted}
use Rattle.std.specs.List.{slice_index_or}
use Rattle.std.specs.List.Sorted.{IsBinarySearchResult, IsSorted}
use Rattle.std.specs.Ordering.{is_eq, on}
use Rattle.wtf8.proofs.lemmas.comparing.Order.{order_of_result}
use Rattle.wtf8.proofs.lemmas.strings.StringLaws.{equal_buffers, equal_views}

-- bytes compare as `Equal` exactly if they are equal
equal_bytes : (w v : List ℕ) → (slice_cmp nat_cmp w v ≡ Equal) ↔ (w ≡ v)
equal_bytes w v = (λ e. order_of_result Equal w v (sym e), λ e. rw e (tied_itself nat_list_cmp_total v))

pub equal_buffers_compare : EqualBuffersCompareEqual
equal_buffers_compare s t =
    let same = equal_bytes s.bytes t.bytes in
    let units = equal_buffers s t in (λ e. units.0 (same.0 e), λ e. same.1 (units.1 e))

pub equal_views_compare : EqualViewsCompareEqual
equal_views_compare s t = grind (arith, equal_bytes, equal_views)

-- in a sorted table, a string that binary search does not find is not there
pub absent_units : (table : List UnitString) (s : UnitString) (i : ℕ) → IsSorted (on (λ t. t.bytes) (slice_cmp nat_cmp)) table
    → IsBinarySearchResult (λ t. slice_cmp nat_cmp t.bytes s.bytes) table (Err i) → All (λ t. t.units ≢ s.units) table
absent_units table s i sorted result =
    let parts = result (searchable_from_sorted nat_list_cmp_total (λ t. t.bytes) table s.bytes sorted) in
    λ k d l e.
    let equal = (equal_buffers_compare (slice_index_or table k d) s).1 e in
    elim (cases_lt k i) [
      | inl m ↦ absurd (false≢true (ap is_eq (sym (parts.0 k d (omega arith) m) ∙ equal)))
      | inr m ↦ absurd (false≢true (ap is_eq (sym (parts.1 k d m l) ∙ equal)))
    ]
