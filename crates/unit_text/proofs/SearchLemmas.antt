-- Occurrences of units in a part of a list and in the whole.
use Rattle.std.proofs.Common.{◌≡◌, ℕ, ◌+◌, ◌-◌, ◌<◌, ◌≤◌, List, [], ◌∷◌, ◌++◌, Option, Some, None, length, take, drop, get_or, refl, sym, ap, ◌∙◌, arith, inl, inr, length-drop, length-take}
use Rattle.std.specs.Prelude.{IfSome}
use Rattle.std.proofs.Math.Seq.{drop-append_seam}
use Rattle.std.proofs.lemmas.Bool.{cases_lt}
use Rattle.std.proofs.lemmas.List.{take-append-drop, drop-append-le, drop-drop, get_or-drop, get_or-take, get_or_append_left}
use Rattle.wtf8.specs.UnitMark.{RoundsDownTo}
use Rattle.unit_text.specs.Search.{FindsLastBelow, OccursAt, IsFirstIndex}

-- `s` occurs in `u` at no index below `end`
abbrev pub NoneBelow : List ℕ → List ℕ → ℕ → Type 0
NoneBelow u s end = (k : ℕ) → k < end → ¬ (OccursAt u s k)

-- a list occurs where the units from there on begin with it
pub occurs_there : (u s : List ℕ) (k : ℕ) → k ≤ length u → take (length s) (drop k u) ≡ s → OccursAt u s k
occurs_there u s k within there = record {
  within = omega (arith, within, ap length there, length-take (length s) (drop k u), length-drop k u);
  there = there;
}

-- a unit of an occurrence, in a part `a` with `x` after it
pub unit_in_part : (a x s : List ℕ) (k d : ℕ) → k + d < length a → d < length s → OccursAt (a ++ x) s k → get_or a (k + d) 0 ≡ get_or s d 0
unit_in_part a x s k d within some o =
    sym (get_or_append_left a x 0 (k + d) within) ∙ sym (get_or-drop k (a ++ x) d 0) ∙ sym (get_or-take (length s) (drop k (a ++ x)) d 0 some)
    ∙ ap (λ l. get_or l d 0) o.there

-- the units of `u` from index `p` on
module _ (u s : List ℕ) (p : ℕ) (within : p ≤ length u) where
  occurs_in_whole : (k : ℕ) → OccursAt (drop p u) s k → OccursAt u s (p + k)
  occurs_in_whole k o = record {
    within = omega (arith, within, o.within, length-drop p u);
    there = ap (take (length s)) (sym (drop-drop k p u)) ∙ o.there;
  }

  pub occurs_in_rest : (k : ℕ) → p ≤ k → OccursAt u s k → OccursAt (drop p u) s (k - p)
  occurs_in_rest k after o =
      let same : p + (k - p) ≡ k = omega (arith, after) in
      record {
        within = omega (arith, within, after, o.within, length-drop p u);
        there = ap (take (length s)) (drop-drop (k - p) p u ∙ ap (λ n. drop n u) same) ∙ o.there;
      }

  pub none_in_whole : (n : ℕ) → NoneBelow (drop p u) s n → NoneBelow u s p → NoneBelow u s (p + n)
  none_in_whole n rest before k below there = elim (cases_lt k p) [
    | inl earlier ↦ before k earlier there
    | inr after ↦ rest (k - p) (omega (arith, after, below)) (occurs_in_rest k after there)
  ]

  pub first_in_whole : (k : ℕ) → IsFirstIndex (drop p u) s 0 k → NoneBelow u s p → IsFirstIndex u s 0 (p + k)
  first_in_whole k f before = record {
    after = omega arith;
    occurs = occurs_in_whole k f.occurs;
    no_earlier = λ j _ below. none_in_whole k (λ i l. f.no_earlier i (omega arith) l) before j below;
  }

  -- the same of indexes from `p` on
  pub first_of_rest : (k : ℕ) → IsFirstIndex (drop p u) s 0 k → IsFirstIndex u s p (p + k)
  first_of_rest k f = record {
    after = omega arith;
    occurs = occurs_in_whole k f.occurs;
    no_earlier = λ j after below there. f.no_earlier (j - p) (omega arith) (omega (arith, after, below)) (occurs_in_rest j after there);
  }

  pub none_of_rest : ((k : ℕ) → 0 ≤ k → ¬ (OccursAt (drop p u) s k)) → (k : ℕ) → p ≤ k → ¬ (OccursAt u s k)
  none_of_rest none k after there = none (k - p) (omega arith) (occurs_in_rest k after there)

-- `k` is the last index below `end` at which `s` occurs in `u`
abbrev pub IsLastBelow : List ℕ → List ℕ → ℕ → ℕ → Type 0
IsLastBelow u s end k = OccursAt u s k × (k < end) × ((j : ℕ) → k < j → j < end → ¬ (OccursAt u s j))

-- `s` occurs in `u` at no index from `begin` to before `end`
abbrev pub NoneBetween : List ℕ → List ℕ → ℕ → ℕ → Type 0
NoneBetween u s begin end = (k : ℕ) → begin ≤ k → k < end → ¬ (OccursAt u s k)

-- what is found below an index is the last below another if it is below that, and none is between
pub last_until : (u s : List ℕ) (p end : ℕ) (r : Option ℕ) → FindsLastBelow u s p r → IfSome r (λ k. k < end) → NoneBetween u s p end
    → FindsLastBelow u s end r
last_until u s p end None found below later = λ k under there. elim (cases_lt k p) [
  | inl h ↦ found k h there
  | inr h ↦ later k h under there
]
last_until u s p end (Some k) found below later = (
  found.0,
  below,
  λ j after under there. elim (cases_lt j p) [
    | inl h ↦ found.2 j after h there
    | inr h ↦ later j h under there
  ],
)

-- the units of `u` from index `p` to index `p + n`, and an index from which on `s` does not occur
module _ (u s : List ℕ) (p n until : ℕ) (within : p ≤ length u) where
  pub last_in_whole : (k : ℕ) → IsLastBelow (drop p u) s n k → p + n ≤ until → NoneBetween u s (p + n) until → IsLastBelow u s until (p + k)
  last_in_whole k l in_until later = (
    occurs_in_whole u s p within k l.0,
    omega (arith, l.1, in_until),
    λ j after below there. elim (cases_lt j (p + n)) [
      | inl h ↦ l.2 (j - p) (omega (arith, after)) (omega (arith, h, after)) (occurs_in_rest u s p within j (omega (arith, after)) there)
      | inr h ↦ later j h below there
    ],
  )

  pub none_in_longer : NoneBelow (drop p u) s n → NoneBetween u s (p + n) until → NoneBetween u s p until
  none_in_longer none later k after below there = elim (cases_lt k (p + n)) [
    | inl h ↦ none (k - p) (omega (arith, h, after)) (occurs_in_rest u s p within k after there)
    | inr h ↦ later k h below there
  ]

-- from the mark `begin` of `size` units before `end` to the mark `after` of `len` units after it; each is at most a unit before these
pub record IsWindow (end size len begin after : ℕ) : Type 0 where
  pub before : begin ≤ end
  pub least : end ≤ begin + size + 1
  pub most : after ≤ end + len
  pub reach : end + len ≤ after + 1

rounded : (u : List ℕ) (n m : ℕ) → RoundsDownTo u n m → (m ≤ n) × (n ≤ m + 1)
rounded u n m r = elim r [
  | inl same ↦ (omega (arith, same), omega (arith, same))
  | inr one ↦ (omega (arith, one.0), omega (arith, one.0))
]

pub IsWindow-rounded : (u : List ℕ) (end size len n begin after : ℕ) → n ≡ end - size → RoundsDownTo u n begin → RoundsDownTo u (end + len) after
    → IsWindow end size len begin after
IsWindow-rounded u end size len n begin after e back ahead =
    let first = rounded u n begin back in
    let last = rounded u (end + len) after ahead in
    record {
      before = omega (arith, e, first);
      least = omega (arith, e, first);
      most = last.0;
      reach = last.1;
    }

-- the units between two indexes, and the units after the second
pub from_first : (u : List ℕ) (p end : ℕ) → p ≤ end → end ≤ length u → drop p (take end u) ++ drop end u ≡ drop p u
from_first u p end order within =
    sym (drop-append-le p (take end u) (drop end u) (omega (arith, order, within, length-take end u))) ∙ ap (drop p) (take-append-drop end u)

pub some_in : (l : List ℕ) → ¬ (l ≡ []) → 0 < length l
some_in [] h = absurd (h refl)
some_in (p ∷ l) h = omega arith

-- the units after the first part of a list
pub rest_of_part : (a x u : List ℕ) (p n : ℕ) → a ++ x ≡ drop p u → length a ≡ n → x ≡ drop (p + n) u
rest_of_part a x u p n whole count =
    sym (drop-append_seam a x) ∙ ap (drop (length a)) whole ∙ drop-drop (length a) p u ∙ ap (λ k. drop (p + k) u) count
