-- The chains of numbered lists after one more list is numbered.
use Rattle.std.proofs.Common.{◌≡◌, ℕ, zero, suc, ◌+◌, ◌<◌, ◌≤◌, ◌⊎◌, inl, inr, Bool, true, false, cond, eqb, List, [], ◌∷◌, ◌++◌}
use Rattle.std.proofs.Common.{length, slice_get, slice_index_or, Some, refl, sym, ap, subst, ◌∙◌, arith}
use Rattle.std.proofs.lemmas.Bool.Decides.{nat_tests}
use Rattle.std.proofs.lemmas.Grind.{common_steps}
use Rattle.std.proofs.lemmas.List.{length-append, map-append}
use Rattle.std.proofs.lemmas.Option.{slice_get-get_or, slice_get_read, slice_get_within}
use Rattle.std.specs.HashMap.{HashMap, get}
use Rattle.std.specs.Prelude.{unwrap_or, nat_eq}
use Rattle.wtf8.specs.UnitString.{UnitString}
use Rattle.wtf8_uses.specs.Numbered.{AreNumbered, IsChainHead, hash_of, units_of_strings}

slice_get-push : {X : Type 0} (xs : List X) (x : X) (k : ℕ) (y : X) → slice_get (xs ++ x ∷ []) k ≡ Some y
    → (slice_get xs k ≡ Some y) ⊎ ((k ≡ length xs) × (y ≡ x))
slice_get-push [] x zero y e = inr (refl, cc e)
slice_get-push [] x (suc k) y e = grind (arith, common_steps, e)
slice_get-push (z ∷ xs) x zero y e = inl e
slice_get-push (z ∷ xs) x (suc k) y e = elim (slice_get-push xs x k y e) [ inl l ↦ inl l | inr r ↦ inr (ap suc r.0, r.1) ]

-- If `v` is in the lists, its index is below `head`, and the list at index `head - 1` has the hash of `v`.
pub record IsReached (lists : List (List ℕ)) (v : List ℕ) (head : ℕ) : Type 0 where
  pub within : head ≤ length lists
  pub before : (k : ℕ) → slice_get lists k ≡ Some v → k < head
  pub last : (k : ℕ) (u : List ℕ) → k + 1 ≡ head → slice_get lists k ≡ Some u → hash_of u ≡ hash_of v

-- `AreNumbered` for lists equal to the numbered ones
pub AreNumbered-equal_lists : {S : Type 0} {m : HashMap ℕ ℕ S} {b c : List ℕ} {us vs : List (List ℕ)} → AreNumbered m b us → b ≡ c → us ≡ vs
    → AreNumbered m c vs
AreNumbered-equal_lists {m = m} {c = c} {us = us} old e f = subst (AreNumbered m c) f (subst (λ x. AreNumbered m x us) e old)

-- the list at index `k`, and the head of its hash's chain in the lists before it
pub next_in_chain-is_head : {S : Type 0} {m : HashMap ℕ ℕ S} {nexts : List ℕ} {us : List (List ℕ)} → AreNumbered m nexts us → (k e : ℕ)
    → k < length us → e ≡ slice_index_or nexts k e → (u : List ℕ) × (slice_get us k ≡ Some u) × IsChainHead us (hash_of u) k e
next_in_chain-is_head {nexts = nexts} {us = us} old k e within is =
    let at = slice_get-get_or us k [] within in
    (slice_index_or us k [], at, old.nexts_are k e _ at (slice_get_read nexts (length us) k e (sym old.lengths) within is))

module _ (us : List (List ℕ)) (v : List ℕ) where
  abbrev more : List (List ℕ)
  more = us ++ v ∷ []

  length-more : length more ≡ length us + 1
  length-more = length-append us (v ∷ [])

  -- a head within the old lists is still correct
  IsChainHead-of_front : (h limit head : ℕ) → limit ≤ length us → IsChainHead us h limit head → IsChainHead more h limit head
  IsChainHead-of_front h limit head l o = record {
    within = o.within;
    before = λ k u below at same. elim (slice_get-push us v k u at) [
      | inl a ↦ o.before k u below a same
      | inr b ↦ absurd (omega (arith, b.0, below, l))
    ];
    last = λ k u is at. elim (slice_get-push us v k u at) [
      | inl a ↦ o.last k u is a
      | inr b ↦ absurd (omega (arith, b.0, is, o.within, l))
    ];
  }

  -- the chain of another hash keeps its head
  IsChainHead-other_hash : (h head : ℕ) → (hash_of v ≡ h → ⊥) → IsChainHead us h (length us) head → IsChainHead more h (length more) head
  IsChainHead-other_hash h head differ o = let s = IsChainHead-of_front h (length us) head (omega arith) o in record {
    within = omega (arith, o.within, length-more);
    before = λ k u below at same. elim (slice_get-push us v k u at) [
      | inl a ↦ o.before k u (slice_get_within us k u a) a same
      | inr b ↦ absurd (differ (ap hash_of (sym b.1) ∙ same))
    ];
    last = s.last;
  }

  -- the chain of `v`'s hash now begins with `v`
  IsChainHead-pushed : IsChainHead more (hash_of v) (length more) (length us + 1)
  IsChainHead-pushed = record {
    within = omega (arith, length-more);
    before = λ k u below at same. omega (arith, below, length-more);
    last = λ k u is at. elim (slice_get-push us v k u at) [
      | inl a ↦ absurd (omega (arith, slice_get_within us k u a, is))
      | inr b ↦ ap hash_of b.1
    ];
  }

  module _ {S : Type 0} (m n : HashMap ℕ ℕ S) (nexts : List ℕ) (h : ℕ) (is_hash : h ≡ hash_of v) (old : AreNumbered m nexts us)
      (none : (k : ℕ) → slice_get us k ≡ Some v → ⊥)
      (put : (q : ℕ) → get nat_eq n q ≡ cond (eqb h q) (Some (length us + 1)) (get nat_eq m q)) where
    heads-insert : (q : ℕ) (b : Bool) → eqb h q ≡ b
        → IsChainHead more q (length more) (unwrap_or (cond b (Some (length us + 1)) (get nat_eq m q)) 0)
    heads-insert q true t =
        let e : hash_of v ≡ q = grind (arith, nat_tests, is_hash, t) in
        subst (λ x. IsChainHead more x (length more) (length us + 1)) e IsChainHead-pushed
    heads-insert q false t = IsChainHead-other_hash q _ (λ e. grind (arith, nat_tests, is_hash, t, e)) (old.heads_are q)

    pub AreNumbered-push : AreNumbered n (nexts ++ unwrap_or (get nat_eq m h) 0 ∷ []) more
    AreNumbered-push = record {
      distinct = λ j k u a b. elim (slice_get-push us v j u a) [
        | inl x ↦ elim (slice_get-push us v k u b) [ inl y ↦ old.distinct j k u x y | inr y ↦ absurd (none j (x ∙ ap Some y.1)) ]
        | inr x ↦ elim (slice_get-push us v k u b) [ inl y ↦ absurd (none k (y ∙ ap Some x.1)) | inr y ↦ x.0 ∙ sym y.0 ]
      ];
      lengths = omega (arith, old.lengths, length-more, length-append nexts (unwrap_or (get nat_eq m h) 0 ∷ []));
      heads_are = λ q. subst (λ o. IsChainHead more q (length more) (unwrap_or o 0)) (sym (put q)) (heads-insert q (eqb h q) refl);
      nexts_are = λ k e u a b. elim (slice_get-push us v k u a) [
        | inl x ↦ elim (slice_get-push nexts _ k e b) [
          | inl y ↦ let w = slice_get_within us k u x in IsChainHead-of_front (hash_of u) k e (omega (arith, w)) (old.nexts_are k e u x y)
          | inr y ↦ absurd (omega (arith, slice_get_within us k u x, y.0, old.lengths))
        ]
        | inr x ↦ elim (slice_get-push nexts _ k e b) [
          | inl y ↦ absurd (omega (arith, slice_get_within nexts k e y, x.0, old.lengths))
          | inr y ↦ let here = IsChainHead-of_front (hash_of v) (length us) _ (omega arith)
              (subst (λ q. IsChainHead us q (length us) (unwrap_or (get nat_eq m h) 0)) is_hash (old.heads_are h))
              in subst (λ q. IsChainHead more (hash_of q) k e) (sym x.1) (subst (λ q. IsChainHead more (hash_of v) q e) (sym x.0)
              (subst (IsChainHead more (hash_of v) (length us)) (sym y.1) here))
        ]
      ];
    }

-- `units_of_strings` after a push
pub units_of_strings-push : (old mid new : List UnitString) (s : UnitString) {us : List (List ℕ)} {v : List ℕ}
    → new ≡ mid ++ s ∷ [] → mid ≡ old → units_of_strings old ≡ us → s.units ≡ v → units_of_strings new ≡ us ++ v ∷ []
units_of_strings-push old mid new s {us} e f g h =
    ap units_of_strings (e ∙ ap (λ z. z ++ s ∷ []) f)
    ∙ (map-append (λ x. x.units) old (s ∷ []) ∙ (ap (λ z. z ++ s.units ∷ []) g ∙ ap (λ w. us ++ w ∷ []) h))
