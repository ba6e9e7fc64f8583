-- Steps of a replacement of all occurrences: what was made so far and what the rest becomes are what the text becomes.
use Rattle.std.proofs.Common.{◌≡◌, ◌+◌, ◌<◌, ◌≤◌, ℕ, List, ◌++◌, length, take, drop, sym, ap, ◌∙◌, subst, append_assoc, arith}
use Rattle.std.proofs.Math.Nat.{add_assoc}
use Rattle.std.proofs.Math.Seq.{take-length}
use Rattle.std.specs.Prelude.{max}
use Rattle.unit_text.specs.Search.{IsFirstIndex, OccursAt}
use Rattle.wtf8_uses.specs.StringPrototype.{IsReplaced}

-- what the text becomes from `begin` on, after `whole`, is what it becomes
abbrev pub GoesOn : (u s other : List ℕ) → ℕ → ℕ → List ℕ → Type 0
GoesOn u s other begin from whole = (v : List ℕ) → IsReplaced u s other begin from v → IsReplaced u s other 0 0 (whole ++ v)

-- the part before an occurrence, and the text in its place, are appended
pub goes_on_after : {u s other after : List ℕ} {begin from k n : ℕ} (whole : List ℕ) (gap : ℕ) → GoesOn u s other begin from whole → IsFirstIndex u s from k
    → n ≡ length s → length s + gap ≡ max 1 (length s) → after ≡ (whole ++ drop begin (take k u)) ++ other
    → GoesOn u s other (k + n) (k + n + gap) after
goes_on_after {u} {s} {other} {after} {begin} {from} {k} {n} whole gap so_far first n_is gap_is joined = λ v rest.
    let next_is : k + n + gap ≡ k + max 1 (length s) = add_assoc k n gap ∙ ap (λ x. k + x) (ap (λ x. x + gap) n_is ∙ gap_is) in
    let moved = subst (λ x. IsReplaced u s other (k + n) x v) next_is rest in
    let there = subst (λ x. IsReplaced u s other x (k + max 1 (length s)) v) (ap (λ x. k + x) n_is) moved in
    let whole_is : after ++ v ≡ whole ++ (drop begin (take k u) ++ (other ++ v)) =
    ap (λ x. x ++ v) joined ∙ (append_assoc (whole ++ drop begin (take k u)) other v ∙ append_assoc whole (drop begin (take k u)) (other ++ v)) in
    subst (IsReplaced u s other 0 0) (sym whole_is) (so_far _ (IsReplaced.next begin from k v first there))

-- the part after the last occurrence is appended
pub ends_after : {u s other after : List ℕ} {begin from n : ℕ} (whole : List ℕ) → GoesOn u s other begin from whole
    → ((k : ℕ) → from ≤ k → ¬ (OccursAt u s k)) → n ≡ length u → after ≡ whole ++ drop begin (take n u) → IsReplaced u s other 0 0 after
ends_after {u} {s} {other} {after} {begin} {from} {n} whole so_far none n_is joined =
    let all : after ≡ whole ++ drop begin u = joined ∙ ap (λ x. whole ++ drop begin x) (ap (λ x. take x u) n_is ∙ take-length u) in
    subst (IsReplaced u s other 0 0) (sym all) (so_far _ (IsReplaced.none begin from none))

-- the units before the first occurrence, the text in its place and the units after the occurrence are appended
pub replaced_once : {u s before joined rest after : List ℕ} {from i n len : ℕ} (other : List ℕ) → IsFirstIndex u s from i → from ≤ 0
    → n ≡ length s → len ≡ length u → before ≡ drop 0 (take i u) → joined ≡ before ++ other → rest ≡ drop (i + n) (take len u) → after ≡ joined ++ rest
    → (k : ℕ) → IsFirstIndex u s 0 k → after ≡ take k u ++ (other ++ drop (k + length s) u)
replaced_once {u} {s} {i = i} other first at_front n_is len_is before_is joined_is rest_is after_is k again =
    let not_before : ¬ (i < k) = λ l. again.no_earlier i (omega arith) l first.occurs in
    let not_after : ¬ (k < i) = λ l. first.no_earlier k (omega (arith, at_front)) l again.occurs in
    let same : k ≡ i = omega (arith, not_before, not_after) in
    rw same (rw after_is (rw joined_is (rw before_is (rw rest_is (rw n_is (rw len_is (rw (take-length u)
    (append_assoc (take i u) other (drop (i + length s) u)))))))))
