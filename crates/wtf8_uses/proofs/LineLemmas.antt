-- The starts of lines, found from the front of a string.
use Rattle.std.proofs.Common.{◌≡◌, ◌≢◌, ℕ, ◌+◌, ◌≤◌, List, [], ◌∷◌, ◌++◌, length, drop, map, get_or, below_more, refl, sym, ap, ◌∙◌, subst}
use Rattle.std.proofs.Common.{arith, length-append, length-drop, append_assoc}
use Rattle.std.proofs.lemmas.Bool.Decides.{nat_tests}
use Rattle.std.proofs.lemmas.List.{drop-drop, map-append, get_or_append_left, get_or_push}
use Rattle.wtf8.specs.UnitMark.{IsMark}
use Rattle.wtf8.specs.Types.{UnitMark}
use Rattle.wtf8_uses.specs.LineColumns.{AreMarksOf, StartsAtFront, mark_units, starts_after}

-- what is unread after one more unit
pub next_unread : (u v w : List ℕ) (n x : ℕ) → drop n u ≡ v → v ≡ x ∷ w → drop (n + 1) u ≡ w
next_unread u v w n x e f = sym (drop-drop 1 n u) ∙ ap (drop 1) (e ∙ f)

pub next_within : (u v w : List ℕ) (n x : ℕ) → drop n u ≡ v → v ≡ x ∷ w → n + 1 ≤ length u
next_within u v w n x e f = omega (arith, ap length (e ∙ f), length-drop n u)

-- a line starts after a line feed
pub starts_more : (marks : List UnitMark) (mark : UnitMark) (n x : ℕ) (v w all : List ℕ) → v ≡ x ∷ w → x ≡ 0x0A → mark.units ≡ n + 1
    → map mark_units marks ++ starts_after n v ≡ all → map mark_units (marks ++ mark ∷ []) ++ starts_after (n + 1) w ≡ all
starts_more marks mark n x v w all e feed units known =
    let starts = map mark_units marks in
    let first : starts_after n v ≡ (n + 1) ∷ starts_after (n + 1) w = ap (starts_after n) (e ∙ ap (λ y. y ∷ w) feed) in
    ap (λ s. s ++ starts_after (n + 1) w) (map-append mark_units marks (mark ∷ []) ∙ ap (λ m. starts ++ m ∷ []) units)
    ∙ (append_assoc starts ((n + 1) ∷ []) (starts_after (n + 1) w) ∙ (ap (λ s. starts ++ s) (sym first) ∙ known))

starts_after-other : (n x : ℕ) (w : List ℕ) → x ≢ 0x0A → starts_after n (x ∷ w) ≡ starts_after (n + 1) w
starts_after-other n x w other = grind (arith, nat_tests, other)

-- no line starts after another unit
pub starts_same : (starts : List ℕ) (n x : ℕ) (v w all : List ℕ) → v ≡ x ∷ w → x ≢ 0x0A → starts ++ starts_after n v ≡ all
    → starts ++ starts_after (n + 1) w ≡ all
starts_same starts n x v w all e other known = ap (λ s. starts ++ s) (sym (ap (starts_after n) e ∙ starts_after-other n x w other)) ∙ known

-- marks with one more are marks
pub marks_more : (w u : List ℕ) (marks : List UnitMark) (mark : UnitMark) → AreMarksOf w u marks → IsMark w u mark.position mark.units
    → AreMarksOf w u (marks ++ mark ∷ [])
marks_more w u marks mark old new =
    λ k d l. below_more (λ j. IsMark w u (get_or (marks ++ mark ∷ []) j d).position (get_or (marks ++ mark ∷ []) j d).units) (length marks)
    (λ j h. subst (λ (m : UnitMark). IsMark w u m.position m.units) (sym (get_or_append_left marks (mark ∷ []) d j h)) (old j d h))
    (subst (λ (m : UnitMark). IsMark w u m.position m.units) (sym (get_or_push marks mark d (length marks) refl)) new) k
    (omega (arith, l, length-append marks (mark ∷ [])))

-- the first start stays if others are appended
pub first_more : (marks : List UnitMark) (mark : UnitMark) → StartsAtFront marks → StartsAtFront (marks ++ mark ∷ [])
first_more marks mark h = (
  omega (arith, h.0, length-append marks (mark ∷ [])),
  ap (λ (m : UnitMark). m.position) (get_or_append_left marks (mark ∷ []) record { position = 0; units = 0 } 0 h.0) ∙ h.1,
)
