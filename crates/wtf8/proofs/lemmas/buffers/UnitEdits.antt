-- Cuts at a number of units, where other units may be put.
use Rattle.wtf8.proofs.Common.{◌≡◌, ℕ, ◌+◌, ◌-◌, ◌≤◌, ◌∙◌, List, [], ◌∷◌, ◌++◌, length, arith, ap, sym, subst, append_assoc, append-nil}
use Rattle.wtf8.proofs.Common.{length-append, bytes, encoding, units, IsClean, IsLead, IsTrail, form_of, IsWellFormed, inl, inr, IsForm, cases_lt, DividesPair}
use Rattle.wtf8.specs.UnitMark.{IsMark, RoundsDownTo}
use Rattle.wtf8.specs.private.Cuts.{CutsBefore, CutsAfter}
use Rattle.wtf8.proofs.lemmas.codec.Encoding.{bytes-pushed, length-surrogate}
use Rattle.wtf8.proofs.lemmas.codec.Readings.{clean-back, lead_of, trail_of, units-pushed, units_one, units-cons_one}
use Rattle.wtf8.proofs.lemmas.codec.Readings.{unpaired-after_no_lead, unpaired-before_no_trail}
use Rattle.wtf8.proofs.lemmas.strings.Concatenation.{lead_last, trail_begins}
use Rattle.wtf8.proofs.lemmas.units.UnitCuts.{Divided, IsCodePoint-divided, Undivided, undivided_from_cut}
use Rattle.wtf8.proofs.lemmas.units.UnitMarks.{cut_of, divided_at_mark, mark_divides_none, marks_in_order}

-- What a mark says of the cut after `n` units.

pub undivided_at_mark : {w : List ℕ} (h : IsWellFormed w) {k m n : ℕ} → IsMark w (units h.points) k m → m ≡ n → Undivided h.points n k
undivided_at_mark h {k} mark e = subst (λ n. Undivided h.points n k) e (undivided_from_cut (cut_of h mark))

pub divided_after_mark : {w : List ℕ} (h : IsWellFormed w) {k m n : ℕ} → IsMark w (units h.points) k m
    → RoundsDownTo (units h.points) n m → ¬ (m ≡ n) → (p : ℕ) × Divided h.points n k p
divided_after_mark h mark last differ = elim last [
  | inl same ↦ absurd (differ same)
  | inr less ↦ divided_at_mark (form_of h) mark less.0 less.1
]

-- The surrogate before the cut.

pub cuts_before_pair : {c : List ℕ} {n k p : ℕ} (l : ℕ) → IsClean c → Divided c n k p → l ≡ lead_of p → IsLead l × CutsBefore c n k (l ∷ [])
cuts_before_pair {c} {n} {k} {p} l clean d e =
    let range = IsCodePoint-divided clean d in
    let lead : IsLead l = (omega (arith, range, d.large, e), omega (arith, range, d.large, e)) in (
      lead,
      record {
        front = d.front;
        back = p ∷ d.rest;
        joined = d.joined;
        front_len = d.front_len;
        kept = ap (λ x. units d.front ++ x ∷ []) e ∙ sym d.kept;
        apart = λ x. unpaired-before_no_trail l x (λ t. omega (arith, lead, t));
      },
    )

pub cuts_before_lead : {c : List ℕ} {n k : ℕ} (x : Undivided c n k) (f : List ℕ) (l : ℕ) → x.front ≡ f ++ l ∷ [] → IsLead l
    → (3 ≤ k) × CutsBefore c n (k - 3) (l ∷ [])
cuts_before_lead {c} {n} {k} x f l e lead =
    grind (arith, length-surrogate, bytes-pushed, length-append, append_assoc, units_one, units-pushed, unpaired-before_no_trail)

pub cuts_before_none : {c : List ℕ} {n k : ℕ} (x : Undivided c n k)
    → ((f : List ℕ) (l : ℕ) → IsLead l → x.front ≡ f ++ l ∷ [] → ⊥) → CutsBefore c n k []
cuts_before_none x none = grind (arith, append-nil, lead_last)

-- The surrogate after the cut.

pub cuts_after_pair : {c : List ℕ} {n k p : ℕ} (t : ℕ) → IsClean c → Divided c n k p → t ≡ trail_of p
    → IsTrail t × CutsAfter c n (k + 4) (t ∷ [])
cuts_after_pair {c} {n} {k} {p} t clean d e =
    let range = IsCodePoint-divided clean d in
    let trail : IsTrail t = (omega (arith, range, d.large, e), omega (arith, range, d.large, e)) in (
      trail,
      record {
        front = d.front ++ p ∷ [];
        back = d.rest;
        joined = d.pushed;
        front_len = d.pushed_len;
        kept = ap (λ x. x ∷ units d.rest) e ∙ sym d.after;
        apart = λ x. unpaired-after_no_lead x t (λ l. omega (arith, l, trail));
      },
    )

pub cuts_after_trail : {c : List ℕ} {n k : ℕ} (x : Undivided c n k) (t : ℕ) (r : List ℕ) → x.back ≡ t ∷ r → IsTrail t
    → CutsAfter c n (k + 3) (t ∷ [])
cuts_after_trail {c} {n} {k} x t r e trail =
    let three = length-surrogate t (omega (arith, trail), omega (arith, trail)) in
    record {
      front = x.front ++ t ∷ [];
      back = r;
      joined = x.joined ∙ (ap (λ d. x.front ++ d) e ∙ sym (append_assoc x.front (t ∷ []) r));
      front_len = omega (arith, ap length (bytes-pushed x.front t), length-append (bytes x.front) (encoding t), three, x.front_len);
      kept = sym (units-cons_one t r (omega (arith, trail))) ∙ (ap units (sym e) ∙ sym x.after);
      apart = λ y. unpaired-after_no_lead y t (λ l. omega (arith, l, trail));
    }

pub cuts_after_none : {c : List ℕ} {n k : ℕ} (x : Undivided c n k) → IsClean c
    → ((t : ℕ) (r : List ℕ) → IsTrail t → x.back ≡ t ∷ r → ⊥) → CutsAfter c n k []
cuts_after_none {c} x clean none = grind (arith, trail_begins, clean-back)

-- the positions of the cuts are in the order of the numbers of units
pub rounded_in_order : {w u : List ℕ} {k l m n begin end : ℕ} → IsForm w u → IsMark w u k m → IsMark w u l n → RoundsDownTo u begin m
    → RoundsDownTo u end n → begin ≤ end → k ≤ l
rounded_in_order {w} {u} {k} {l} {m} {n} {begin} {end} f x y first last h = (marks_in_order w u k l m n f x y).1 fewer
  where
    below : m ≤ begin
    below = elim first [ inl e ↦ omega (arith, e) | inr e ↦ omega (arith, e.0) ]

    fewer : m ≤ n
    fewer = elim last [
      | inl e ↦ omega (arith, e, h, below)
      | inr e ↦ elim first [
        | inl d ↦ elim (cases_lt begin end) [
          | inl less ↦ omega (arith, less, e.0, below)
          | inr same ↦
              let at : m ≡ end = omega (arith, d, same, h) in
              absurd (mark_divides_none w u k m f x (subst (DividesPair u) (sym at) e.1))
        ]
        | inr d ↦ omega (arith, d.0, e.0, h)
      ]
    ]
