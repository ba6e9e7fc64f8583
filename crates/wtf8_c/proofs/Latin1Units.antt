-- Units of ASCII and of Latin-1, and their bytes.
use Rattle.std.proofs.Common.{◌≡◌, ℕ, ◌+◌, ◌<◌, ◌≤◌, List, [], ◌∷◌, ◌++◌, length, take, drop, get_or, refl, sym, ap, ◌∙◌, subst, arith}
use Rattle.std.proofs.Common.{length-append, length-drop, take-add}
use Rattle.std.proofs.lemmas.List.{drop-drop, drop_at, get_or-drop, get_or_append_left, take-append-le, take_all, take_at}
use Rattle.std.proofs.lemmas.List.Elements.{All-append, All-from_get_or, All-get_or, All-head, All-tail}
use Rattle.std.proofs.lemmas.Simd.{Each1-from_get_or, Each1-get_or}
use Rattle.std.specs.List.{All}
use Rattle.wtf8.specs.Form.{IsClean, IsForm, bytes}
use Rattle.wtf8.specs.Unicode.{units}
use Rattle.wtf8.proofs.lemmas.codec.Readings.{same_form, units-cons_one}
use Rattle.wtf8.proofs.lemmas.codec.Scalars.{IsKnownForm-ascii}
use Rattle.wtf8.proofs.lemmas.units.UnitMarks.{ascii_same}
use Rattle.wtf8_c.specs.Latin1.{AreAscii, AreLatin1, EndsLatin1}

-- characters of Latin-1 are their units
clean-latin1 : (u : List ℕ) → AreLatin1 u → IsClean u
clean-latin1 [] a = tt
clean-latin1 (p ∷ []) a = omega (arith, All-head (λ n. n ≤ 0xFF) p [] a)
clean-latin1 (p ∷ q ∷ u) a =
    let low = All-head (λ n. n ≤ 0xFF) p (q ∷ u) a in
    (omega (arith, low), λ s. omega (arith, low, s.0), clean-latin1 (q ∷ u) (All-tail (λ n. n ≤ 0xFF) p (q ∷ u) a))

-- code points below 10000 are their units
pub units-low : (u : List ℕ) → All (λ p. p < 0x10000) u → units u ≡ u
units-low [] a = refl
units-low (p ∷ u) a =
    units-cons_one p u (All-head (λ p. p < 0x10000) p u a) ∙ ap (λ v. p ∷ v) (units-low u (All-tail (λ p. p < 0x10000) p u a))

pub form_of_latin1 : (u : List ℕ) → AreLatin1 u → IsForm (bytes u) u
form_of_latin1 u a =
    let low = All-from_get_or (λ p. p < 0x10000) u 0 (λ i l. omega (arith, All-get_or (λ n. n ≤ 0xFF) u i 0 l a)) in
    record { points = u; reads = record { clean = clean-latin1 u a; same_units = units-low u low }; encoded = refl }

-- a string that has one byte for each unit is ASCII
pub ascii_by_length : {w u : List ℕ} → IsForm w u → length w ≡ length u → AreAscii u
ascii_by_length {w} {u} f e =
    All-from_get_or (λ n. n < 0x80) u 0 (λ i l. Each1-get_or (λ n. n < 0x80) u i 0 l (ascii_same f e).0)

-- a string of ASCII has one byte for each unit
pub length_of_ascii : {w u : List ℕ} → IsForm w u → AreAscii u → length w ≡ length u
length_of_ascii {w} {u} f a =
    let each = Each1-from_get_or (λ n. n < 0x80) u 0 (λ i l. All-get_or (λ n. n < 0x80) u i 0 l a) in
    ap length (same_form w u u f (IsKnownForm-ascii u each).form)

-- units of ASCII are of Latin-1 up to their end
pub ascii_ends : (u : List ℕ) (n : ℕ) → AreAscii u → n ≡ length u → EndsLatin1 u n
ascii_ends u n a e =
    let low = All-from_get_or (λ k. k ≤ 0xFF) u 0 (λ i l. omega (arith, All-get_or (λ k. k < 0x80) u i 0 l a)) in record {
      within = omega (arith, e);
      front = subst AreLatin1 (sym (take_all n u (omega (arith, e)))) low;
      next = λ l. absurd (omega (arith, l, e));
    }

-- units before index `n` that are of Latin-1, and the others
pub record AreLatin1To (all : List ℕ) (n : ℕ) (rest : List ℕ) : Type 0 where
  pub within : n ≤ length all
  pub front : AreLatin1 (take n all)
  pub left : rest ≡ drop n all

-- a part of Latin-1 follows
pub latin1_on : {all rest : List ℕ} {n : ℕ} (k : ℕ) (part back : List ℕ) → AreLatin1To all n rest → part ++ back ≡ rest
    → EndsLatin1 part k → length part ≤ k → AreLatin1To all (n + k) back
latin1_on {all} {rest} {n} k part back a e ends l =
    let count : length part ≡ k = omega (arith, l, ends.within) in
    let after : drop n all ≡ part ++ back = sym a.left ∙ sym e in
    let next : take k (drop n all) ≡ part = ap (take k) after ∙ take_at part back k count in
    let own : AreLatin1 part = subst AreLatin1 (take_all k part l) ends.front in
    record {
      within = omega (arith, a.within, ap length after, length-drop n all, length-append part back, count);
      front = subst AreLatin1 (sym (take-add n k all ∙ ap (λ v. take n all ++ v) next))
          (All-append (λ m. m ≤ 0xFF) (take n all) part a.front own);
      left = sym (sym (drop-drop k n all) ∙ (ap (drop k) after ∙ drop_at part back k count));
    }

-- a part follows that has the first other unit
pub latin1_ends : {all rest : List ℕ} {n : ℕ} (k : ℕ) (part back : List ℕ) → AreLatin1To all n rest → part ++ back ≡ rest
    → EndsLatin1 part k → k < length part → EndsLatin1 all (n + k)
latin1_ends {all} {rest} {n} k part back a e ends l =
    let after : drop n all ≡ part ++ back = sym a.left ∙ sym e in
    let next : take k (drop n all) ≡ take k part = ap (take k) after ∙ take-append-le k part back (omega (arith, l)) in
    let other : 0xFF < get_or part k 0 = ends.next l in
    let here : get_or all (n + k) 0 ≡ get_or part k 0 =
    sym (get_or-drop n all k 0) ∙ (ap (λ v. get_or v k 0) after ∙ get_or_append_left part back 0 k l) in
    record {
      within = omega (arith, a.within, ap length after, length-drop n all, length-append part back, l);
      front = subst AreLatin1 (sym (take-add n k all ∙ ap (λ v. take n all ++ v) next))
          (All-append (λ m. m ≤ 0xFF) (take n all) (take k part) a.front ends.front);
      next = λ _. omega (arith, here, other);
    }
