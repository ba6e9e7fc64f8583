-- Lists that are appended in parts.
use Rattle.std.proofs.Common.{◌≡◌, ℕ, ◌+◌, ◌-◌, ◌≤◌, List, ◌++◌, length, take, drop, sym, ap, ◌∙◌, subst, arith, append_assoc, take-add}
use Rattle.std.proofs.lemmas.List.{take_at, take-append-drop}
use Rattle.wtf8.specs.Appending.{HasRoomFor, KeepsContents}
use Rattle.wtf8.specs.Form.{IsForm}
use Rattle.wtf8.specs.Unicode.{units}
use Rattle.wtf8.specs.UnitString.{UnitString}
use Rattle.wtf8.proofs.lemmas.codec.Readings.{same_form, units-append}
use Rattle.wtf8.proofs.lemmas.strings.ExtendedForms.{beginning_of_form}

-- a string is unchanged once what was appended is cut off
pub taken_back : (old pushed new : UnitString) (v : List ℕ) (n : ℕ) → pushed.units ≡ old.units ++ v → n ≡ length old.units
    → new.units ≡ take n pushed.units → KeepsContents old new
taken_back old pushed new v n p e t =
    let units : new.units ≡ old.units = t ∙ (ap (take n) p ∙ take_at old.units v n (sym e)) in
    record { units = units; bytes = same_form new.bytes old.bytes old.units (subst (λ u. IsForm new.bytes u) units new.form) old.form }

-- the first `a` elements, and the next `n`
pub next_taken : (a n : ℕ) (l : List ℕ) → take (a + n) l ≡ take a l ++ take ((a + n) - a) (drop a l)
next_taken a n l =
    let same : n ≡ (a + n) - a = omega (arith) in
    take-add a n l ∙ ap (λ k. take a l ++ take k (drop a l)) same

-- all elements: the first `a`, the next `n`, and the others
pub three_parts : (a n : ℕ) (l : List ℕ) → l ≡ (take a l ++ take ((a + n) - a) (drop a l)) ++ drop (a + n) l
three_parts a n l = sym (take-append-drop (a + n) l) ∙ ap (λ v. v ++ drop (a + n) l) (next_taken a n l)

-- the same of the units of code points
pub next_units : (a n : ℕ) (c : List ℕ) → units (take (a + n) c) ≡ units (take a c) ++ units (take ((a + n) - a) (drop a c))
next_units a n c = ap units (next_taken a n c) ∙ units-append (take a c) (take ((a + n) - a) (drop a c))

pub three_parts_units : (a n : ℕ) (c : List ℕ)
    → units c ≡ (units (take a c) ++ units (take ((a + n) - a) (drop a c))) ++ units (drop (a + n) c)
three_parts_units a n c =
    ap units (sym (take-append-drop (a + n) c)) ∙ (units-append (take (a + n) c) (drop (a + n) c)
    ∙ ap (λ v. v ++ units (drop (a + n) c)) (next_units a n c))

-- if there is room for all, there is for what comes next
pub room_for_next : (old now : UnitString) (all done next rest : List ℕ) → now.units ≡ old.units ++ done → all ≡ (done ++ next) ++ rest
    → old.capacity ≤ now.capacity → HasRoomFor old all → HasRoomFor now next
room_for_next old now all done next rest e split m h =
    let begun : old.units ++ (done ++ next) ≡ now.units ++ next =
    sym (append_assoc old.units done next) ∙ ap (λ v. v ++ next) (sym e) in
    let whole : old.units ++ all ≡ (now.units ++ next) ++ rest =
    ap (λ v. old.units ++ v) split ∙ (sym (append_assoc old.units (done ++ next) rest) ∙ ap (λ v. v ++ rest) begun) in
    let f = beginning_of_form (now.units ++ next) rest h.whole (subst (λ u. IsForm h.whole u) whole h.form) in
    record { whole = f.whole; form = f.form; within = omega (arith, f.within, h.within, m) }

-- what is appended, followed by the next part
pub more_units : (old now done next both : List ℕ) → now ≡ old ++ done → both ≡ done ++ next → now ++ next ≡ old ++ both
more_units old now done next both e w = ap (λ u. u ++ next) e ∙ (append_assoc old done next ∙ ap (λ v. old ++ v) (sym w))
