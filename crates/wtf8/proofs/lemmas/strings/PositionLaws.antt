-- The laws of positions, of lengths and of ASCII bytes.
use Rattle.wtf8.proofs.Common.{well_formed_of, suc}
use Rattle.wtf8.proofs.Common.{List, append_assoc, length-append, append-nil, append_cancel_left, IsBoundary, All-cons, All-drop, slice_get}
use Rattle.wtf8.proofs.Common.{ℕ, length, subst, arith, units, bytes, IsForm, get_or, drop_at, All-head, All-nil, encoding, IsFront, IsBack}
use Rattle.wtf8.proofs.Common.{cases_lt, [], ◌++◌, refl, ap, ◌∙◌, sym, Reads, ◌≡◌, ◌≢◌, ◌<◌, ◌+◌, inl, ◌∷◌, All, Some, zero}
use Rattle.wtf8.specs.Laws.{FrontAndBackAreWhole}
use Rattle.wtf8.specs.PositionLaws.{StartIsBoundary, EndIsBoundary, NoneIsBeyondEnd, FrontBoundariesAreOfWhole, WholeBoundariesAreOfFront}
use Rattle.wtf8.specs.PositionLaws.{WholeBoundariesAreOfBack, BackBoundariesAreOfWhole, BeginningsAreNoLonger, BothAreNoLonger}
use Rattle.wtf8.specs.PositionLaws.{AsciiIsBetweenBoundaries, AsciiIsOneUnit, AsciiIsNoOtherUnit}
use Rattle.wtf8.proofs.lemmas.codec.Encoding.{bytes-append, bytes-pushed, encoding_one, encoding-from_ascii_byte}
use Rattle.wtf8.proofs.lemmas.codec.Readings.{reads_same, same_form, units-append, units_one, units_two, units-cons_one}
use Rattle.wtf8.proofs.lemmas.strings.ExtendedForms.{beginning_of_form, both_length}
use Rattle.wtf8.proofs.lemmas.strings.Positions.{Cut, cut_at, shorter_is_prefix, front_unique, front_reads, back_reads, front_boundary}
use Rattle.wtf8.proofs.lemmas.strings.Positions.{boundary_from_byte, first-bytes_after}

-- Proofs of the laws of positions and lengths.

pub start_is_boundary : StartIsBoundary
start_is_boundary w u f = record { front = []; back = f.points; splits = record { reads = f.reads; front_len = refl } }

pub end_is_boundary : EndIsBoundary
end_is_boundary w u f = grind (arith, append-nil)

-- a boundary of the units is a cut of the form's code points
cut_at_boundary : {w u : List ℕ} (f : IsForm w u) (k : ℕ) → IsBoundary u k → Cut w (well_formed_of f) k
cut_at_boundary f k b = cut_at (well_formed_of f) k (subst (λ v. IsBoundary v k) (sym f.reads.same_units) b)

pub none_is_beyond : NoneIsBeyondEnd
none_is_beyond w u k f b = (cut_at_boundary f k b).within

pub front_in_whole : FrontBoundariesAreOfWhole
front_in_whole u v k m x b =
    let whole = ap (λ c. c ++ x.back) (reads_same (front_reads x) b.splits.reads) ∙ append_assoc b.front b.back x.back in
    record {
      front = b.front;
      back = b.back ++ x.back;
      splits = record { reads = subst (λ c. Reads c u) whole x.splits.reads; front_len = b.splits.front_len };
    }

pub whole_in_front : WholeBoundariesAreOfFront
whole_in_front u v k m x h b =
    let more = shorter_is_prefix b.front b.back x.front x.back (reads_same b.splits.reads x.splits.reads)
    (omega (arith, b.splits.front_len, x.splits.front_len)) in
    let reads = subst (λ c. Reads c v) more.joined (front_reads x) in
    record { front = b.front; back = more.more; splits = record { reads = reads; front_len = b.splits.front_len } }

pub whole_in_back : WholeBoundariesAreOfBack
whole_in_back u v k m x b =
    let whole = reads_same x.splits.reads b.splits.reads in
    let more = shorter_is_prefix x.front x.back b.front b.back whole (omega (arith, b.splits.front_len, x.splits.front_len)) in
    let after = append_cancel_left x.front x.back
    (more.more ++ b.back) (whole ∙ ap (λ f. f ++ b.back) more.joined ∙ append_assoc x.front more.more b.back) in
    let long = simp (bytes-append, length-append) at (ap (λ c. length (bytes c)) more.joined) in
    record {
      front = more.more;
      back = b.back;
      splits = record {
        reads = subst (λ c. Reads c v) after (back_reads x);
        front_len = omega (arith, b.splits.front_len, x.splits.front_len, long);
      };
    }

pub back_in_whole : BackBoundariesAreOfWhole
back_in_whole u v k m x b =
    let whole = ap (λ c. x.front ++ c) (reads_same (back_reads x) b.splits.reads) ∙ sym (append_assoc x.front b.front b.back) in
    let long = ap length (bytes-append x.front b.front) ∙ length-append (bytes x.front) (bytes b.front) in
    record {
      front = x.front ++ b.front;
      back = b.back;
      splits = record {
        reads = subst (λ c. Reads c u) whole x.splits.reads;
        front_len = omega (arith, long, x.splits.front_len, b.splits.front_len);
      };
    }

-- the units before a boundary, followed by the units after it, are the whole
pub front_and_back : FrontAndBackAreWhole
front_and_back u a b k x y =
    let front = front_unique u k a (units y.front) x (record { front = y.front; back = y.back; splits = y.splits; same_units = refl }) in
    ap (λ v. v ++ b) front
    ∙ (ap (λ v. units y.front ++ v) (sym y.same_units) ∙ (sym (units-append y.front y.back) ∙ y.splits.reads.same_units))

pub beginning_no_longer : BeginningsAreNoLonger
beginning_no_longer w x u v f g =
    let b = beginning_of_form u v x g in omega (arith, b.within, ap length (same_form b.whole w u b.form f))

pub both_no_longer : BothAreNoLonger
both_no_longer w v x a b f g h = (both_length f g h).1

-- Proofs of the laws of ASCII bytes: each is one code point and one unit.

-- an ASCII byte as one unit, with the units before and after it
record AsciiUnitAt (u : List ℕ) (k b : ℕ) : Type 0 where
  front : List ℕ
  back : List ℕ
  from_it : IsBack u k (b ∷ back)
  to_it : IsFront u (k + 1) (front ++ b ∷ [])
  whole : front ++ b ∷ back ≡ u

AsciiUnitAt-from_points : (front back u : List ℕ) → Reads (front ++ back) u → length (bytes front) < length (bytes (front ++ back))
    → get_or (bytes (front ++ back)) (length (bytes front)) 0 < 0x80
    → AsciiUnitAt u (length (bytes front)) (get_or (bytes (front ++ back)) (length (bytes front)) 0)
AsciiUnitAt-from_points front [] u r h low = absurd (omega (arith, ap (λ c. length (bytes c)) (append-nil front)))
AsciiUnitAt-from_points front (p ∷ b) u r h low =
    let at : get_or (bytes (front ++ p ∷ b)) (length (bytes front)) 0 ≡ get_or (encoding p ++ bytes b) 0 0 = first-bytes_after front p b in
    let own = encoding-from_ascii_byte p (bytes b) (omega (arith, at)) in
    let unit = units_one p (omega (arith, own.1)) in
    subst (λ x. AsciiUnitAt u (length (bytes front)) x) (sym (at ∙ ap (λ e. get_or (e ++ bytes b) 0 0) own.0)) (record {
      front = units front;
      back = units b;
      from_it =
          record { front = front; back = p ∷ b; splits = record { reads = r; front_len = refl }; same_units = ap (λ v. v ++ units b) unit };
      to_it = record {
        front = front ++ p ∷ [];
        back = b;
        splits = record { reads = rw append_assoc r; front_len = simp (bytes-pushed, length-append, own.0) };
        same_units = units-append front (p ∷ []) ∙ ap (λ v. units front ++ (v ++ [])) unit;
      };
      whole = ap (λ v. units front ++ (v ++ units b)) (sym unit) ∙ (sym (units-append front (p ∷ b)) ∙ r.same_units);
    })

AsciiUnitAt-from_form : {w u : List ℕ} (form : IsForm w u) (k : ℕ) → k < length w → get_or w k 0 < 0x80 → AsciiUnitAt u k (get_or w k 0)
AsciiUnitAt-from_form {w} {u} form k h low =
    let own = well_formed_of form in
    let c = cut_at own k (boundary_from_byte own k (omega arith) (λ _. record { start = inl low })) in
    let whole : bytes (c.front ++ c.back) ≡ w = ap bytes (sym c.points) ∙ form.encoded in
    let len = c.splits.front_len in
    let reads : Reads (c.front ++ c.back) u = subst (λ d. Reads d u) c.points form.reads in
    let byte : get_or (bytes (c.front ++ c.back)) (length (bytes c.front)) 0 ≡ get_or w k 0 = cc (whole, len) in
    let x = AsciiUnitAt-from_points c.front c.back u reads (omega (arith, len, ap length whole)) (omega (arith, byte)) in
    subst (λ n. AsciiUnitAt u n (get_or w k 0)) len (subst (λ b. AsciiUnitAt u (length (bytes c.front)) b) byte x)

pub ascii_alone : AsciiIsBetweenBoundaries
ascii_alone w u k form h low =
    let s = AsciiUnitAt-from_form form k h low in
    let from = s.from_it in (record { front = from.front; back = from.back; splits = from.splits }, front_boundary s.to_it)

pub ascii_one_unit : AsciiIsOneUnit
ascii_one_unit w u f g k form h low front back =
    let s = AsciiUnitAt-from_form form k h low in
    let same_back = append_cancel_left (s.front ++ get_or w k 0 ∷ []) g s.back
    (front_and_back u _ g (k + 1) s.to_it back ∙ (sym s.whole ∙ sym (append_assoc s.front (get_or w k 0 ∷ []) s.back))) in
    sym (front_and_back u f _ k front s.from_it) ∙ ap (λ v. f ++ get_or w k 0 ∷ v) (sym same_back)

-- an ASCII number that is none of the bytes is none of the units
none_of_points : (c : List ℕ) (b : ℕ) → b < 0x80 → All (λ x. x ≢ b) (bytes c) → All (λ x. x ≢ b) (units c)
none_of_points [] b l h = All-nil (λ x. x ≢ b)
none_of_points (p ∷ c) b l h =
    let P : ℕ → Type 0 = λ x. x ≢ b in
    let rest : All P (bytes c) = subst (All P) (drop_at (encoding p) (bytes c) (length (encoding p)) refl)
    (All-drop P (length (encoding p)) (encoding p ++ bytes c) h) in
    let after = none_of_points c b l rest in
    let first : p < 0x80 → P p = λ m. All-head P p (bytes c) (rw (encoding_one p m) at h) in
    grind (arith, cases_lt, units_one, units_two, All-cons)

pub ascii_no_other_unit : AsciiIsNoOtherUnit
ascii_no_other_unit w u b form l h =
    subst (All (λ x. x ≢ b)) form.reads.same_units (none_of_points form.points b l (subst (All (λ x. x ≢ b)) (sym form.encoded) h))

-- after ASCII bytes only, the unit at an index is the byte at that index
pub slice_get-ascii_prefix : (c : List ℕ) (k : ℕ) → ((j : ℕ) → j < k + 1 → get_or (bytes c) j 0 < 0x80) → k < length (bytes c)
    → slice_get (units c) k ≡ Some (get_or (bytes c) k 0)
slice_get-ascii_prefix [] k low long = absurd (omega (arith, long))
slice_get-ascii_prefix (p ∷ c) zero low long = grind (arith, encoding-from_ascii_byte, units-cons_one)
slice_get-ascii_prefix (p ∷ c) (suc k) low long =
    let own = encoding-from_ascii_byte p (bytes c) (low 0 (omega arith)) in
    let whole : bytes (p ∷ c) ≡ p ∷ bytes c = ap (λ e. e ++ bytes c) own.0 in
    let after = slice_get-ascii_prefix c k (λ j l. omega (arith, low (suc j) (omega (arith, l)), ap (λ w. get_or w (suc j) 0) whole))
    (omega (arith, long, ap length whole)) in
    ap (λ u. slice_get u (suc k)) (units-cons_one p c (omega (arith, own.1))) ∙ (after ∙ ap (λ w. Some (get_or w (suc k) 0)) (sym whole))
