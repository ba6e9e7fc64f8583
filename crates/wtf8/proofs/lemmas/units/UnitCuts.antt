-- Strings cut at a number of units, also inside a surrogate pair, and the iterator's state inside a pair.
use Rattle.wtf8.proofs.Common.{BeginsWithPoint, ◌≡◌, ℕ, zero, suc, ◌+◌, ◌≤◌, List, [], ◌∷◌, ◌++◌, length, take, drop, None, Some, refl, sym, ap, ◌∙◌, subst, arith}
use Rattle.wtf8.proofs.Common.{length-append, append_assoc, take_at, drop_at, slice_get, IsCodePoint, units, IsClean, bytes, encoding, IsWellFormed, ◌<◌, ◌↔◌, inl}
use Rattle.wtf8.proofs.Common.{inr, Option, get_or, same_from_push, take-append-drop, length-drop, Reads, true, false, ◌/◌, ◌%◌, lt-ltb, le-ltb, drop-drop}
use Rattle.wtf8.proofs.Common.{append-nil, IsLead, units_of, trail_from_bytes, held_trail, after_held_trail, length-take-le, take-append-add, drop-append-add}
use Rattle.wtf8.proofs.Common.{option_to_list, IsSome, StepsUnit, DividesPair, is_continuation, cases_lt, FirstPointIs, IsCursorOfUnit, UnitCursor, take_all}
use Rattle.wtf8.proofs.lemmas.codec.Encoding.{encoding_four, bytes-append, bytes-pushed, Begins}
use Rattle.wtf8.proofs.lemmas.codec.Encoding.{first-encoding, begins_with, BeginsWithPoint-equal_bytes}
use Rattle.wtf8.proofs.lemmas.codec.Readings.{clean-first, clean-front, clean-back, clean-append, clean-unpaired, unpaired-before_no_trail}
use Rattle.wtf8.proofs.lemmas.codec.Readings.{meets_by, lead_of, trail_of, units_one, units_two, units-append, first_of}
use Rattle.wtf8.proofs.lemmas.codec.Readings.{points-nil, Taken-from_first, IsWellFormed-equal_bytes}
use Rattle.wtf8.proofs.lemmas.strings.Concatenation.{points_meet, last_of}
use Rattle.wtf8.proofs.lemmas.strings.Positions.{CutsUnits, cut_by, PointsAbout, points_about, sum_utf16_len-bytes}

-- The parts of a string before and after its first `n` units.

-- the cut is between code points
pub record Undivided (c : List ℕ) (n k : ℕ) : Type 0 where
  pub front : List ℕ
  pub back : List ℕ
  pub joined : c ≡ front ++ back
  pub front_len : length (bytes front) ≡ k
  pub within : n ≤ length (units c)
  pub kept : take n (units c) ≡ units front
  pub after : drop n (units c) ≡ units back
  pub here : slice_get (units c) n ≡ slice_get (units back) 0

slice_get-append_at : (a b : List ℕ) (n : ℕ) → length a ≡ n → slice_get (a ++ b) n ≡ slice_get b 0
slice_get-append_at [] b zero e = refl
slice_get-append_at [] b (suc n) e = absurd (omega arith)
slice_get-append_at (x ∷ a) b zero e = absurd (omega arith)
slice_get-append_at (x ∷ a) b (suc n) e = slice_get-append_at a b n (omega arith)

pub undivided_from_cut : {c : List ℕ} {n k : ℕ} → CutsUnits c n k → Undivided c n k
undivided_from_cut {c} {n} {k} x = grind (arith, units-append, length-append, take_at, drop_at, slice_get-append_at)

-- the cut is inside the pair of `p`
pub record Divided (c : List ℕ) (n k p : ℕ) : Type 0 where
  pub front : List ℕ
  pub rest : List ℕ
  pub joined : c ≡ front ++ p ∷ rest
  pub large : 0x10000 ≤ p
  pub within : n ≤ length (units c)
  pub kept : take n (units c) ≡ units front ++ lead_of p ∷ []
  pub after : drop n (units c) ≡ trail_of p ∷ units rest
  pub here : slice_get (units c) n ≡ Some (trail_of p)
  pub front_len : length (bytes front) ≡ k
  pub pushed : c ≡ (front ++ p ∷ []) ++ rest
  pub pushed_len : length (bytes (front ++ p ∷ [])) ≡ k + 4
  pub long : k + 4 ≤ length (bytes c)

pub divided_from_cut : {c : List ℕ} {n m k : ℕ} (x : CutsUnits c m k) (p : ℕ) (rest : List ℕ) → x.back ≡ p ∷ rest → 0x10000 ≤ p
    → m + 1 ≡ n → Divided c n k p
divided_from_cut {c} {n} {m} {k} x p rest e large one_less =
    let joined : c ≡ x.front ++ p ∷ rest = x.joined ∙ ap (λ b. x.front ++ b) e in
    let whole : units c ≡ (units x.front ++ lead_of p ∷ []) ++ (trail_of p ∷ units rest) =
    simp (joined, units-append, units_two p large, append_assoc) in
    let long : length (units x.front ++ lead_of p ∷ []) ≡ n =
    omega (arith, length-append (units x.front) (lead_of p ∷ []), x.counted, one_less) in
    let pushed : c ≡ (x.front ++ p ∷ []) ++ rest = joined ∙ sym (append_assoc x.front (p ∷ []) rest) in
    let pushed_len : length (bytes (x.front ++ p ∷ [])) ≡ k + 4 =
    simp (bytes-pushed, length-append, encoding_four p large, x.front_len) in
    let all_len = ap (λ v. length (bytes v)) pushed ∙ ap length (bytes-append (x.front ++ p ∷ []) rest) in
    record {
      front = x.front;
      rest = rest;
      joined = joined;
      large = large;
      within = omega (arith, ap length whole, length-append (units x.front ++ lead_of p ∷ []) (trail_of p ∷ units rest), long);
      kept = ap (take n) whole ∙ take_at (units x.front ++ lead_of p ∷ []) (trail_of p ∷ units rest) n long;
      after = ap (drop n) whole ∙ drop_at (units x.front ++ lead_of p ∷ []) (trail_of p ∷ units rest) n long;
      here = ap (λ u. slice_get u n) whole ∙ slice_get-append_at (units x.front ++ lead_of p ∷ []) (trail_of p ∷ units rest) n long;
      front_len = x.front_len;
      pushed = pushed;
      pushed_len = pushed_len;
      long = omega (arith, pushed_len, all_len, length-append (bytes (x.front ++ p ∷ [])) (bytes rest));
    }

pub IsCodePoint-divided : {c : List ℕ} {n k p : ℕ} → IsClean c → Divided c n k p → IsCodePoint p
IsCodePoint-divided {p} clean d = clean-first p d.rest (clean-back d.front (p ∷ d.rest) (subst IsClean d.joined clean))

-- The cut after `n` units, from the position of a `UnitCursor`.

pub points_about_unit : {w : List ℕ} (h : IsWellFormed w) (n : ℕ) (cursor : UnitCursor) → IsCursorOfUnit w n cursor
    → PointsAbout h.points n cursor
points_about_unit h n cursor x = points_about h.points n cursor (subst (λ v. IsCursorOfUnit v n cursor) (sym h.encoded) x)

-- inside the pair that begins at `cursor`, with one unit before it
pub record InPair (c : List ℕ) (n : ℕ) (cursor : UnitCursor) : Type 0 where
  pub point : ℕ
  pub divided : Divided c n cursor.position point
  pub one_less : cursor.units + 1 ≡ n

pub in_pair_at_cursor : {c : List ℕ} {n : ℕ} {cursor : UnitCursor} → PointsAbout c n cursor → cursor.position < length (bytes c)
    → ¬ (cursor.units ≡ n) → InPair c n cursor
in_pair_at_cursor {c} {n} {cursor} x inside m = at_back x.cut.back refl
  where
    at_back : (back : List ℕ) → x.cut.back ≡ back → InPair c n cursor
    at_back [] e = absurd (grind (arith, append-nil, x.cut.joined, x.cut.front_len))
    at_back (p ∷ rest) e =
        let large : 0x10000 ≤ p = grind (arith, cases_lt, units_one, x.holds p rest e, x.not_beyond) in
        let one_less : cursor.units + 1 ≡ n = omega (arith, x.holds p rest e, ap length (units_two p large), m, x.not_beyond) in
        record { point = p; divided = divided_from_cut x.cut p rest e large one_less; one_less = one_less }

-- what the position of a cursor says: the cut is between code points, or inside the pair that begins there
pub undivided_at : {w : List ℕ} (h : IsWellFormed w) (n : ℕ) (cursor : UnitCursor) → IsCursorOfUnit w n cursor → cursor.units ≡ n
    → Undivided h.points n cursor.position
undivided_at h n s is e = undivided_from_cut (subst (λ m. CutsUnits h.points m s.position) e (points_about_unit h n s is).cut)

pub in_pair_at : {w : List ℕ} (h : IsWellFormed w) (n : ℕ) (cursor : UnitCursor) → IsCursorOfUnit w n cursor
    → (cursor.units < n → cursor.position + 4 ≤ length w) → ¬ (cursor.units ≡ n) → InPair h.points n cursor
in_pair_at h n s is long m =
    in_pair_at_cursor (points_about_unit h n s is) (omega (arith, long (omega (arith, is.before.not_beyond, m)), ap length h.encoded)) m

-- the bytes before the pair and the encoding of its lead are well-formed
abbrev pub lead_kept : {w : List ℕ} (h : IsWellFormed w) {n k p : ℕ} → Divided h.points n k p
    → IsWellFormed (take k w ++ encoding (lead_of p))
lead_kept {w} h {n} {k} {p} d =
    let range = IsCodePoint-divided h.clean d in
    let clean : IsClean (d.front ++ p ∷ d.rest) = subst IsClean d.joined h.clean in
    record {
      points = d.front ++ lead_of p ∷ [];
      clean = clean-append d.front (lead_of p ∷ []) (clean-front d.front (p ∷ d.rest) clean) (omega (arith, range, d.large))
          (unpaired-before_no_trail (lead_of p) [] (λ t. omega (arith, range, d.large, t.0)));
      encoded = bytes-pushed d.front (lead_of p)
          ∙ ap (λ v. v ++ encoding (lead_of p)) (cut_by h d.front (p ∷ d.rest) k d.joined d.front_len).before.encoded;
    }

-- `Undivided` after `n` units means that no pair is divided there, `Divided` that one is
pub divides_none : {c : List ℕ} {n k : ℕ} → IsClean c → Undivided c n k → ¬ (DividesPair (units c) n)
divides_none {c} {n} clean x m =
    let all : IsClean (x.front ++ x.back) = subst IsClean x.joined clean in
    let before : Reads x.front (take n (units c)) = record { clean = clean-front x.front x.back all; same_units = sym x.kept } in
    let after : Reads x.back (drop n (units c)) = record { clean = clean-back x.front x.back all; same_units = sym x.after } in
    clean-unpaired x.front x.back all (points_meet before after m)

pub divides_some : {c : List ℕ} {n k p : ℕ} → IsClean c → Divided c n k p → DividesPair (units c) n
divides_some {p} clean d =
    let range = IsCodePoint-divided clean d in
    meets_by (units d.front) (units d.rest) (lead_of p) (trail_of p) (omega (arith, range, d.large), omega (arith, range, d.large))
    (omega (arith, range), omega (arith, range)) d.kept d.after

-- `r` divides a pair after `n` units exactly if the whole does there, unless `n` is 0 and a lead ends `f`
divides_whole : (f r : List ℕ) (n : ℕ) → (take n r ≡ [] → (g : List ℕ) (l : ℕ) → f ≡ g ++ l ∷ [] → ¬ (IsLead l))
    → DividesPair r n ↔ DividesPair (f ++ r) (length f + n)
divides_whole f r n lead_excluded =
    let front = take-append-add f r n in
    let back = drop-append-add f r n in (
      λ m. meets_by (f ++ m.front) m.rest m.lead m.trail m.is_lead m.is_trail
          (front ∙ (ap (λ x. f ++ x) m.ends ∙ sym (append_assoc f m.front (m.lead ∷ [])))) (back ∙ m.begins),
      λ m. elim (last_of (take n r)) [
        | inl e ↦
            absurd (lead_excluded e m.front m.lead (sym (append-nil f) ∙ (ap (λ x. f ++ x) (sym e) ∙ (sym front ∙ m.ends))) m.is_lead)
        | inr x ↦
            let g = x.0 in
            let l = x.1 in
            let e = x.2 in
            let same =
            (same_from_push (f ++ g) m.front l m.lead (append_assoc f g (l ∷ []) ∙ (ap (λ x. f ++ x) (sym e) ∙ (sym front ∙ m.ends)))).1 in
            meets_by g m.rest m.lead m.trail m.is_lead m.is_trail (e ∙ ap (λ x. g ++ x ∷ []) same) (sym back ∙ m.begins)
      ],
    )

-- `r`, the units from `begin` on without the trail `half` of a pair divided there, divides the pairs of the whole
pub divides_after : (u r : List ℕ) (half : Option ℕ) (begin n : ℕ) {end : ℕ} → begin + (length (option_to_list half) + n) ≡ end
    → begin ≤ length u → option_to_list half ++ r ≡ drop begin u → (IsSome half ↔ DividesPair u begin)
    → 0 < length (option_to_list half) + n → n ≤ length r → DividesPair r n ↔ DividesPair u end
divides_after u r half begin n {end} s in_u e d more in_r =
    let f = take begin u ++ option_to_list half in
    let whole : f ++ r ≡ u = grind (arith, append_assoc, take-append-drop) in
    let long : length f + n ≡ end = grind (arith, length-append, length-take-le) in
    subst (λ k. DividesPair r n ↔ DividesPair u k) long
    (subst (λ w. DividesPair r n ↔ DividesPair w (length f + n)) whole (divides_whole f r n (no_lead_before half e d more)))
  where
    no_lead_before : (half : Option ℕ) → option_to_list half ++ r ≡ drop begin u → (IsSome half ↔ DividesPair u begin)
        → 0 < length (option_to_list half) + n
        → take n r ≡ [] → (g : List ℕ) (l : ℕ) → take begin u ++ option_to_list half ≡ g ++ l ∷ [] → ¬ (IsLead l)
    no_lead_before None e d more none g l q lead = absurd (omega (arith, more, ap length none, length-take-le n r in_r))
    no_lead_before (Some t) e d more none g l q lead = grind (arith, same_from_push)

-- Bytes that begin inside a pair or at a code point, and a step of the iterator over units.

pub continuation_range : (b : ℕ) → 0x80 ≤ b → b < 0xC0 → is_continuation b ≡ true
continuation_range b l h = rw (le-ltb b 0x80 l, lt-ltb b 0xC0 h) refl

pub no_continuation : (b : ℕ) → Begins b → is_continuation b ≡ false
no_continuation b h = grind (arith, lt-ltb, le-ltb)

-- well-formed bytes do not begin with a continuation byte
Begins-first_byte : {w : List ℕ} → IsWellFormed w → 0 < length w → Begins (get_or w 0 0)
Begins-first_byte h n = let b = (first_of h n).0 in subst Begins (sym (ap (λ v. get_or v 0 0) b.encoded)) (first-encoding b.point b.rest)

-- bytes that begin with no continuation byte hold no trail
held_trail-none : (w : List ℕ) → is_continuation (get_or w 0 0) ≡ false → (held_trail w ≡ []) × (after_held_trail w ≡ w)
held_trail-none w e = grind (arith)

pub none_held : {w : List ℕ} → IsWellFormed w → (held_trail w ≡ []) × (after_held_trail w ≡ w)
none_held {w = []} h = (refl, refl)
none_held {w = a ∷ r} h = held_trail-none (a ∷ r) (no_continuation a (Begins-first_byte h (omega arith)))

-- bytes that begin inside a pair have both bytes of the trail
pub held_trail-two_bytes : (w : List ℕ) → IsWellFormed (after_held_trail w) → 0x80 ≤ get_or w 0 0 → get_or w 0 0 < 0xC0 → 1 < length w
held_trail-two_bytes w h l g = grind (arith, Begins-first_byte)

pub held_trail-some : (w : List ℕ) → 1 < length w → is_continuation (get_or w 0 0) ≡ true
    → (held_trail w ≡ trail_from_bytes (get_or w 0 0) (get_or w 1 0) ∷ []) × (after_held_trail w ≡ drop 2 w)
held_trail-some w h e = grind (arith)

-- a step to `next`: after the first unit of the code point `p` the second, if any, is held
steps_first : (v : List ℕ) (at : ℕ) (h : IsWellFormed (after_held_trail (drop at v))) (p unit next : ℕ) → held_trail (drop at v) ≡ []
    → next ≤ length v → (after : IsWellFormed (after_held_trail (drop next v))) → h.points ≡ p ∷ after.points
    → units_of p ≡ unit ∷ held_trail (drop next v) → StepsUnit v at h unit next
steps_first v at h p unit next none within after joined all = record {
  within = within;
  after = after;
  first = rw (none, joined) (ap (λ u. u ++ units after.points) all);
  left = rw (none, joined) (ap (λ t. record { held = t; points = after.points }) (sym (ap (drop 1) all)));
}

-- bytes that begin a code point hold no trail
pub none_held_at : {w : List ℕ} (v : List ℕ) (at : ℕ) → w ≡ drop at v → Begins (get_or w 0 0)
    → (held_trail (drop at v) ≡ []) × (after_held_trail (drop at v) ≡ drop at v)
none_held_at v at same start =
    held_trail-none (drop at v) (no_continuation (get_or (drop at v) 0 0) (subst (λ x. Begins (get_or x 0 0)) same start))

-- a step over a code point of one unit and `n` bytes
pub steps_one : {w : List ℕ} (v : List ℕ) (at : ℕ) (h : IsWellFormed (after_held_trail (drop at v))) (p n : ℕ) → w ≡ drop at v
    → at < length v → Begins (get_or w 0 0) → p < 0x10000 → FirstPointIs w p n → StepsUnit v at h p (at + n)
steps_one v at h p n same long start small read =
    let none = none_held_at v at same start in
    let t = Taken-from_first v at (IsWellFormed-equal_bytes h (sym none.1)) p (at + n) long (λ b.
    let x = read (BeginsWithPoint-equal_bytes b same) in (x.0, omega (arith, x.1))) in
    let m = none_held t.rest in
    let all = units_one p small ∙ ap (λ k. p ∷ k) (sym m.0) in
    steps_first v at h p p (at + n) none.0 t.within (IsWellFormed-equal_bytes t.rest m.1) t.joined all

-- a step over the lead of a supplementary code point
pub steps_lead : {w : List ℕ} (v : List ℕ) (at : ℕ) (h : IsWellFormed (after_held_trail (drop at v))) (unit : ℕ) → w ≡ drop at v
    → at < length v → 0xF0 ≤ get_or w 0 0 → ((b : BeginsWithPoint w) → unit ≡ lead_of b.point) → StepsUnit v at h unit (at + 2)
steps_lead v at h unit same long g read =
    let n = none_held_at v at same (record { start = inr (omega arith) }) in
    let f = first_of (IsWellFormed-equal_bytes h (sym n.1)) (omega (arith, length-drop at v)) in
    let b = f.0 in
    let p = b.point in
    let lead : unit ≡ lead_of p = read (BeginsWithPoint-equal_bytes b same) in
    let large : 0x10000 ≤ p = (b.by_lead.four (omega (arith, ap (λ x. get_or x 0 0) same))).4 in
    let c = 0x80 + p / 64 % 64 in
    let d = 0x80 + p % 64 in
    let whole = b.encoded ∙ ap (λ x. x ++ b.rest) (encoding_four p large) in
    let rest : drop (at + 2) v ≡ c ∷ d ∷ b.rest = sym (drop-drop 2 at v) ∙ ap (drop 2) whole in
    let k = held_trail-some (c ∷ d ∷ b.rest) (omega arith) (continuation_range c (omega arith) (omega arith)) in
    let trail : trail_from_bytes c d ≡ trail_of p = omega arith in
    let after = IsWellFormed-equal_bytes f.1.rest (ap after_held_trail rest
    ∙ (k.1 ∙ sym (ap (drop (length (encoding p))) b.encoded ∙ drop_at (encoding p) b.rest (length (encoding p)) refl))) in
    let all : units_of p ≡ unit ∷ held_trail (drop (at + 2) v) = grind (arith, units_two) in
    steps_first v at h p unit (at + 2) n.0 (omega (arith, ap length whole, length-drop at v)) after f.1.joined all

-- a step over the held trail
pub steps_trail : {w : List ℕ} (v : List ℕ) (at : ℕ) (h : IsWellFormed (after_held_trail (drop at v))) (unit : ℕ) → w ≡ drop at v
    → 0x80 ≤ get_or w 0 0 → get_or w 0 0 < 0xC0 → unit ≡ trail_from_bytes (get_or w 0 0) (get_or w 1 0) → StepsUnit v at h unit (at + 2)
steps_trail v at h unit same l g u =
    let first = ap (λ x. get_or x 0 0) same in
    let least : 0x80 ≤ get_or (drop at v) 0 0 = omega (arith, first) in
    let most : get_or (drop at v) 0 0 < 0xC0 = omega (arith, first) in
    let whole = held_trail-two_bytes (drop at v) h least most in
    let n = held_trail-some (drop at v) whole (continuation_range (get_or (drop at v) 0 0) least most) in
    let b = IsWellFormed-equal_bytes h (sym (drop-drop 2 at v) ∙ sym n.1) in
    let m = none_held b in
    let own = u ∙ ap (λ x. trail_from_bytes (get_or x 0 0) (get_or x 1 0)) same in
    record {
      within = omega (arith, whole, length-drop at v);
      after = IsWellFormed-equal_bytes b m.1;
      first = rw (n.0, m.0, own) refl;
      left = rw (n.0, m.0) refl;
    }

-- The unit at an index, from the position of a `UnitCursor`.

-- bytes from the cut on begin with the code point of the pair
pub pair_at_cut : {w v : List ℕ} (h : IsWellFormed w) {n k p : ℕ} → Divided h.points n k p → v ≡ drop k w
    → (b : BeginsWithPoint v) × (b.point ≡ p) × (0xF0 ≤ get_or v 0 0)
pair_at_cut {w} {v} h {n} {k} {p} d e =
    let large : 0x10000 ≤ p = d.large in
    let whole = e ∙ sym (cut_by h d.front (p ∷ d.rest) k d.joined d.front_len).after.encoded in
    (begins_with p (bytes d.rest) v (IsCodePoint-divided h.clean d) whole, refl, rw (whole, encoding_four p large) (omega arith))

-- the trail of a pair is read from the last two bytes of its code point
pub trail_in_pair : {w v : List ℕ} (h : IsWellFormed w) {n k p : ℕ} → Divided h.points n k p → v ≡ drop (k + 2) w
    → trail_from_bytes (get_or v 0 0) (get_or v 1 0) ≡ trail_of p
trail_in_pair {w} h {n} {k} {p} d e =
    let after = (cut_by h d.front (p ∷ d.rest) k d.joined d.front_len).after in
    let last = e ∙ (sym (drop-drop 2 k w) ∙ ap (drop 2) (sym after.encoded)) in
    rw (last, encoding_four p d.large) (omega arith)

-- at the end all units are before the cursor
pub all_before : {w : List ℕ} (h : IsWellFormed w) (n : ℕ) (cursor : UnitCursor) → IsCursorOfUnit w n cursor
    → cursor.position ≡ length w → length (units h.points) ≡ cursor.units
all_before {w} h n cursor is e = grind (arith, take_all, sum_utf16_len-bytes)

-- at the end nothing is left
pub nothing_held_at_end : (w : List ℕ) (h : IsWellFormed (after_held_trail w)) → length w ≡ 0 → (held_trail w ≡ []) × (h.points ≡ [])
nothing_held_at_end [] h e = (refl, points-nil h refl)
nothing_held_at_end (a ∷ w) h e = absurd (omega arith)
