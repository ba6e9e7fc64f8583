-- Positions at which the bytes of a string may be cut, and the number of units before them.
use Rattle.wtf8.proofs.Common.{◌≡◌, ◌-◌, ◌≤◌, ◌<◌, ℕ, zero, suc, inl, inr, List, [], ◌∷◌, ◌++◌, length, get_or, refl, ap, ◌∙◌, sym, subst}
use Rattle.wtf8.proofs.Common.{arith, length-append, cases_lt, append-nil, get_or-append_right, encoding, bytes, take, drop, append_assoc}
use Rattle.wtf8.proofs.Common.{take_at, drop_at, units, IsClean, Reads, IsWellFormed, IsForm, IsBoundary, IsFront, IsBack, ◌+◌, ◌%◌}
use Rattle.wtf8.proofs.Common.{take-add, chunk, units_of, utf16_len, sum_utf16_len, IsCursorOfUnit, sum_by-append, well_formed_of}
use Rattle.wtf8.proofs.Common.{sum_by_more, Splits, IsMiddle, UnitCursor, common_steps}
use Rattle.wtf8.proofs.lemmas.lanes.UnitCounts.{utf16_len-ascii, utf16_len-continuation, utf16_len-lead_below_F0, utf16_len-lead_from_F0}
use Rattle.wtf8.proofs.lemmas.codec.Encoding.{Begins, first-encoding, continuation-encoding, length-encoding_bounds, length-bytes_append}
use Rattle.wtf8.proofs.lemmas.codec.Encoding.{bytes-append, encoding_cases}
use Rattle.wtf8.proofs.lemmas.codec.Readings.{clean-front, clean-back, reads_same, cons-equal_parts, same_form, same_points, same_reading}
use Rattle.wtf8.proofs.lemmas.codec.Readings.{units_one, units_two}

-- Cuts of the bytes of a list of code points.

-- a list of code points, divided after the first `k` bytes
pub record Split (c : List ℕ) (k : ℕ) : Type 0 where
  pub front : List ℕ
  pub back : List ℕ
  pub joined : c ≡ front ++ back
  pub front_len : length (bytes front) ≡ k

-- bytes may be cut at their end and where a code point begins
pub split_at : (c : List ℕ) (k : ℕ) → k ≤ length (bytes c) → (k < length (bytes c) → Begins (get_or (bytes c) k 0)) → Split c k
split_at c zero h s = record { front = []; back = c; joined = refl; front_len = refl }
split_at [] (suc k) h s = absurd (omega arith)
split_at (p ∷ c) (suc k) h s =
    let n = length-encoding_bounds p in
    let whole = length-append (encoding p) (bytes c) in
    elim (cases_lt (suc k) (length (encoding p))) [
      | inl l ↦ let inside = continuation-encoding p k (bytes c) l in absurd (omega (arith, (s (omega arith)).start))
      | inr l ↦
          let at = get_or-append_right (encoding p) (bytes c) (length (encoding p)) (suc k) 0 refl l in
          let cut = split_at c (suc k - length (encoding p)) (omega arith) (λ m. subst Begins at (s (omega arith))) in
          let long = length-append (encoding p) (bytes cut.front) in
          record { front = p ∷ cut.front; back = cut.back; joined = ap (λ r. p ∷ r) cut.joined; front_len = omega (arith, cut.front_len) }
    ]

-- the byte after a front is the first byte of the next code point
pub first-bytes_after : (front : List ℕ) (p : ℕ) (b : List ℕ)
    → get_or (bytes (front ++ p ∷ b)) (length (bytes front)) 0 ≡ get_or (encoding p ++ bytes b) 0 0
first-bytes_after front p b = grind (arith, bytes-append, get_or-append_right)

pub begins_after : (f b : List ℕ) → length (bytes f) < length (bytes (f ++ b)) → Begins (get_or (bytes (f ++ b)) (length (bytes f)) 0)
begins_after f [] h = absurd (omega (arith, ap (λ c. length (bytes c)) (append-nil f)))
begins_after f (p ∷ b) h = subst Begins (sym (first-bytes_after f p b)) (first-encoding p (bytes b))

-- Cuts of a string, and its parts.

-- the units before and after a position have the readings that they have in the whole
pub front_reads : {u v : List ℕ} {k : ℕ} (f : IsFront u k v) → Reads f.front v
front_reads f = record { clean = clean-front f.front f.back f.splits.reads.clean; same_units = f.same_units }

pub back_reads : {u v : List ℕ} {k : ℕ} (b : IsBack u k v) → Reads b.back v
back_reads b = record { clean = clean-back b.front b.back b.splits.reads.clean; same_units = b.same_units }

pub front_boundary : {u v : List ℕ} {k : ℕ} → IsFront u k v → IsBoundary u k
front_boundary f = record { front = f.front; back = f.back; splits = f.splits }

-- the code points and the bytes before and after a position
pub record Cut (w : List ℕ) (h : IsWellFormed w) (k : ℕ) : Type 0 where
  pub front : List ℕ
  pub back : List ℕ
  pub points : h.points ≡ front ++ back
  pub within : k ≤ length w
  pub splits : Splits (units h.points) k front back
  pub before : IsWellFormed (take k w)
  pub before_points : before.points ≡ front
  pub after : IsWellFormed (drop k w)
  pub after_points : after.points ≡ back

abbrev pub cut_by : {w : List ℕ} (h : IsWellFormed w) (front back : List ℕ) (k : ℕ) → h.points ≡ front ++ back
    → length (bytes front) ≡ k → Cut w h k
cut_by {w} h front back k e n =
    let whole : w ≡ bytes front ++ bytes back = sym h.encoded ∙ (ap bytes e ∙ bytes-append front back) in
    let clean : IsClean (front ++ back) = subst IsClean e h.clean in
    record {
      front = front;
      back = back;
      points = e;
      within = omega (arith, n, ap length whole, length-append (bytes front) (bytes back));
      splits = record { reads = record { clean = clean; same_units = ap units (sym e) }; front_len = n };
      before = record {
        points = front;
        clean = clean-front front back clean;
        encoded = sym (ap (take k) whole ∙ take_at (bytes front) (bytes back) k n);
      };
      before_points = refl;
      after = record {
        points = back;
        clean = clean-back front back clean;
        encoded = sym (ap (drop k) whole ∙ drop_at (bytes front) (bytes back) k n);
      };
      after_points = refl;
    }

pub cut_at : {w : List ℕ} (h : IsWellFormed w) (k : ℕ) → IsBoundary (units h.points) k → Cut w h k
cut_at h k b =
    let reads = b.splits.reads in
    cut_by h b.front b.back k (same_reading h.points (b.front ++ b.back) h.clean reads.clean (sym reads.same_units)) b.splits.front_len

pub boundary_of : {w : List ℕ} (h : IsWellFormed w) (front back : List ℕ) (k : ℕ) → h.points ≡ front ++ back → length (bytes front) ≡ k
    → IsBoundary (units h.points) k
boundary_of h front back k e n = record { front = front; back = back; splits = (cut_by h front back k e n).splits }

pub points_before : {w v : List ℕ} (h : IsWellFormed w) (p : IsWellFormed v) (front back : List ℕ) (k : ℕ) → h.points ≡ front ++ back
    → length (bytes front) ≡ k → v ≡ take k w → p.points ≡ front
points_before h p front back k e n d = same_points p (cut_by h front back k e n).before d

pub points_after : {w v : List ℕ} (h : IsWellFormed w) (p : IsWellFormed v) (front back : List ℕ) (k : ℕ) → h.points ≡ front ++ back
    → length (bytes front) ≡ k → v ≡ drop k w → p.points ≡ back
points_after h p front back k e n d = same_points p (cut_by h front back k e n).after d

-- the bytes before a position are the form of the units before it
pub front_form : {w u : List ℕ} (h : IsForm w u) (k : ℕ) (v : List ℕ) → IsFront u k v → IsForm (take k w) v
front_form h k v f =
    let before = (cut_by (well_formed_of h) f.front f.back k (reads_same h.reads f.splits.reads) f.splits.front_len).before in
    record { points = f.front; reads = record { clean = before.clean; same_units = f.same_units }; encoded = before.encoded }

-- what has the units before a boundary has the bytes before it
pub front_bytes : {w u : List ℕ} (h : IsForm w u) (old : List ℕ) {v : List ℕ} → IsForm old v → (k : ℕ) → IsFront v k u
    → w ≡ take k old
front_bytes {w} {u} h old g k f = same_form w (take k old) u h (front_form g k u f)

-- a position is a boundary exactly if it is the end or the byte there begins a code point
pub boundary_from_byte : {w : List ℕ} (h : IsWellFormed w) (k : ℕ) → k ≤ length w → (k < length w → Begins (get_or w k 0))
    → IsBoundary (units h.points) k
boundary_from_byte {w} h k within start =
    let cut = split_at h.points k (omega (arith, ap length h.encoded))
    (λ m. subst (λ v. Begins (get_or v k 0)) (sym h.encoded) (start (omega (arith, ap length h.encoded)))) in
    boundary_of h cut.front cut.back k cut.joined cut.front_len

pub byte_from_boundary : {w : List ℕ} (h : IsWellFormed w) (k : ℕ) → IsBoundary (units h.points) k → k < length w → Begins (get_or w k 0)
byte_from_boundary {w} h k b m =
    let c = cut_at h k b in
    let whole : bytes (c.front ++ c.back) ≡ w = ap bytes (sym c.points) ∙ h.encoded in
    subst (λ v. Begins (get_or v k 0)) whole (subst (λ n. Begins (get_or (bytes (c.front ++ c.back)) n 0)) c.splits.front_len
    (begins_after c.front c.back (omega (arith, c.splits.front_len, ap length whole))))

-- a position divides a list of units in one way only
pub same_splits : (u : List ℕ) (k : ℕ) (f b g d : List ℕ) → Splits u k f b → Splits u k g d → (f ≡ g) × (b ≡ d)
same_splits u k f b g d own other =
    let whole = reads_same own.reads other.reads in
    let h : IsWellFormed (bytes (f ++ b)) = record { points = f ++ b; clean = own.reads.clean; encoded = refl } in
    let cut = cut_by h f b k refl own.front_len in
    (points_before h cut.before g d k whole other.front_len refl, points_after h cut.after g d k whole other.front_len refl)

pub front_unique : (u : List ℕ) (k : ℕ) (v w : List ℕ) → IsFront u k v → IsFront u k w → v ≡ w
front_unique u k v w x y = sym x.same_units ∙ (ap units (same_splits u k x.front x.back y.front y.back x.splits y.splits).0 ∙ y.same_units)

pub back_unique : (u : List ℕ) (k : ℕ) (v w : List ℕ) → IsBack u k v → IsBack u k w → v ≡ w
back_unique u k v w x y = sym x.same_units ∙ (ap units (same_splits u k x.front x.back y.front y.back x.splits y.splits).1 ∙ y.same_units)

-- of two fronts of a list the shorter begins the longer
pub record IsPrefix (f g : List ℕ) : Type 0 where
  pub more : List ℕ
  pub joined : g ≡ f ++ more

pub shorter_is_prefix : (f b g d : List ℕ) → f ++ b ≡ g ++ d → length (bytes f) ≤ length (bytes g) → IsPrefix f g
shorter_is_prefix [] b g d e n = record { more = g; joined = refl }
shorter_is_prefix (p ∷ f) b [] d e n = absurd (omega (arith, length-encoding_bounds p, length-append (encoding p) (bytes f)))
shorter_is_prefix (p ∷ f) b (q ∷ g) d e n =
    let h = cons-equal_parts p q (f ++ b) (g ++ d) e in
    let r = shorter_is_prefix f b g d h.1
    (omega (arith, length-append (encoding p) (bytes f), length-append (encoding q) (bytes g), ap (λ k. length (encoding k)) h.0)) in
    record { more = r.more; joined = ap (λ k. k ∷ g) (sym h.0) ∙ ap (λ v. p ∷ v) r.joined }

-- the back of a front is the middle
pub middle_of : {w v : List ℕ} (h : IsWellFormed w) (begin end : ℕ) (p : IsWellFormed v) {u : List ℕ}
    → IsFront (units h.points) end (units p.points) → IsBack (units p.points) begin u → IsMiddle (units h.points) begin end u
middle_of h begin end p f b =
    let parts : b.front ++ b.back ≡ f.front = reads_same b.splits.reads (front_reads f) in
    record {
      front = b.front;
      middle = b.back;
      back = f.back;
      begins = record { reads = rw (← append_assoc, parts) f.splits.reads; front_len = b.splits.front_len };
      ends = record { reads = rw parts f.splits.reads; front_len = rw parts f.splits.front_len };
      same_units = b.same_units;
    }

-- Positions counted in units, and the code points at them.

-- the units that begin before a block and in it add up
pub sum_utf16_len_take_add : (w : List ℕ) (i n : ℕ)
    → sum_utf16_len (take (i + n) w) ≡ sum_utf16_len (take i w) + sum_utf16_len (chunk i n w)
sum_utf16_len_take_add w i n = ap sum_utf16_len (take-add i n w) ∙ sum_by-append utf16_len (take i w) (take n (drop i w))

-- `n` units begin in `n` ASCII bytes
pub sum_utf16_len-ascii : (w : List ℕ) (i n : ℕ) → i + n ≤ length w → ((j : ℕ) → j < n → get_or w (i + j) 0 < 0x80)
    → sum_utf16_len (take (i + n) w) ≡ sum_utf16_len (take i w) + n
sum_utf16_len-ascii w i zero bound low = grind (arith)
sum_utf16_len-ascii w i (suc n) bound low =
    let last : i + suc n ≡ i + n + 1 = omega arith in
    grind (arith, sum_by_more, utf16_len-ascii, low n, sum_utf16_len-ascii w i n (omega (arith, bound)) (λ j l. low j (omega (arith, l))))

pub sum_utf16_len-chunk_add : (w : List ℕ) (i m n k : ℕ) → m + n ≡ k
    → sum_utf16_len (chunk i k w) ≡ sum_utf16_len (chunk i m w) + sum_utf16_len (chunk (i + m) n w)
sum_utf16_len-chunk_add w i m n k e = grind (arith, common_steps, sum_utf16_len_take_add)

-- the units of a code point begin in its bytes, all of them at the first byte
utf16_len-continuation_byte : (n : ℕ) → utf16_len (0x80 + n % 64) ≡ 0
utf16_len-continuation_byte n = utf16_len-continuation (0x80 + n % 64) (omega arith) (omega arith)

ruleset utf16_lens = (utf16_len-ascii, utf16_len-lead_below_F0, utf16_len-continuation_byte, utf16_len-lead_from_F0)

pub sum_utf16_len-encoding : (p : ℕ) → sum_utf16_len (encoding p) ≡ length (units_of p)
sum_utf16_len-encoding p = grind (arith, encoding_cases, units_one, units_two, utf16_lens)

utf16_len-encoding : (p : ℕ) (r : List ℕ) → utf16_len (get_or (encoding p ++ r) 0 0) ≡ length (units_of p)
utf16_len-encoding p r = grind (arith, encoding_cases, units_one, units_two, utf16_lens)

pub sum_utf16_len-bytes : (c : List ℕ) → sum_utf16_len (bytes c) ≡ length (units c)
sum_utf16_len-bytes [] = refl
sum_utf16_len-bytes (p ∷ c) = grind (arith, sum_by-append, sum_utf16_len-encoding, sum_utf16_len-bytes c, length-append)

-- a byte at which units begin begins a code point
begins_from_utf16_len : (b : ℕ) → 0 < utf16_len b → Begins b
begins_from_utf16_len b h = grind (arith, cases_lt, utf16_len-continuation)

-- a cut between code points, after `n` units and `position` bytes
pub record CutsUnits (c : List ℕ) (n position : ℕ) : Type 0 where
  pub front : List ℕ
  pub back : List ℕ
  pub joined : c ≡ front ++ back
  pub front_len : length (bytes front) ≡ position
  pub counted : length (units front) ≡ n

-- the code points before and after `cursor`; the next one, if any, holds unit `n`
pub record PointsAbout (c : List ℕ) (n : ℕ) (cursor : UnitCursor) : Type 0 where
  pub cut : CutsUnits c cursor.units cursor.position
  pub not_beyond : cursor.units ≤ n
  pub holds : (p : ℕ) (rest : List ℕ) → cut.back ≡ p ∷ rest → n < cursor.units + length (units_of p)

pub points_about : (c : List ℕ) (n : ℕ) (s : UnitCursor) → IsCursorOfUnit (bytes c) n s → PointsAbout c n s
points_about c n s h =
    let cursor = s.position in
    let was = h.before in
    let next : cursor < length (bytes c) → n < s.units + utf16_len (get_or (bytes c) cursor 0) = grind (arith, sum_by_more) in
    let cut =
    split_at c cursor was.within (λ m. begins_from_utf16_len (get_or (bytes c) cursor 0) (omega (arith, next m, was.not_beyond))) in
    let whole : bytes c ≡ bytes cut.front ++ bytes cut.back = ap bytes cut.joined ∙ bytes-append cut.front cut.back in
    let front : take cursor (bytes c) ≡ bytes cut.front = grind (arith, take_at) in
    record {
      cut = record {
        front = cut.front;
        back = cut.back;
        joined = cut.joined;
        front_len = cut.front_len;
        counted = sym (sum_utf16_len-bytes cut.front) ∙ (ap sum_utf16_len (sym front) ∙ sym was.counted);
      };
      not_beyond = was.not_beyond;
      holds = λ p rest e.
          let joined : c ≡ cut.front ++ p ∷ rest = cut.joined ∙ ap (λ b. cut.front ++ b) e in
          let long : cursor < length (bytes c) =
          omega (arith, cut.front_len, ap (λ d. length (bytes d)) joined, length-bytes_append cut.front p rest, length-encoding_bounds p) in
          let here : get_or (bytes c) cursor 0 ≡ get_or (encoding p ++ bytes rest) 0 0 = grind (arith, first-bytes_after) in
          omega (arith, next long, ap utf16_len here, utf16_len-encoding p (bytes rest));
    }
