-- Code points between boundaries.
use Rattle.std.proofs.Common.{◌≡◌, ℕ, ◌+◌, ◌-◌, ◌<◌, ◌≤◌, ◌⊎◌, List, [], ◌∷◌, ◌++◌, length, take, drop, inl, inr, refl, sym, ap, ◌∙◌, subst, arith}
use Rattle.std.proofs.Common.{length-append, append_assoc}
use Rattle.std.proofs.lemmas.Bool.{cases_lt}
use Rattle.std.proofs.lemmas.List.{append-nil, take_at, take-append-drop}
use Rattle.wtf8.specs.Form.{IsClean, IsForm, Reads, bytes, encoding}
use Rattle.wtf8.specs.Position.{Splits, IsBoundary, IsFront, IsBack}
use Rattle.wtf8.specs.UnitMark.{IsMark}
use Rattle.wtf8.specs.Unicode.{units, units_of}
use Rattle.wtf8.specs.View.{view_points, view_units}
use Rattle.wtf8.specs.declared.strings.view.Wtf8.{Wtf8}
use Rattle.wtf8.proofs.lemmas.codec.Encoding.{length-encoding_bounds, bytes-append, bytes-pushed}
use Rattle.wtf8.proofs.lemmas.codec.Readings.{clean-front, lists_have_lengths, nil_from_bytes, reads_same, units-pushed}
use Rattle.wtf8.proofs.lemmas.strings.Positions.{shorter_is_prefix, back_reads}
use Rattle.wtf8.proofs.lemmas.units.UnitMarks.{boundary_is_mark}
use Rattle.wtf8_c.specs.Walks.{IsPointBetween, ArePointsBetween}

-- the first code point of those after a boundary
pub first_after : {u v : List ℕ} {k : ℕ} (b : IsBack u k v) (p : ℕ) (rest : List ℕ) → b.back ≡ p ∷ rest
    → IsPointBetween u k (k + length (encoding p)) p
first_after {u} {v} {k} b p rest e =
    let begins : Splits u k b.front (p ∷ rest) = subst (λ c. Splits u k b.front c) e b.splits in
    record {
      front = b.front;
      back = rest;
      begins = begins;
      ends = record {
        reads = subst (λ c. Reads c u) (sym (append_assoc b.front (p ∷ []) rest)) begins.reads;
        front_len = omega (arith, b.splits.front_len, ap length (bytes-pushed b.front p), length-append (bytes b.front) (encoding p));
      };
    }

one_is_empty : (x y : List ℕ) → length x + length y ≡ 1 → (x ≡ []) ⊎ (y ≡ [])
one_is_empty [] y e = inl refl
one_is_empty (a ∷ x) [] e = inr refl
one_is_empty (a ∷ x) (b ∷ y) e = absurd (omega (arith, e))

-- no boundary is between the two of a code point
none_within : {u : List ℕ} {begin next end p : ℕ} → IsPointBetween u begin next p → IsBoundary u end → begin < end → next ≤ end
none_within {u} {begin} {next} {end} {p} q b l = elim (cases_lt end next) [
  | inl m ↦
      let pushed = q.front ++ p ∷ [] in
      let x = shorter_is_prefix b.front b.back pushed q.back (reads_same b.splits.reads q.ends.reads)
      (omega (arith, m, b.splits.front_len, q.ends.front_len)) in
      let y = shorter_is_prefix q.front (p ∷ q.back) b.front b.back (reads_same q.begins.reads b.splits.reads)
      (omega (arith, l, b.splits.front_len, q.begins.front_len)) in
      let one : length x.more + length y.more ≡ 1 =
      omega (
        arith,
        ap length x.joined,
        ap length y.joined,
        length-append q.front (p ∷ []),
        length-append b.front x.more,
        length-append q.front y.more,
      ) in
      elim (one_is_empty x.more y.more one) [
        | inl e ↦
            let same : pushed ≡ b.front = x.joined ∙ (ap (λ v. b.front ++ v) e ∙ append-nil b.front) in
            absurd (omega (arith, m, ap (λ v. length (bytes v)) same, b.splits.front_len, q.ends.front_len))
        | inr e ↦
            let same : b.front ≡ q.front = y.joined ∙ (ap (λ v. q.front ++ v) e ∙ append-nil q.front) in
            absurd (omega (arith, l, ap (λ v. length (bytes v)) same, b.splits.front_len, q.begins.front_len))
      ]
  | inr m ↦ m
]

-- the code point before a boundary
pub record IsPointBefore (u : List ℕ) (begin end p : ℕ) : Type 0 where
  pub between : IsPointBetween u begin end p
  pub len : begin + length (encoding p) ≡ end

-- the code point after the last boundary before another one ends there
pub ends_at : {u : List ℕ} {begin end p : ℕ} → IsPointBetween u begin (begin + length (encoding p)) p → IsBoundary u end → begin < end
    → ((k : ℕ) → IsBoundary u k → k ≤ end - 1 → k ≤ begin) → IsPointBefore u begin end p
ends_at {u} {begin} {end} {p} q b l last =
    let next = begin + length (encoding p) in
    let is_boundary : IsBoundary u next = record { front = q.front ++ p ∷ []; back = q.back; splits = q.ends } in
    let same : next ≡ end = elim (cases_lt next end) [
      | inl m ↦ absurd (omega (arith, m, last next is_boundary (omega (arith, m)), length-encoding_bounds p))
      | inr m ↦ omega (arith, m, none_within q b l)
    ] in
    record { between = subst (λ k. IsPointBetween u begin k p) same q; len = same }

-- the code point before the end is the last one
last_of : {w u : List ℕ} {begin p : ℕ} (f : IsForm w u) (q : IsPointBetween u begin (length w) p) → f.points ≡ q.front ++ p ∷ []
last_of {w} {u} {begin} {p} f q =
    let pushed = q.front ++ p ∷ [] in
    let whole : f.points ≡ pushed ++ q.back = reads_same f.reads q.ends.reads in
    let count : length (bytes q.back) ≡ 0 =
    omega (
      arith,
      ap length f.encoded,
      ap (λ c. length (bytes c)) whole,
      ap length (bytes-append pushed q.back),
      length-append (bytes pushed) (bytes q.back),
      q.ends.front_len,
    ) in
    whole ∙ ap (λ c. pushed ++ c) (nil_from_bytes q.back count) ∙ append-nil pushed

-- the units before the last code point
pub record IsBeforeLast (u : List ℕ) (p n : ℕ) (c : List ℕ) : Type 0 where
  pub front : List ℕ
  pub points : c ≡ front ++ p ∷ []
  pub reads : Reads front (take (length u - n) u)

pub before_last : {w u : List ℕ} {begin p n : ℕ} (f : IsForm w u) → IsPointBetween u begin (length w) p → n ≡ length (units_of p)
    → IsBeforeLast u p n f.points
before_last {w} {u} {begin} {p} {n} f q e =
    let points = last_of f q in
    let parts : u ≡ units q.front ++ units_of p = sym f.reads.same_units ∙ ap units points ∙ units-pushed q.front p in
    let count : length u ≡ length (units q.front) + n = omega (arith, ap length parts, length-append (units q.front) (units_of p), e) in
    let front : units q.front ≡ take (length u - n) u =
    sym (take_at (units q.front) (units_of p) (length u - n) (omega (arith, count))) ∙ ap (λ v. take (length u - n) v) (sym parts) in
    record {
      front = q.front;
      points = points;
      reads = record { clean = clean-front q.front (p ∷ []) (subst IsClean points f.reads.clean); same_units = front };
    }

-- a string has at least the units of its last code point
pub last_units : {w u : List ℕ} {begin p : ℕ} (f : IsForm w u) → IsPointBetween u begin (length w) p → length (units_of p) ≤ length u
last_units {w} {u} {begin} {p} f q =
    let parts : u ≡ units q.front ++ units_of p = sym f.reads.same_units ∙ ap units (last_of f q) ∙ units-pushed q.front p in
    omega (arith, ap length parts, length-append (units q.front) (units_of p))

-- before the last code point is a mark of the units before it
pub mark_before_last : {w u : List ℕ} {begin p : ℕ} (f : IsForm w u) → IsPointBetween u begin (length w) p → (n : ℕ)
    → n + length (units_of p) ≡ length u → IsMark w u begin n
mark_before_last {w} {u} {begin} {p} f q n e =
    let parts : u ≡ units q.front ++ units_of p = sym f.reads.same_units ∙ ap units (last_of f q) ∙ units-pushed q.front p in
    let count : length (units q.front) ≡ n = omega (arith, ap length parts, length-append (units q.front) (units_of p), e) in
    let front : IsFront u begin (units q.front) =
    record { front = q.front; back = p ∷ q.back; splits = q.begins; same_units = refl } in
    subst (λ m. IsMark w u begin m) count (boundary_is_mark w u (units q.front) begin f front)

-- the first code points after a boundary
pub first_points_after : {u v : List ℕ} {begin : ℕ} (b : IsBack u begin v) (n : ℕ)
    → ArePointsBetween u begin (begin + length (bytes (take n b.back))) (take n b.back)
first_points_after {u} b n =
    let front = take n b.back in
    let parts : front ++ drop n b.back ≡ b.back = take-append-drop n b.back in
    let whole : b.front ++ b.back ≡ (b.front ++ front) ++ drop n b.back =
    ap (λ c. b.front ++ c) (sym parts) ∙ sym (append_assoc b.front front (drop n b.back)) in
    record {
      front = b.front;
      back = drop n b.back;
      begins = subst (λ c. Splits u _ b.front c) (sym parts) b.splits;
      ends = record {
        reads = subst (λ c. Reads c u) whole b.splits.reads;
        front_len = omega (arith, b.splits.front_len, ap length (bytes-append b.front front), length-append (bytes b.front) (bytes front));
      };
    }

-- the code points of a view after a boundary
pub back_points : {u : List ℕ} {k : ℕ} (view : Wtf8) (b : IsBack u k (view_units view)) → b.back ≡ view_points view
back_points view b = reads_same (back_reads b) (record { clean = view.well_formed.clean; same_units = refl })

-- a view has no more code points than bytes
pub few_points : (v : Wtf8) → length (view_points v) ≤ length v.bytes.now
few_points v =
    let lengths = lists_have_lengths (view_points v) in omega (arith, lengths.points, lengths.units_least, ap length v.well_formed.encoded)

-- nor more units
pub few_units : (v : Wtf8) → length (view_units v) ≤ length v.bytes.now
few_units v = omega (arith, (lists_have_lengths (view_points v)).units_least, ap length v.well_formed.encoded)
