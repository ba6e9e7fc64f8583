-- The surrogates of a string: in its bytes, at its end, and replaced by U+FFFD.
use Rattle.wtf8.proofs.Common.{◌≡◌, ◌≤◌, ◌<◌, ◌+◌, ℕ, List, [], ◌∷◌, ◌++◌, length, get_or, refl, ap, ◌∙◌, sym, subst, arith, append_assoc}
use Rattle.wtf8.proofs.Common.{length-append, true, inr, Option, Some, cases_lt, lt-ltb, le-ltb, append-nil}
use Rattle.wtf8.proofs.Common.{get_or-append-add, IsUtf8, scalar, scalars, IsCodePoint, IsSurrogate, encoding, bytes, IsClean, IsWellFormed}
use Rattle.wtf8.proofs.Common.{bytes_are_encodes, AreScalar, SurrogateAt, IsLeast, IsFirst, ◌-◌, ◌/◌, ◌%◌, lit≤, lit<, map-append}
use Rattle.wtf8.proofs.Common.{lossy_points, take, drop, append_cancel_left, take_at, drop_at, low_scalar, replace_surrogate}
use Rattle.std.proofs.Math.Seq.{take-append_seam}
use Rattle.wtf8.proofs.lemmas.codec.Encoding.{length-bytes_append, encoding_three, length-encoding_bounds, encoding_cases}
use Rattle.wtf8.proofs.lemmas.codec.Encoding.{bytes-append, third_row, length-surrogate, bytes-pushed}
use Rattle.wtf8.proofs.lemmas.codec.Readings.{nil_from_bytes, clean-first, clean-rest, clean-front, clean-back}
use Rattle.wtf8.proofs.lemmas.codec.Scalars.{kind_by_surrogates, replace_surrogate-surrogate, scalar-middle}
use Rattle.wtf8.proofs.lemmas.strings.Positions.{split_at, shorter_is_prefix}

-- Surrogates in the bytes and among the code points.

-- the bytes of a surrogate begin with ED and a byte from A0 on
pub surrogate_at : (f : List ℕ) (p : ℕ) (b : List ℕ) → IsSurrogate p → SurrogateAt (bytes (f ++ p ∷ b)) (length (bytes f))
surrogate_at f p b s =
    let row = encoding_three p (omega arith) (omega arith) in
    let whole : bytes (f ++ p ∷ b) ≡ bytes f ++ (encoding p ++ bytes b) = bytes-append f (p ∷ b) in
    let at : (k : ℕ) → get_or (bytes (f ++ p ∷ b)) (length (bytes f) + k) 0 ≡ get_or (encoding p ++ bytes b) k 0 =
    λ k. ap (λ w. get_or w (length (bytes f) + k) 0) whole ∙ get_or-append-add (bytes f) (encoding p ++ bytes b) k 0 in
    let first = at 0 in
    let second = at 1 in
    grind (arith, length-append)

-- the code point that begins at such bytes is a surrogate
pub record SurrogateIn (c : List ℕ) (i : ℕ) : Type 0 where
  pub front : List ℕ
  pub point : ℕ
  pub back : List ℕ
  pub joined : c ≡ front ++ point ∷ back
  pub front_len : length (bytes front) ≡ i
  pub surrogate : IsSurrogate point

first_surrogate_in : (b : List ℕ) → 1 < length (bytes b) → get_or (bytes b) 0 0 ≡ 0xED → 0xA0 ≤ get_or (bytes b) 1 0 → SurrogateIn b 0
first_surrogate_in [] n e s = absurd (omega arith)
first_surrogate_in (p ∷ b) n e s =
    let surrogate : IsSurrogate p = grind (arith, encoding_cases) in
    record { front = []; point = p; back = b; joined = refl; front_len = refl; surrogate = surrogate }

pub surrogate_in : (c : List ℕ) (i : ℕ) → SurrogateAt (bytes c) i → SurrogateIn c i
surrogate_in c i s =
    let cut = split_at c i (omega (arith, s.within)) (λ _. record { start = inr (omega (arith, s.first)) }) in
    let whole : bytes c ≡ bytes cut.front ++ bytes cut.back = ap bytes cut.joined ∙ bytes-append cut.front cut.back in
    let at : (k : ℕ) → get_or (bytes c) (i + k) 0 ≡ get_or (bytes cut.back) k 0 = grind (arith, get_or-append-add) in
    let zero_there : i + 0 ≡ i = omega arith in
    let f =
    first_surrogate_in cut.back (omega (arith, s.within, cut.front_len, ap length whole, length-append (bytes cut.front) (bytes cut.back)))
    (sym (at 0) ∙ (ap (λ n. get_or (bytes c) n 0) zero_there ∙ s.first)) (omega (arith, at 1, s.second)) in
    record {
      front = cut.front ++ f.front;
      point = f.point;
      back = f.back;
      joined = cut.joined ∙ (ap (λ b. cut.front ++ b) f.joined ∙ sym (append_assoc cut.front f.front (f.point ∷ f.back)));
      front_len = simp (bytes-append, length-append, cut.front_len, f.front_len) (omega arith);
      surrogate = f.surrogate;
    }

pub none_from_scalar : (c : List ℕ) (i : ℕ) → AreScalar c → ¬ (SurrogateAt (bytes c) i)
none_from_scalar c i s at =
    let p = surrogate_in c i at in
    scalar-middle p.front p.point p.back (subst AreScalar p.joined s) p.surrogate

-- scalar values are the characters of a text
pub scalar_true : (p : ℕ) → IsCodePoint p → ¬ (IsSurrogate p) → scalar p ≡ true
scalar_true p r n = grind (arith, cases_lt, low_scalar, le-ltb, lt-ltb)

pub scalars_true : (c : List ℕ) → IsClean c → AreScalar c → scalars c ≡ true
scalars_true [] x s = refl
scalars_true (p ∷ c) x s = rw (scalar_true p (clean-first p c x) s.0) (scalars_true c (clean-rest p c x) s.1)

pub utf8_of : (c : List ℕ) → IsClean c → AreScalar c → IsUtf8 (bytes c)
utf8_of c x s = (c, (scalars_true c x s, sym (bytes_are_encodes c)))

-- if no surrogate begins in the bytes of `c`, it consists of scalar values
pub scalar_between : (f c b : List ℕ)
    → ((j : ℕ) → length (bytes f) ≤ j → j < length (bytes (f ++ c)) → ¬ (SurrogateAt (bytes ((f ++ c) ++ b)) j)) → AreScalar c
scalar_between f [] b none = tt
scalar_between f (p ∷ c) b none =
    let within : length (bytes f) < length (bytes (f ++ p ∷ c)) = omega (arith, length-bytes_append f p c, length-encoding_bounds p) in
    let more : (f ++ p ∷ []) ++ c ≡ f ++ p ∷ c = append_assoc f (p ∷ []) c in (
      λ s. none (length (bytes f)) (omega arith) within
          (subst (λ d. SurrogateAt (bytes d) (length (bytes f))) (sym (append_assoc f (p ∷ c) b)) (surrogate_at f p (c ++ b) s)),
      scalar_between (f ++ p ∷ []) c b (λ j l u. subst (λ d. ¬ (SurrogateAt (bytes (d ++ b)) j)) (sym more)
          (none j (omega (arith, l, length-bytes_append f p [])) (omega (arith, u, ap (λ d. length (bytes d)) more)))),
    )

-- if no surrogate begins in the bytes from `c` on, it consists of scalar values
pub scalar_from_none : (f c : List ℕ) → ((j : ℕ) → length (bytes f) ≤ j → ¬ (SurrogateAt (bytes (f ++ c)) j)) → AreScalar c
scalar_from_none f c none = scalar_between f c [] (λ j l _ s. none j l (subst (λ d. SurrogateAt (bytes d) j) (append-nil (f ++ c)) s))

-- a search that does not return `Some` found none
pub none_found : (w : List ℕ) (from : ℕ) (r : Option ℕ) → IsFirst (SurrogateAt w) from r → ((i : ℕ) → r ≡ Some i → ⊥) → (j : ℕ) → from ≤ j
    → ¬ (SurrogateAt w j)
none_found w from r f n = grind (arith)

-- the first position from a start on is the first of all if there is none before the start
pub first_further : (P : ℕ → Type 0) (from : ℕ) (r : Option ℕ) → ((i : ℕ) → i < from → ¬ (P i)) → IsFirst P from r → IsFirst P 0 r
first_further P from r before f = grind (arith, cases_lt)

-- the result of the search says whether all code points are scalar values
pub scalar_if_none : {w : List ℕ} (h : IsWellFormed w) → ((j : ℕ) → 0 ≤ j → ¬ (SurrogateAt w j)) → AreScalar h.points
scalar_if_none h none = scalar_from_none [] h.points (λ j l. subst (λ v. ¬ (SurrogateAt v j)) (sym h.encoded) (none j l))

pub not_scalar_if_some : {w : List ℕ} (h : IsWellFormed w) (i : ℕ) → IsLeast (SurrogateAt w) 0 i → ¬ (AreScalar h.points)
not_scalar_if_some h i least s = none_from_scalar h.points i s (subst (λ v. SurrogateAt v i) (sym h.encoded) least.here)

pub utf8_if_none : {w : List ℕ} (h : IsWellFormed w) → ((j : ℕ) → 0 ≤ j → ¬ (SurrogateAt w j)) → IsUtf8 w
utf8_if_none h none = subst IsUtf8 h.encoded (utf8_of h.points h.clean (scalar_if_none h none))

-- The surrogate that ends a string, by its last three bytes.

-- the last three bytes encode the surrogate `p`
pub record EndsInSurrogate (w : List ℕ) (p : ℕ) : Type 0 where
  pub three : 3 ≤ length w
  pub first : get_or w (length w - 3) 0 ≡ 0xED
  pub second : get_or w (length w - 2) 0 ≡ 0x80 + p / 64 % 64
  pub third : get_or w (length w - 1) 0 ≡ 0x80 + p % 64

pub ends_in_surrogate : (w f : List ℕ) (p : ℕ) → IsSurrogate p → bytes (f ++ p ∷ []) ≡ w → EndsInSurrogate w p
ends_in_surrogate w f p s e =
    let row = third_row p in
    let whole : w ≡ bytes f ++ row = sym e ∙ (bytes-pushed f p ∙ ap (λ v. bytes f ++ v) (encoding_three p (omega arith) (omega arith))) in
    let at : (k : ℕ) → get_or w (length (bytes f) + k) 0 ≡ get_or row k 0 = λ k. cc (get_or-append-add (bytes f) row k 0) in
    let first = at 0 in
    let second = at 1 in
    let third = at 2 in
    grind (arith, length-append)

-- the surrogate that ends a string if the third byte from the end is ED and the next at least A0
pub record LastSurrogate (c w : List ℕ) : Type 0 where
  pub front : List ℕ
  pub point : ℕ
  pub joined : c ≡ front ++ point ∷ []
  pub surrogate : IsSurrogate point
  pub ends : EndsInSurrogate w point

pub last_surrogate : {w : List ℕ} (h : IsWellFormed w) → 3 ≤ length w → get_or w (length w - 3) 0 ≡ 0xED → 0xA0 ≤ get_or w (length w - 2) 0
    → LastSurrogate h.points w
last_surrogate {w} h len first second =
    let i = length w - 3 in
    let at : SurrogateAt w i = grind (arith) in
    let p = surrogate_in h.points i (subst (λ v. SurrogateAt v i) (sym h.encoded) at) in
    let whole : bytes p.front ++ (encoding p.point ++ bytes p.back) ≡ w = cc (bytes-append p.front (p.point ∷ p.back)) in
    let long = simp length-append at (ap length whole) in
    let none = nil_from_bytes p.back (omega (arith, len, p.front_len, long, length-surrogate p.point p.surrogate)) in
    let joined : h.points ≡ p.front ++ p.point ∷ [] = p.joined ∙ ap (λ b. p.front ++ p.point ∷ b) none in
    let ends = ends_in_surrogate w p.front p.point p.surrogate (ap bytes (sym joined) ∙ h.encoded) in
    record { front = p.front; point = p.point; joined = joined; surrogate = p.surrogate; ends = ends }

-- The lossy list, with U+FFFD for each surrogate.

pub lossy_points-append : (c d : List ℕ) → lossy_points (c ++ d) ≡ lossy_points c ++ lossy_points d
lossy_points-append c d = map-append replace_surrogate c d

pub lossy_points-scalar : (c : List ℕ) → AreScalar c → lossy_points c ≡ c
lossy_points-scalar [] s = refl
lossy_points-scalar (p ∷ c) s = grind (arith, kind_by_surrogates, lossy_points-scalar c s.1)

-- the length does not change, since a surrogate has three bytes too
pub length-lossy_points : (c : List ℕ) → length (bytes (lossy_points c)) ≡ length (bytes c)
length-lossy_points [] = refl
length-lossy_points (p ∷ c) = grind (arith, length-append, kind_by_surrogates, encoding_three, length-surrogate, length-lossy_points c)

-- the lossy bytes of `w`, written over its `k` bytes
pub lossy_written : {w v : List ℕ} {k : ℕ} (h : IsWellFormed w) (rest : List ℕ) → v ≡ bytes (lossy_points h.points) → k ≡ length w
    → take k (v ++ rest) ≡ bytes (lossy_points h.points)
lossy_written {v = v} h rest is same =
    let long = same ∙ sym (ap length is ∙ (length-lossy_points h.points ∙ ap length h.encoded)) in
    ap (λ n. take n (v ++ rest)) long ∙ (take-append_seam v rest ∙ is)

pub scalars-lossy_points : (c : List ℕ) → IsClean c → scalars (lossy_points c) ≡ true
scalars-lossy_points [] x = refl
scalars-lossy_points (p ∷ c) x =
    grind (arith, kind_by_surrogates, clean-rest, scalar_true, clean-first, scalars-lossy_points c (clean-rest p c x))

-- the bytes of the lossy list are text
pub utf8_lossy_points : (c : List ℕ) → IsClean c → IsUtf8 (bytes (lossy_points c))
utf8_lossy_points c x = (lossy_points c, (scalars-lossy_points c x, sym (bytes_are_encodes (lossy_points c))))

-- Replacing surrogates in place, one after another.

-- The loop's state: `done` is replaced and ends at `from`; the code points after it are unchanged.
pub record Replacing (c w : List ℕ) (from : ℕ) : Type 0 where
  pub done : List ℕ
  pub rest : List ℕ
  pub joined : c ≡ done ++ rest
  pub encoded : w ≡ bytes (lossy_points done ++ rest)
  pub done_len : length (bytes (lossy_points done)) ≡ from

pub replacing_end : (c w : List ℕ) (from : ℕ) → Replacing c w from → ((j : ℕ) → from ≤ j → ¬ (SurrogateAt w j)) → w ≡ bytes (lossy_points c)
replacing_end c w from r none =
    let plain = scalar_from_none (lossy_points r.done) r.rest
    (λ j l. subst (λ v. ¬ (SurrogateAt v j)) r.encoded (none j (omega (arith, l, r.done_len)))) in
    cc (lossy_points-scalar r.rest plain, lossy_points-append r.done r.rest)

-- the bytes before and after the surrogate at `found`
pub record AroundSurrogate (w : List ℕ) (front : List ℕ) (found : ℕ) (back : List ℕ) : Type 0 where
  pub before : take found w ≡ bytes front
  pub after : drop (found + 3) w ≡ bytes back
  pub within : found + 3 ≤ length w

pub around_surrogate : (w front : List ℕ) (p : ℕ) (back : List ℕ) (found : ℕ) → w ≡ bytes (front ++ p ∷ back) → length (bytes front) ≡ found
    → IsSurrogate p → AroundSurrogate w front found back
around_surrogate w front p back found e n s =
    let whole : w ≡ bytes front ++ (encoding p ++ bytes back) = e ∙ bytes-append front (p ∷ back) in
    let other : w ≡ (bytes front ++ encoding p) ++ bytes back = whole ∙ sym (append_assoc (bytes front) (encoding p) (bytes back)) in
    grind (arith, length-surrogate, length-append, take_at, drop_at)

pub replacing_step : (c w : List ℕ) (from found : ℕ) → Replacing c w from → IsLeast (SurrogateAt w) from found
    → (found + 3 ≤ length w) × Replacing c (take found w ++ (0xEF ∷ 0xBF ∷ 0xBD ∷ drop (found + 3) w)) (found + 3)
replacing_step c w from found r least =
    let p = surrogate_in (lossy_points r.done ++ r.rest) found (subst (λ v. SurrogateAt v found) r.encoded least.here) in
    let b = shorter_is_prefix (lossy_points r.done) r.rest p.front
    (p.point ∷ p.back) p.joined (omega (arith, r.done_len, p.front_len, least.not_before)) in
    let a = around_surrogate w p.front p.point p.back found (r.encoded ∙ ap bytes p.joined) p.front_len p.surrogate in
    let rest : r.rest ≡ b.more ++ p.point ∷ p.back =
    append_cancel_left (lossy_points r.done) _ _ (p.joined ∙ simp (b.joined, append_assoc)) in
    let plain : AreScalar b.more = scalar_between (lossy_points r.done) b.more (p.point ∷ p.back)
    (λ j l u s. least.none_between j (omega (arith, r.done_len)) (omega (arith, p.front_len, ap (λ d. length (bytes d)) b.joined))
    (subst (λ v. SurrogateAt v j) (sym (r.encoded ∙ ap bytes (p.joined ∙ ap (λ d. d ++ p.point ∷ p.back) b.joined))) s)) in
    let done : lossy_points ((r.done ++ b.more) ++ p.point ∷ []) ≡ p.front ++ 0xFFFD ∷ [] =
    simp (lossy_points-append, lossy_points-scalar b.more plain, ← b.joined, replace_surrogate-surrogate p.point p.surrogate) in
    let sign : encoding 0xFFFD ≡ 0xEF ∷ 0xBF ∷ 0xBD ∷ [] = encoding_three 0xFFFD (lit≤ tt) (lit< tt) in (
      a.within,
      record {
        done = (r.done ++ b.more) ++ p.point ∷ [];
        rest = p.back;
        joined = r.joined ∙ simp (rest, append_assoc);
        encoded = rw (a.before, a.after, done, append_assoc p.front (0xFFFD ∷ []) p.back, bytes-append p.front (0xFFFD ∷ p.back), sign);
        done_len = simp (done, bytes-append, length-append, sign, p.front_len);
      },
    )

-- a string divided at its first surrogate: text, the surrogate, and the rest
pub record SplitAtSurrogate (w : List ℕ) (h : IsWellFormed w) (found : ℕ) : Type 0 where
  pub within : found + 3 ≤ length w
  pub text : IsUtf8 (take found w)
  pub rest : IsWellFormed (drop (found + 3) w)
  pub lossy_parts : bytes (lossy_points h.points) ≡ take found w ++ bytes (0xFFFD ∷ lossy_points rest.points)

pub split_at_first_surrogate : {w : List ℕ} (h : IsWellFormed w) (found : ℕ) → IsLeast (SurrogateAt w) 0 found → SplitAtSurrogate w h found
split_at_first_surrogate {w} h found least =
    let p = surrogate_in h.points found (subst (λ v. SurrogateAt v found) (sym h.encoded) least.here) in
    let whole : w ≡ bytes (p.front ++ p.point ∷ p.back) = sym h.encoded ∙ ap bytes p.joined in
    let a = around_surrogate w p.front p.point p.back found whole p.front_len p.surrogate in
    let clean : IsClean (p.front ++ p.point ∷ p.back) = subst IsClean p.joined h.clean in
    let plain : AreScalar p.front = scalar_between [] p.front (p.point ∷ p.back)
    (λ j l u s. least.none_between j l (omega (arith, p.front_len)) (subst (λ v. SurrogateAt v j) (sym whole) s)) in
    record {
      within = a.within;
      text = subst IsUtf8 (sym a.before) (utf8_of p.front (clean-front p.front (p.point ∷ p.back) clean) plain);
      rest = record {
        points = p.back;
        clean = clean-rest p.point p.back (clean-back p.front (p.point ∷ p.back) clean);
        encoded = sym a.after;
      };
      lossy_parts = simp (
        p.joined,
        lossy_points-append,
        bytes-append,
        lossy_points-scalar p.front plain,
        replace_surrogate-surrogate p.point p.surrogate,
        a.before,
      );
    }
