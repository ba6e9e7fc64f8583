-- `IsWellFormed` and `IsForm`, each from the other; both have at most one proof, as a fact that a type holds must have.
use Rattle.std.specs.Prelude.{◌≡◌, ℕ, List, [], ◌∷◌, ◌++◌, refl}
use Rattle.std.specs.Coded.{→_prop, Unit-prop, le_prop, Coded-set, coded_list, coded_ℕ}
use Rattle.std.proofs.Common.{ap, sym, ◌∙◌}
use Rattle.std.proofs.lemmas.Str.{encodes_same}
use mathlib.Core.HLevel.{is_prop→PathP, ⊥_prop, ×₃_prop}
use lib.Utf8.{encode, encodes}
use Rattle.wtf8.specs.Form.{IsClean, encoding, bytes, IsWellFormed, IsForm}
use Rattle.wtf8.specs.Unicode.{units}

-- `encoding` is the library's `encode` of UTF-8, for every number.
pub encoding_is_encode : (p : ℕ) → encoding p ≡ encode p
unfolding encoding encode
encoding_is_encode p = refl

-- The bytes of code points are the library's UTF-8 of these numbers.
pub bytes_are_encodes : (c : List ℕ) → bytes c ≡ encodes c
bytes_are_encodes [] = refl
bytes_are_encodes (p ∷ c) = ap (λ e. e ++ bytes c) (encoding_is_encode p) ∙ ap (λ r. encode p ++ r) (bytes_are_encodes c)

-- Lists of code points with equal bytes are equal.
pub bytes-injective : (c d : List ℕ) → bytes c ≡ bytes d → c ≡ d
bytes-injective c d e = encodes_same c d (sym (bytes_are_encodes c) ∙ (e ∙ bytes_are_encodes d))

-- A list of code points has at most one proof that it is clean.
pub IsClean-prop : (c : List ℕ) → IsProp (IsClean c)
IsClean-prop [] = Unit-prop
IsClean-prop (p ∷ []) = le_prop
IsClean-prop (p ∷ q ∷ c) = ×₃_prop le_prop (→_prop ⊥_prop) (IsClean-prop (q ∷ c))

-- Bytes have at most one proof that they are well-formed.
pub IsWellFormed-prop : (w : List ℕ) → IsProp (IsWellFormed w)
IsWellFormed-prop w x y =
    let same : x.points ≡ y.points = bytes-injective x.points y.points (x.encoded ∙ sym y.encoded) in
    λ i. record {
      points = same i;
      clean = is_prop→PathP (λ j. IsClean (same j)) (λ j. IsClean-prop (same j)) x.clean y.clean i;
      encoded = is_prop→PathP (λ j. bytes (same j) ≡ w) (λ j. Coded-set (coded_list coded_ℕ) (bytes (same j)) w) x.encoded y.encoded i;
    }

-- Well-formed bytes are the form of the units of their code points.
abbrev pub form_of : {w : List ℕ} (h : IsWellFormed w) → IsForm w (units h.points)
form_of h = record { points = h.points; reads = record { clean = h.clean; same_units = refl }; encoded = h.encoded }

-- Bytes that are the form of units are well-formed.
abbrev pub well_formed_of : {w u : List ℕ} → IsForm w u → IsWellFormed w
well_formed_of f = record { points = f.points; clean = f.reads.clean; encoded = f.encoded }

-- Bytes have at most one proof that they are the form of given units.
pub IsForm-prop : (w u : List ℕ) → IsProp (IsForm w u)
IsForm-prop w u x y =
    let one = IsWellFormed-prop w (well_formed_of x) (well_formed_of y) in
    let c : units x.points ≡ units y.points = ap (λ h. units h.points) one in
    let same_units = is_prop→PathP (λ i. c i ≡ u) (λ i. Coded-set (coded_list coded_ℕ) (c i) u) x.reads.same_units y.reads.same_units in
    λ i. record { points = (one i).points; reads = record { clean = (one i).clean; same_units = same_units i }; encoded = (one i).encoded }
