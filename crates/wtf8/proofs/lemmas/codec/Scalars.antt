-- Scalar values among code points and units, and U+FFFD for each surrogate.
use Rattle.wtf8.proofs.Common.{◌≡◌, ℕ, List, [], ◌∷◌, ◌++◌, true, refl, ap, ◌∙◌, arith, cases_lt, lt-leb, le-leb, Each1-weaker, AreAscii}
use Rattle.wtf8.proofs.Common.{bytes, units, IsClean, IsSurrogate, AreScalar, IsKnownForm, Wtf8, view_form, view_units, AreScalarUnits}
use Rattle.wtf8.specs.Surrogates.{replace_surrogate}
use Rattle.wtf8.proofs.lemmas.codec.Encoding.{encoding_one}
use Rattle.wtf8.proofs.lemmas.codec.Readings.{units-cons_one, units_from_form}

-- Lists of scalar values, divided and joined.

pub scalar-append : (c d : List ℕ) → AreScalar c → AreScalar d → AreScalar (c ++ d)
scalar-append [] d s t = t
scalar-append (p ∷ c) d s t = (s.0, scalar-append c d s.1 t)

pub scalar-middle : (f : List ℕ) (p : ℕ) (b : List ℕ) → AreScalar (f ++ p ∷ b) → ¬ (IsSurrogate p)
scalar-middle [] p b s = s.0
scalar-middle (q ∷ f) p b s = scalar-middle f p b s.1

-- Units that are no surrogates are their own code points.

clean-scalar_units : (u : List ℕ) → AreScalarUnits u → IsClean u
clean-scalar_units [] h = tt
clean-scalar_units (p ∷ []) h = omega (arith, h.0.0)
clean-scalar_units (p ∷ q ∷ u) h = (omega (arith, h.0.0), λ pair. h.0.1 (pair.0.0, omega (arith, pair.0.1)), clean-scalar_units (q ∷ u) h.1)

units-scalar_units : (u : List ℕ) → AreScalarUnits u → units u ≡ u
units-scalar_units [] h = refl
units-scalar_units (p ∷ u) h = units-cons_one p u h.0.0 ∙ ap (λ v. p ∷ v) (units-scalar_units u h.1)

AreScalar-scalar_units : (u : List ℕ) → AreScalarUnits u → AreScalar u
AreScalar-scalar_units [] h = tt
AreScalar-scalar_units (p ∷ u) h = (h.0.1, AreScalar-scalar_units u h.1)

pub bytes-ascii : (u : List ℕ) → AreAscii u → bytes u ≡ u
bytes-ascii [] h = refl
bytes-ascii (p ∷ u) h = ap (λ w. w ++ bytes u) (encoding_one p h.0) ∙ ap (λ v. p ∷ v) (bytes-ascii u h.1)

AreScalarUnits-ascii : (u : List ℕ) → AreAscii u → AreScalarUnits u
AreScalarUnits-ascii u h = grind (arith, Each1-weaker)

pub clean-ascii : (u : List ℕ) → AreAscii u → IsClean u
clean-ascii u h = clean-scalar_units u (AreScalarUnits-ascii u h)

pub units-ascii : (u : List ℕ) → AreAscii u → units u ≡ u
units-ascii u h = units-scalar_units u (AreScalarUnits-ascii u h)

-- ASCII units are their own form
pub IsKnownForm-ascii : (u : List ℕ) → AreAscii u → IsKnownForm u u true
IsKnownForm-ascii u h = record {
  form = record {
    points = u;
    reads =
        record { clean = clean-ascii u h; same_units = units-ascii u h };
    encoded = bytes-ascii u h;
  };
  scalar = λ _. AreScalar-scalar_units u (AreScalarUnits-ascii u h);
}

-- the units of a view of ASCII bytes are these bytes
pub view_units-ascii : (view : Wtf8) → AreAscii view.bytes.now → view_units view ≡ view.bytes.now
view_units-ascii view low = units_from_form _ _ _ (view_form view) (IsKnownForm-ascii view.bytes.now low).form

-- U+FFFD in place of a surrogate.

-- a code point is a surrogate, which is replaced, or a scalar value, which is kept
pub data Kind (p : ℕ) : Type 0 where
  surrogate : IsSurrogate p → replace_surrogate p ≡ 0xFFFD → Kind p
  scalar_value : ¬ (IsSurrogate p) → replace_surrogate p ≡ p → Kind p

pub kind_by_surrogates : (p : ℕ) → Kind p
unfolding replace_surrogate
kind_by_surrogates p = grind (arith, cases_lt, lt-leb, le-leb)

pub replace_surrogate-surrogate : (p : ℕ) → IsSurrogate p → replace_surrogate p ≡ 0xFFFD
replace_surrogate-surrogate p s = elim (kind_by_surrogates p) [ surrogate k e ↦ e | scalar_value n e ↦ absurd (n s) ]
