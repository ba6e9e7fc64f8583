-- A list of units has one reading.
use Rattle.std.proofs.Common.{◌≡◌, ℕ, suc, ◌<◌, All, List, [], ◌∷◌, refl, sym, ◌∙◌, arith}
use Rattle.std.proofs.lemmas.Bool.{lt-ltb}
use Rattle.std.proofs.lemmas.List.{append-nil}
use Rattle.wtf8.specs.Form.{Reads}
use Rattle.wtf8.specs.Laws.{UnitsHaveOneReading, ReadingsAreOfUnits, GlueReadsBoth}
use Rattle.wtf8.specs.Unicode.{IsUnit, units_of}
use Rattle.unit_text.specs.Reading.{reading}

-- the units of a code point below 0x10000 are that number alone
pub units_of-bmp : (n : ℕ) → n < 0x10000 → units_of n ≡ n ∷ []
unfolding units_of
units_of-bmp n h = rw (lt-ltb n 0x10000 h) refl

Reads-unit : (n : ℕ) → IsUnit n → Reads (n ∷ []) (n ∷ [])
Reads-unit n h = record { clean = omega arith; same_units = append-nil (units_of n) ∙ units_of-bmp n (omega arith) }

Reads-reading : GlueReadsBoth → (u : List ℕ) → All IsUnit u → Reads (reading u) u
Reads-reading both [] h = record { clean = tt; same_units = refl }
Reads-reading both (n ∷ u) h = both (n ∷ []) (reading u) (n ∷ []) u (Reads-unit n (h 0 n (omega arith)))
    (Reads-reading both u (λ k d l. h (suc k) d (omega arith)))

-- a reading of the units is their `reading`
pub reading-unique : UnitsHaveOneReading → ReadingsAreOfUnits → GlueReadsBoth → (c u : List ℕ) → Reads c u → c ≡ reading u
reading-unique one of_units both c u h =
    let all = of_units c u h in
    let only = one u all in only.no_other c h ∙ sym (only.no_other (reading u) (Reads-reading both u all))
