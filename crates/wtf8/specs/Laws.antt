-- Laws of the encoding, over the definitions alone.
use Rattle.std.specs.Prelude.{◌≡◌, ℕ, ◌-◌, List, [], ◌∷◌, ◌++◌, length, take, drop, All, ◌↔◌}
use Rattle.wtf8.specs.Unicode.{IsUnit, IsCodePoint, pair}
use Rattle.wtf8.specs.Form.{IsClean, Reads, encoding, bytes, IsWellFormed, IsForm}
use Rattle.wtf8.specs.Concatenation.{MeetsAsPair, glue}
use Rattle.wtf8.specs.Order.{Before}
use Rattle.wtf8.specs.UnitPosition.{TruncatesUnits}
use Rattle.wtf8.specs.Position.{IsFront, IsBack}

-- Exactly one list has the property `P`.
pub record ExactlyOne (P : List ℕ → Type 0) : Type 0 where
  pub one : List ℕ
  pub has : P one
  pub no_other : (x : List ℕ) → P x → x ≡ one

-- Each list of units has exactly one reading.
abbrev pub UnitsHaveOneReading : Type 0
UnitsHaveOneReading = (u : List ℕ) → All IsUnit u → ExactlyOne (λ c. Reads c u)

-- A list that has a reading consists of code units.
abbrev pub ReadingsAreOfUnits : Type 0
ReadingsAreOfUnits = (c u : List ℕ) → Reads c u → All IsUnit u

-- Each list of units has exactly one form.
abbrev pub UnitsHaveOneForm : Type 0
UnitsHaveOneForm = (u : List ℕ) → All IsUnit u → ExactlyOne (λ w. IsForm w u)

-- Well-formed bytes are the form of exactly one list of units.
abbrev pub FormsAreOfOneList : Type 0
FormsAreOfOneList = (w : List ℕ) → IsWellFormed w → ExactlyOne (λ u. IsForm w u)

-- Two forms are equal if and only if their units are equal.
abbrev pub EqualFormsHaveEqualUnits : Type 0
EqualFormsHaveEqualUnits = (w v a b : List ℕ) → IsForm w a → IsForm v b → (w ≡ v) ↔ (a ≡ b)

-- No encoding of a code point is a prefix of the encoding of another.
abbrev pub NoEncodingBeginsAnother : Type 0
NoEncodingBeginsAnother = (p q : ℕ) (r : List ℕ) → IsCodePoint p → IsCodePoint q → encoding q ≡ encoding p ++ r → p ≡ q

-- Bytes that begin with the encoding of a code point determine that code point and the bytes after it.
abbrev pub BytesBeginWithOnePoint : Type 0
BytesBeginWithOnePoint = (p q : ℕ) (r s : List ℕ) → IsCodePoint p → IsCodePoint q → encoding p ++ r ≡ encoding q ++ s → (p ≡ q) × (r ≡ s)

-- Lists of code points, clean or not, have equal bytes if and only if they are equal.
abbrev pub EqualBytesAreOfEqualPoints : Type 0
EqualBytesAreOfEqualPoints = (c d : List ℕ) → (bytes c ≡ bytes d) ↔ (c ≡ d)

-- The bytes of two lists of code points, clean or not, are ordered as the lists are.
abbrev pub ByteOrderIsPointOrder : Type 0
ByteOrderIsPointOrder = (c d : List ℕ) → Before (bytes c) (bytes d) ↔ Before c d

-- Gluing two lists that meet as a pair replaces the lead and the trail by the code point of the pair.
abbrev pub GlueMakesPair : Type 0
GlueMakesPair = (c d : List ℕ) (m : MeetsAsPair c d) → glue c d ≡ m.front ++ pair m.lead m.trail ∷ m.rest

-- Gluing two lists that do not meet as a pair concatenates them.
abbrev pub GlueKeepsOthers : Type 0
GlueKeepsOthers = (c d : List ℕ) → ¬ (MeetsAsPair c d) → glue c d ≡ c ++ d

-- Two readings, glued, are a reading of the concatenation of their units.
abbrev pub GlueReadsBoth : Type 0
GlueReadsBoth = (c d a b : List ℕ) → Reads c a → Reads d b → Reads (glue c d) (a ++ b)

-- The bytes of two readings, glued, are the form of the concatenation of their units.
abbrev pub GlueFormsBoth : Type 0
GlueFormsBoth = (w v a b : List ℕ) (x : IsForm w a) (y : IsForm v b) → IsForm (bytes (glue x.points y.points)) (a ++ b)

-- If a lead at the end of `a` meets a trail at the start of `b`, the form of `a` and then `b` is the form of `a`
-- without its last three bytes, the bytes of the pair, and the form of `b` without its first three.
abbrev pub PairFormsBoth : Type 0
PairFormsBoth = (w v a b : List ℕ) → IsForm w a → IsForm v b → (m : MeetsAsPair a b)
    → IsForm ((take (length w - 3) w ++ encoding (pair m.lead m.trail)) ++ drop 3 v) (a ++ b)

-- If `a` and `b` do not meet as a pair, the form of `a` and then `b` is the form of `a` followed by the form of `b`.
abbrev pub OthersFormBoth : Type 0
OthersFormBoth = (w v a b : List ℕ) → IsForm w a → IsForm v b → ¬ (MeetsAsPair a b) → IsForm (w ++ v) (a ++ b)

-- Gluing clean lists is associative.
abbrev pub GlueIsAssociative : Type 0
GlueIsAssociative = (c d e : List ℕ) → IsClean c → IsClean d → IsClean e → glue (glue c d) e ≡ glue c (glue d e)

-- Gluing the empty list before a list changes nothing.
abbrev pub EmptyFrontIsNeutral : Type 0
EmptyFrontIsNeutral = (c : List ℕ) → glue [] c ≡ c

-- Gluing the empty list after a list changes nothing.
abbrev pub EmptyBackIsNeutral : Type 0
EmptyBackIsNeutral = (c : List ℕ) → glue c [] ≡ c

-- The units before a code point boundary, followed by the units after it, are the whole.
abbrev pub FrontAndBackAreWhole : Type 0
FrontAndBackAreWhole = (u a b : List ℕ) (k : ℕ) → IsFront u k a → IsBack u k b → a ++ b ≡ u

-- The first units, which a truncation keeps, followed by the rest are the whole, also if a pair is divided.
abbrev pub FirstUnitsAndRestAreWhole : Type 0
FirstUnitsAndRestAreWhole = (u v : List ℕ) (n : ℕ) → TruncatesUnits u n v 0 → v ++ drop n u ≡ u
