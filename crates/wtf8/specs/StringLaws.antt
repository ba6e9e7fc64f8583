-- Laws of strings as contracts see them: of buffers, views and texts.
use Rattle.std.specs.Prelude.{◌≡◌, ℕ, ◌+◌, ◌-◌, ◌≤◌, List, ◌++◌, length, take, drop, ◌↔◌}
use Rattle.std.specs.Cmp.Lexicographic.{slice_cmp}
use Rattle.std.specs.Ordering.{nat_cmp, MatchOrdering}
use Rattle.std.specs.Str.{chars}
use Rattle.std.specs.declared.cmp.Ordering.TheVariants.{Equal}
use Rattle.wtf8.specs.Unicode.{pair}
use Rattle.wtf8.specs.Appending.{FitWithin, HasRoomFor}
use Rattle.wtf8.specs.Form.{encoding, bytes, IsClean, IsForm}
use Rattle.wtf8.specs.Concatenation.{MeetsAsPair}
use Rattle.wtf8.specs.Order.{Before}
use Rattle.wtf8.specs.Surrogates.{AreScalar, lossy_points}
use Rattle.wtf8.specs.UnitString.{UnitString}
use Rattle.wtf8.specs.View.{view_units}
use Rattle.wtf8.specs.declared.strings.view.Wtf8.{Wtf8}

-- Two buffers have equal bytes if and only if they have equal units.
abbrev pub EqualBuffersHaveEqualUnits : Type 0
EqualBuffersHaveEqualUnits = (s t : UnitString) → (s.bytes ≡ t.bytes) ↔ (s.units ≡ t.units)

-- A buffer and a view have equal bytes if and only if they have equal units.
abbrev pub EqualBufferAndViewHaveEqualUnits : Type 0
EqualBufferAndViewHaveEqualUnits = (s : UnitString) (t : Wtf8) → (s.bytes ≡ t.bytes.now) ↔ (s.units ≡ view_units t)

-- Two views have equal bytes if and only if they have equal units.
abbrev pub EqualViewsHaveEqualUnits : Type 0
EqualViewsHaveEqualUnits = (s t : Wtf8) → (s.bytes.now ≡ t.bytes.now) ↔ (view_units s ≡ view_units t)

-- If `s` and `t` do not meet as a pair, a string with the units of `s` and then `t` has the bytes of `s` and then `t`.
abbrev pub StringsAreJoined : Type 0
StringsAreJoined =
    (s t both : UnitString) → both.units ≡ s.units ++ t.units → ¬ (MeetsAsPair s.units t.units) → both.bytes ≡ s.bytes ++ t.bytes

-- If a lead at the end of `s` meets a trail at the start of `t`, a string with the units of `s` and then `t` has the
-- bytes of `s` without the last three, the bytes of the pair, and the bytes of `t` without the first three.
abbrev pub StringsArePaired : Type 0
StringsArePaired = (s t both : UnitString) → both.units ≡ s.units ++ t.units → (m : MeetsAsPair s.units t.units)
    → both.bytes ≡ (take (length s.bytes - 3) s.bytes ++ encoding (pair m.lead m.trail)) ++ drop 3 t.bytes

-- Comparing the bytes of two lists of code points gives the result of comparing the lists.
abbrev pub BytesCompareAsPoints : Type 0
BytesCompareAsPoints = (c d : List ℕ) → slice_cmp nat_cmp (bytes c) (bytes d) ≡ slice_cmp nat_cmp c d

-- Comparing the bytes of two buffers gives `Equal` if and only if their units are equal.
abbrev pub EqualBuffersCompareEqual : Type 0
EqualBuffersCompareEqual = (s t : UnitString) → (slice_cmp nat_cmp s.bytes t.bytes ≡ Equal) ↔ (s.units ≡ t.units)

-- Comparing the bytes of two views gives `Equal` if and only if their units are equal.
abbrev pub EqualViewsCompareEqual : Type 0
EqualViewsCompareEqual = (s t : Wtf8) → (slice_cmp nat_cmp s.bytes.now t.bytes.now ≡ Equal) ↔ (view_units s ≡ view_units t)

-- The result of a lexicographic comparison says which list is `Before` the other, or that they are equal.
abbrev pub ComparisonIsOrder : Type 0
ComparisonIsOrder = (c d : List ℕ) → MatchOrdering (slice_cmp nat_cmp c d) (Before c d) (c ≡ d) (Before d c)

-- A string has room for units whose form is no longer than its spare capacity.
abbrev pub RoomLeftIsFound : Type 0
RoomLeftIsFound = (s : UnitString) (w v : List ℕ) → IsForm w v → length s.bytes + length w ≤ s.capacity → HasRoomFor s v

-- Making a list of scalar values lossy leaves it unchanged.
abbrev pub ScalarsStay : Type 0
ScalarsStay = (c : List ℕ) → AreScalar c → lossy_points c ≡ c

-- The form of a buffer's units is its bytes.
abbrev pub FormsAreOfBuffers : Type 0
FormsAreOfBuffers = (s : UnitString) (w u : List ℕ) → IsForm w u → s.units ≡ u → s.bytes ≡ w

-- The form of a view's units is its bytes.
abbrev pub FormsAreOfViews : Type 0
FormsAreOfViews = (t : Wtf8) (w u : List ℕ) → IsForm w u → view_units t ≡ u → t.bytes.now ≡ w

-- A string has room for units that fit within `n` bytes if its spare capacity is at least `n`.
abbrev pub WhatFitsIsFound : Type 0
WhatFitsIsFound = (s : UnitString) (v : List ℕ) (n : ℕ) → FitWithin v 0 n → length s.bytes + n ≤ s.capacity → HasRoomFor s v

-- Decoding the bytes of a clean list of scalar values as UTF-8 gives that list.
abbrev pub CharactersComeBack : Type 0
CharactersComeBack = (c : List ℕ) → IsClean c → AreScalar c → chars (bytes c) ≡ c
