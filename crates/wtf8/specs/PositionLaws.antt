-- Laws of byte positions and lengths, over the definitions alone.
use Rattle.std.specs.Prelude.{◌≡◌, ℕ, ◌+◌, ◌*◌, ◌<◌, ◌≤◌, ◌↔◌, List, ◌∷◌, ◌++◌, ◌≢◌, length, slice_index}
use Rattle.std.specs.List.{All}
use Rattle.wtf8.specs.Unicode.{units}
use Rattle.wtf8.specs.Form.{encoding, bytes, IsForm}
use Rattle.wtf8.specs.Position.{IsBoundary, IsFront, IsBack}
use Rattle.wtf8.specs.UnitPosition.{DividesPair}

-- The start of a string is a code point boundary.
abbrev pub StartIsBoundary : Type 0
StartIsBoundary = (w u : List ℕ) → IsForm w u → IsBoundary u 0

-- The end of a string is a code point boundary.
abbrev pub EndIsBoundary : Type 0
EndIsBoundary = (w u : List ℕ) → IsForm w u → IsBoundary u (length w)

-- No code point boundary is past the end of the string.
abbrev pub NoneIsBeyondEnd : Type 0
NoneIsBeyondEnd = (w u : List ℕ) (k : ℕ) → IsForm w u → IsBoundary u k → k ≤ length w

-- Both sides of a byte below 0x80 are code point boundaries.
abbrev pub AsciiIsBetweenBoundaries : Type 0
AsciiIsBetweenBoundaries =
    (w u : List ℕ) (k : ℕ) → IsForm w u → k < length w → slice_index w k < 0x80 → IsBoundary u k × IsBoundary u (k + 1)

-- A byte below 0x80 is one unit of its own value, between the units before it and the units after it.
abbrev pub AsciiIsOneUnit : Type 0
AsciiIsOneUnit = (w u f g : List ℕ) (k : ℕ) → IsForm w u → k < length w → slice_index w k < 0x80 → IsFront u k f → IsBack u (k + 1) g
    → u ≡ f ++ slice_index w k ∷ g

-- A number below 0x80 that does not occur among the bytes does not occur among the units.
abbrev pub AsciiIsNoOtherUnit : Type 0
AsciiIsNoOtherUnit = (w u : List ℕ) (b : ℕ) → IsForm w u → b < 0x80 → All (λ x. x ≢ b) w → All (λ x. x ≢ b) u

-- A boundary of the part before a cut is a boundary of the whole.
abbrev pub FrontBoundariesAreOfWhole : Type 0
FrontBoundariesAreOfWhole = (u v : List ℕ) (k m : ℕ) → IsFront u k v → IsBoundary v m → IsBoundary u m

-- A boundary of the whole at or before a cut is a boundary of the part before the cut.
abbrev pub WholeBoundariesAreOfFront : Type 0
WholeBoundariesAreOfFront = (u v : List ℕ) (k m : ℕ) → IsFront u k v → m ≤ k → IsBoundary u m → IsBoundary v m

-- A boundary of the whole at or after a cut, counted from the cut, is a boundary of the part after the cut.
abbrev pub WholeBoundariesAreOfBack : Type 0
WholeBoundariesAreOfBack = (u v : List ℕ) (k m : ℕ) → IsBack u k v → IsBoundary u (k + m) → IsBoundary v m

-- A boundary of the part after a cut, counted from the start of the whole, is a boundary of the whole.
abbrev pub BackBoundariesAreOfWhole : Type 0
BackBoundariesAreOfWhole = (u v : List ℕ) (k m : ℕ) → IsBack u k v → IsBoundary v m → IsBoundary u (k + m)

-- Two boundaries are equal if and only if the units before them are.
abbrev pub EqualBoundariesHaveEqualFronts : Type 0
EqualBoundariesHaveEqualFronts = (u v x : List ℕ) (k l : ℕ) → IsFront u k v → IsFront u l x → (k ≡ l) ↔ (v ≡ x)

-- One boundary is at or before another if and only if there are no more units before it.
abbrev pub BoundariesAreInOneOrder : Type 0
BoundariesAreInOneOrder = (u v x : List ℕ) (k l : ℕ) → IsFront u k v → IsFront u l x → (k ≤ l) ↔ (length v ≤ length x)

-- A cut at a boundary divides no pair.
abbrev pub BoundariesDivideNoPair : Type 0
BoundariesDivideNoPair = (u v : List ℕ) (k : ℕ) → IsFront u k v → ¬ (DividesPair u (length v))

-- The form of a prefix of the units is no longer than the form of all of them.
abbrev pub BeginningsAreNoLonger : Type 0
BeginningsAreNoLonger = (w x u v : List ℕ) → IsForm w u → IsForm x (u ++ v) → length w ≤ length x

-- The form of two lists, concatenated, is no longer than their two forms together.
abbrev pub BothAreNoLonger : Type 0
BothAreNoLonger = (w v x a b : List ℕ) → IsForm w a → IsForm v b → IsForm x (a ++ b) → length x ≤ length w + length v

-- The encoding of a code point has one to four bytes.
abbrev pub PointsHaveOneToFourBytes : Type 0
PointsHaveOneToFourBytes = (p : ℕ) → (1 ≤ length (encoding p)) × (length (encoding p) ≤ 4)

-- No more code points than units, no more units than bytes, at most 3 bytes for each unit and 4 for each code point.
pub record Lengths (c : List ℕ) : Type 0 where
  pub points : length c ≤ length (units c)
  pub units_least : length (units c) ≤ length (bytes c)
  pub units_most : length (bytes c) ≤ 3 * length (units c)
  pub bytes_most : length (bytes c) ≤ 4 * length c

-- `Lengths` holds for every list of code points.
abbrev pub ListsHaveLengths : Type 0
ListsHaveLengths = (c : List ℕ) → Lengths c
