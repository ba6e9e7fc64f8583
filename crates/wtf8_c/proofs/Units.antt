-- A unit of a string.
use Rattle.std.proofs.Common.{ℕ, ◌<◌, [], ◌∷◌, subst}
use Rattle.wtf8.specs.Appending.{HasRoomFor}
use Rattle.wtf8.specs.UnitString.{UnitString}
use Rattle.wtf8.specs.Unicode.{units_of}
use Rattle.wtf8.proofs.lemmas.codec.Readings.{units_one}

-- room for the units of a unit is room for the unit
pub room_for_unit : (s : UnitString) (unit : ℕ) → unit < 65536 → HasRoomFor s (units_of unit) → HasRoomFor s (unit ∷ [])
room_for_unit s unit below room = subst (HasRoomFor s) (units_one unit below) room
