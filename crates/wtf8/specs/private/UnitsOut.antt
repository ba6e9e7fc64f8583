-- The part of a view that is left to decode: whether its units fit the slice, and what was written of them.
use Rattle.std.specs.Prelude.{◌≡◌, ℕ, ◌+◌, ◌*◌, ◌<◌, ◌≤◌, List, [], ◌++◌, length, take, replicate}
use Rattle.wtf8.specs.View.{view_units}
use Rattle.wtf8.specs.private.EncodedBytes.{Writes}
use Rattle.wtf8.specs.declared.units.writing.Undecoded.{Undecoded}

-- The slice has room for all units that are left.
abbrev pub HasRoom : List ℕ → Undecoded → Type 0
HasRoom units left = left.at + length (view_units left.view) ≤ length units

-- The slice has room for all units that are left and for stores of a block, which reach 32 units further, while `least`
-- bytes are left, which have a third of `least` units.
abbrev pub HasRoomFrom : List ℕ → Undecoded → ℕ → Type 0
HasRoomFrom units left least =
    HasRoom units left × (3 * (left.at + length (view_units left.view)) + 128 ≤ 3 * length units + least)

-- `rest` is left of `left`, and the units before it were written to the slice `old`, which became `new`.
abbrev pub Decodes : List ℕ → Undecoded → List ℕ → Undecoded → Type 0
Decodes old left new rest = Writes old left.at (view_units left.view) new rest.at (view_units rest.view)

-- `block` is the first 32 of the bytes, or all of them and then `padding` zeros.
pub record IsBlock (w block : List ℕ) (padding : ℕ) : Type 0 where
  pub front : block ≡ take 32 (w ++ replicate padding 0)
  pub fills : 32 ≤ length w + padding
  pub all : 0 < padding → length w + padding ≡ 32

-- A block of the bytes that are left was decoded, all of them if `padding` zeros are after them, else one byte or more.
pub record DecodesBlock (old : List ℕ) (left : Undecoded) (padding : ℕ) (new : List ℕ) (rest : Undecoded) : Type 0 where
  pub written : Decodes old left new rest
  pub shorter : 0 < length left.view.bytes.now → length rest.view.bytes.now < length left.view.bytes.now
  pub within : length left.view.bytes.now ≤ length rest.view.bytes.now + 32
  pub all : 0 < padding → view_units rest.view ≡ []
