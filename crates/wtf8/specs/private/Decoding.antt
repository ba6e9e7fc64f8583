-- What a `DecodeUtf16` reads from an iterator of code units.
use Rattle.std.specs.Prelude.{◌≡◌, ℕ, List, map, Option, None, Result, Ok, Err, ◌⊎◌, MatchOption, MatchResult, IfSome, IsSomeAnd}
use Rattle.std.specs.declared.iter.Ahead.{Ahead}
use Rattle.std.specs.Iterator.{Yields, Drains}
use Rattle.std.specs.Iterator.Adapters.{peekable_steps, peekable_peeked, PeeksNext}
use Rattle.wtf8.specs.declared.from_utf16.decode.DecodeUtf16.{DecodeUtf16}
use Rattle.wtf8.specs.Form.{IsClean}
use Rattle.wtf8.specs.Unicode.{IsCodePoint, IsLead, IsTrail, IsSurrogate, units_of, units}

-- The code point of an item: a scalar value, or a lone surrogate.
abbrev pub point_of_item : Result ℕ ℕ → ℕ
point_of_item (Ok c) = c
point_of_item (Err u) = u

module _ {S : Type 0} (steps : S → Option ℕ → S → Type 0) where
  -- The units of the item, a scalar value or a surrogate, came off the front. The next unit may have been peeked; after
  -- a lone lead it was, and either it is no trail or no unit was left.
  pub record DecodesItem (s : Ahead S ℕ) (item : Result ℕ ℕ) (t : Ahead S ℕ) : Type 0 where
    pub kind : MatchResult item (λ c. IsCodePoint c × ¬ (IsSurrogate c)) IsSurrogate
    pub after : Ahead S ℕ
    pub taken : Yields (peekable_steps steps) s (units_of (point_of_item item)) after
    pub held : (t ≡ after) ⊎ PeeksNext steps after t
    pub lone : IsLead (point_of_item item) → IsSomeAnd (peekable_peeked t) (λ o. IfSome o (λ u. ¬ (IsTrail u)))

  -- A step yields the item at the front of the units left, or `None` if no unit is left.
  abbrev pub decode_steps : DecodeUtf16 S → Option (Result ℕ ℕ) → DecodeUtf16 S → Type 0
  decode_steps s r t = MatchOption r (peekable_steps steps s.units None t.units) (λ item. DecodesItem s.units item t.units)

  -- The items' code points are clean, and the iterator yields exactly their units and then ends.
  pub record ReadsAll (iter : S) (items : List (Result ℕ ℕ)) : Type 0 where
    pub clean : IsClean (map point_of_item items)
    pub all_units : Drains steps iter (units (map point_of_item items))
