-- Numbered strings, and the chains by hash that find them.
use Rattle.std.specs.Prelude.{◌≡◌, ℕ, ◌+◌, ◌*◌, ◌%◌, ◌^◌, ◌<◌, ◌≤◌, List, [], ◌∷◌, length, map, slice_get, Some, unwrap_or, nat_eq}
use Rattle.std.specs.HashMap.{HashMap, get}
use Rattle.wtf8.specs.UnitString.{UnitString}

-- The units of each string of a list.
abbrev pub units_of_strings : List UnitString → List (List ℕ)
units_of_strings strings = map (λ s. s.units) strings

-- The hash `h` updated with each of the units in turn (Java, "String.hashCode").
abbrev pub hash_with : ℕ → List ℕ → ℕ
hash_with h [] = h
hash_with h (unit ∷ units) = hash_with ((h * 31 % 2 ^ 32 + unit) % 2 ^ 32) units

-- The hash of a list of units (Java, "String.hashCode").
unfoldable pub hash_of : List ℕ → ℕ
hash_of units = hash_with 0 units

-- Of the first `limit` lists, the last one with the hash has index `head - 1`, or none has it if `head` is 0.
pub record IsChainHead (lists : List (List ℕ)) (hash limit head : ℕ) : Type 0 where
  pub within : head ≤ limit
  pub before : (k : ℕ) (u : List ℕ) → k < limit → slice_get lists k ≡ Some u → hash_of u ≡ hash → k < head
  pub last : (k : ℕ) (u : List ℕ) → k + 1 ≡ head → slice_get lists k ≡ Some u → hash_of u ≡ hash

-- The lists are distinct. `heads` has for each hash the head of its chain in all lists, 0 if missing, and `nexts` for each
-- list the head of its hash's chain in the lists before it, as `IsChainHead` says.
pub record AreNumbered {S : Type 0} (heads : HashMap ℕ ℕ S) (nexts : List ℕ) (lists : List (List ℕ)) : Type 0 where
  pub distinct : (j k : ℕ) (u : List ℕ) → slice_get lists j ≡ Some u → slice_get lists k ≡ Some u → j ≡ k
  pub lengths : length nexts ≡ length lists
  pub heads_are : (h : ℕ) → IsChainHead lists h (length lists) (unwrap_or (get nat_eq heads h) 0)
  pub nexts_are : (k e : ℕ) (u : List ℕ) → slice_get lists k ≡ Some u → slice_get nexts k ≡ Some e → IsChainHead lists (hash_of u) k e
