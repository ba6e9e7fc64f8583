-- The hash of a string.
use Rattle.std.specs.Prelude.{ℕ, List, ◌∷◌, ◌++◌}
use Rattle.std.specs.List.{fold}
use Rattle.std.specs.Hash as fed
use Rattle.std.specs.Hash.DefaultHasher as sip
use Rattle.std.specs.declared.hash.DefaultHasher.{DefaultHasher}

-- The standard library's hasher, under the key 0, after the eight bytes of each of the two numbers of a seed, the lowest byte
-- first.
abbrev pub seeded_with : ℕ → ℕ → DefaultHasher
seeded_with seed_0 seed_1 = fold sip.write sip.initial (fed.u64 seed_0 ++ fed.u64 seed_1)

-- The standard library's 64-bit hash, under the key 0, of the seed, the bytes `w` and one byte FE after them.
abbrev pub hash_of : ℕ → ℕ → List ℕ → ℕ
hash_of seed_0 seed_1 w = sip.finish (fold sip.write (seeded_with seed_0 seed_1) (w ∷ fed.u8 0xFE))
