-- What a map's hasher computes, by its key.
use Rattle.std.specs.Prelude.{ℕ, List}
use Rattle.std.specs.Hash.DefaultHasher as random
use Rattle.std.specs.Hash.FoldHasher as fixed
use Rattle.std.specs.RandomState.{initial_hasher}
use Rattle.cdc_keys.specs.declared.keys.HashKey.{HashKey}
use Rattle.cdc_keys.specs.declared.keys.HashKey.TheVariants as key
use Rattle.cdc_keys.specs.declared.keys.KeyedHasher.{KeyedHasher}
use Rattle.cdc_keys.specs.declared.keys.KeyedHasher.TheVariants as hasher

-- the hasher for a key
abbrev pub hasher_for : HashKey → KeyedHasher
hasher_for key.Fixed = hasher.Fixed fixed.initial
hasher_for (key.Random state) = hasher.Random (initial_hasher state)

-- it after these bytes
abbrev pub written : KeyedHasher → List ℕ → KeyedHasher
written (hasher.Fixed it) bytes = hasher.Fixed (fixed.write it bytes)
written (hasher.Random it) bytes = hasher.Random (random.write it bytes)

-- what it has computed
abbrev pub finished : KeyedHasher → ℕ
finished (hasher.Fixed it) = fixed.finish it
finished (hasher.Random it) = random.finish it
