-- The parts of keys by their hashes, and where the keys of a part first stand among all keys.
use Rattle.std.specs.Prelude.{◌≡◌, ℕ, ◌-◌, ◌/◌, ◌<◌, ◌^◌, ◌==◌, List, [], Bool, map, length}
use Rattle.std.specs.Prelude.{bit_and, slice_index_or}
use Rattle.std.specs.List.{filter, fold}
use Rattle.std.specs.declared.hash.FoldHasher.{FoldHasher}
use Rattle.std.specs.Hash.FoldHasher.{initial, write, finish}
use Rattle.base_row_laws.specs.Numbers.{place_in}

-- the hash of a key that is fed to a hasher
abbrev pub hash_from : {K : Type 0} → (K → List (List ℕ)) → FoldHasher → K → ℕ
hash_from fed hasher key = finish (fold write hasher (fed key))

-- the part of a key among `count`, a power of two: the lower bits of its hash's upper half
abbrev pub key_part : {K : Type 0} → (K → List (List ℕ)) → ℕ → K → ℕ
key_part fed count key = bit_and (hash_from fed initial key / 2 ^ 32) (count - 1)

-- the keys of a part
abbrev pub part_of_keys : {K : Type 0} → (K → ℕ) → List K → ℕ → List K
part_of_keys part_of keys part = filter (λ key. part_of key == part) keys

-- for each key of a part the place at which it first stands among all keys
abbrev pub leaders_of_part : {K : Type 0} → (K → K → Bool) → (K → ℕ) → List K → ℕ → List ℕ
leaders_of_part same part_of keys part = map (place_in same keys) (part_of_keys part_of keys part)

-- these lists are the first places of the keys of the parts, part by part
abbrev pub AreLeaders : {K : Type 0} → (K → K → Bool) → (K → ℕ) → List K → List (List ℕ) → Type 0
AreLeaders same part_of keys lists = (part : ℕ) → part < length lists
    → slice_index_or lists part [] ≡ leaders_of_part same part_of keys part
