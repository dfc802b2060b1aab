-- Keys with their groups, and how one key's group changes.
use Rattle.std.specs.Prelude.{◌≡◌, ℕ, List, [], ◌∷◌, ◌++◌, Bool, not, true, length, map}
use Rattle.std.specs.Prelude.{Option, Some, None}
use Rattle.std.specs.List.{filter, fold}
use Rattle.std.specs.Hash.FoldHasher.{initial, write, finish}
use Rattle.std.specs.Map.{lookup}
use Rattle.base_row_laws.specs.Rows.{same_row}
use Rattle.base_value.specs.declared.value.Value.{Value}
use Rattle.base_value.specs.Value.{same_value}
use Rattle.store_groups.specs.Groups.{Group, HasRow, is_faultless, no_rows}

-- whether two keys are identical
abbrev pub same_key : List Value → List Value → Bool
same_key = same_row same_value

-- the hash of a key that is fed to a hasher
abbrev pub hash_in : {K : Type 0} → (K → List (List ℕ)) → K → ℕ
hash_in fed key = finish (fold write initial (fed key))

-- a number is that hash
pub record IsHash (fed : List Value → List (List ℕ)) (hash : ℕ) (key : List Value) : Type 0 where
  pub is : hash ≡ hash_in fed key

-- keys with their groups
abbrev pub Entries : Type 0
Entries = List (List Value × Group)

-- their keys
abbrev pub keys_of : Entries → List (List Value)
keys_of es = map (λ e. e.0) es

-- the group of a key, if it has one
abbrev pub group_at : Entries → List Value → Option Group
group_at es q = lookup (same_key q) es

-- the entries of other keys
abbrev pub without_key : List Value → Entries → Entries
without_key k es = filter (λ e. not (same_key k e.0)) es

-- the entries of other keys, and then this group of the key, if it has one
abbrev pub with_group : List Value → Option Group → Entries → Entries
with_group k None es = without_key k es
with_group k (Some g) es = without_key k es ++ (k, g) ∷ []

-- the group, or that of no rows, with so many cells
abbrev pub or_empty : ℕ → Option Group → Group
or_empty count None = no_rows count
or_empty count (Some g) = g

-- a group that is there has so many cells
abbrev pub HasLong : ℕ → Option Group → Type 0
HasLong count None = Unit {0}
HasLong count (Some g) = count ≡ length g.cells

-- a row of these arguments may be taken out of a group that is there, unless it holds a fault
abbrev pub CanTake : List Value → Option Group → Type 0
CanTake arguments None = Unit {0}
CanTake arguments (Some g) = (length arguments ≡ length g.cells)
    × (is_faultless g ≡ true → HasRow g arguments)
