-- What comes of a group when one of its rows is taken out.
use Rattle.std.specs.Prelude.{◌≡◌, ◌<◌, List, true, false, cond, Option, Some, None, ◌⊎◌}
use Rattle.base_value.specs.declared.value.Value.{Value}
use Rattle.store_groups.specs.declared.entry.Taken.{Taken}
use Rattle.store_groups.specs.declared.entry.Taken.TheVariants.{Absent, Left, Gone, Faulty}
use Rattle.store_groups.specs.Groups.{Group, is_faultless, without_row}
use Rattle.store_groups.specs.Entries.{Entries, group_at, keys_of, same_key, with_group}

-- which it is of the four
abbrev pub IsTaken : List Value → Option Group → Taken → Type 0
IsTaken arguments None Absent = Unit {0}
IsTaken arguments None t = ⊥
IsTaken arguments (Some g) Absent = ⊥
IsTaken arguments (Some g) Left = (is_faultless g ≡ true) × (0 < (without_row g arguments).rows)
IsTaken arguments (Some g) Gone = (is_faultless g ≡ true) × ((without_row g arguments).rows ≡ 0)
IsTaken arguments (Some g) Faulty = is_faultless g ≡ false

-- the group of the key afterwards, if it has one
abbrev pub left_of : List Value → Option Group → Taken → Option Group
left_of arguments (Some g) Left = Some (without_row g arguments)
left_of arguments o t = None

-- the group of a key is set
abbrev pub IsSet : List Value → Option Group → Entries → Entries → Type 0
IsSet k o old new = (q : List Value) → group_at new q ≡ cond (same_key q k) o (group_at old q)

-- the same where the group lies, or after those of the other keys
abbrev pub IsSetOn : List Value → Option Group → Entries → Entries → Type 0
IsSetOn k o old new = (new ≡ with_group k o old) ⊎ ((keys_of new ≡ keys_of old) × IsSet k o old new)
