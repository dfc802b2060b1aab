use Rattle.std.proofs.Common.{◌≡◌, ◌+◌, List, length}
use Rattle.base_value.specs.declared.value.Value.{Value}
use Rattle.store_groups.specs.Pages.{first_of}
use Rattle.store_groups.specs.Entries.{group_at}
use Rattle.store_groups.proofs.groups.Groups.put_entries.Given as goal

abbrev pub invariant-loop-i : goal.invariant-loop-i
invariant-loop-i l = (length l.entries.items + l._i ≡ length l.initial.entries.items)
    × ((q : List Value) → first_of (group_at l.entries.items q) (group_at l.self q)
    ≡ first_of (group_at l.initial.entries.items q) (group_at l.initial.self q))
