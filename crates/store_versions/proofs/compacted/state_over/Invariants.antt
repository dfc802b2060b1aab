use Rattle.std.proofs.Common.{◌≡◌, map, take}
use Rattle.base_columns.specs.Lists.{one_list}
use Rattle.store_versions.proofs.compacted.state_over.Given as goal

abbrev pub invariant-loop-segments : goal.invariant-loop-segments
invariant-loop-segments l =
    l.all.items ≡ map (λ segments. one_list segments.items) (take l.segments-index l.tables)
