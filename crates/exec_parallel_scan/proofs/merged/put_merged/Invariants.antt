use Rattle.std.proofs.Common.{◌≡◌, ◌++◌, map, take}
use Rattle.exec_hash_group.specs.PartGroups.{merged_column}
use Rattle.exec_parallel_scan.proofs.merged.put_merged.Given as goal

abbrev pub invariant-loop-aggregate : goal.invariant-loop-aggregate
invariant-loop-aggregate g l =
    l.columns.items ≡ l.initial.columns.items ++ map (merged_column l.parts l.numbers l.count) (take l.aggregate-index l.aggregates)
