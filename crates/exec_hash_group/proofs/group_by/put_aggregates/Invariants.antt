use Rattle.std.proofs.Common.{◌≡◌, ◌++◌, map, take}
use Rattle.exec_hash_group.specs.Grouping.{aggregate_column}
use Rattle.exec_hash_group.proofs.group_by.put_aggregates.Given as goal

abbrev pub invariant-loop-aggregate : goal.invariant-loop-aggregate
invariant-loop-aggregate l =
    l.columns.items ≡ l.initial.columns.items ++ map (aggregate_column l.rows.rows l.numbers l.count) (take l.aggregate-index l.aggregates)
