use Rattle.std.proofs.Common.{◌≡◌, ◌++◌, map, take}
use Rattle.exec_parallel_scan.specs.ExpressionGroups.{argument_of}
use Rattle.exec_parallel_scan.proofs.expression_groups.put_arguments.Given as goal

abbrev pub invariant-loop-aggregate : goal.invariant-loop-aggregate
invariant-loop-aggregate l = l.items ≡ l.initial.items ++ map argument_of (take l.aggregate-index l.aggregates)
