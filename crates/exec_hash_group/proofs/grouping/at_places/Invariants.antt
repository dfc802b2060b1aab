use Rattle.std.proofs.Common.{◌≡◌, take, map}
use Rattle.base_value.specs.declared.value.Value.TheVariants.{Null}
use Rattle.base_columns.specs.Lists.{gathered}
use Rattle.exec_hash_group.proofs.grouping.at_places.Given as goal

abbrev pub invariant-loop-column : goal.invariant-loop-column
invariant-loop-column l = l.picked.items ≡ map (λ c. gathered Null c l.places) (take l.column-index l.columns)
