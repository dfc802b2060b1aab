use Rattle.std.proofs.Common.{◌≡◌, take, map}
use Rattle.base_value.specs.declared.value.Value.TheVariants.{Null}
use Rattle.base_columns.specs.Lists.{gathered}
use Rattle.base_columns.proofs.batch.gather_columns.Given as goal

abbrev pub invariant-loop-column : goal.invariant-loop-column
invariant-loop-column l = l.out.items ≡ map (λ c. gathered Null c l.places) (take l.column-index l.columns)
