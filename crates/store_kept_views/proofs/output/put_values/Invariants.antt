use Rattle.std.proofs.Common.{◌≡◌}
use Rattle.std.specs.Prelude.{take}
use Rattle.base_row_laws.specs.Rows.{columns}
use Rattle.base_value.specs.declared.value.Value.TheVariants.{Null}
use Rattle.store_kept_views.specs.RowGroups.{row_of}
use Rattle.store_kept_views.proofs.output.put_values.Given as goal

abbrev pub invariant-loop-place : goal.invariant-loop-place
invariant-loop-place l = l.values.items
    ≡ columns Null (take l.place-index l.plan.list) (row_of l.plan.aggregates l.key l.group).values
