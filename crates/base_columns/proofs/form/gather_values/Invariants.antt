use Rattle.std.proofs.Common.{◌≡◌, take}
use Rattle.base_value.specs.declared.value.Value.TheVariants.{Null}
use Rattle.base_columns.specs.Lists.{gathered}
use Rattle.base_columns.specs.Shown.{shown}
use Rattle.base_columns.proofs.form.gather_values.Given as goal

abbrev pub invariant-loop-place : goal.invariant-loop-place
invariant-loop-place l = l.values.items ≡ gathered Null (shown l.form) (take l.place-index l.places)
