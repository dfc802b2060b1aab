use Rattle.std.proofs.Common.{◌≡◌, ◌++◌}
use Rattle.std.specs.Prelude.{take, map}
use Rattle.base_value.specs.declared.value.Value.TheVariants.{Number}
use Rattle.store_kept_views.specs.Output.{value_in}
use Rattle.store_kept_views.proofs.columns.put_numbers.Given as goal

abbrev pub invariant-loop-i : goal.invariant-loop-i
invariant-loop-i l = map (Number l.scale) l.numbers.items ≡ map (Number l.scale) l.initial.numbers.items ++ map (value_in l.plan l.place) (take l.i l.page)
