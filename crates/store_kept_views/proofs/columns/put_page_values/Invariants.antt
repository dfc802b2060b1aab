use Rattle.std.proofs.Common.{◌≡◌, ◌++◌}
use Rattle.std.specs.Prelude.{take, map}
use Rattle.store_kept_views.specs.Output.{value_in}
use Rattle.store_kept_views.proofs.columns.put_page_values.Given as goal

abbrev pub invariant-loop-i : goal.invariant-loop-i
invariant-loop-i l = l.builder ≡ l.initial.builder ++ map (value_in l.plan l.place) (take l.i l.page)
