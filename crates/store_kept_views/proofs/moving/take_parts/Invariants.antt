use Rattle.std.proofs.Common.{List, [], ◌++◌}
use lib.ListN.{drop}
use Rattle.base_columns.specs.Lists.{one_list}
use Rattle.base_row_laws.specs.Ranked.{Ranked}
use Rattle.base_value.specs.declared.value.Value.{Value}
use Rattle.plan_algebra.specs.KeptPlans.{selected}
use Rattle.store_kept_views.specs.Standing.{StandsBy}
use Rattle.store_kept_views.proofs.moving.take_parts.Given as goal

abbrev pub invariant-loop-part : goal.invariant-loop-part
invariant-loop-part l = (zs : List (Ranked Value))
    → StandsBy l.plan l.initial.groups l.initial.stale [] (selected l.plan (one_list l.parts) ++ zs)
    → StandsBy l.plan l.groups l.stale [] (selected l.plan (one_list (drop l.part-index l.parts)) ++ zs)
