use Rattle.std.proofs.Common.{List, ◌++◌, cond}
use Rattle.std.specs.Prelude.{take}
use Rattle.base_columns.specs.Lists.{one_list}
use Rattle.base_row_laws.specs.Ranked.{Ranked}
use Rattle.base_value.specs.declared.value.Value.{Value}
use Rattle.plan_algebra.specs.KeptPlans.{selected}
use Rattle.store_kept_views.specs.Standing.{StandsBy}
use Rattle.store_kept_views.proofs.moving.put_parts.Given as goal

abbrev pub invariant-loop-part : goal.invariant-loop-part
invariant-loop-part l = (xs ys : List (Ranked Value))
    → StandsBy l.plan l.initial.groups l.stale xs ys
    → StandsBy l.plan l.groups l.stale
    (cond l.wanted (xs ++ selected l.plan (one_list (take l.part-index l.parts))) xs)
    (cond l.wanted ys (ys ++ selected l.plan (one_list (take l.part-index l.parts))))
