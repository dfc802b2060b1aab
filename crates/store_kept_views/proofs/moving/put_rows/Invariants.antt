use Rattle.std.proofs.Common.{List, ◌++◌, cond}
use Rattle.std.specs.Prelude.{take}
use Rattle.base_row_laws.specs.Ranked.{Ranked}
use Rattle.base_value.specs.declared.value.Value.{Value}
use Rattle.store_kept_views.specs.Standing.{StandsBy}
use Rattle.store_kept_views.proofs.moving.put_rows.Given as goal

abbrev pub invariant-loop-i : goal.invariant-loop-i
invariant-loop-i l = (xs ys : List (Ranked Value))
    → StandsBy l.reading.plan l.initial.groups l.stale xs ys
    → StandsBy l.reading.plan l.groups l.stale
    (cond l.wanted (xs ++ take l.i l.reading.rows) xs)
    (cond l.wanted ys (ys ++ take l.i l.reading.rows))
