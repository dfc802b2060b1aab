use Rattle.std.proofs.Common.{List, [], ◌++◌}
use lib.ListN.{drop}
use Rattle.base_row_laws.specs.Ranked.{Ranked}
use Rattle.base_value.specs.declared.value.Value.{Value}
use Rattle.store_kept_views.specs.Standing.{StandsBy}
use Rattle.store_kept_views.proofs.moving.take_rows.Given as goal

abbrev pub invariant-loop-i : goal.invariant-loop-i
invariant-loop-i l = (zs : List (Ranked Value))
    → StandsBy l.reading.plan l.initial.groups l.initial.stale [] (l.reading.rows ++ zs)
    → StandsBy l.reading.plan l.groups l.stale [] (drop l.i l.reading.rows ++ zs)
