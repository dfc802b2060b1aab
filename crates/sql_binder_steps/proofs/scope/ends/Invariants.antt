use Rattle.std.proofs.Common.{◌≡◌, false, take}
use Rattle.sql_binder_steps.specs.Names.{ends}
use Rattle.sql_binder_steps.proofs.scope.ends.Given as goal

abbrev pub invariant-loop-c : goal.invariant-loop-c
invariant-loop-c l = ends l.wanted (take l.c-index l.columns) ≡ false
