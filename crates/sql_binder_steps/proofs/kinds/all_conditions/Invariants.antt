use Rattle.std.proofs.Common.{◌≡◌, length}
use Rattle.std.specs.List.{list_all}
use Rattle.sql_binder_steps.specs.Kinds.{is_condition}
use Rattle.sql_binder_steps.proofs.kinds.all_conditions.Given as goal

abbrev pub invariant-all : goal.invariant-all
invariant-all l = list_all is_condition l.fn.all ≡ list_all is_condition l.all

abbrev pub decreases-all : goal.decreases-all
decreases-all l = length l.all
