use Rattle.std.proofs.Common.{◌≡◌, ◌+◌, ◌++◌, length}
use Rattle.std.specs.Prelude.{option_to_list}
use Rattle.sql_binder_steps.specs.Names.{means, places}
use Rattle.sql_binder_steps.proofs.scope.the_one.Given as goal

abbrev pub invariant-columns : goal.invariant-columns
invariant-columns l = record {
  counted : l.at + length l.left ≡ length l.columns;
  same : places (means l.wanted) 0 l.columns
      ≡ option_to_list l.found ++ places (means l.wanted) l.at l.left;
}

abbrev pub decreases-columns : goal.decreases-columns
decreases-columns l = length l.left
