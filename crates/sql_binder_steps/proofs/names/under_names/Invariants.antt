use Rattle.std.proofs.Common.{◌≡◌, ◌++◌, length}
use Rattle.sql_binder_steps.specs.Parts.{under_names}
use Rattle.sql_binder_steps.proofs.names.under_names.Given as goal

abbrev pub invariant-names : goal.invariant-names
invariant-names l = under_names l.names l.headers ≡ l.all ++ under_names l.names_left l.left

abbrev pub decreases-names : goal.decreases-names
decreases-names l = length l.names_left
