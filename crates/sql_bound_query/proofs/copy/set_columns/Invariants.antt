use Rattle.std.proofs.Common.{◌≡◌, take}
use Rattle.sql_bound_query.proofs.copy.set_columns.Given as goal

abbrev pub invariant-loop-column : goal.invariant-loop-column
invariant-loop-column l = l.new ≡ take l.column-index l.all
