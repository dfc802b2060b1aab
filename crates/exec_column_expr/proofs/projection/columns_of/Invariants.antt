use Rattle.std.proofs.Common.{◌≡◌, take}
use Rattle.exec_column_expr.specs.Rows.{columns_over}
use Rattle.exec_column_expr.proofs.projection.columns_of.Given as goal

abbrev pub invariant-loop-e : goal.invariant-loop-e
invariant-loop-e l = l.columns.items ≡ columns_over (take l.e-index l.es) l.batch.rows
