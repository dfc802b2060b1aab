use Rattle.std.proofs.Common.{◌≡◌, map}
use Rattle.std.specs.List.{range_with_len}
use Rattle.base_schema.specs.Tables.{column_of}
use Rattle.base_schema.proofs.table.TableName.columns.Given as goal

abbrev pub invariant-loop-place : goal.invariant-loop-place
invariant-loop-place l = l.columns.items ≡ map (column_of l.self) (range_with_len 0 l.place)
