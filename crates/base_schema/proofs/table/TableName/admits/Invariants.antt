use Rattle.std.proofs.Common.{◌≡◌, true, take}
use Rattle.std.specs.Cmp.Lexicographic.{pointwise}
use Rattle.base_schema.specs.Kinds.{can_hold}
use Rattle.base_schema.specs.Tables.{columns_of}
use Rattle.base_schema.proofs.table.TableName.admits.Given as goal

abbrev pub invariant-loop-place : goal.invariant-loop-place
invariant-loop-place l = pointwise can_hold (take l.place (columns_of l.self)) (take l.place l.row) ≡ true
