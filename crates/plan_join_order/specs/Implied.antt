-- Conditions that others imply.
use Rattle.std.specs.Prelude.{◌≡◌, ◌≤◌, List, min}
use Rattle.base_value.specs.declared.value.Value.{Value}
use Rattle.expr_scalar.specs.declared.expr.Expr.{Expr}
use Rattle.expr_conditions.specs.Ranks.{rank_of, all_rank}

-- es say of each row at most what new say
pub record AreImplied (es new : List Expr) : Type 0 where
  pub says : (row : List Value) → all_rank es row ≤ all_rank new row

-- what was put, beside the old ones, says of each row at least what e says
pub record PutImplied (e : Expr) (old new : List Expr) : Type 0 where
  pub says : (row : List Value) → min (all_rank old row) (rank_of e row) ≤ all_rank new row

-- es and new say the same of each row
pub record SaysSame (es new : List Expr) : Type 0 where
  pub says : (row : List Value) → all_rank es row ≡ all_rank new row
