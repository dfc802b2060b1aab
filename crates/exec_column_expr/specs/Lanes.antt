-- The values of an expression: one for all rows, or one for each.
use Rattle.std.specs.Prelude.{ℕ, List, replicate}
use Rattle.base_value.specs.declared.value.Value.{Value}
use Rattle.exec_column_expr.specs.declared.operand.Kept.{Kept}
use Rattle.exec_column_expr.specs.declared.operand.Kept.TheVariants as kept
use Rattle.exec_column_expr.specs.declared.operand.Shape.{Shape}
use Rattle.exec_column_expr.specs.declared.operand.Shape.TheVariants as shape

-- one value for all rows, or one for each
pub data Lanes : Type 0 where
  One : Value → Lanes
  Each : List Value → Lanes

-- the values of n rows
abbrev pub over : ℕ → Lanes → List Value
over n (One v) = replicate n v
over n (Each vs) = vs

-- the values that an operand keeps
abbrev pub kept_lanes : Kept → Lanes
kept_lanes (kept.One v) = One v
kept_lanes (kept.Lent c) = Each c.now
kept_lanes (kept.Made c) = Each c

-- the values that are lent
abbrev pub shape_lanes : Shape → Lanes
shape_lanes (shape.One v) = One v.now
shape_lanes (shape.Each c) = Each c.now
