-- What is asked of rows whose own columns stand for a domain's.
use Rattle.std.specs.Prelude.{◌≡◌, ℕ, min, List, ◌++◌, Option, slice_index_or, IsTrue}
use Rattle.base_row_laws.specs.Ranked.{true_rank}
use Rattle.base_row_laws.specs.Rows.{columns}
use Rattle.base_value.specs.declared.value.Value.{Value}
use Rattle.base_value.specs.declared.value.Value.TheVariants.{Null}
use Rattle.base_value.specs.Truth.{truth_rank}
use Rattle.expr_operators.specs.declared.operator.Comparison.TheVariants.{Equal}
use Rattle.expr_operators.specs.Operators.{compared}
use Rattle.expr_scalar.specs.declared.expr.Expr.{Expr}
use Rattle.expr_conditions.specs.Ranks.{rank_of, all_rank}
use Rattle.plan_unnested_nodes.specs.declared.origins.Known.{Known}
use Rattle.plan_unnested_nodes.specs.PlanKinds.{ColumnKinds, can_stand, FitsKinds}

-- a row after these of its columns
abbrev pub own_row : List ℕ → List Value → List Value
own_row own t = columns Null own t ++ t

-- what stands at a place of such a row stands in this column of the row alone
abbrev pub IsAt : List ℕ → ℕ → ℕ → Type 0
IsAt own place column = (t : List Value)
    → slice_index_or (own_row own t) place Null ≡ slice_index_or t column Null

-- each value that can stand in a column is equal to itself
abbrev pub EqualsItself : Option Known → Type 0
EqualsItself known = (v : Value) → IsTrue (can_stand known v)
    → truth_rank (compared Equal v v) ≡ true_rank

-- a condition says True of each such row of these kinds
abbrev pub IsAlwaysTrue : ColumnKinds → List ℕ → Expr → Type 0
IsAlwaysTrue ks own e = (t : List Value) → FitsKinds ks t → rank_of e (own_row own t) ≡ true_rank

-- a condition was put after others, as far as such rows of these kinds can tell
pub record IsPutAsked (ks : ColumnKinds) (own : List ℕ) (e : Expr) (old new : List Expr)
    : Type 0 where
  pub says : (t : List Value) → FitsKinds ks t
      → all_rank new (own_row own t)
      ≡ min (all_rank old (own_row own t)) (rank_of e (own_row own t))

-- conditions say of such rows of these kinds what a condition says
pub record AreAsked (ks : ColumnKinds) (own : List ℕ) (c : Expr) (conditions : List Expr)
    : Type 0 where
  pub says : (t : List Value) → FitsKinds ks t
      → all_rank conditions (own_row own t) ≡ rank_of c (own_row own t)

-- conditions say of such rows of these kinds what other conditions say
pub record AreAskedOfAll (ks : ColumnKinds) (own : List ℕ) (es conditions : List Expr)
    : Type 0 where
  pub says : (t : List Value) → FitsKinds ks t
      → all_rank conditions (own_row own t) ≡ all_rank es (own_row own t)
