-- The columns that an expression uses.
use Rattle.std.specs.Prelude.{◌≡◌, ℕ, List, [], ◌∷◌, ◌++◌, map}
use Rattle.base_value.specs.declared.value.Value.{Value}
use Rattle.expr_scalar.specs.declared.expr.Branch.{Branch}
use Rattle.expr_scalar.specs.declared.expr.Expr.{Expr, Expr-F}
use Rattle.expr_scalar.specs.declared.expr.Expr.TheOpen.{Branch-F, Operation-F, Column, Literal}
use Rattle.expr_scalar.specs.declared.expr.Expr.TheOpen.{Negative, Arithmetic, Case, Extract}
use Rattle.expr_scalar.specs.declared.expr.Expr.TheOpen.{Substring, Compare, Between, Like, InList}
use Rattle.expr_scalar.specs.declared.expr.Expr.TheOpen.{IsNull, Not, All, Any, IsMarked}
use Rattle.expr_scalar.specs.declared.expr.Expr.TheFolds.{fold-Expr, fold-Branch, fold-Operation}
use Rattle.expr_scalar.specs.declared.expr.Operation.{Operation}
use Rattle.expr_scalar.specs.Meaning.{value, truth}
use Rattle.expr_scalar.specs.Rename.{gathered}

-- the lists, one after the other
abbrev pub one_list : List (List ℕ) → List ℕ
one_list [] = []
one_list (places ∷ more) = places ++ one_list more

-- the places that a node uses, from those that its parts use, from left to right
abbrev pub used_step : Expr-F (List ℕ) (List ℕ) (List ℕ) → List ℕ
used_step (Column place) = place ∷ []
used_step (Literal v) = []
used_step (Negative e) = e
used_step (Arithmetic first operations) = first ++ one_list operations
used_step (Case scale branches other) = one_list branches ++ other
used_step (Extract part e) = e
used_step (Substring e from count) = e
used_step (Compare comparison a b) = a ++ b
used_step (Between e low high) = e ++ low ++ high
used_step (Like e pattern) = e
used_step (InList e es) = e ++ one_list es
used_step (IsNull e) = e
used_step (Not e) = e
used_step (All es) = one_list es
used_step (Any es) = one_list es
used_step (IsMarked e) = e

-- the places that a branch uses: its condition's, then those of what it gives
abbrev pub branch_used_step : Branch-F (List ℕ) (List ℕ) (List ℕ) → List ℕ
branch_used_step b = b.when ++ b.gives

-- the places that an operation uses: its operand's
abbrev pub operation_used_step : Operation-F (List ℕ) (List ℕ) (List ℕ) → List ℕ
operation_used_step o = o.operand

-- the places of the columns that an expression uses, once for each use
unfoldable pub used : Expr → List ℕ
used = fold-Expr (List ℕ) (List ℕ) (List ℕ) used_step branch_used_step operation_used_step

-- the same of a branch
unfoldable pub branch_used : Branch → List ℕ
branch_used = fold-Branch (List ℕ) (List ℕ) (List ℕ) used_step branch_used_step operation_used_step

-- the same of an operation
unfoldable pub operation_used : Operation → List ℕ
operation_used =
    fold-Operation (List ℕ) (List ℕ) (List ℕ) used_step branch_used_step operation_used_step

-- the same of expressions, one after the other
unfoldable pub all_used : List Expr → List ℕ
all_used es = one_list (map used es)

-- the same of branches
unfoldable pub branches_used : List Branch → List ℕ
branches_used bs = one_list (map branch_used bs)

-- the same of operations
unfoldable pub operations_used : List Operation → List ℕ
operations_used operations = one_list (map operation_used operations)

-- two rows have the same values at these places
abbrev pub SameAt : List ℕ → List Value → List Value → Type 0
SameAt places row other = gathered places row ≡ gathered places other

-- Over rows with the same values at the columns that an expression uses, it means the same.
abbrev pub UsedColumnsDecide : Type 0
UsedColumnsDecide = (e : Expr) (row other : List Value) → SameAt (used e) row other
    → (value e row ≡ value e other) × (truth e row ≡ truth e other)
