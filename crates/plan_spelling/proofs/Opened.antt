-- The spelling of an expression, node by node.
use Rattle.std.proofs.Common.{◌≡◌, ℕ, List, [], ◌∷◌, map, ap, ◌∙◌}
use Rattle.base_value.specs.declared.value.Value.{Value}
use Rattle.expr_operators.specs.declared.operator.Comparison.{Comparison}
use Rattle.expr_operators.specs.declared.operator.DatePart.{DatePart}
use Rattle.expr_scalar.specs.declared.expr.Branch.{Branch}
use Rattle.expr_scalar.specs.declared.expr.Expr.{Expr, Expr-F, out-Expr}
use Rattle.expr_scalar.specs.declared.expr.Expr.TheFolds.{fold_out-Expr, fold_out-Branch, fold_out-Operation, map-Expr}
use Rattle.expr_scalar.specs.declared.expr.Expr.TheVariants as e
use Rattle.expr_scalar.specs.declared.expr.Operation.{Operation}
use Rattle.plan_spelling.specs.Exprs.{arithmetic_number, branch_spelling, branch_step, comparison_number, expr_spelling, expr_step, operation_spelling, operation_step, part_number, spelled, value_numbers}

abbrev spelling_at : Expr-F Expr Branch Operation → List ℕ
spelling_at x = expr_step (map-Expr Expr Branch Operation (List ℕ) (List ℕ) (List ℕ) expr_spelling branch_spelling operation_spelling x)

spelling_is : (a : Expr) → expr_spelling a ≡ spelling_at (out-Expr a)
unfolding expr_spelling branch_spelling operation_spelling
spelling_is = fold_out-Expr (List ℕ) (List ℕ) (List ℕ) expr_step branch_step operation_step

pub spelling_Branch : (b : Branch) → branch_spelling b ≡ spelled (16 ∷ []) (expr_spelling b.when ∷ expr_spelling b.gives ∷ [])
unfolding expr_spelling branch_spelling operation_spelling
spelling_Branch = fold_out-Branch (List ℕ) (List ℕ) (List ℕ) expr_step branch_step operation_step

pub spelling_Operation : (o : Operation) → operation_spelling o ≡ spelled (17 ∷ arithmetic_number o.operator ∷ []) (expr_spelling o.operand ∷ [])
unfolding expr_spelling branch_spelling operation_spelling
spelling_Operation = fold_out-Operation (List ℕ) (List ℕ) (List ℕ) expr_step branch_step operation_step

pub spelling_Column : (place : ℕ) → expr_spelling (e.Column place) ≡ spelled (0 ∷ place ∷ []) []
spelling_Column place = spelling_is (e.Column place) ∙ ap spelling_at (e.outs-Column place)

pub spelling_Literal : (v : Value) → expr_spelling (e.Literal v) ≡ spelled (1 ∷ value_numbers v) []
spelling_Literal v = spelling_is (e.Literal v) ∙ ap spelling_at (e.outs-Literal v)

pub spelling_Negative : (a : Expr) → expr_spelling (e.Negative a) ≡ spelled (2 ∷ []) (expr_spelling a ∷ [])
spelling_Negative a = spelling_is (e.Negative a) ∙ ap spelling_at (e.outs-Negative a)

pub spelling_Arithmetic : (a : Expr) (os : List Operation) → expr_spelling (e.Arithmetic a os) ≡ spelled (3 ∷ []) (expr_spelling a ∷ map operation_spelling os)
spelling_Arithmetic a os = spelling_is (e.Arithmetic a os) ∙ ap spelling_at (e.outs-Arithmetic a os)

pub spelling_Case : (scale : ℕ) (bs : List Branch) (a : Expr) → expr_spelling (e.Case scale bs a) ≡ spelled (4 ∷ scale ∷ []) (expr_spelling a ∷ map branch_spelling bs)
spelling_Case scale bs a = spelling_is (e.Case scale bs a) ∙ ap spelling_at (e.outs-Case scale bs a)

pub spelling_Extract : (part : DatePart) (a : Expr) → expr_spelling (e.Extract part a) ≡ spelled (5 ∷ part_number part ∷ []) (expr_spelling a ∷ [])
spelling_Extract part a = spelling_is (e.Extract part a) ∙ ap spelling_at (e.outs-Extract part a)

pub spelling_Substring : (a : Expr) (from count : ℕ) → expr_spelling (e.Substring a from count) ≡ spelled (6 ∷ from ∷ count ∷ []) (expr_spelling a ∷ [])
spelling_Substring a from count = spelling_is (e.Substring a from count) ∙ ap spelling_at (e.outs-Substring a from count)

pub spelling_Compare : (comparison : Comparison) (a b : Expr) → expr_spelling (e.Compare comparison a b) ≡ spelled (7 ∷ comparison_number comparison ∷ []) (expr_spelling a ∷ expr_spelling b ∷ [])
spelling_Compare comparison a b = spelling_is (e.Compare comparison a b) ∙ ap spelling_at (e.outs-Compare comparison a b)

pub spelling_Between : (a b d : Expr) → expr_spelling (e.Between a b d) ≡ spelled (8 ∷ []) (expr_spelling a ∷ expr_spelling b ∷ expr_spelling d ∷ [])
spelling_Between a b d = spelling_is (e.Between a b d) ∙ ap spelling_at (e.outs-Between a b d)

pub spelling_Like : (a : Expr) (pattern : List ℕ) → expr_spelling (e.Like a pattern) ≡ spelled (9 ∷ pattern) (expr_spelling a ∷ [])
spelling_Like a pattern = spelling_is (e.Like a pattern) ∙ ap spelling_at (e.outs-Like a pattern)

pub spelling_InList : (a : Expr) (es : List Expr) → expr_spelling (e.InList a es) ≡ spelled (10 ∷ []) (expr_spelling a ∷ map expr_spelling es)
spelling_InList a es = spelling_is (e.InList a es) ∙ ap spelling_at (e.outs-InList a es)

pub spelling_IsNull : (a : Expr) → expr_spelling (e.IsNull a) ≡ spelled (11 ∷ []) (expr_spelling a ∷ [])
spelling_IsNull a = spelling_is (e.IsNull a) ∙ ap spelling_at (e.outs-IsNull a)

pub spelling_Not : (a : Expr) → expr_spelling (e.Not a) ≡ spelled (12 ∷ []) (expr_spelling a ∷ [])
spelling_Not a = spelling_is (e.Not a) ∙ ap spelling_at (e.outs-Not a)

pub spelling_All : (es : List Expr) → expr_spelling (e.All es) ≡ spelled (13 ∷ []) (map expr_spelling es)
spelling_All es = spelling_is (e.All es) ∙ ap spelling_at (e.outs-All es)

pub spelling_Any : (es : List Expr) → expr_spelling (e.Any es) ≡ spelled (14 ∷ []) (map expr_spelling es)
spelling_Any es = spelling_is (e.Any es) ∙ ap spelling_at (e.outs-Any es)

pub spelling_IsMarked : (a : Expr) → expr_spelling (e.IsMarked a) ≡ spelled (15 ∷ []) (expr_spelling a ∷ [])
spelling_IsMarked a = spelling_is (e.IsMarked a) ∙ ap spelling_at (e.outs-IsMarked a)
