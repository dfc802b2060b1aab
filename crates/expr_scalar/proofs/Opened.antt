-- The definitions at each node, as a match of the code sees it.
use Rattle.std.proofs.Common.{◌≡◌, ℕ, List, [], ◌∷◌, map, refl, ap, ◌∙◌, unwrap_or, slice_index_or}
use Rattle.base_value.specs.Truth.{negated}
use Rattle.base_value.specs.declared.truth.Truth.{Truth}
use Rattle.base_value.specs.declared.truth.Truth.TheVariants.{Unknown}
use Rattle.base_value.specs.declared.value.Value.{Value}
use Rattle.base_value.specs.declared.value.Value.TheVariants.{Null}
use Rattle.expr_scalar.specs.declared.expr.Branch.{Branch}
use Rattle.expr_operators.specs.declared.operator.Comparison.{Comparison}
use Rattle.expr_operators.specs.declared.operator.DatePart.{DatePart}
use Rattle.expr_scalar.specs.declared.expr.Expr.{Expr, Expr-F, out-Expr}
use Rattle.expr_scalar.specs.declared.expr.Expr.TheVariants as e
use Rattle.expr_scalar.specs.declared.expr.Expr.TheFolds.{fold_out-Expr, fold_out-Branch, fold_out-Operation, map-Expr}
use Rattle.expr_scalar.specs.declared.expr.Operation.{Operation}
use Rattle.expr_scalar.specs.Meaning.{Meaning, BranchMeaning, OperationMeaning, expr_step, branch_step, operation_step, value_step, truth_step, meaning, branch_value, operation_value, operated, value, truth, values, truths, chosen, decided, least, greatest, in_list}
use Rattle.expr_operators.specs.Operators.{at_scale, negative, computed, extracted, part_of, compared, between, liked, null_test, truth_of_mark}

-- a node with the meanings of its parts in their place
abbrev pub with_meanings : Expr-F Expr Branch Operation → Expr-F Meaning BranchMeaning OperationMeaning
with_meanings = map-Expr Expr Branch Operation Meaning BranchMeaning OperationMeaning meaning branch_value operation_value

abbrev value_at : Expr-F Expr Branch Operation → List Value → Value
value_at x = value_step (with_meanings x)

abbrev truth_at : Expr-F Expr Branch Operation → List Value → Truth
truth_at x = truth_step (with_meanings x)

meaning_is : (e : Expr) → meaning e ≡ expr_step (with_meanings (out-Expr e))
unfolding meaning branch_value operation_value
meaning_is = fold_out-Expr Meaning BranchMeaning OperationMeaning expr_step branch_step operation_step

-- the meaning at a node
pub meaning_at : (e : Expr) (x : Expr-F Expr Branch Operation) → out-Expr e ≡ x → meaning e ≡ expr_step (with_meanings x)
meaning_at e x is = meaning_is e ∙ ap (λ n. expr_step (with_meanings n)) is

value_is : (e : Expr) (row : List Value) → value e row ≡ value_at (out-Expr e) row
unfolding value
value_is e row = ap (λ (m : Meaning). m.value row) (meaning_is e)

truth_is : (e : Expr) (row : List Value) → truth e row ≡ truth_at (out-Expr e) row
unfolding truth
truth_is e row = ap (λ (m : Meaning). m.truth row) (meaning_is e)

pub branch_is : (b : Branch) (row : List Value) → branch_value b row ≡ decided (truth b.when row) (value b.gives row)
unfolding meaning branch_value operation_value value truth
branch_is b row = ap (λ (m : BranchMeaning). m row) (fold_out-Branch Meaning BranchMeaning OperationMeaning expr_step branch_step operation_step b)

pub operation_is : (o : Operation) (x : Value) (row : List Value) → operation_value o x row ≡ computed o.operator x (value o.operand row)
unfolding meaning branch_value operation_value value
operation_is o x row = ap (λ (m : OperationMeaning). m x row) (fold_out-Operation Meaning BranchMeaning OperationMeaning expr_step branch_step operation_step o)

values_listed : (es : List Expr) (row : List Value) → map (λ (m : Meaning). m.value row) (map meaning es) ≡ values es row
unfolding values value
values_listed [] row = refl
values_listed (x ∷ es) row = ap (λ vs. value x row ∷ vs) (values_listed es row)

truths_listed : (es : List Expr) (row : List Value) → map (λ (m : Meaning). m.truth row) (map meaning es) ≡ truths es row
unfolding truths truth
truths_listed [] row = refl
truths_listed (x ∷ es) row = ap (λ ts. truth x row ∷ ts) (truths_listed es row)

pub value_Column : (place : ℕ) (row : List Value) → value (e.Column place) row ≡ slice_index_or row place Null
value_Column place row = value_is (e.Column place) row ∙ ap (λ x. value_at x row) (e.outs-Column place)

pub truth_Column : (place : ℕ) (row : List Value) → truth (e.Column place) row ≡ Unknown
truth_Column place row = truth_is (e.Column place) row ∙ ap (λ x. truth_at x row) (e.outs-Column place)

pub value_Literal : (v : Value) (row : List Value) → value (e.Literal v) row ≡ v
value_Literal v row = value_is (e.Literal v) row ∙ ap (λ x. value_at x row) (e.outs-Literal v)

pub truth_Literal : (v : Value) (row : List Value) → truth (e.Literal v) row ≡ Unknown
truth_Literal v row = truth_is (e.Literal v) row ∙ ap (λ x. truth_at x row) (e.outs-Literal v)

pub value_Negative : (a : Expr) (row : List Value) → value (e.Negative a) row ≡ negative (value a row)
unfolding value
value_Negative a row = value_is (e.Negative a) row ∙ ap (λ x. value_at x row) (e.outs-Negative a)

pub truth_Negative : (a : Expr) (row : List Value) → truth (e.Negative a) row ≡ Unknown
truth_Negative a row = truth_is (e.Negative a) row ∙ ap (λ x. truth_at x row) (e.outs-Negative a)

pub value_Arithmetic : (first : Expr) (operations : List Operation) (row : List Value) → value (e.Arithmetic first operations) row ≡ operated (value first row) operations row
unfolding value operated
value_Arithmetic first operations row = value_is (e.Arithmetic first operations) row ∙ ap (λ x. value_at x row) (e.outs-Arithmetic first operations)

pub truth_Arithmetic : (first : Expr) (operations : List Operation) (row : List Value) → truth (e.Arithmetic first operations) row ≡ Unknown
truth_Arithmetic first operations row = truth_is (e.Arithmetic first operations) row ∙ ap (λ x. truth_at x row) (e.outs-Arithmetic first operations)

pub value_Case : (scale : ℕ) (branches : List Branch) (other : Expr) (row : List Value) → value (e.Case scale branches other) row ≡ at_scale scale (unwrap_or (chosen branches row) (value other row))
unfolding value truth chosen
value_Case scale branches other row = value_is (e.Case scale branches other) row ∙ ap (λ x. value_at x row) (e.outs-Case scale branches other)

pub truth_Case : (scale : ℕ) (branches : List Branch) (other : Expr) (row : List Value) → truth (e.Case scale branches other) row ≡ Unknown
truth_Case scale branches other row = truth_is (e.Case scale branches other) row ∙ ap (λ x. truth_at x row) (e.outs-Case scale branches other)

pub value_Extract : (part : DatePart) (a : Expr) (row : List Value) → value (e.Extract part a) row ≡ extracted part (value a row)
unfolding value
value_Extract part a row = value_is (e.Extract part a) row ∙ ap (λ x. value_at x row) (e.outs-Extract part a)

pub truth_Extract : (part : DatePart) (a : Expr) (row : List Value) → truth (e.Extract part a) row ≡ Unknown
truth_Extract part a row = truth_is (e.Extract part a) row ∙ ap (λ x. truth_at x row) (e.outs-Extract part a)

pub value_Substring : (a : Expr) (from count : ℕ) (row : List Value) → value (e.Substring a from count) row ≡ part_of from count (value a row)
unfolding value
value_Substring a from count row = value_is (e.Substring a from count) row ∙ ap (λ x. value_at x row) (e.outs-Substring a from count)

pub truth_Substring : (a : Expr) (from count : ℕ) (row : List Value) → truth (e.Substring a from count) row ≡ Unknown
truth_Substring a from count row = truth_is (e.Substring a from count) row ∙ ap (λ x. truth_at x row) (e.outs-Substring a from count)

pub value_Compare : (comparison : Comparison) (a b : Expr) (row : List Value) → value (e.Compare comparison a b) row ≡ Null
value_Compare comparison a b row = value_is (e.Compare comparison a b) row ∙ ap (λ x. value_at x row) (e.outs-Compare comparison a b)

pub truth_Compare : (comparison : Comparison) (a b : Expr) (row : List Value) → truth (e.Compare comparison a b) row ≡ compared comparison (value a row) (value b row)
unfolding value
truth_Compare comparison a b row = truth_is (e.Compare comparison a b) row ∙ ap (λ x. truth_at x row) (e.outs-Compare comparison a b)

pub value_Between : (a low high : Expr) (row : List Value) → value (e.Between a low high) row ≡ Null
value_Between a low high row = value_is (e.Between a low high) row ∙ ap (λ x. value_at x row) (e.outs-Between a low high)

pub truth_Between : (a low high : Expr) (row : List Value) → truth (e.Between a low high) row ≡ between (value a row) (value low row) (value high row)
unfolding value
truth_Between a low high row = truth_is (e.Between a low high) row ∙ ap (λ x. truth_at x row) (e.outs-Between a low high)

pub value_Like : (a : Expr) (pattern : List ℕ) (row : List Value) → value (e.Like a pattern) row ≡ Null
value_Like a pattern row = value_is (e.Like a pattern) row ∙ ap (λ x. value_at x row) (e.outs-Like a pattern)

pub truth_Like : (a : Expr) (pattern : List ℕ) (row : List Value) → truth (e.Like a pattern) row ≡ liked pattern (value a row)
unfolding value
truth_Like a pattern row = truth_is (e.Like a pattern) row ∙ ap (λ x. truth_at x row) (e.outs-Like a pattern)

pub value_InList : (a : Expr) (es : List Expr) (row : List Value) → value (e.InList a es) row ≡ Null
value_InList a es row = value_is (e.InList a es) row ∙ ap (λ x. value_at x row) (e.outs-InList a es)

pub truth_InList : (a : Expr) (es : List Expr) (row : List Value) → truth (e.InList a es) row ≡ in_list (value a row) (values es row)
unfolding value
truth_InList a es row = truth_is (e.InList a es) row ∙ ap (λ x. truth_at x row) (e.outs-InList a es) ∙ ap (in_list (value a row)) (values_listed es row)

pub value_IsNull : (a : Expr) (row : List Value) → value (e.IsNull a) row ≡ Null
value_IsNull a row = value_is (e.IsNull a) row ∙ ap (λ x. value_at x row) (e.outs-IsNull a)

pub truth_IsNull : (a : Expr) (row : List Value) → truth (e.IsNull a) row ≡ null_test (value a row)
unfolding value
truth_IsNull a row = truth_is (e.IsNull a) row ∙ ap (λ x. truth_at x row) (e.outs-IsNull a)

pub value_Not : (a : Expr) (row : List Value) → value (e.Not a) row ≡ Null
value_Not a row = value_is (e.Not a) row ∙ ap (λ x. value_at x row) (e.outs-Not a)

pub truth_Not : (a : Expr) (row : List Value) → truth (e.Not a) row ≡ negated (truth a row)
unfolding truth
truth_Not a row = truth_is (e.Not a) row ∙ ap (λ x. truth_at x row) (e.outs-Not a)

pub value_All : (es : List Expr) (row : List Value) → value (e.All es) row ≡ Null
value_All es row = value_is (e.All es) row ∙ ap (λ x. value_at x row) (e.outs-All es)

pub truth_All : (es : List Expr) (row : List Value) → truth (e.All es) row ≡ least (truths es row)
truth_All es row = truth_is (e.All es) row ∙ ap (λ x. truth_at x row) (e.outs-All es) ∙ ap least (truths_listed es row)

pub value_Any : (es : List Expr) (row : List Value) → value (e.Any es) row ≡ Null
value_Any es row = value_is (e.Any es) row ∙ ap (λ x. value_at x row) (e.outs-Any es)

pub truth_Any : (es : List Expr) (row : List Value) → truth (e.Any es) row ≡ greatest (truths es row)
truth_Any es row = truth_is (e.Any es) row ∙ ap (λ x. truth_at x row) (e.outs-Any es) ∙ ap greatest (truths_listed es row)

pub value_IsMarked : (a : Expr) (row : List Value) → value (e.IsMarked a) row ≡ Null
value_IsMarked a row = value_is (e.IsMarked a) row ∙ ap (λ x. value_at x row) (e.outs-IsMarked a)

pub truth_IsMarked : (a : Expr) (row : List Value) → truth (e.IsMarked a) row ≡ truth_of_mark (value a row)
unfolding value
truth_IsMarked a row = truth_is (e.IsMarked a) row ∙ ap (λ x. truth_at x row) (e.outs-IsMarked a)

-- for the functions that go over the nodes
pub ruleset values_opened = (value_Column, value_Literal, value_Negative, value_Arithmetic, value_Case, value_Extract, value_Substring, value_Compare, value_Between, value_Like, value_InList, value_IsNull, value_Not, value_All, value_Any, value_IsMarked)

pub ruleset truths_opened = (truth_Column, truth_Literal, truth_Negative, truth_Arithmetic, truth_Case, truth_Extract, truth_Substring, truth_Compare, truth_Between, truth_Like, truth_InList, truth_IsNull, truth_Not, truth_All, truth_Any, truth_IsMarked)
