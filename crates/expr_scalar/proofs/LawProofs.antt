-- Laws of values and truth, and small cases.
use Rattle.std.proofs.Common.{◌≡◌, List, [], ◌∷◌, map, refl, ap, sym, ◌∙◌}
use Rattle.base_text.specs.Pattern.{is_like, some_rest}
use Rattle.base_decimal.specs.Decimal.{rescaled, sum_of, difference_of, quotient_of}
use Rattle.base_value.specs.Truth.{lesser}
use Rattle.base_value.specs.declared.truth.Fault.TheVariants.{TooManyRows, DivideByZero, NumberRange}
use Rattle.base_value.specs.declared.truth.Standing.TheVariants.{AtFault, AtTrue}
use Rattle.base_value.specs.declared.truth.Truth.{Truth}
use Rattle.base_value.specs.declared.truth.Truth.TheVariants.{False, Unknown, Stands}
use Rattle.base_value.specs.declared.value.Value.{Value}
use Rattle.expr_scalar.specs.Cases.{Arithmetics, Comparisons, Conditions, Cases, Parts, MoreArithmetics, MoreComparisons, MoreConditions, Typings}
use Rattle.expr_scalar.specs.Laws.{MarkIsRead, BetweenIsAnd, InListIsOr}
use Rattle.expr_scalar.specs.Meaning.{value, truth, values, truths, greatest}
use Rattle.expr_operators.specs.Operators.{compared}
use Rattle.expr_operators.specs.declared.operator.Comparison.TheVariants.{Equal, LessOrEqual, GreaterOrEqual}
use Rattle.expr_scalar.specs.declared.expr.Expr.{Expr}
use Rattle.expr_scalar.specs.declared.expr.Expr.TheVariants as e
use Rattle.expr_scalar.proofs.Opened.{truth_Between, truth_InList, truth_All, truth_Any, truth_Compare}

pub mark_read : MarkIsRead
mark_read False = refl
mark_read Unknown = refl
mark_read (Stands (AtFault f)) = refl
mark_read (Stands AtTrue) = refl

true_first : (t : Truth) → lesser (Stands AtTrue) t ≡ t
true_first False = refl
true_first Unknown = refl
true_first (Stands (AtFault TooManyRows)) = refl
true_first (Stands (AtFault DivideByZero)) = refl
true_first (Stands (AtFault NumberRange)) = refl
true_first (Stands AtTrue) = refl

pub between_and : BetweenIsAnd
unfolding truths
between_and x low high row =
    truth_Between x low high row
    ∙ ap (λ t. lesser t (compared LessOrEqual (value x row) (value high row))) (sym (truth_Compare GreaterOrEqual x low row))
    ∙ ap (lesser (truth (e.Compare GreaterOrEqual x low) row)) (sym (truth_Compare LessOrEqual x high row))
    ∙ ap (λ t. lesser t (truth (e.Compare LessOrEqual x high) row)) (sym (true_first (truth (e.Compare GreaterOrEqual x low) row)))
    ∙ sym (truth_All (e.Compare GreaterOrEqual x low ∷ e.Compare LessOrEqual x high ∷ []) row)

equalities : (x : Expr) (es : List Expr) (row : List Value) → map (compared Equal (value x row)) (values es row) ≡ truths (map (e.Compare Equal x) es) row
unfolding values truths
equalities x [] row = refl
equalities x (y ∷ es) row =
    ap (λ t. t ∷ map (compared Equal (value x row)) (values es row)) (sym (truth_Compare Equal x y row))
    ∙ ap (λ ts. truth (e.Compare Equal x y) row ∷ ts) (equalities x es row)

pub in_list_or : InListIsOr
in_list_or x es row = truth_InList x es row ∙ ap greatest (equalities x es row) ∙ sym (truth_Any (map (e.Compare Equal x) es) row)

pub arithmetics : Arithmetics
unfolding rescaled sum_of difference_of quotient_of
arithmetics = (refl, refl, refl, refl, refl, refl, refl, refl, refl)

pub comparisons : Comparisons
unfolding rescaled sum_of difference_of quotient_of
comparisons = (refl, refl, refl, refl, refl, refl, refl)

pub conditions : Conditions
conditions = (refl, refl, refl, refl, refl, refl, refl, refl, refl, refl, refl)

pub cases : Cases
unfolding rescaled
cases = (refl, refl, refl, refl, refl)

pub parts : Parts
unfolding is_like some_rest
parts = (refl, refl, refl, refl, refl, refl, refl, refl)

pub more_arithmetics : MoreArithmetics
unfolding rescaled sum_of difference_of quotient_of
more_arithmetics = (refl, refl, refl, refl, refl)

pub more_comparisons : MoreComparisons
more_comparisons = (refl, refl, refl, refl, refl, refl, refl)

pub more_conditions : MoreConditions
unfolding is_like some_rest
more_conditions = (refl, refl, refl, refl, refl, refl, refl, refl, refl)

pub typings : Typings
typings = (refl, refl, refl, refl, refl, refl, refl, refl, refl, refl, refl, refl, refl, refl, refl)
