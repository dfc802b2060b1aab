-- Laws of values and truth.
use Rattle.std.specs.Prelude.{◌≡◌, List, [], ◌∷◌, map}
use Rattle.base_value.specs.declared.truth.Truth.{Truth}
use Rattle.base_value.specs.declared.value.Value.{Value}
use Rattle.expr_operators.specs.declared.operator.Comparison.TheVariants.{Equal, LessOrEqual}
use Rattle.expr_operators.specs.declared.operator.Comparison.TheVariants.{GreaterOrEqual}
use Rattle.expr_scalar.specs.declared.expr.Expr.{Expr}
use Rattle.expr_scalar.specs.declared.expr.Expr.TheVariants as e
use Rattle.expr_scalar.specs.Meaning.{truth}
use Rattle.expr_operators.specs.Operators.{mark_of, truth_of_mark}

-- A truth that was written as a mark is read as the same truth.
abbrev pub MarkIsRead : Type 0
MarkIsRead = (t : Truth) → truth_of_mark (mark_of t) ≡ t

-- x between low and high is x >= low and x <= high.
abbrev pub BetweenIsAnd : Type 0
BetweenIsAnd = (x low high : Expr) (row : List Value)
    → truth (e.Between x low high) row
    ≡ truth (e.All (e.Compare GreaterOrEqual x low ∷ e.Compare LessOrEqual x high ∷ [])) row

-- x in (a, b, ..) is x = a or x = b or ..
abbrev pub InListIsOr : Type 0
InListIsOr = (x : Expr) (es : List Expr) (row : List Value) → truth (e.InList x es) row
    ≡ truth (e.Any (map (e.Compare Equal x) es)) row
