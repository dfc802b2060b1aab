-- What expressions give over rows, row by row.
use Rattle.std.specs.Prelude.{List, [], ◌∷◌, map}
use Rattle.base_row_laws.specs.Ranked.{Ranked}
use Rattle.base_value.specs.declared.truth.Truth.{Truth}
use Rattle.base_value.specs.declared.value.Value.{Value}
use Rattle.base_value.specs.Truth.{lesser, greater}
use Rattle.expr_operators.specs.declared.operator.Comparison.TheVariants.{Equal}
use Rattle.expr_operators.specs.Operators.{computed, compared}
use Rattle.expr_scalar.specs.declared.expr.Branch.{Branch}
use Rattle.expr_scalar.specs.declared.expr.Expr.{Expr}
use Rattle.expr_scalar.specs.declared.expr.Operation.{Operation}
use Rattle.expr_scalar.specs.Meaning.{value, truth}
use Rattle.exec_column_operators.specs.Choices.{choice}
use Rattle.exec_column_operators.specs.Zips.{zip_with, zip_three}

-- the value of an expression over each row
unfoldable pub values_over : Expr → List (Ranked Value) → List Value
values_over e rows = map (λ r. value e r.values) rows

-- the truth of an expression over each row
unfoldable pub truths_over : Expr → List (Ranked Value) → List Truth
truths_over e rows = map (λ r. truth e r.values) rows

-- what operations make of values, one for each row, from left to right
unfoldable pub operated_over : List Value → List Operation → List (Ranked Value) → List Value
operated_over xs [] rows = xs
operated_over xs (o ∷ os) rows =
    operated_over (zip_with (computed o.operator) xs (values_over o.operand rows)) os rows

-- the lesser of truths, one for each row, and those of conditions
unfoldable pub least_over : List Truth → List Expr → List (Ranked Value) → List Truth
least_over ts [] rows = ts
least_over ts (e ∷ es) rows = least_over (zip_with lesser ts (truths_over e rows)) es rows

-- the greater of truths, one for each row, and those of conditions
unfoldable pub greatest_over : List Truth → List Expr → List (Ranked Value) → List Truth
greatest_over ts [] rows = ts
greatest_over ts (e ∷ es) rows = greatest_over (zip_with greater ts (truths_over e rows)) es rows

-- the greater of truths, one for each row, and those that values equal those of expressions
unfoldable pub equal_over : List Value → List Truth → List Expr → List (Ranked Value) → List Truth
equal_over xs ts [] rows = ts
equal_over xs ts (e ∷ es) rows =
    equal_over xs (zip_with greater ts (zip_with (compared Equal) xs (values_over e rows))) es rows

-- what the first branch that decides gives, or else the rest, row by row
unfoldable pub chosen_over : List Branch → List Value → List (Ranked Value) → List Value
chosen_over [] rest rows = rest
chosen_over (b ∷ bs) rest rows =
    zip_three choice (truths_over b.when rows) (values_over b.gives rows) (chosen_over bs rest rows)

-- the values of expressions over each row, expression by expression
abbrev pub columns_over : List Expr → List (Ranked Value) → List (List Value)
columns_over es rows = map (λ e. values_over e rows) es
