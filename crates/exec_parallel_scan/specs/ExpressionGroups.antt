-- Groups by the values of expressions.
use Rattle.std.specs.Prelude.{ℕ, suc, List, [], ◌∷◌}
use Rattle.base_row_laws.specs.Ranked.{Ranked}
use Rattle.base_row_laws.specs.Operators.{group_by, total}
use Rattle.base_value.specs.declared.value.Value.{Value}
use Rattle.base_value.specs.declared.value.Value.TheVariants.{Null}
use Rattle.base_value.specs.Value.{same_value}
use Rattle.expr_scalar.specs.declared.expr.Expr.{Expr}
use Rattle.expr_scalar.specs.declared.expr.Expr.TheVariants.{Column, Literal}
use Rattle.expr_scalar.specs.Meaning.{values}
use Rattle.plan_algebra.specs.declared.aggregate.Aggregate.{Aggregate}
use Rattle.plan_algebra.specs.declared.aggregate.Aggregate.TheVariants.{CountRows, Of}
use Rattle.plan_algebra.specs.Aggregates.{aggregates_of}

-- GROUP BY these expressions, with aggregates; without any one group of all rows, also where there
-- are none
abbrev pub expression_groups : List Expr → List Aggregate → List (Ranked Value)
    → List (Ranked Value)
expression_groups [] aggregates rows = total (aggregates_of aggregates) rows
expression_groups (e ∷ es) aggregates rows =
    group_by same_value (values (e ∷ es)) (aggregates_of aggregates) rows

-- an aggregate's argument; count(*) reads none
abbrev pub argument_of : Aggregate → Expr
argument_of CountRows = Literal Null
argument_of (Of function scale e) = e

-- the aggregate of what stands at a place
abbrev pub at_place : ℕ → Aggregate → Aggregate
at_place place CountRows = CountRows
at_place place (Of function scale e) = Of function scale (Column place)

-- the aggregates of what stands at the places from this one on
abbrev pub place_aggregates : ℕ → List Aggregate → List Aggregate
place_aggregates place [] = []
place_aggregates place (a ∷ more) = at_place place a ∷ place_aggregates (suc place) more
