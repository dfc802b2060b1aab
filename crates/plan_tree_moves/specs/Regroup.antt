-- Groups over the columns alone that they read.
use Rattle.std.specs.Prelude.{◌≡◌, ℕ, List, [], ◌∷◌, length}
use Rattle.base_row_laws.specs.Rows.{columns}
use Rattle.base_value.specs.declared.value.Value.{Value}
use Rattle.base_value.specs.declared.value.Value.TheVariants.{Null}
use Rattle.expr_scalar.specs.Rename.{gathered}
use Rattle.plan_algebra.specs.declared.aggregate.Aggregate.{Aggregate}
use Rattle.plan_algebra.specs.Aggregates.{argument_and_function}

-- the keys by, read in the row of these columns
pub record KeysMove (whole by new : List ℕ) : Type 0 where
  pub reads : (row : List Value) → columns Null new (gathered whole row) ≡ columns Null by row
  pub count : length new ≡ length by

-- the aggregate, of the row of these columns
pub record AggregateMoves (whole : List ℕ) (aggregate new : Aggregate) : Type 0 where
  pub reads : (row : List Value)
      → (argument_and_function new).0 (gathered whole row) ≡ (argument_and_function aggregate).0 row
  pub same : (argument_and_function new).1 ≡ (argument_and_function aggregate).1

-- the same of aggregates
abbrev pub AggregatesMove : List ℕ → List Aggregate → List Aggregate → Type 0
AggregatesMove whole [] [] = Unit {0}
AggregatesMove whole [] (y ∷ ys) = ⊥
AggregatesMove whole (x ∷ xs) [] = ⊥
AggregatesMove whole (x ∷ xs) (y ∷ ys) = AggregateMoves whole x y × AggregatesMove whole xs ys
