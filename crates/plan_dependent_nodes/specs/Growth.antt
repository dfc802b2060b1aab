-- How the tree of a query grows: flat rows, what stands where in them, and what is attached.
use Rattle.std.specs.Prelude.{◌≡◌, ℕ, ◌+◌, List, [], ◌∷◌, ◌++◌, map, length, slice_index_or, Option}
use Rattle.std.specs.Prelude.{Some, None, true, false}
use Rattle.base_row_laws.specs.Bags.{Each}
use Rattle.base_row_laws.specs.JoinGroups.{Width}
use Rattle.base_row_laws.specs.Ranked.{Ranked, ranked}
use Rattle.base_row_laws.specs.StandingLaws.{Stands}
use Rattle.base_value.specs.declared.value.Value.{Value}
use Rattle.base_value.specs.declared.value.Value.TheVariants.{Null}
use Rattle.expr_scalar.specs.declared.expr.Expr.{Expr}
use Rattle.expr_scalar.specs.Meaning.{value, truth}
use Rattle.base_schema.specs.State.{State, table_rows}
use Rattle.sql_bound_query.specs.declared.query.BoundAggregate.{BoundAggregate}
use Rattle.sql_bound_query.specs.declared.query.BoundBlock.{BoundBlock}
use Rattle.sql_bound_query.specs.declared.query.BoundExpr.{BoundExpr}
use Rattle.sql_bound_query.specs.declared.query.BoundSource.{BoundSource}
use Rattle.sql_bound_query.specs.declared.query.Input.{Input}
use Rattle.sql_bound_query.specs.Meaning.{Env, RowsMeaning, FromMeaning}
use Rattle.sql_bound_query.specs.Meaning.{column, aggregate_meaning, block_meaning}
use Rattle.sql_bound_query.specs.Meaning.{source_meaning, input_meaning, expr_meaning}
use Rattle.plan_kept_queries.specs.Scans.{tables, tables_of_input, tables_of_expr}
use Rattle.plan_kept_queries.specs.Scans.{joined_tables}
use Rattle.sql_bound_query.specs.Typing.{StateIsOf}
use Rattle.plan_algebra.specs.declared.aggregate.Aggregate.{Aggregate}
use Rattle.plan_algebra.specs.declared.kept_plan.KeptPlan.{KeptPlan}
use Rattle.plan_algebra.specs.declared.tree.DepTree.{DepTree}
use Rattle.plan_algebra.specs.declared.tree.DepTree.TheVariants as tree
use Rattle.plan_algebra.specs.declared.tree.Side.{Side}
use Rattle.plan_algebra.specs.declared.tree.Side.TheVariants.{Closed, Dependent}
use Rattle.plan_algebra.specs.Aggregates.{argument_and_function}
use Rattle.plan_algebra.specs.Trees.{Occurrence, tree_rows, scans_of, width_of, right_row}
use Rattle.plan_dependent_nodes.specs.declared.sight.OuterColumn.{OuterColumn}
use Rattle.plan_dependent_nodes.specs.declared.parts.Rows.{Rows}
use Rattle.plan_dependent_nodes.specs.Dependence.{domain_row}
use Rattle.plan_kept_queries.specs.Forms.{IsKeptPlan, is_kept_block}

-- a domain row of `start` columns, which begins with these columns of the rows around
pub record IsDomain (outer : List OuterColumn) (start : ℕ) (env : Env) (d : List Value) : Type 0
  where
    pub gap : List Value
    pub begins : d ≡ domain_row outer env ++ gap
    pub size : length d ≡ start

-- a flat row in which an expression sees these columns of the rows around first, and its query's
-- row r of w columns at `start`
pub record Sees (outer : List OuterColumn) (start w : ℕ) (env : Env) (r flat : List Value) : Type 0
  where
    pub gap : List Value
    pub tail : List Value
    pub is : flat ≡ domain_row outer env ++ (gap ++ (r ++ tail))
    pub begin : length outer + length gap ≡ start
    pub size : length r ≡ w

-- the place of a column in every flat row
pub record IsAt (outer : List OuterColumn) (start w level place at : ℕ) : Type 0 where
  pub reads : (env : Env) (r flat : List Value) → Sees outer start w env r flat
      → slice_index_or flat at Null ≡ column (r ∷ env) level place

-- the places of columns of the rows around a subquery in every flat row
pub record AreAt (outer : List OuterColumn) (start w : ℕ) (wanted : List OuterColumn)
    (places : List ℕ) : Type 0 where
  pub reads : (env : Env) (r flat : List Value) → Sees outer start w env r flat
      → map (λ i. slice_index_or flat i Null) places ≡ domain_row wanted (r ∷ env)

-- the places of columns of the query's own row in every flat row
pub record AreKeys (outer : List OuterColumn) (start w : ℕ) (keys places : List ℕ) : Type 0 where
  pub count : length places ≡ length keys
  pub reads : (env : Env) (r flat : List Value) → Sees outer start w env r flat
      → map (λ i. slice_index_or flat i Null) places ≡ map (λ k. slice_index_or r k Null) keys

-- the rows of a query, or of a FROM, in a state
abbrev pub RowsOf : Type 0
RowsOf = State → RowsMeaning

-- the rows stand at True or at a fault, and over tables of their kinds they have w columns
pub record AreRows (K : RowsOf) (w : ℕ) : Type 0 where
  pub stand : (state : State) (env : Env) → Each Stands (K state env)
  pub wide : (state : State) → StateIsOf state → (env : Env) → Width w (K state env)

-- the domain rows of a tree under the rows around
abbrev pub DomainRows : Type 1
DomainRows = Env → List Value → Type 0

-- a tree of just these rows, over every one of these domain rows
pub record IsTreeIn (D : DomainRows) (occurs : List Occurrence) (K : RowsOf) (tree : DepTree)
    (w : ℕ) : Type 0 where
  pub are_rows : AreRows K w
  pub scans : scans_of tree ≡ occurs
  pub width : width_of tree ≡ w
  pub rows : (state : State) → StateIsOf state → (env : Env) (d : List Value) → D env d
      → tree_rows tree (table_rows state) d ≡ K state env

-- a tree of just these rows, over every domain row that begins with these columns of the rows
-- around
abbrev pub IsTree : List Occurrence → RowsOf → List OuterColumn → ℕ → DepTree → ℕ → Type 0
IsTree occurs K outer start tree w =
    IsTreeIn (λ env d. IsDomain outer start env d) occurs K tree w

-- a tree to the right of another, of just these rows under each left row of a columns
pub record IsRightIn (D : DomainRows) (occurs : List Occurrence) (K : State → FromMeaning) (a : ℕ)
    (tree : DepTree) (side : Side) (w : ℕ) : Type 0 where
  pub stand : (state : State) (l : List Value) (env : Env) → Each Stands (K state l env)
  pub wide : (state : State) → StateIsOf state → (l : List Value) → length l ≡ a → (env : Env)
      → Width w (K state l env)
  pub scans : scans_of tree ≡ occurs
  pub width : width_of tree ≡ w
  pub rows : (state : State) → StateIsOf state → (env : Env) (d : List Value) → D env d
      → (l : List Value) → length l ≡ a
      → tree_rows tree (table_rows state) (right_row side d l) ≡ K state l env

-- the tree of a subquery, as a right side
pub record IsSubquery (q : BoundBlock) (outer : List OuterColumn) (start w : ℕ) (tree : DepTree)
    (side : Side) : Type 0 where
  pub scans : scans_of tree ≡ tables q
  pub rows : (state : State) → StateIsOf state → (env : Env) (d t r : List Value)
      → Sees outer start w env r (d ++ t)
      → tree_rows tree (table_rows state) (right_row side d t) ≡ block_meaning state q (r ∷ env)

-- the row with more columns, which f gives of it
abbrev pub widened : (List Value → List Value) → Ranked Value → Ranked Value
widened f x = ranked (x.values ++ f x.values) x.standing

-- what is so of a query's row r and a flat row
abbrev pub Reading : Type 1
Reading = State → Env → List Value → List Value → Type 0

-- A tree whose rows are those of the old tree with more columns: in the flat row, whatever stands
-- after it, P is so.
pub record Attaches (outer : List OuterColumn) (start w : ℕ) (more : List Occurrence) (P : Reading)
    (old : DepTree) (end : ℕ) (new : DepTree) (last : ℕ) : Type 0 where
  pub scans : scans_of new ≡ scans_of old ++ more
  pub width : (n : ℕ) → width_of old + n ≡ end → width_of new + n ≡ last
  pub adds : State → List Value → List Value → List Value
  pub count : (state : State) (d t : List Value) → end + length (adds state d t) ≡ last
  pub rows : (state : State) (d : List Value)
      → tree_rows new (table_rows state) d
      ≡ map (widened (adds state d)) (tree_rows old (table_rows state) d)
  pub reads : (state : State) → StateIsOf state → (env : Env) (d t r : List Value)
      → Sees outer start w env r (d ++ t) → length (d ++ t) ≡ end
      → (z : List Value) → P state env r ((d ++ (t ++ adds state d t)) ++ z)

-- the column of an input
unfoldable pub InputAt : Input → ℕ → Reading
InputAt i at state env r flat = slice_index_or flat at Null ≡ input_meaning state i (r ∷ env)

-- the columns of inputs
unfoldable pub InputsAt : List Input → List ℕ → Reading
InputsAt is places state env r flat = map (λ i. slice_index_or flat i Null) places
    ≡ map (λ i. input_meaning state i (r ∷ env)) is

-- an expression over the flat row
unfoldable pub ExprAt : BoundExpr → Expr → Reading
ExprAt e x state env r flat = (value x flat ≡ (expr_meaning state e).value (r ∷ env))
    × (truth x flat ≡ (expr_meaning state e).truth (r ∷ env))

-- a select list over the flat row
unfoldable pub ListAt : List BoundExpr → List Expr → Reading
ListAt es xs state env r flat = map (λ x. value x flat) xs
    ≡ map (λ e. (expr_meaning state e).value (r ∷ env)) es

-- the argument of an aggregate over the flat row
unfoldable pub AggregateAt : BoundAggregate → Aggregate → Reading
AggregateAt a x state env r flat = (argument_and_function x).0 flat
    ≡ (aggregate_meaning state a env).0 r

-- those of aggregates
unfoldable pub AggregatesAt : List BoundAggregate → List Aggregate → Reading
AggregatesAt as' xs state env r flat = map (λ x. (argument_and_function x).0 flat) xs
    ≡ map (λ a. (aggregate_meaning state a env).0 r) as'

-- an aggregate makes the same of its argument's values
unfoldable pub SameFunction : BoundAggregate → Aggregate → Type 0
SameFunction a x = (state : State) (env : Env)
    → (argument_and_function x).1 ≡ (aggregate_meaning state a env).1

-- so do aggregates
unfoldable pub SameFunctions : List BoundAggregate → List Aggregate → Type 0
SameFunctions as' xs = (state : State) (env : Env)
    → map (λ x. (argument_and_function x).1) xs ≡ map (λ a. (aggregate_meaning state a env).1) as'

-- a tree of the rows of another without the columns after their first w
pub record IsTrimmed (tree : DepTree) (start w end : ℕ) (new : DepTree) : Type 0 where
  pub scans : scans_of new ≡ scans_of tree
  pub width : width_of tree + start ≡ end → width_of new ≡ w
  pub rows : (state : State) (d : List Value) (f : List Value → List Value)
      (xs : List (Ranked Value)) → length d ≡ start → Width w xs
      → ((r : List Value) → (start + w) + length (f r) ≡ end)
      → tree_rows tree (table_rows state) d ≡ map (widened f) xs
      → tree_rows new (table_rows state) d ≡ xs

-- the rows of a FROM
abbrev pub from_of : BoundSource → RowsOf
from_of s state = source_meaning state s []

-- the rows of a query
abbrev pub block_of : BoundBlock → RowsOf
block_of q state = block_meaning state q

-- the rows of a query that sees no row around it, under any rows
abbrev pub closed_of : BoundBlock → RowsOf
closed_of q state env = block_meaning state q []

-- the leaf of the kept view of a number, whose query this is
pub record IsLeaf (number : ℕ) (q : BoundBlock) (made : DepTree) (w : ℕ) : Type 0 where
  pub plan : KeptPlan
  pub is_kept : is_kept_block q ≡ true
  pub is_plan : IsKeptPlan q plan
  pub tree_is : made ≡ tree.Kept number plan
  pub width_is : w ≡ length plan.list

-- the same, or nothing where the query's rows can't be kept
abbrev pub IsKeptTree : ℕ → BoundBlock → Option Rows → Type 0
IsKeptTree number q None = is_kept_block q ≡ false
IsKeptTree number q (Some made) = IsLeaf number q made.tree made.width

-- nothing, or the places of the inputs, none of which is a subquery
abbrev pub ArePlain : List OuterColumn → ℕ → ℕ → List Input → Option (List ℕ) → Type 0
ArePlain outer start w inputs None = Unit {0}
ArePlain outer start w inputs (Some places) = (joined_tables (map tables_of_input inputs) ≡ [])
    × ((state : State) (env : Env) (r flat : List Value) → Sees outer start w env r flat
    → InputsAt inputs places state env r flat)

-- nothing, or the expression over the flat row, with no subquery
abbrev pub IsPlain : List OuterColumn → ℕ → ℕ → BoundExpr → Option Expr → Type 0
IsPlain outer start w e None = Unit {0}
IsPlain outer start w e (Some x) = (tables_of_expr e ≡ [])
    × ((state : State) (env : Env) (r flat : List Value) → Sees outer start w env r flat
    → ExprAt e x state env r flat)

-- a right side that depends on these columns, closed where there are none
abbrev pub DependsOn : List ℕ → Side → Type 0
DependsOn [] side = side ≡ Closed
DependsOn (c ∷ cs) side = side ≡ Dependent (c ∷ cs)
