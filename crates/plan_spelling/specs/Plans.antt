-- The numbers that spell a flat plan, and how they are printed.
use Rattle.std.specs.Prelude.{◌≡◌, ℕ, ◌<◌, ◌^◌, List, [], ◌∷◌, ◌++◌, map, codes, decimal}
use Rattle.std.specs.Prelude.{true, false, length}
use Rattle.std.specs.List.{flat_map}
use Rattle.base_row_laws.specs.Bags.{Each}
use Rattle.base_schema.specs.Tables.{table_name}
use Rattle.base_set_rows.specs.declared.kind.ClassKind.TheVariants.{Intersect, Except}
use Rattle.base_set_rows.specs.declared.kind.SetOperation.{SetOperation}
use Rattle.base_set_rows.specs.declared.kind.SetOperation.TheVariants.{Union, Classes}
use Rattle.base_value.specs.declared.value.Value.{Value}
use Rattle.expr_aggregates.specs.declared.function.AggregateFunction.{AggregateFunction}
use Rattle.expr_aggregates.specs.declared.function.AggregateFunction.TheVariants.{Count, Sum, Avg}
use Rattle.expr_aggregates.specs.declared.function.AggregateFunction.TheVariants.{CountDistinct}
use Rattle.expr_aggregates.specs.declared.function.AggregateFunction.TheVariants.{Min, Max}
use Rattle.plan_algebra.specs.declared.aggregate.Aggregate.{Aggregate}
use Rattle.plan_algebra.specs.declared.aggregate.Aggregate.TheVariants.{CountRows, Of}
use Rattle.plan_algebra.specs.declared.kept_plan.KeptPlan.{KeptPlan}
use Rattle.plan_algebra.specs.declared.node.Node.{Node}
use Rattle.plan_algebra.specs.KeptPlans.{plain_aggregate}
use Rattle.plan_algebra.specs.declared.node.Node.TheVariants as n
use Rattle.plan_spelling.specs.Exprs.{expr_spelling, spelled, value_numbers}

-- the number of an aggregate function
abbrev pub function_number : AggregateFunction → ℕ
function_number Count = 0
function_number CountDistinct = 1
function_number Sum = 2
function_number Avg = 3
function_number Min = 4
function_number Max = 5

-- UNION ALL, and INTERSECT and EXCEPT without ALL and with it
abbrev pub operation_number : SetOperation → ℕ
operation_number Union = 0
operation_number (Classes Intersect false) = 1
operation_number (Classes Intersect true) = 2
operation_number (Classes Except false) = 3
operation_number (Classes Except true) = 4

-- an aggregate: its function, its scale and its argument
abbrev pub aggregate_spelling : Aggregate → List ℕ
aggregate_spelling CountRows = spelled (18 ∷ []) []
aggregate_spelling (Of function scale argument) =
    spelled (19 ∷ function_number function ∷ scale ∷ []) (expr_spelling argument ∷ [])

-- a value by itself, as a node of no parts
abbrev pub value_spelling : Value → List ℕ
value_spelling value = spelled (20 ∷ value_numbers value) []

-- pairs of matched columns, the left one first
abbrev pub pair_numbers : List (ℕ × ℕ) → List ℕ
pair_numbers [] = []
pair_numbers (pair ∷ pairs) = pair.0 ∷ pair.1 ∷ pair_numbers pairs

-- the numbers of a kept plan: how many GROUP BY columns and how many columns it shows, these, and
-- its table
abbrev pub kept_numbers : KeptPlan → List ℕ
kept_numbers plan = length plan.by ∷ length plan.list
    ∷ (plan.by ++ (plan.list ++ table_name plan.table))

-- the parts of a kept plan: its condition and its aggregates
abbrev pub kept_parts : KeptPlan → List (List ℕ)
kept_parts plan = expr_spelling plan.condition
    ∷ map (λ a. aggregate_spelling (plain_aggregate a)) plan.aggregates

-- a node of a plan
unfoldable pub node_spelling : Node → List ℕ
node_spelling (n.Scan table) = spelled (21 ∷ table_name table) []
node_spelling (n.Domain i cs) = spelled (22 ∷ i ∷ cs) []
node_spelling (n.Select i e) = spelled (23 ∷ i ∷ []) (expr_spelling e ∷ [])
node_spelling (n.Project i es) = spelled (24 ∷ i ∷ []) (map expr_spelling es)
node_spelling (n.Join i j matched e) =
    spelled (25 ∷ i ∷ j ∷ pair_numbers matched) (expr_spelling e ∷ [])
node_spelling (n.Outer i j matched nulls e) =
    spelled (26 ∷ i ∷ j ∷ nulls ∷ pair_numbers matched) (expr_spelling e ∷ [])
node_spelling (n.Mark i j matched e) =
    spelled (27 ∷ i ∷ j ∷ pair_numbers matched) (expr_spelling e ∷ [])
node_spelling (n.Single i j matched c) = spelled (28 ∷ i ∷ j ∷ c ∷ pair_numbers matched) []
node_spelling (n.Group i by aggregates) = spelled (29 ∷ i ∷ by) (map aggregate_spelling aggregates)
node_spelling (n.Fill i j empty) = spelled (30 ∷ i ∷ j ∷ []) (map value_spelling empty)
node_spelling (n.Distinct i) = spelled (31 ∷ i ∷ []) []
node_spelling (n.Set i j operation) = spelled (32 ∷ i ∷ j ∷ operation_number operation ∷ []) []
node_spelling (n.Kept number plan) = spelled (33 ∷ number ∷ kept_numbers plan) (kept_parts plan)

-- the nodes of a plan, in their order
unfoldable pub plan_spelling : List Node → List ℕ
plan_spelling nodes = spelled [] (map node_spelling nodes)

-- numbers as they are printed, a space after each
abbrev pub numbers_text : List ℕ → List ℕ
numbers_text numbers = flat_map (λ m. decimal m ++ codes " ") numbers

-- the line of a plan, under its title
abbrev pub plan_line : List Node → List ℕ
plan_line nodes = codes "spelling\n" ++ numbers_text (plan_spelling nodes) ++ codes "\n"

-- The numbers that spell a plan have at most 64 digits, as all numbers of the machine have.
abbrev pub HasShortNumbers : List Node → Type 0
HasShortNumbers nodes = Each (λ m. m < 10 ^ 64) (plan_spelling nodes)

-- A text ends with the line of a plan.
abbrev pub EndsWithPlan : List Node → List ℕ → Type 0
EndsWithPlan nodes text = HasShortNumbers nodes × (before : List ℕ)
    × (text ≡ before ++ plan_line nodes)
