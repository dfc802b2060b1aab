-- The spelling of a plan's node, kind by kind.
use Rattle.std.proofs.Common.{◌≡◌, ℕ, List, [], ◌∷◌, map, refl}
use Rattle.base_schema.specs.Tables.{table_name}
use Rattle.base_schema.specs.declared.table.TableName.{TableName}
use Rattle.base_set_rows.specs.declared.kind.SetOperation.{SetOperation}
use Rattle.base_value.specs.declared.value.Value.{Value}
use Rattle.expr_scalar.specs.declared.expr.Expr.{Expr}
use Rattle.plan_algebra.specs.declared.aggregate.Aggregate.{Aggregate}
use Rattle.plan_algebra.specs.declared.kept_plan.KeptPlan.{KeptPlan}
use Rattle.plan_algebra.specs.declared.node.Node.TheVariants as n
use Rattle.plan_spelling.specs.Exprs.{expr_spelling, spelled}
use Rattle.plan_spelling.specs.Plans.{aggregate_spelling, kept_numbers, kept_parts, node_spelling, operation_number, pair_numbers, value_spelling}

pub spelled_Scan : (t : TableName) → node_spelling (n.Scan t) ≡ spelled (21 ∷ table_name t) []
unfolding node_spelling
spelled_Scan t = refl

pub spelled_Domain : (i : ℕ) (cs : List ℕ) → node_spelling (n.Domain i cs) ≡ spelled (22 ∷ i ∷ cs) []
unfolding node_spelling
spelled_Domain i cs = refl

pub spelled_Select : (i : ℕ) (a : Expr) → node_spelling (n.Select i a) ≡ spelled (23 ∷ i ∷ []) (expr_spelling a ∷ [])
unfolding node_spelling
spelled_Select i a = refl

pub spelled_Project : (i : ℕ) (us : List Expr) → node_spelling (n.Project i us) ≡ spelled (24 ∷ i ∷ []) (map expr_spelling us)
unfolding node_spelling
spelled_Project i us = refl

pub spelled_Join : (i j : ℕ) (pairs : List (ℕ × ℕ)) (a : Expr) → node_spelling (n.Join i j pairs a) ≡ spelled (25 ∷ i ∷ j ∷ pair_numbers pairs) (expr_spelling a ∷ [])
unfolding node_spelling
spelled_Join i j pairs a = refl

pub spelled_Outer : (i j : ℕ) (pairs : List (ℕ × ℕ)) (k : ℕ) (a : Expr) → node_spelling (n.Outer i j pairs k a) ≡ spelled (26 ∷ i ∷ j ∷ k ∷ pair_numbers pairs) (expr_spelling a ∷ [])
unfolding node_spelling
spelled_Outer i j pairs k a = refl

pub spelled_Mark : (i j : ℕ) (pairs : List (ℕ × ℕ)) (a : Expr) → node_spelling (n.Mark i j pairs a) ≡ spelled (27 ∷ i ∷ j ∷ pair_numbers pairs) (expr_spelling a ∷ [])
unfolding node_spelling
spelled_Mark i j pairs a = refl

pub spelled_Single : (i j : ℕ) (pairs : List (ℕ × ℕ)) (k : ℕ) → node_spelling (n.Single i j pairs k) ≡ spelled (28 ∷ i ∷ j ∷ k ∷ pair_numbers pairs) []
unfolding node_spelling
spelled_Single i j pairs k = refl

pub spelled_Group : (i : ℕ) (by : List ℕ) (us : List Aggregate) → node_spelling (n.Group i by us) ≡ spelled (29 ∷ i ∷ by) (map aggregate_spelling us)
unfolding node_spelling
spelled_Group i by us = refl

pub spelled_Fill : (i j : ℕ) (xs : List Value) → node_spelling (n.Fill i j xs) ≡ spelled (30 ∷ i ∷ j ∷ []) (map value_spelling xs)
unfolding node_spelling
spelled_Fill i j xs = refl

pub spelled_Distinct : (i : ℕ) → node_spelling (n.Distinct i) ≡ spelled (31 ∷ i ∷ []) []
unfolding node_spelling
spelled_Distinct i = refl

pub spelled_Set : (i j : ℕ) (o : SetOperation) → node_spelling (n.Set i j o) ≡ spelled (32 ∷ i ∷ j ∷ operation_number o ∷ []) []
unfolding node_spelling
spelled_Set i j o = refl

pub spelled_Kept : (number : ℕ) (plan : KeptPlan) → node_spelling (n.Kept number plan) ≡ spelled (33 ∷ number ∷ kept_numbers plan) (kept_parts plan)
unfolding node_spelling
spelled_Kept number plan = refl
