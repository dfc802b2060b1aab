-- What expressions mean: one case for each node, from the meanings of its parts.
-- Within a case the steps stand in their order, and the first refusal counts.
use Rattle.std.specs.Prelude.{Bool, true, false, ◌||◌, List, [], Option, Some, None}
use Rattle.std.specs.List.{list_any}
use Rattle.expr_aggregates.specs.declared.function.AggregateFunction.TheVariants.{Count}
use Rattle.expr_aggregates.specs.declared.function.AggregateFunction.TheVariants.{CountDistinct}
use Rattle.sql_bound_query.specs.declared.query.BoundAggregate.TheVariants.{CountRows}
use Rattle.base_refusals.specs.declared.bind.BindRefusal.TheVariants.{IntervalOnColumn}
use Rattle.expr_scalar.specs.declared.expr.Expr.TheVariants as e
use Rattle.expr_scalar.specs.declared.kind.Kind.TheVariants as kind
use Rattle.sql_ast.specs.declared.tree.Block.TheOpen.{Expr-F}
use Rattle.sql_ast.specs.declared.words.Span.{Span}
use Rattle.base_value.specs.declared.value.Value.TheVariants as value
use Rattle.sql_binder_steps.specs.declared.collected.BoundKind.TheVariants.{Value}
use Rattle.sql_binder_steps.specs.declared.collected.Typed.{Typed}
use Rattle.sql_binder_steps.specs.Steps.{Name, Binding, ◌>>=◌, pure, refuse, lift, alone}
use Rattle.sql_binder_steps.specs.Names.{Sight}
use Rattle.sql_binder_steps.specs.Values.{typed, date_literal, negative, compared, null_test}
use Rattle.sql_binder_steps.specs.Values.{between}
use Rattle.sql_binder_steps.specs.Values.{liked, in_list, denied, extracted, substring, operated}
use Rattle.sql_binder_steps.specs.Values.{multiplying_of, all_of, any_of, case_of, case_else_of}
use Rattle.sql_binder_steps.specs.Parts.{column, among_rows, grouped, aggregated, function_of}
use Rattle.sql_binder_steps.specs.Parts.{existing}
use Rattle.sql_binder_steps.specs.Parts.{containing, only_value}
use Rattle.sql_binder_steps.specs.Sets.{comparing}
use Rattle.sql_binder.specs.Meanings.{Meaning, ChainMeaning, ArmMeaning, ExprNode, TermNode}
use Rattle.sql_binder.specs.Meanings.{FactorNode, ArmNode}
use Rattle.sql_binder.specs.Operands.{conditions, operands, chain, arm_conditions, arm_values}
use Rattle.sql_binder.specs.Operands.{term_by}

module _ (sight : Sight) where
  -- each expression
  abbrev pub binds_step : ExprNode → Binding Typed
  binds_step (Expr-F.Number c s) =
      pure (typed (e.Literal (value.Number s c)) (Value (kind.Number s)))
  binds_step (Expr-F.Text t) = pure (typed (e.Literal (value.Text t)) (Value kind.Text))
  binds_step (Expr-F.Date t) = lift (date_literal t)
  binds_step (Expr-F.Interval t s) = refuse IntervalOnColumn
  binds_step (Expr-F.Column name) = column sight name
  binds_step (Expr-F.Negative a) = a.binds sight >>= (λ x. lift (negative x))
  binds_step (Expr-F.Sum a terms) = a.binds sight >>= (λ x. chain sight x terms)
  binds_step (Expr-F.Product a factors) = a.binds sight >>= (λ x. chain sight x factors)
  binds_step (Expr-F.Compare c a b) = do
    x ← a.binds sight
    y ← b.binds sight
    lift (compared c x y)
  binds_step (Expr-F.CompareQuery c q a t) = do
    left ← alone (a.binds sight)
    rows ← t sight
    comparing sight c q left rows
  binds_step (Expr-F.IsNull a) = a.binds sight >>= (λ x. lift (null_test x))
  binds_step (Expr-F.Between a low high) = do
    x ← a.binds sight
    y ← low.binds sight
    z ← high.binds sight
    lift (between x y z)
  binds_step (Expr-F.Like a pattern) = a.binds sight >>= (λ x. lift (liked x pattern))
  binds_step (Expr-F.InList a list) = do
    x ← a.binds sight
    ys ← operands sight list
    lift (in_list x ys)
  binds_step (Expr-F.InQuery a q) = do
    left ← alone (a.binds sight)
    t ← q sight
    containing sight left t
  binds_step (Expr-F.Exists q) = q sight >>= existing sight
  binds_step (Expr-F.Scalar q) = q sight >>= only_value sight
  binds_step (Expr-F.Not a) = a.binds sight >>= (λ x. lift (denied x))
  binds_step (Expr-F.And a rest) =
      a.binds sight >>= (λ x. conditions sight x rest >>= (λ c. lift (all_of c)))
  binds_step (Expr-F.Or a rest) =
      a.binds sight >>= (λ x. conditions sight x rest >>= (λ c. lift (any_of c)))
  binds_step (Expr-F.Case arms) = do
    whens ← arm_conditions sight arms
    gives ← arm_values sight arms
    lift (case_of whens gives)
  binds_step (Expr-F.CaseElse arms other) = do
    whens ← arm_conditions sight arms
    gives ← arm_values sight arms
    x ← other.binds sight
    lift (case_else_of whens gives x)
  binds_step (Expr-F.Extract s a) = a.binds sight >>= (λ x. lift (extracted s x))
  binds_step (Expr-F.Substring a from count) =
      a.binds sight >>= (λ x. lift (substring x from count))
  binds_step Expr-F.CountRows = grouped sight CountRows (kind.Number 0)
  binds_step (Expr-F.Count a) = alone (a.binds (among_rows sight)) >>= aggregated sight Count
  binds_step (Expr-F.CountDistinct a) =
      alone (a.binds (among_rows sight)) >>= aggregated sight CountDistinct
  binds_step (Expr-F.Aggregate f a) =
      alone (a.binds (among_rows sight)) >>= aggregated sight (function_of f)

-- whether an aggregate stands in one of them
abbrev pub any_aggregate : List Meaning → Bool
any_aggregate = list_any (λ (m : Meaning). m.aggregates)

-- whether one stands in a term or a factor
abbrev pub any_in_chain : List ChainMeaning → Bool
any_in_chain = list_any (λ (m : ChainMeaning). m.aggregates)

-- whether one stands in an arm
abbrev pub in_arm : ArmMeaning → Bool
in_arm a = a.condition.aggregates || a.value.aggregates

-- whether one stands in one of the arms
abbrev pub any_in_arms : List ArmMeaning → Bool
any_in_arms = list_any in_arm

-- whether an aggregate stands in an expression, outside of subqueries
abbrev pub aggregates_step : ExprNode → Bool
aggregates_step (Expr-F.Negative a) = a.aggregates
aggregates_step (Expr-F.Sum a terms) = a.aggregates || any_in_chain terms
aggregates_step (Expr-F.Product a factors) = a.aggregates || any_in_chain factors
aggregates_step (Expr-F.Compare c a b) = a.aggregates || b.aggregates
aggregates_step (Expr-F.CompareQuery c q a t) = a.aggregates
aggregates_step (Expr-F.IsNull a) = a.aggregates
aggregates_step (Expr-F.Between a low high) = a.aggregates || low.aggregates || high.aggregates
aggregates_step (Expr-F.Like a pattern) = a.aggregates
aggregates_step (Expr-F.InList a list) = a.aggregates || any_aggregate list
aggregates_step (Expr-F.InQuery a q) = a.aggregates
aggregates_step (Expr-F.Not a) = a.aggregates
aggregates_step (Expr-F.And a rest) = a.aggregates || any_aggregate rest
aggregates_step (Expr-F.Or a rest) = a.aggregates || any_aggregate rest
aggregates_step (Expr-F.Case arms) = any_in_arms arms
aggregates_step (Expr-F.CaseElse arms other) = any_in_arms arms || other.aggregates
aggregates_step (Expr-F.Extract s a) = a.aggregates
aggregates_step (Expr-F.Substring a from count) = a.aggregates
aggregates_step Expr-F.CountRows = true
aggregates_step (Expr-F.Count a) = true
aggregates_step (Expr-F.CountDistinct a) = true
aggregates_step (Expr-F.Aggregate f a) = true
aggregates_step x = false

-- the name of what has none, which no query can write
abbrev pub no_name : Name
no_name = []

-- a column gives its name to an output column, any other expression none
abbrev pub name_step : ExprNode → Name
name_step (Expr-F.Column c) = c.name
name_step x = no_name

-- an interval's digits and unit
abbrev pub interval_step : ExprNode → Option (Name × Span)
interval_step (Expr-F.Interval t s) = Some (t, s)
interval_step x = None

-- an expression
abbrev pub expr_step : ExprNode → Meaning
expr_step x = record {
  binds = λ sight. binds_step sight x;
  aggregates = aggregates_step x;
  name = name_step x;
  interval = interval_step x;
}

-- a term
abbrev pub term_step : TermNode → ChainMeaning
term_step t = record {
  adds = term_by t.value.interval t.operator t.value;
  aggregates = t.value.aggregates;
}

-- a factor
abbrev pub factor_step : FactorNode → ChainMeaning
factor_step f = record {
  adds = λ sight c. f.value.binds sight >>= (λ b. lift (operated (multiplying_of f.operator) c b));
  aggregates = f.value.aggregates;
}

-- an arm of a CASE
abbrev pub arm_step : ArmNode → ArmMeaning
arm_step a = record { condition = a.condition; value = a.value }
