-- Induction over bound queries: one step for each node.
use Rattle.std.proofs.Common.{ℕ, List, map, Option, sym, subst}
use Rattle.expr_aggregates.specs.declared.function.AggregateFunction.{AggregateFunction}
use Rattle.expr_scalar.specs.declared.expr.Expr.{Expr}
use Rattle.base_set_rows.specs.declared.kind.SetOperation.{SetOperation}
use Rattle.expr_operators.specs.declared.operator.Comparison.{Comparison}
use Rattle.sql_bound_query.specs.declared.query.SetColumn.{SetColumn}
use Rattle.base_schema.specs.declared.table.TableName.{TableName}
use Rattle.sql_bound_query.specs.declared.query.BoundAggregate.{BoundAggregate, roll-BoundAggregate}
use Rattle.sql_bound_query.specs.declared.query.BoundAggregate.TheFolds.{ind-BoundBlock}
use Rattle.sql_bound_query.specs.declared.query.BoundAggregate.TheFolds.{ind-BoundSource}
use Rattle.sql_bound_query.specs.declared.query.BoundAggregate.TheFolds.{map-BoundAggregate}
use Rattle.sql_bound_query.specs.declared.query.BoundAggregate.TheFolds.{map-BoundBlock}
use Rattle.sql_bound_query.specs.declared.query.BoundAggregate.TheFolds.{map-BoundSource, map-Input}
use Rattle.sql_bound_query.specs.declared.query.BoundAggregate.TheOpen as f
use Rattle.sql_bound_query.specs.declared.query.BoundAggregate.TheVariants as aggregate
use Rattle.sql_bound_query.specs.declared.query.BoundBlock.{BoundBlock, roll-BoundBlock}
use Rattle.sql_bound_query.specs.declared.query.BoundBlock.TheVariants as block
use Rattle.sql_bound_query.specs.declared.query.BoundExpr.{BoundExpr, roll-BoundExpr}
use Rattle.sql_bound_query.specs.declared.query.BoundSource.{BoundSource, roll-BoundSource}
use Rattle.sql_bound_query.specs.declared.query.BoundSource.TheVariants as source
use Rattle.sql_bound_query.specs.declared.query.Input.{Input, roll-Input}
use Rattle.sql_bound_query.specs.declared.query.Input.TheVariants as input

-- a part of a query, with a fact about it
abbrev pub With : (X : Type 0) → (X → Type 0) → Type 0
With X P = (x : X) × P x

-- parts, each with a fact about it
abbrev pub Withs : (X : Type 0) → (X → Type 0) → Type 0
Withs X P = List (With X P)

-- the parts alone
abbrev pub parts : {X : Type 0} {P : X → Type 0} → Withs X P → List X
parts xs = map (λ x. x.0) xs

module _ (A : BoundAggregate → Type 0) (B : BoundBlock → Type 0) (S : BoundSource → Type 0)
    (I : Input → Type 0) (E : BoundExpr → Type 0) where
  -- what there is to show of each node
  pub record Steps : Type 0 where
    pub count_rows : A aggregate.CountRows
    pub of : (function : AggregateFunction) (scale : ℕ) (argument : BoundExpr) → E argument
        → A (aggregate.Of function scale argument)
    pub plain : (from : BoundSource) → S from → (condition : BoundExpr) → E condition
        → (list : Withs BoundExpr E) → B (block.Plain from condition (parts {P = E} list))
    pub grouped : (from : BoundSource) → S from → (condition : BoundExpr) → E condition
        → (keys : List ℕ) → (aggregates : Withs BoundAggregate A)
        → (having : BoundExpr) → E having → (list : Withs BoundExpr E)
        → B (block.Grouped from condition keys (parts {P = A} aggregates) having
        (parts {P = E} list))
    pub distinct : (q : BoundBlock) → B q → B (block.Distinct q)
    pub set : (a : BoundBlock) → B a → (b : BoundBlock) → B b → (columns : List SetColumn)
        → (operation : SetOperation) → B (block.Set a b columns operation)
    pub table : (t : TableName) → S (source.Table t)
    pub derived : (kept : Option ℕ) (q : BoundBlock) → B q → S (source.Derived kept q)
    pub lateral : (q : BoundBlock) → B q → S (source.Lateral q)
    pub cross : (a : BoundSource) → S a → (b : BoundSource) → S b → S (source.Cross a b)
    pub inner : (a : BoundSource) → S a → (b : BoundSource) → S b → (on : BoundExpr) → E on
        → S (source.Inner a b on)
    pub outer : (a : BoundSource) → S a → (b : BoundSource) → S b → (width : ℕ) → (on : BoundExpr)
        → E on → S (source.Outer a b width on)
    pub column : (level place : ℕ) → I (input.Column level place)
    pub exists : (q : BoundBlock) → B q → I (input.Exists q)
    pub any : (c : Comparison) → (e : BoundExpr) → E e → (q : BoundBlock) → B q
        → I (input.Any c e q)
    pub scalar : (q : BoundBlock) → B q → I (input.Scalar q)
    pub expr : (inputs : Withs Input I) (x : Expr)
        → E (record { inputs = parts {P = I} inputs; expr = x })

  aggregate_node : Steps → (y : f.BoundAggregate-F (With BoundAggregate A) (With BoundBlock B)
      (With BoundSource S) (With Input I) (With BoundExpr E))
      → A (roll-BoundAggregate
      (map-BoundAggregate (With BoundAggregate A) (With BoundBlock B) (With BoundSource S)
      (With Input I) (With BoundExpr E) BoundAggregate BoundBlock BoundSource Input BoundExpr
      (λ x. x.0) (λ x. x.0) (λ x. x.0) (λ x. x.0) (λ x. x.0) y))
  aggregate_node s f.CountRows = subst A (sym aggregate.rolls-CountRows) s.count_rows
  aggregate_node s (f.Of function scale a) =
      subst A (sym (aggregate.rolls-Of function scale a.0)) (s.of function scale a.0 a.1)

  block_node : Steps → (y : f.BoundBlock-F (With BoundAggregate A) (With BoundBlock B)
      (With BoundSource S) (With Input I) (With BoundExpr E))
      → B (roll-BoundBlock (map-BoundBlock (With BoundAggregate A) (With BoundBlock B)
      (With BoundSource S) (With Input I) (With BoundExpr E) BoundAggregate BoundBlock BoundSource
      Input BoundExpr (λ x. x.0) (λ x. x.0) (λ x. x.0) (λ x. x.0) (λ x. x.0) y))
  block_node s (f.Plain from condition list) =
      subst B (sym (block.rolls-Plain from.0 condition.0 (parts {P = E} list)))
      (s.plain from.0 from.1 condition.0 condition.1 list)
  block_node s (f.Grouped from condition keys aggregates having list) =
      subst B (sym (block.rolls-Grouped from.0 condition.0 keys (parts {P = A} aggregates) having.0
      (parts {P = E} list)))
      (s.grouped from.0 from.1 condition.0 condition.1 keys aggregates having.0 having.1 list)
  block_node s (f.Distinct q) = subst B (sym (block.rolls-Distinct q.0)) (s.distinct q.0 q.1)
  block_node s (f.Set a b columns operation) =
      subst B (sym (block.rolls-Set a.0 b.0 columns operation))
      (s.set a.0 a.1 b.0 b.1 columns operation)

  source_node : Steps → (y : f.BoundSource-F (With BoundAggregate A) (With BoundBlock B)
      (With BoundSource S) (With Input I) (With BoundExpr E))
      → S (roll-BoundSource (map-BoundSource (With BoundAggregate A) (With BoundBlock B)
      (With BoundSource S) (With Input I) (With BoundExpr E) BoundAggregate BoundBlock BoundSource
      Input BoundExpr (λ x. x.0) (λ x. x.0) (λ x. x.0) (λ x. x.0) (λ x. x.0) y))
  source_node s (f.Table t) = subst S (sym (source.rolls-Table t)) (s.table t)
  source_node s (f.Derived kept q) =
      subst S (sym (source.rolls-Derived kept q.0)) (s.derived kept q.0 q.1)
  source_node s (f.Lateral q) = subst S (sym (source.rolls-Lateral q.0)) (s.lateral q.0 q.1)
  source_node s (f.Cross a b) = subst S (sym (source.rolls-Cross a.0 b.0)) (s.cross a.0 a.1 b.0 b.1)
  source_node s (f.Inner a b on) =
      subst S (sym (source.rolls-Inner a.0 b.0 on.0)) (s.inner a.0 a.1 b.0 b.1 on.0 on.1)
  source_node s (f.Outer a b width on) =
      subst S (sym (source.rolls-Outer a.0 b.0 width on.0))
      (s.outer a.0 a.1 b.0 b.1 width on.0 on.1)

  input_node : Steps → (y : f.Input-F (With BoundAggregate A) (With BoundBlock B)
      (With BoundSource S) (With Input I) (With BoundExpr E))
      → I (roll-Input (map-Input (With BoundAggregate A) (With BoundBlock B) (With BoundSource S)
      (With Input I) (With BoundExpr E) BoundAggregate BoundBlock BoundSource Input BoundExpr
      (λ x. x.0) (λ x. x.0) (λ x. x.0) (λ x. x.0) (λ x. x.0) y))
  input_node s (f.Column level place) =
      subst I (sym (input.rolls-Column level place)) (s.column level place)
  input_node s (f.Exists q) = subst I (sym (input.rolls-Exists q.0)) (s.exists q.0 q.1)
  input_node s (f.Any c e q) = subst I (sym (input.rolls-Any c e.0 q.0)) (s.any c e.0 e.1 q.0 q.1)
  input_node s (f.Scalar q) = subst I (sym (input.rolls-Scalar q.0)) (s.scalar q.0 q.1)

  -- the same of a source
  pub source_induction : Steps → (x : BoundSource) → S x
  source_induction s =
      ind-BoundSource A B S I E
      (λ x y is. subst (λ z. A (roll-BoundAggregate z)) is (aggregate_node s y))
      (λ x y is. subst (λ z. B (roll-BoundBlock z)) is (block_node s y))
      (λ x y is. subst (λ z. S (roll-BoundSource z)) is (source_node s y))
      (λ x y is. subst (λ z. I (roll-Input z)) is (input_node s y))
      (λ x y is. subst (λ z. E (roll-BoundExpr z)) is (s.expr y.inputs y.expr))

  pub induction : Steps → (q : BoundBlock) → B q
  induction s =
      ind-BoundBlock A B S I E
      (λ x y is. subst (λ z. A (roll-BoundAggregate z)) is (aggregate_node s y))
      (λ x y is. subst (λ z. B (roll-BoundBlock z)) is (block_node s y))
      (λ x y is. subst (λ z. S (roll-BoundSource z)) is (source_node s y))
      (λ x y is. subst (λ z. I (roll-Input z)) is (input_node s y))
      (λ x y is. subst (λ z. E (roll-BoundExpr z)) is (s.expr y.inputs y.expr))
