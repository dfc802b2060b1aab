-- What the tests of a query's form say of each node.
use Rattle.std.proofs.Common.{◌≡◌, ℕ, List, Bool, true, false, ◌&&◌, cond, Some, None, refl, sym, ◌∙◌, ap, inl, inr, arith, ◌<◌, ◌≤◌}
use Rattle.std.specs.Prelude.{◌==◌, length, not, is_some, option_and_then, slice_get}
use Rattle.std.specs.List.{list_all}
use Rattle.std.proofs.lemmas.Bool.{true≢false, cases_Bool, eqb-true}
use Rattle.expr_aggregates.specs.declared.function.AggregateFunction.{AggregateFunction}
use Rattle.expr_scalar.specs.declared.expr.Branch.{Branch}
use Rattle.expr_scalar.specs.declared.expr.Expr.{Expr, Expr-F, out-Expr, roll-Expr, out-roll-Expr}
use Rattle.expr_scalar.specs.declared.expr.Expr.TheFolds.{ind-Expr}
use Rattle.expr_scalar.specs.declared.expr.Expr.TheOpen as f
use Rattle.expr_scalar.specs.declared.expr.Expr.TheVariants as e
use Rattle.expr_scalar.specs.declared.expr.Operation.{Operation}
use Rattle.base_schema.specs.declared.table.TableName.{TableName}
use Rattle.sql_bound_query.specs.declared.query.BoundAggregate.{BoundAggregate}
use Rattle.sql_bound_query.specs.declared.query.BoundAggregate.TheOpen as node
use Rattle.sql_bound_query.specs.declared.query.BoundAggregate.TheVariants as aggregate
use Rattle.sql_bound_query.specs.declared.query.BoundAggregate.TheFolds.{ind-BoundBlock, ind-BoundSource, ind-Input}
use Rattle.sql_bound_query.specs.declared.query.BoundBlock.{BoundBlock, out-BoundBlock, roll-BoundBlock, out-roll-BoundBlock}
use Rattle.sql_bound_query.specs.declared.query.BoundBlock.TheVariants as block
use Rattle.sql_bound_query.specs.declared.query.BoundExpr.{BoundExpr, out-BoundExpr}
use Rattle.sql_bound_query.specs.declared.query.BoundSource.{BoundSource, out-BoundSource, roll-BoundSource, out-roll-BoundSource}
use Rattle.sql_bound_query.specs.declared.query.BoundQuery.{BoundQuery}
use Rattle.sql_bound_query.specs.declared.query.BoundSource.TheVariants as source
use Rattle.sql_bound_query.specs.declared.query.Input.{Input, out-Input, roll-Input, out-roll-Input}
use Rattle.sql_bound_query.specs.declared.query.Input.TheVariants as input
use Rattle.plan_kept_queries.specs.Forms.{place_at, own_place, column_at, shown_place, is_nothing}
use Rattle.plan_kept_queries.specs.Forms.{holds_always, is_kept_at, is_kept_aggregate, is_table_at}
use Rattle.plan_kept_queries.specs.Forms.{is_table, is_block_at, is_kept, is_kept_block, is_over_row, columns_at, columns_of}

-- inputs
pub own_Column : (level place : ℕ) → own_place (input.Column level place) ≡ cond (level == 0) (Some place) None
unfolding own_place
own_Column level place = ap place_at (input.outs-Column level place)

-- aggregates
pub kept_CountRows : is_kept_aggregate aggregate.CountRows ≡ true
unfolding is_kept_aggregate
kept_CountRows = ap is_kept_at aggregate.outs-CountRows

pub kept_Of : (function : AggregateFunction) (scale : ℕ) (x : BoundExpr) → is_kept_aggregate (aggregate.Of function scale x) ≡ is_kept_at (node.Of function scale x)
unfolding is_kept_aggregate
kept_Of function scale x = ap is_kept_at (aggregate.outs-Of function scale x)

-- sources
pub table_Table : (t : TableName) → is_table (source.Table t) ≡ true
unfolding is_table
table_Table t = ap is_table_at (source.outs-Table t)

-- queries
pub block_Grouped : (from : BoundSource) (condition : BoundExpr) (by : List ℕ) (aggregates : List BoundAggregate) (having : BoundExpr) (list : List BoundExpr)
    → is_kept_block (block.Grouped from condition by aggregates having list)
    ≡ (is_table from && (is_over_row condition && (list_all is_kept_aggregate aggregates && (holds_always having && list_all (λ x. is_some (shown_place x)) list))))
unfolding is_kept_block
block_Grouped from condition by aggregates having list = ap is_block_at (block.outs-Grouped from condition by aggregates having list)

pub columns_Grouped : (from : BoundSource) (condition : BoundExpr) (by : List ℕ) (aggregates : List BoundAggregate) (having : BoundExpr) (list : List BoundExpr)
    → columns_of (block.Grouped from condition by aggregates having list) ≡ length list
unfolding columns_of
columns_Grouped from condition by aggregates having list = ap columns_at (block.outs-Grouped from condition by aggregates having list)

-- parts of a query are made of their nodes
abbrev any : {X : Type 0} → X → Type 0
any x = Unit {0}

input_rolled : (i : Input) → i ≡ roll-Input (out-Input i)
input_rolled =
    ind-Input any any any (λ i. i ≡ roll-Input (out-Input i)) any
    (λ x y is. tt) (λ x y is. tt) (λ x y is. tt) (λ x y is. ap roll-Input (sym (out-roll-Input x))) (λ x y is. tt)

source_rolled : (s : BoundSource) → s ≡ roll-BoundSource (out-BoundSource s)
source_rolled =
    ind-BoundSource any any (λ s. s ≡ roll-BoundSource (out-BoundSource s)) any any
    (λ x y is. tt) (λ x y is. tt) (λ x y is. ap roll-BoundSource (sym (out-roll-BoundSource x))) (λ x y is. tt) (λ x y is. tt)

block_rolled : (q : BoundBlock) → q ≡ roll-BoundBlock (out-BoundBlock q)
block_rolled =
    ind-BoundBlock any (λ q. q ≡ roll-BoundBlock (out-BoundBlock q)) any any any
    (λ x y is. tt) (λ x y is. ap roll-BoundBlock (sym (out-roll-BoundBlock x))) (λ x y is. tt) (λ x y is. tt) (λ x y is. tt)

-- inputs that are no column, sources that are no table, and queries that are not grouped
abbrev InputNode : Type 0
InputNode = node.Input-F BoundAggregate BoundBlock BoundSource Input BoundExpr

abbrev SourceNode : Type 0
SourceNode = node.BoundSource-F BoundAggregate BoundBlock BoundSource Input BoundExpr

abbrev BlockNode : Type 0
BlockNode = node.BoundBlock-F BoundAggregate BoundBlock BoundSource Input BoundExpr

no_place_at : (x : InputNode) → ((level place : ℕ) → x ≡ node.Column level place → ⊥) → place_at x ≡ None
no_place_at (node.Column level place) other = absurd (other level place refl)
no_place_at x other = refl

pub no_input : (i : Input) → ((level place : ℕ) → i ≡ input.Column level place → ⊥) → own_place i ≡ None
unfolding own_place
no_input i other = no_place_at (out-Input i) (λ level place is. other level place (input_rolled i ∙ ap roll-Input is ∙ input.rolls-Column level place))

no_table_at : (x : SourceNode) → ((t : TableName) → x ≡ node.Table t → ⊥) → is_table_at x ≡ false
no_table_at (node.Table t) other = absurd (other t refl)
no_table_at x other = refl

pub no_table : (s : BoundSource) → ((t : TableName) → s ≡ source.Table t → ⊥) → is_table s ≡ false
unfolding is_table
no_table s other = no_table_at (out-BoundSource s) (λ t is. other t (source_rolled s ∙ ap roll-BoundSource is ∙ source.rolls-Table t))

no_block_at : (x : BlockNode) → ((from : BoundSource) (condition : BoundExpr) (by : List ℕ) (aggregates : List BoundAggregate) (having : BoundExpr) (list : List BoundExpr)
    → x ≡ node.Grouped from condition by aggregates having list → ⊥) → is_block_at x ≡ false
no_block_at (node.Grouped from condition by aggregates having list) other = absurd (other from condition by aggregates having list refl)
no_block_at x other = refl

pub no_block : (q : BoundBlock) → ((from : BoundSource) (condition : BoundExpr) (by : List ℕ) (aggregates : List BoundAggregate) (having : BoundExpr) (list : List BoundExpr)
    → q ≡ block.Grouped from condition by aggregates having list → ⊥) → is_kept_block q ≡ false
unfolding is_kept_block
no_block q other =
    no_block_at (out-BoundBlock q)
    (λ from condition by aggregates having list is.
    other from condition by aggregates having list (block_rolled q ∙ ap roll-BoundBlock is ∙ block.rolls-Grouped from condition by aggregates having list))

-- an expression is made of its node
expr_rolled : (x : Expr) → x ≡ roll-Expr (out-Expr x)
expr_rolled =
    ind-Expr (λ x. x ≡ roll-Expr (out-Expr x)) any any
    (λ x y is. ap roll-Expr (sym (out-roll-Expr x))) (λ x y is. tt) (λ x y is. tt)

-- expressions that are no column, or no AND
no_column_at : (y : Expr-F Expr Branch Operation) → ((k : ℕ) → y ≡ f.Column k → ⊥) → column_at y ≡ None
no_column_at (f.Column k) other = absurd (other k refl)
no_column_at y other = refl

pub no_column : (x : BoundExpr) → ((k : ℕ) → (out-BoundExpr x).expr ≡ e.Column k → ⊥) → shown_place x ≡ None
unfolding shown_place
no_column x other =
    let y : Expr = (out-BoundExpr x).expr in
    ap (option_and_then (λ k. option_and_then own_place (slice_get (out-BoundExpr x).inputs k)))
    (no_column_at (out-Expr y) (λ k is. other k (expr_rolled y ∙ ap roll-Expr is ∙ e.rolls-Column k)))

not_nothing_at : (y : Expr-F Expr Branch Operation) → ((es : List Expr) → y ≡ f.All es → ⊥) → is_nothing y ≡ false
not_nothing_at (f.All es) other = absurd (other es refl)
not_nothing_at y other = refl

pub not_nothing : (x : BoundExpr) → ((es : List Expr) → (out-BoundExpr x).expr ≡ e.All es → ⊥) → holds_always x ≡ false
unfolding holds_always
not_nothing x other =
    let y : Expr = (out-BoundExpr x).expr in
    not_nothing_at (out-Expr y) (λ es is. other es (expr_rolled y ∙ ap roll-Expr is ∙ e.rolls-All es))

-- the tests of a form, one after the other
pub and_true : (a b : Bool) → a ≡ true → b ≡ true → (a && b) ≡ true
and_true true b s t = t
and_true false b s t = s

pub and_first : (a b : Bool) → a ≡ false → (a && b) ≡ false
and_first true b s = absurd (true≢false s)
and_first false b s = refl

pub and_second : (a b : Bool) → b ≡ false → (a && b) ≡ false
and_second true b s = s
and_second false b s = refl

-- an expression over the row itself
pub over_of : (x : BoundExpr) (inputs : List Input) → inputs ≡ (out-BoundExpr x).inputs → list_all (λ i. is_some (own_place i)) inputs ≡ is_over_row x
unfolding is_over_row
over_of x inputs is = ap (list_all (λ i. is_some (own_place i))) is

-- a column of the row itself, and one of a row around it
pub own_here : (level place : ℕ) → level ≡ 0 → own_place (input.Column level place) ≡ Some place
own_here level place here = own_Column level place ∙ ap (λ n. cond (n == 0) (Some place) None) here

pub own_far : (level place : ℕ) → (level ≡ 0 → ⊥) → own_place (input.Column level place) ≡ None
own_far level place far = own_Column level place ∙ elim (cases_Bool (level == 0)) [
  | inl t ↦ absurd (far (eqb-true level 0 t))
  | inr f ↦ rw f
]

-- a grouped query
module _ (q : BoundBlock) (from : BoundSource) (condition : BoundExpr) (by : List ℕ) (aggregates : List BoundAggregate) (having : BoundExpr) (list : List BoundExpr)
    (is : q ≡ block.Grouped from condition by aggregates having list) where
  block_test : is_kept_block q
      ≡ (is_table from && (is_over_row condition && (list_all is_kept_aggregate aggregates && (holds_always having && list_all (λ x. is_some (shown_place x)) list))))
  block_test = ap is_kept_block is ∙ block_Grouped from condition by aggregates having list

  pub without_table : is_table from ≡ false → is_kept_block q ≡ false
  without_table f = block_test ∙ and_first (is_table from) ((is_over_row condition) && ((list_all is_kept_aggregate aggregates) && ((holds_always having) && (list_all (λ x. is_some (shown_place x)) list)))) f

  pub without_condition : is_over_row condition ≡ false → is_kept_block q ≡ false
  without_condition f = block_test ∙ and_second (is_table from) ((is_over_row condition) && ((list_all is_kept_aggregate aggregates) && ((holds_always having) && (list_all (λ x. is_some (shown_place x)) list)))) (and_first (is_over_row condition) ((list_all is_kept_aggregate aggregates) && ((holds_always having) && (list_all (λ x. is_some (shown_place x)) list))) f)

  pub without_aggregates : list_all is_kept_aggregate aggregates ≡ false → is_kept_block q ≡ false
  without_aggregates f = block_test ∙ and_second (is_table from) ((is_over_row condition) && ((list_all is_kept_aggregate aggregates) && ((holds_always having) && (list_all (λ x. is_some (shown_place x)) list)))) (and_second (is_over_row condition) ((list_all is_kept_aggregate aggregates) && ((holds_always having) && (list_all (λ x. is_some (shown_place x)) list))) (and_first (list_all is_kept_aggregate aggregates) ((holds_always having) && (list_all (λ x. is_some (shown_place x)) list)) f))

  pub without_having : holds_always having ≡ false → is_kept_block q ≡ false
  without_having f = block_test ∙ and_second (is_table from) ((is_over_row condition) && ((list_all is_kept_aggregate aggregates) && ((holds_always having) && (list_all (λ x. is_some (shown_place x)) list)))) (and_second (is_over_row condition) ((list_all is_kept_aggregate aggregates) && ((holds_always having) && (list_all (λ x. is_some (shown_place x)) list))) (and_second (list_all is_kept_aggregate aggregates) ((holds_always having) && (list_all (λ x. is_some (shown_place x)) list)) (and_first (holds_always having) (list_all (λ x. is_some (shown_place x)) list) f)))

  pub without_list : list_all (λ x. is_some (shown_place x)) list ≡ false → is_kept_block q ≡ false
  without_list f = block_test ∙ and_second (is_table from) ((is_over_row condition) && ((list_all is_kept_aggregate aggregates) && ((holds_always having) && (list_all (λ x. is_some (shown_place x)) list)))) (and_second (is_over_row condition) ((list_all is_kept_aggregate aggregates) && ((holds_always having) && (list_all (λ x. is_some (shown_place x)) list))) (and_second (list_all is_kept_aggregate aggregates) ((holds_always having) && (list_all (λ x. is_some (shown_place x)) list)) (and_second (holds_always having) (list_all (λ x. is_some (shown_place x)) list) f)))

  pub with_all : is_table from ≡ true → is_over_row condition ≡ true → list_all is_kept_aggregate aggregates ≡ true → holds_always having ≡ true
      → list_all (λ x. is_some (shown_place x)) list ≡ true → is_kept_block q ≡ true
  with_all a b c d e = block_test ∙ and_true _ _ a (and_true _ _ b (and_true _ _ c (and_true _ _ d e)))

-- a statement
pub ordered : (q : BoundQuery) (n : ℕ) → n ≡ length q.order → 0 < n → is_kept q ≡ false
unfolding is_kept
ordered q n is some = and_first (length q.order == 0) (not (is_some q.limit) && is_kept_block q.block) (elim (cases_Bool (length q.order == 0)) [
  | inl t ↦ let e : length q.order ≡ 0 = eqb-true (length q.order) 0 t in absurd (omega arith)
  | inr f ↦ f
])

pub limited : (q : BoundQuery) → is_some q.limit ≡ true → is_kept q ≡ false
unfolding is_kept
limited q some = and_second (length q.order == 0) (not (is_some q.limit) && is_kept_block q.block) (and_first (not (is_some q.limit)) (is_kept_block q.block) (ap not some))

pub plain : (q : BoundQuery) (n : ℕ) → n ≡ length q.order → n ≤ 0 → is_some q.limit ≡ false → is_kept q ≡ is_kept_block q.block
unfolding is_kept
plain q n is none free =
    let e : length q.order ≡ 0 = omega (arith, is, none) in
    ap (λ m. (m == 0) && (not (is_some q.limit) && is_kept_block q.block)) e ∙ ap (λ b. not b && is_kept_block q.block) free

-- a query that is kept is grouped
pub record IsGrouped (q : BoundBlock) : Type 0 where
  pub from : BoundSource
  pub condition : BoundExpr
  pub by : List ℕ
  pub aggregates : List BoundAggregate
  pub having : BoundExpr
  pub list : List BoundExpr
  pub is : q ≡ block.Grouped from condition by aggregates having list
  pub columns : columns_of q ≡ length list

grouped_at : (q : BoundBlock) (x : BlockNode) → q ≡ roll-BoundBlock x → is_block_at x ≡ true → IsGrouped q
grouped_at q (node.Grouped from condition by aggregates having list) is kept =
    let named : q ≡ block.Grouped from condition by aggregates having list = is ∙ block.rolls-Grouped from condition by aggregates having list in
    record {
      from = from;
      condition = condition;
      by = by;
      aggregates = aggregates;
      having = having;
      list = list;
      is = named;
      columns = ap columns_of named ∙ columns_Grouped from condition by aggregates having list;
    }
grouped_at q x is kept = absurd (true≢false (sym kept))

pub grouped_of : (q : BoundBlock) → is_kept_block q ≡ true → IsGrouped q
unfolding is_kept_block
grouped_of q kept = grouped_at q (out-BoundBlock q) (block_rolled q) kept
