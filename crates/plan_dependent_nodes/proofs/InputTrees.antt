-- The inputs of expressions, attached one after the other, and what is read over them.
use Rattle.std.proofs.Common.{◌≡◌, ℕ, ◌+◌, ◌<◌, List, [], ◌∷◌, ◌++◌, map, refl, sym, ap, ◌∙◌}
use Rattle.std.proofs.Common.{arith, length, take, get_or}
use Rattle.std.specs.Prelude.{slice_index_or}
use Rattle.std.proofs.lemmas.Grind.{flat_map-append}
use Rattle.std.proofs.lemmas.List.{append-nil, map-append, take_more}
use Rattle.std.proofs.lemmas.List.{get_or-append-add}
use Rattle.base_row_laws.specs.Ranked.{true_rank}
use Rattle.base_row_laws.proofs.Lists.{map-map}
use Rattle.expr_aggregates.specs.Values.{written}
use Rattle.expr_aggregates.specs.declared.function.AggregateFunction.{AggregateFunction}
use Rattle.base_value.specs.declared.value.Value.{Value}
use Rattle.base_value.specs.declared.value.Value.TheVariants.{Null}
use Rattle.base_value.specs.Truth.{truth_rank}
use Rattle.expr_operators.specs.declared.operator.Comparison.{Comparison}
use Rattle.expr_operators.specs.Operators.{compared}
use Rattle.expr_scalar.specs.declared.expr.Expr.{Expr}
use Rattle.expr_scalar.specs.declared.expr.Expr.TheVariants.{Column, All, Compare}
use Rattle.expr_scalar.specs.Meaning.{value, truth}
use Rattle.expr_scalar.specs.Rename.{IsRenamed, gathered}
use Rattle.expr_scalar.proofs.Opened.{value_Column, truth_Compare}
use Rattle.expr_conditions.specs.Ranks.{rank_of}
use Rattle.expr_conditions.proofs.Ranks.{rank_All}
use Rattle.plan_algebra.specs.Trees.{Occurrence}
use Rattle.base_schema.specs.State.{State, table_rows}
use Rattle.sql_bound_query.specs.declared.query.BoundAggregate.{BoundAggregate}
use Rattle.sql_bound_query.specs.declared.query.BoundAggregate.TheVariants as aggregate
use Rattle.sql_bound_query.specs.declared.query.BoundBlock.{BoundBlock}
use Rattle.sql_bound_query.specs.declared.query.BoundExpr.{BoundExpr}
use Rattle.sql_bound_query.specs.declared.query.Input.{Input}
use Rattle.sql_bound_query.specs.declared.query.Input.TheVariants as input
use Rattle.sql_bound_query.specs.Meaning.{Env, InputMeaning, ExprMeaning}
use Rattle.sql_bound_query.specs.Meaning.{input_meaning, expr_meaning, aggregate_meaning}
use Rattle.sql_bound_query.specs.Meaning.{block_meaning, single_value}
use Rattle.plan_kept_queries.specs.Scans.{tables, tables_of_input, tables_of_expr}
use Rattle.plan_kept_queries.specs.Scans.{tables_of_aggregate}
use Rattle.plan_kept_queries.specs.Scans.{joined_tables}
use Rattle.sql_bound_query.proofs.Opened.{input_Column_at, input_Exists_at, input_Any_at}
use Rattle.sql_bound_query.proofs.Opened.{input_Scalar_at, aggregate_CountRows_at, aggregate_Of_at}
use Rattle.sql_bound_query.proofs.Opened.{expr_is}
use Rattle.plan_kept_queries.proofs.ScansOpened.{in_Column, in_Exists, in_Any, in_Scalar}
use Rattle.plan_kept_queries.proofs.ScansOpened.{in_CountRows}
use Rattle.plan_kept_queries.proofs.ScansOpened.{in_Of, expr_tables_is}
use Rattle.plan_algebra.specs.declared.aggregate.Aggregate.{Aggregate}
use Rattle.plan_algebra.specs.declared.aggregate.Aggregate.TheVariants as counted
use Rattle.plan_algebra.specs.declared.tree.DepTree.{DepTree}
use Rattle.plan_algebra.specs.declared.tree.DepTree.TheVariants as t
use Rattle.plan_algebra.specs.declared.tree.Side.{Side}
use Rattle.plan_algebra.specs.Aggregates.{argument_and_function}
use Rattle.plan_algebra.specs.Trees.{tree_rows, scans_of, right_row, mark_under, scalar_at}
use Rattle.plan_algebra.proofs.Opened.{rows_Mark, rows_Single, scans_Mark, scans_Single, width_Mark}
use Rattle.plan_algebra.proofs.Opened.{width_Single}
use Rattle.plan_dependent_nodes.specs.declared.sight.OuterColumn.{OuterColumn}
use Rattle.plan_dependent_nodes.specs.Growth.{Attaches, Reading, IsAt, IsSubquery, InputAt}
use Rattle.plan_dependent_nodes.specs.Growth.{InputsAt, ExprAt, ListAt, AggregateAt, AggregatesAt}
use Rattle.plan_dependent_nodes.specs.Growth.{SameFunction, SameFunctions}
use Rattle.plan_dependent_nodes.proofs.Attachments.{attaches_none, attaches_as, attaches_then}
use Rattle.plan_dependent_nodes.proofs.Attachments.{attaches_column, attached_rows, marks_agree}

-- ---- lists, one element more

pub joined_more : {X : Type 0} (f : X → List Occurrence) (xs : List X) (i : ℕ) (x : X)
    → i < length xs → x ≡ get_or xs i x
    → joined_tables (map f (take i xs)) ++ f x ≡ joined_tables (map f (take (i + 1) xs))
joined_more f xs i x h e =
    let here : take (i + 1) xs ≡ take i xs ++ x ∷ [] =
    take_more xs i x h ∙ ap (λ y. take i xs ++ y ∷ []) (sym e) in
    ap (λ l. joined_tables (map f (take i xs)) ++ l) (sym (append-nil (f x)))
    ∙ sym (flat_map-append (λ ts. ts) (map f (take i xs)) (f x ∷ []))
    ∙ ap joined_tables (sym (map-append f (take i xs) (x ∷ [])) ∙ ap (map f) (sym here))

-- what maps give of lists with one element more
pub both_more : {A B C : Type 0} (f : A → C) (g : B → C) (as' now : List A) (a : A) (bs : List B)
    (i : ℕ) (b : B) → i < length bs → b ≡ get_or bs i b → now ≡ as' ++ a ∷ []
    → map f as' ≡ map g (take i bs) → f a ≡ g b → map f now ≡ map g (take (i + 1) bs)
both_more f g as' now a bs i b h is e p q =
    let here : take (i + 1) bs ≡ take i bs ++ b ∷ [] =
    take_more bs i b h ∙ ap (λ y. take i bs ++ y ∷ []) (sym is) in
    ap (map f) e ∙ map-append f as' (a ∷ []) ∙ ap (λ l. l ++ f a ∷ []) p
    ∙ ap (λ c. map g (take i bs) ++ c ∷ []) q
    ∙ sym (map-append g (take i bs) (b ∷ [])) ∙ ap (map g) (sym here)

pub inputs_valued : (state : State) (env : Env) (is : List Input)
    → map (λ i. input_meaning state i env) is
    ≡ map (λ (i : InputMeaning). i env) (map (input_meaning state) is)
inputs_valued state env is = sym (map-map (λ (i : InputMeaning). i env) (input_meaning state) is)

exprs_valued : (state : State) (env : Env) (es : List BoundExpr)
    → map (λ e. (expr_meaning state e).value env) es
    ≡ map (λ (e : ExprMeaning). e.value env) (map (expr_meaning state) es)
exprs_valued state env es = sym (map-map (λ (e : ExprMeaning). e.value env) (expr_meaning state) es)

module _ (outer : List OuterColumn) (start w : ℕ) where
  -- ---- each input

  pub column_arm : (level place at : ℕ) (old : DepTree) (end : ℕ)
      → IsAt outer start w level place at
      → Attaches outer start w (tables_of_input (input.Column level place))
      (InputAt (input.Column level place) at) old end old end
  unfolding InputAt
  column_arm level place at old end is =
      attaches_as outer start w [] (tables_of_input (input.Column level place))
      (InputAt (input.Column level place) at) (InputAt (input.Column level place) at) old end old
      end
      (attaches_none outer start w (InputAt (input.Column level place) at) old end
      (λ state env r flat s. is.reads env r flat s
      ∙ sym (input_Column_at state level place (r ∷ env))))
      (sym (in_Column level place)) (λ state env r flat p. p)

  abbrev Anything : Reading
  Anything state env r flat = Unit {0}

  always_rank : (row : List Value) → rank_of (All []) row ≡ true_rank
  always_rank row = rank_All [] row

  pub exists_arm : (q : BoundBlock) (right : DepTree) (side : Side) (old : DepTree) (end : ℕ)
      → IsSubquery q outer start w right side
      → Attaches outer start w (tables_of_input (input.Exists q)) (InputAt (input.Exists q) end) old
      end (t.Mark old right side (All [])) (end + 1)
  unfolding InputAt mark_under
  exists_arm q right side old end sub =
      let own : State → List Value → List Value → Value =
      λ state d u. mark_under (All []) d u
      (tree_rows right (table_rows state) (right_row side d u)) in
      let M : State → Env → List Value → Value =
      λ state env r. input_meaning state (input.Exists q) (r ∷ env) in
      attaches_as outer start w (tables q) (tables_of_input (input.Exists q))
      (λ state env r flat. slice_index_or flat end Null ≡ M state env r)
      (InputAt (input.Exists q) end)
      old end (t.Mark old right side (All [])) (end + 1)
      (attaches_column outer start w [] (tables q) Anything old end old end
      (t.Mark old right side (All [])) own M
      (attaches_none outer start w Anything old end (λ state env r flat s. tt))
      (scans_Mark old right side (All []) ∙ ap (λ l. scans_of old ++ l) sub.scans)
      (width_Mark old right side (All []))
      (λ state d. rows_Mark old right side (All []) (table_rows state) d
      ∙ attached_rows (mark_under (All []) d) (tree_rows old (table_rows state) d)
      (λ u. tree_rows right (table_rows state) (right_row side d u)))
      (λ state ok env d u r s e f.
      marks_agree written (rank_of (All [])) (λ v. true_rank) (d ++ u) []
      (tree_rows right (table_rows state) (right_row side d u)) (block_meaning state q (r ∷ env))
      (λ v. always_rank ((d ++ u) ++ v)) (sub.rows state ok env d u r s)
      ∙ sym (input_Exists_at state q (r ∷ env))))
      (sym (in_Exists q)) (λ state env r flat p. p)

  pub scalar_arm : (q : BoundBlock) (right : DepTree) (side : Side) (old : DepTree) (end : ℕ)
      → IsSubquery q outer start w right side
      → Attaches outer start w (tables_of_input (input.Scalar q)) (InputAt (input.Scalar q) end) old
      end (t.Single old right side 0) (end + 1)
  unfolding InputAt scalar_at
  scalar_arm q right side old end sub =
      let own : State → List Value → List Value → Value =
      λ state d u. scalar_at 0 u (tree_rows right (table_rows state) (right_row side d u)) in
      let M : State → Env → List Value → Value =
      λ state env r. input_meaning state (input.Scalar q) (r ∷ env) in
      attaches_as outer start w (tables q) (tables_of_input (input.Scalar q))
      (λ state env r flat. slice_index_or flat end Null ≡ M state env r)
      (InputAt (input.Scalar q) end)
      old end (t.Single old right side 0) (end + 1)
      (attaches_column outer start w [] (tables q) Anything old end old end
      (t.Single old right side 0) own M
      (attaches_none outer start w Anything old end (λ state env r flat s. tt))
      (scans_Single old right side 0 ∙ ap (λ l. scans_of old ++ l) sub.scans)
      (width_Single old right side 0)
      (λ state d. rows_Single old right side 0 (table_rows state) d
      ∙ attached_rows (scalar_at 0) (tree_rows old (table_rows state) d)
      (λ u. tree_rows right (table_rows state) (right_row side d u)))
      (λ state ok env d u r s e f. ap single_value (sub.rows state ok env d u r s)
      ∙ sym (input_Scalar_at state q (r ∷ env))))
      (sym (in_Scalar q)) (λ state env r flat p. p)

  -- the only column of a row after a flat row
  next_column : (flat v : List Value) (n : ℕ) → length flat ≡ n
      → slice_index_or (flat ++ v) n Null ≡ slice_index_or v 0 Null
  next_column flat v n e = let m : n ≡ length flat + 0 = omega (arith, e) in
      ap (λ k. slice_index_or (flat ++ v) k Null) m ∙ get_or-append-add flat v 0 Null

  pub any_arm : (c : Comparison) (e : BoundExpr) (x : Expr) (q : BoundBlock) (right : DepTree)
      (side : Side) (old : DepTree) (end : ℕ) (mid : DepTree) (between : ℕ)
      → Attaches outer start w (tables_of_expr e) (ExprAt e x) old end mid between
      → IsSubquery q outer start w right side
      → Attaches outer start w (tables_of_input (input.Any c e q))
      (InputAt (input.Any c e q) between) old end
      (t.Mark mid right side (Compare c x (Column between))) (between + 1)
  unfolding InputAt ExprAt mark_under rank_of
  any_arm c e x q right side old end mid between a sub =
      let on : Expr = Compare c x (Column between) in
      let own : State → List Value → List Value → Value =
      λ state d u. mark_under on d u (tree_rows right (table_rows state) (right_row side d u)) in
      let M : State → Env → List Value → Value =
      λ state env r. input_meaning state (input.Any c e q) (r ∷ env) in
      attaches_as outer start w (tables_of_expr e ++ tables q) (tables_of_input (input.Any c e q))
      (λ state env r flat. slice_index_or flat between Null ≡ M state env r)
      (InputAt (input.Any c e q) between) old end (t.Mark mid right side on) (between + 1)
      (attaches_column outer start w (tables_of_expr e) (tables q) (ExprAt e x) old end mid between
      (t.Mark mid right side on) own M a
      (scans_Mark mid right side on ∙ ap (λ l. scans_of mid ++ l) sub.scans)
      (width_Mark mid right side on)
      (λ state d. rows_Mark mid right side on (table_rows state) d
      ∙ attached_rows (mark_under on d) (tree_rows mid (table_rows state) d)
      (λ u. tree_rows right (table_rows state) (right_row side d u)))
      (λ state ok env d u r s n f.
      let left : Value = (expr_meaning state e).value (r ∷ env) in
      marks_agree written (rank_of on)
      (λ v. truth_rank (compared c left (slice_index_or v 0 Null))) (d ++ u) []
      (tree_rows right (table_rows state) (right_row side d u)) (block_meaning state q (r ∷ env))
      (λ v. ap truth_rank
      (truth_Compare c x (Column between) ((d ++ u) ++ v)
      ∙ ap (λ y. compared c y (value (Column between) ((d ++ u) ++ v))) (f v).0
      ∙ ap (compared c left)
      (value_Column between ((d ++ u) ++ v) ∙ next_column (d ++ u) v between n)))
      (sub.rows state ok env d u r s)
      ∙ sym (input_Any_at state c e q (r ∷ env))))
      (sym (in_Any c e q)) (λ state env r flat p. p)

  -- ---- all inputs, and an expression over them

  pub inputs_none : (old : DepTree) (end : ℕ)
      → Attaches outer start w [] (InputsAt [] []) old end old end
  unfolding InputsAt
  inputs_none old end = attaches_none outer start w (InputsAt [] []) old end
      (λ state env r flat s. refl)

  pub inputs_more : (inputs : List Input) (i : ℕ) (x : Input) (places now : List ℕ) (at : ℕ)
      (old : DepTree) (end : ℕ) (mid : DepTree) (between : ℕ) (new : DepTree) (last : ℕ)
      → i < length inputs → x ≡ get_or inputs i x → now ≡ places ++ at ∷ []
      → Attaches outer start w (joined_tables (map tables_of_input (take i inputs)))
      (InputsAt (take i inputs) places) old end mid between
      → Attaches outer start w (tables_of_input x) (InputAt x at) mid between new last
      → Attaches outer start w (joined_tables (map tables_of_input (take (i + 1) inputs)))
      (InputsAt (take (i + 1) inputs) now) old end new last
  unfolding InputsAt InputAt
  inputs_more inputs i x places now at old end mid between new last h is e a b =
      attaches_as outer start w
      (joined_tables (map tables_of_input (take i inputs)) ++ tables_of_input x)
      (joined_tables (map tables_of_input (take (i + 1) inputs)))
      (λ state env r flat. InputsAt (take i inputs) places state env r flat
      × InputAt x at state env r flat) (InputsAt (take (i + 1) inputs) now) old end new last
      (attaches_then outer start w (joined_tables (map tables_of_input (take i inputs)))
      (tables_of_input x) (InputsAt (take i inputs) places) (InputAt x at) old end mid between new
      last a b)
      (joined_more tables_of_input inputs i x h is)
      (λ state env r flat p. both_more (λ k. slice_index_or flat k Null)
      (λ y. input_meaning state y (r ∷ env)) places now at inputs i x h is e p.0 p.1)

  pub expr_arm : (e : BoundExpr) (places : List ℕ) (x : Expr) (old : DepTree) (end : ℕ)
      (new : DepTree) (last : ℕ)
      → Attaches outer start w (joined_tables (map tables_of_input e.inputs))
      (InputsAt e.inputs places) old end new last → IsRenamed places e.expr x
      → Attaches outer start w (tables_of_expr e) (ExprAt e x) old end new last
  unfolding InputsAt ExprAt gathered
  expr_arm e places x old end new last a is =
      attaches_as outer start w (joined_tables (map tables_of_input e.inputs)) (tables_of_expr e)
      (InputsAt e.inputs places) (ExprAt e x) old end new last a
      (sym (expr_tables_is e))
      (λ state env r flat p. (
        is.value flat ∙ ap (value e.expr) (p ∙ inputs_valued state (r ∷ env) e.inputs)
            ∙ sym (ap (λ (m : ExprMeaning). m.value (r ∷ env)) (expr_is state e)),
        is.truth flat ∙ ap (truth e.expr) (p ∙ inputs_valued state (r ∷ env) e.inputs)
            ∙ sym (ap (λ (m : ExprMeaning). m.truth (r ∷ env)) (expr_is state e)),
      ))

  -- ---- select lists and aggregates

  pub list_none : (old : DepTree) (end : ℕ)
      → Attaches outer start w [] (ListAt [] []) old end old end
  unfolding ListAt
  list_none old end = attaches_none outer start w (ListAt [] []) old end
      (λ state env r flat s. refl)

  pub list_more : (list : List BoundExpr) (i : ℕ) (e : BoundExpr) (xs now : List Expr) (x : Expr)
      (old : DepTree) (end : ℕ) (mid : DepTree) (between : ℕ) (new : DepTree) (last : ℕ)
      → i < length list → e ≡ get_or list i e → now ≡ xs ++ x ∷ []
      → Attaches outer start w (joined_tables (map tables_of_expr (take i list)))
      (ListAt (take i list) xs) old end mid between
      → Attaches outer start w (tables_of_expr e) (ExprAt e x) mid between new last
      → Attaches outer start w (joined_tables (map tables_of_expr (take (i + 1) list)))
      (ListAt (take (i + 1) list) now) old end new last
  unfolding ListAt ExprAt
  list_more list i e xs now x old end mid between new last h is k a b =
      attaches_as outer start w
      (joined_tables (map tables_of_expr (take i list)) ++ tables_of_expr e)
      (joined_tables (map tables_of_expr (take (i + 1) list)))
      (λ state env r flat. ListAt (take i list) xs state env r flat × ExprAt e x state env r flat)
      (ListAt (take (i + 1) list) now) old end new last
      (attaches_then outer start w (joined_tables (map tables_of_expr (take i list)))
      (tables_of_expr e) (ListAt (take i list) xs) (ExprAt e x) old end mid between new last a b)
      (joined_more tables_of_expr list i e h is)
      (λ state env r flat p. both_more (λ y. value y flat)
      (λ y. (expr_meaning state y).value (r ∷ env)) xs now x list i e h is k p.0 p.1.0)

  pub count_arm : (old : DepTree) (end : ℕ)
      → Attaches outer start w (tables_of_aggregate aggregate.CountRows)
      (AggregateAt aggregate.CountRows counted.CountRows) old end old end
  unfolding AggregateAt
  count_arm old end =
      attaches_as outer start w [] (tables_of_aggregate aggregate.CountRows)
      (AggregateAt aggregate.CountRows counted.CountRows)
      (AggregateAt aggregate.CountRows counted.CountRows)
      old end old end
      (attaches_none outer start w (AggregateAt aggregate.CountRows counted.CountRows) old end
      (λ state env r flat s. sym
      (ap (λ (m : (List Value → Value) × (List Value → Value)). m.0 r)
      (aggregate_CountRows_at state env))))
      (sym in_CountRows) (λ state env r flat p. p)

  pub of_arm : (function : AggregateFunction) (scale : ℕ) (e : BoundExpr) (x : Expr) (old : DepTree)
      (end : ℕ) (new : DepTree) (last : ℕ)
      → Attaches outer start w (tables_of_expr e) (ExprAt e x) old end new last
      → Attaches outer start w (tables_of_aggregate (aggregate.Of function scale e))
      (AggregateAt (aggregate.Of function scale e) (counted.Of function scale x)) old end new last
  unfolding AggregateAt ExprAt
  of_arm function scale e x old end new last a =
      attaches_as outer start w (tables_of_expr e)
      (tables_of_aggregate (aggregate.Of function scale e)) (ExprAt e x)
      (AggregateAt (aggregate.Of function scale e) (counted.Of function scale x)) old end new last a
      (sym (in_Of function scale e))
      (λ state env r flat p. p.0
      ∙ sym (ap (λ (m : (List Value → Value) × (List Value → Value)). m.0 r)
      (aggregate_Of_at state function scale e env)))

  pub aggregates_none : (old : DepTree) (end : ℕ)
      → Attaches outer start w [] (AggregatesAt [] []) old end old end
  unfolding AggregatesAt
  aggregates_none old end =
      attaches_none outer start w (AggregatesAt [] []) old end (λ state env r flat s. refl)

  pub aggregates_more : (all : List BoundAggregate) (i : ℕ) (g : BoundAggregate)
      (xs now : List Aggregate) (x : Aggregate) (old : DepTree) (end : ℕ) (mid : DepTree)
      (between : ℕ)
      (new : DepTree) (last : ℕ) → i < length all → g ≡ get_or all i g → now ≡ xs ++ x ∷ []
      → Attaches outer start w (joined_tables (map tables_of_aggregate (take i all)))
      (AggregatesAt (take i all) xs) old end mid between
      → Attaches outer start w (tables_of_aggregate g) (AggregateAt g x) mid between new last
      → Attaches outer start w (joined_tables (map tables_of_aggregate (take (i + 1) all)))
      (AggregatesAt (take (i + 1) all) now) old end new last
  unfolding AggregatesAt AggregateAt
  aggregates_more all i g xs now x old end mid between new last h is k a b =
      attaches_as outer start w
      (joined_tables (map tables_of_aggregate (take i all)) ++ tables_of_aggregate g)
      (joined_tables (map tables_of_aggregate (take (i + 1) all)))
      (λ state env r flat. AggregatesAt (take i all) xs state env r flat
      × AggregateAt g x state env r flat) (AggregatesAt (take (i + 1) all) now) old end new last
      (attaches_then outer start w (joined_tables (map tables_of_aggregate (take i all)))
      (tables_of_aggregate g) (AggregatesAt (take i all) xs) (AggregateAt g x) old end mid between
      new last
      a b)
      (joined_more tables_of_aggregate all i g h is)
      (λ state env r flat p. both_more (λ y. (argument_and_function y).0 flat)
      (λ y. (aggregate_meaning state y env).0 r) xs now x all i g h is k p.0 p.1)

-- ---- what aggregates make of values

pub same_count : SameFunction aggregate.CountRows counted.CountRows
unfolding SameFunction
same_count state env = sym
    (ap (λ (m : (List Value → Value) × (List Value → Value)). m.1)
    (aggregate_CountRows_at state env))

pub same_of : (function : AggregateFunction) (scale : ℕ) (e : BoundExpr) (x : Expr)
    → SameFunction (aggregate.Of function scale e) (counted.Of function scale x)
unfolding SameFunction
same_of function scale e x state env =
    sym (ap (λ (m : (List Value → Value) × (List Value → Value)). m.1)
    (aggregate_Of_at state function scale e env))

pub functions_none : SameFunctions [] []
unfolding SameFunctions
functions_none state env = refl

pub functions_more : (all : List BoundAggregate) (i : ℕ) (g : BoundAggregate)
    (xs now : List Aggregate) (x : Aggregate) → i < length all → g ≡ get_or all i g
    → now ≡ xs ++ x ∷ []
    → SameFunctions (take i all) xs → SameFunction g x → SameFunctions (take (i + 1) all) now
unfolding SameFunctions SameFunction
functions_more all i g xs now x h is k s f state env =
    both_more (λ y. (argument_and_function y).1) (λ y. (aggregate_meaning state y env).1) xs now x
    all i g h is k (s state env) (f state env)
