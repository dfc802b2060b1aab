-- The parts of a plan mean what those of its query do.
use Rattle.std.proofs.Common.{◌≡◌, ℕ, arith, zero, suc, List, [], ◌∷◌, map, true, Some, None, refl, sym, ◌∙◌, ap, subst, inl, inr}
use Rattle.std.specs.Prelude.{slice_index_or, slice_get, option_and_then, ◌==◌, is_some, length, Result}
use Rattle.std.proofs.Math.Path.{fun_ext}
use Rattle.std.proofs.lemmas.Bool.{cases_Bool, eqb-true, true≢false}
use Rattle.std.proofs.lemmas.List.{length-map}
use Rattle.base_row_laws.specs.Aggregates.{aggregated}
use Rattle.base_row_laws.specs.Bags.{Each}
use Rattle.base_row_laws.specs.Ranked.{Ranked, ranked, true_rank}
use Rattle.base_row_laws.specs.Rows.{columns, scanned}
use Rattle.base_row_laws.specs.Operators.{select, project}
use Rattle.base_row_laws.specs.StandingLaws.{Stands}
use Rattle.base_row_laws.proofs.Lists.{Each-map, Each-all, map-map}
use Rattle.base_row_laws.proofs.Standings as stands
use Rattle.base_value.specs.declared.value.Value.{Value}
use Rattle.base_value.specs.declared.value.Value.TheVariants.{Null}
use Rattle.base_value.specs.Truth.{truth_rank}
use Rattle.base_value.specs.Value.{same_value}
use Rattle.expr_aggregates.specs.declared.function.AggregateFunction.{AggregateFunction}
use Rattle.expr_aggregates.specs.declared.function.AggregateFunction.TheVariants.{Count, Sum}
use Rattle.expr_aggregates.specs.Values.{aggregate_of}
use Rattle.expr_scalar.specs.declared.expr.Expr.{Expr, out-Expr}
use Rattle.expr_scalar.specs.declared.expr.Expr.TheVariants as e
use Rattle.expr_scalar.specs.Meaning.{value, truth, truths}
use Rattle.expr_scalar.specs.Rename.{IsRenamed, gathered}
use Rattle.expr_scalar.proofs.Opened.{value_Column, truth_All}
use Rattle.base_schema.specs.declared.table.TableName.{TableName}
use Rattle.base_schema.specs.State.{State, table_rows}
use Rattle.sql_bound_query.specs.declared.query.BoundAggregate.{BoundAggregate}
use Rattle.sql_bound_query.specs.declared.query.BoundAggregate.TheOpen as node
use Rattle.sql_bound_query.specs.declared.query.BoundAggregate.TheVariants as aggregate
use Rattle.sql_bound_query.specs.declared.query.BoundBlock.{BoundBlock}
use Rattle.sql_bound_query.specs.declared.query.BoundBlock.TheVariants as block
use Rattle.sql_bound_query.specs.declared.query.BoundExpr.{BoundExpr, out-BoundExpr}
use Rattle.sql_bound_query.specs.declared.query.BoundSource.{BoundSource}
use Rattle.sql_bound_query.specs.declared.query.BoundSource.TheVariants as source
use Rattle.sql_bound_query.specs.declared.query.Input.{Input, out-Input}
use Rattle.sql_bound_query.specs.Meaning.{Env, InputMeaning, ExprMeaning, AggregateMeaning, groups}
use Rattle.sql_bound_query.specs.Meaning.{rows, expr_meaning, aggregate_meaning, input_meaning}
use Rattle.sql_bound_query.specs.Meaning.{source_meaning, block_meaning}
use Rattle.sql_bound_query.specs.Meaning as query
use Rattle.sql_bound_query.proofs.Opened.{input_meaning_at, input_meaning_is, expr_is, aggregate_Of_at}
use Rattle.sql_bound_query.proofs.Opened.{source_Table_at, block_Grouped_at, aggregate_CountRows_at}
use Rattle.plan_algebra.specs.declared.kept_plan.KeptAggregate.{KeptAggregate}
use Rattle.plan_algebra.specs.declared.kept_plan.KeptAggregate.TheVariants as kept
use Rattle.plan_algebra.specs.declared.kept_plan.KeptPlan.{KeptPlan}
use Rattle.plan_algebra.specs.KeptPlans.{item_of, holds_for, kept_groups, selected, query_rows}
use Rattle.plan_kept_queries.specs.Forms.{place_at, own_place, IsOver, IsItem, AreItems, AreShown, IsShown, IsPlanOf, IsTrueAlways, column_at, shown_place}
use Rattle.plan_kept_queries.specs.Forms.{IsFound, is_kept_aggregate, is_kept_at, is_nothing, holds_always, is_over_row}
use Rattle.plan_kept_queries.specs.declared.form.KeptPlanError.{KeptPlanError}
use Rattle.plan_kept_queries.proofs.FormsOpened.{kept_CountRows, kept_Of}

some_is : {X : Type 0} (x y : X) → Some x ≡ Some y → x ≡ y
some_is x y e = cc

none_some : {X : Type 0} (x : X) → None ≡ Some x → ⊥
none_some x e = absurd (true≢false (sym (ap (λ o. is_some o) e)))

-- a column of the row itself
at_value : (state : State) (row : List Value) (x : node.Input-F BoundAggregate BoundBlock BoundSource Input BoundExpr) (place : ℕ) → place_at x ≡ Some place
    → input_meaning_at state x (row ∷ []) ≡ slice_index_or row place Null
unfolding input_meaning_at
at_value state row (node.Column level p) place is = elim (cases_Bool (level == 0)) [
  | inl t ↦ let z : level ≡ 0 = eqb-true level 0 t in let h : Some p ≡ Some place = rw t at is in
      ap (λ n. slice_index_or (slice_index_or (row ∷ []) n []) p Null) z ∙ ap (λ n. slice_index_or row n Null) (some_is p place h)
  | inr f ↦ let h : None ≡ Some place = rw f at is in absurd (none_some place h)
]
at_value state row (node.Exists q) place is = absurd (none_some place is)
at_value state row (node.Any c e q) place is = absurd (none_some place is)
at_value state row (node.Scalar q) place is = absurd (none_some place is)

own_value : (state : State) (row : List Value) (i : Input) (place : ℕ) → own_place i ≡ Some place → input_meaning state i (row ∷ []) ≡ slice_index_or row place Null
unfolding own_place
own_value state row i place is = ap (λ (m : InputMeaning). m (row ∷ [])) (input_meaning_is state i) ∙ at_value state row (out-Input i) place is

head_is : {X : Type 0} (x y : X) (xs ys : List X) → x ∷ xs ≡ y ∷ ys → x ≡ y
head_is x y xs ys is = cc

tail_is : {X : Type 0} (x y : X) (xs ys : List X) → x ∷ xs ≡ y ∷ ys → xs ≡ ys
tail_is x y xs ys is = cc

-- the row of an expression's inputs
own_values : (state : State) (row : List Value) (is : List Input) (places : List ℕ) → map own_place is ≡ map Some places
    → map (λ (i : InputMeaning). i (row ∷ [])) (map (input_meaning state) is) ≡ gathered places row
unfolding gathered
own_values state row [] [] same = refl
own_values state row [] (p ∷ ps) same = cc
own_values state row (i ∷ is) [] same = cc
own_values state row (i ∷ is) (p ∷ ps) same =
    ap (λ v. v ∷ map (λ (i : InputMeaning). i (row ∷ [])) (map (input_meaning state) is))
    (own_value state row i p (head_is (own_place i) (Some p) (map own_place is) (map Some ps) same))
    ∙ ap (λ vs. slice_index_or row p Null ∷ vs) (own_values state row is ps (tail_is (own_place i) (Some p) (map own_place is) (map Some ps) same))

pub over_is : (x : BoundExpr) (places : List ℕ) (new : Expr) → map own_place (out-BoundExpr x).inputs ≡ map Some places → IsRenamed places (out-BoundExpr x).expr new → IsOver x new
over_is x places new same renamed state row =
    let inputs = own_values state row (out-BoundExpr x).inputs places same in (
      renamed.value row ∙ ap (value (out-BoundExpr x).expr) (sym inputs) ∙ sym (ap (λ (m : ExprMeaning). m.value (row ∷ [])) (expr_is state x)),
      renamed.truth row ∙ ap (truth (out-BoundExpr x).expr) (sym inputs) ∙ sym (ap (λ (m : ExprMeaning). m.truth (row ∷ [])) (expr_is state x)),
    )

pub over_made : (x : BoundExpr) (inputs : List Input) (places slice : List ℕ) (expr new boxed : Expr) → inputs ≡ (out-BoundExpr x).inputs → map own_place inputs ≡ map Some places → slice ≡ places
    → expr ≡ (out-BoundExpr x).expr → IsRenamed slice expr new → boxed ≡ new → IsOver x boxed
over_made x inputs places slice expr new boxed are own same is renamed put =
    subst (λ e. IsOver x e) (sym put)
    (over_is x places new (sym (ap (map own_place) are) ∙ own) (subst (λ e. IsRenamed places e new) is (subst (λ s. IsRenamed s expr new) same renamed)))

-- aggregates
argument_is : (state : State) (x : BoundExpr) (new : Expr) → IsOver x new → value new ≡ (λ row. (expr_meaning state x).value (row ∷ []))
argument_is state x new over = fun_ext (λ row. (over state row).0)

pub count_rows_is : IsItem aggregate.CountRows kept.CountRows
count_rows_is state = sym (aggregate_CountRows_at state [])

pub count_is : (scale : ℕ) (x : BoundExpr) (new : Expr) → IsOver x new → IsItem (aggregate.Of Count scale x) (kept.Count new)
count_is scale x new over state =
    ap (λ (f : List Value → Value). (f, aggregate_of Count scale)) (argument_is state x new over) ∙ sym (aggregate_Of_at state Count scale x [])

pub sum_is : (scale : ℕ) (x : BoundExpr) (new : Expr) → IsOver x new → IsItem (aggregate.Of Sum scale x) (kept.Sum scale new)
sum_is scale x new over state =
    ap (λ (f : List Value → Value). (f, aggregate_of Sum scale)) (argument_is state x new over) ∙ sym (aggregate_Of_at state Sum scale x [])

pub count_found : (function : AggregateFunction) (scale : ℕ) (x : BoundExpr) (new : Expr) → function ≡ Count → is_over_row x ≡ true → IsOver x new
    → (is_kept_at (node.Of function scale x) ≡ true) × IsItem (aggregate.Of function scale x) (kept.Count new)
count_found function scale x new is over same = (
  ap (λ f. is_kept_at (node.Of f scale x)) is ∙ over,
  λ state. count_is scale x new same state ∙ ap (λ f. aggregate_meaning state (aggregate.Of f scale x) []) (sym is),
)

pub sum_found : (function : AggregateFunction) (scale : ℕ) (x : BoundExpr) (new : Expr) → function ≡ Sum → is_over_row x ≡ true → IsOver x new
    → (is_kept_at (node.Of function scale x) ≡ true) × IsItem (aggregate.Of function scale x) (kept.Sum scale new)
sum_found function scale x new is over same = (
  ap (λ f. is_kept_at (node.Of f scale x)) is ∙ over,
  λ state. sum_is scale x new same state ∙ ap (λ f. aggregate_meaning state (aggregate.Of f scale x) []) (sym is),
)

pub rows_found : (a : BoundAggregate) → a ≡ aggregate.CountRows → (is_kept_aggregate a ≡ true) × IsItem a kept.CountRows
rows_found a is = (ap is_kept_aggregate is ∙ kept_CountRows, λ state. count_rows_is state ∙ ap (λ x. aggregate_meaning state x []) (sym is))

pub item_found : (a : BoundAggregate) (function : AggregateFunction) (scale : ℕ) (x : BoundExpr) (r : Result KeptAggregate KeptPlanError) → a ≡ aggregate.Of function scale x
    → IsFound (is_kept_at (node.Of function scale x)) (IsItem (aggregate.Of function scale x)) r → IsFound (is_kept_aggregate a) (IsItem a) r
item_found a function scale x r is there =
    subst (λ y. IsFound (is_kept_aggregate y) (IsItem y) r) (sym is)
    (subst (λ b. IsFound b (IsItem (aggregate.Of function scale x)) r) (sym (kept_Of function scale x)) there)

-- a column that is shown
pub shown_is : (x : BoundExpr) (k : ℕ) (i : Input) (place : ℕ) → (out-BoundExpr x).expr ≡ e.Column k → slice_get (out-BoundExpr x).inputs k ≡ Some i → own_place i ≡ Some place → IsShown x place
shown_is x k i place is there own state row =
    let values : List Value = map (λ (i : InputMeaning). i (row ∷ [])) (map (input_meaning state) (out-BoundExpr x).inputs) in
    sym (own_value state row i place own)
    ∙ sym (input_at state row (out-BoundExpr x).inputs k i there)
    ∙ sym (value_Column k values)
    ∙ sym (ap (λ y. value y values) is)
    ∙ sym (ap (λ (m : ExprMeaning). m.value (row ∷ [])) (expr_is state x))
  where
    input_at : (state : State) (row : List Value) (is : List Input) (k : ℕ) (i : Input) → slice_get is k ≡ Some i
        → slice_index_or (map (λ (i : InputMeaning). i (row ∷ [])) (map (input_meaning state) is)) k Null ≡ input_meaning state i (row ∷ [])
    input_at state row [] zero i there = absurd (none_some i there)
    input_at state row [] (suc k) i there = absurd (none_some i there)
    input_at state row (x ∷ is) zero i there = ap (λ y. input_meaning state y (row ∷ [])) (some_is x i there)
    input_at state row (x ∷ is) (suc k) i there = input_at state row is k i there

pub place_is : (x : BoundExpr) (k : ℕ) (i : Input) → (out-BoundExpr x).expr ≡ e.Column k → slice_get (out-BoundExpr x).inputs k ≡ Some i → shown_place x ≡ own_place i
unfolding shown_place
place_is x k i is there =
    ap (λ y. option_and_then (λ k. option_and_then own_place (slice_get (out-BoundExpr x).inputs k)) (column_at (out-Expr y))) is
    ∙ ap (λ y. option_and_then (λ k. option_and_then own_place (slice_get (out-BoundExpr x).inputs k)) (column_at y)) (e.outs-Column k)
    ∙ ap (λ o. option_and_then own_place o) there

pub no_place : (x : BoundExpr) (k : ℕ) → (out-BoundExpr x).expr ≡ e.Column k → slice_get (out-BoundExpr x).inputs k ≡ None → shown_place x ≡ None
unfolding shown_place
no_place x k is there =
    ap (λ y. option_and_then (λ k. option_and_then own_place (slice_get (out-BoundExpr x).inputs k)) (column_at (out-Expr y))) is
    ∙ ap (λ y. option_and_then (λ k. option_and_then own_place (slice_get (out-BoundExpr x).inputs k)) (column_at y)) (e.outs-Column k)
    ∙ ap (λ o. option_and_then own_place o) there

-- the condition of no conditions
pub holds_of : (x : BoundExpr) (es : List Expr) → (out-BoundExpr x).expr ≡ e.All es → holds_always x ≡ (length es == 0)
unfolding holds_always
holds_of x es is = ap (λ y. is_nothing (out-Expr y)) is ∙ ap is_nothing (e.outs-All es)

pub true_always : (x : BoundExpr) (es : List Expr) → (out-BoundExpr x).expr ≡ e.All es → length es ≡ 0 → IsTrueAlways x
unfolding truths
true_always x [] is none state row =
    let values : List Value = map (λ (i : InputMeaning). i (row ∷ [])) (map (input_meaning state) (out-BoundExpr x).inputs) in
    ap (λ (m : ExprMeaning). truth_rank (m.truth (row ∷ []))) (expr_is state x)
    ∙ ap (λ y. truth_rank (truth y values)) is
    ∙ ap truth_rank (truth_All [] values)
true_always x (y ∷ es) is none state row = absurd (omega arith)

-- groups, as kept plans have them
groups_same : (by : List ℕ) (aggregates : List (Ranked Value) → List Value) (xs : List (Ranked Value)) → kept_groups by aggregates xs ≡ groups by aggregates xs
groups_same [] aggregates xs = refl
groups_same (k ∷ ks) aggregates xs = refl

-- the rows of a plan
groups_stand : (by : List ℕ) (aggregates : List (Ranked Value) → List Value) (xs : List (Ranked Value)) → Each Stands xs → Each Stands (groups by aggregates xs)
groups_stand [] aggregates xs all = stands.total_stands aggregates xs all
groups_stand (k ∷ ks) aggregates xs all = stands.group_stands same_value (columns Null (k ∷ ks)) aggregates xs all

scanned_stand : (rs : List (List Value)) → Each Stands (scanned rs)
scanned_stand rs = Each-map Stands (λ r. ranked r true_rank) rs (Each-all (λ r. Stands (ranked r true_rank)) rs (λ r. record { not_dropped = omega arith; within = omega arith }))

pub plan_is : (t : TableName) (from : BoundSource) (condition having : BoundExpr) (by : List ℕ) (old : List BoundAggregate) (list : List BoundExpr) (p : KeptPlan)
    → from ≡ source.Table t → p.table ≡ t → IsOver condition p.condition → p.by ≡ by → AreItems old p.aggregates → IsTrueAlways having → AreShown list p.list
    → IsPlanOf (block.Grouped from condition by old having list) p
unfolding rows query_rows selected
plan_is t from condition having by old list p is table over same items always shown state =
    let there : List (Ranked Value) = select (query.holds_for (expr_meaning state condition) []) (source_meaning state from [] []) in
    let f : List (Ranked Value) → List Value = aggregated (map (λ (a : AggregateMeaning). a []) (map (aggregate_meaning state) old)) in
    let scans : scanned (table_rows state p.table) ≡ source_meaning state from [] [] =
    ap (λ u. scanned (table_rows state u)) table ∙ sym (source_Table_at state t [] []) ∙ sym (ap (λ s. source_meaning state s [] []) is) in
    let holds : holds_for p ≡ query.holds_for (expr_meaning state condition) [] = fun_ext (λ row. ap truth_rank (over state row).1) in
    let kept_rows : selected p (table_rows state p.table) ≡ there =
    ap (λ h. select h (scanned (table_rows state p.table))) holds ∙ ap (λ xs. select (query.holds_for (expr_meaning state condition) []) xs) scans in
    let its : map item_of p.aggregates ≡ map (λ (a : AggregateMeaning). a []) (map (aggregate_meaning state) old) =
    items state ∙ sym (map-map (λ (a : AggregateMeaning). a []) (aggregate_meaning state) old) in
    let stand : Each Stands (groups by f there) =
    groups_stand by f there (stands.select_stands (query.holds_for (expr_meaning state condition) []) (source_meaning state from [] [])
    (subst (λ xs. Each Stands xs) scans (scanned_stand (table_rows state p.table)))) in
    let trues : query.holds_for (expr_meaning state having) [] ≡ (λ (row : List Value). true_rank) = fun_ext (λ row. always state row) in
    let all : select (query.holds_for (expr_meaning state having) []) (groups by f there) ≡ groups by f there =
    ap (λ h. select h (groups by f there)) trues ∙ stands.select_true (groups by f there) stand in
    let lists : columns Null p.list ≡ query.listed (map (expr_meaning state) list) [] =
    fun_ext (λ row. shown state row ∙ sym (map-map (λ (m : ExprMeaning). m.value (row ∷ [])) (expr_meaning state) list)) in
    ap (λ xs. project (columns Null p.list) xs) (groups_same p.by (aggregated (map item_of p.aggregates)) (selected p (table_rows state p.table)))
    ∙ ap (λ xs. project (columns Null p.list) (groups p.by (aggregated (map item_of p.aggregates)) xs)) kept_rows
    ∙ ap (λ is. project (columns Null p.list) (groups p.by (aggregated is) there)) its
    ∙ ap (λ b. project (columns Null p.list) (groups b f there)) same
    ∙ ap (λ l. project l (groups by f there)) lists
    ∙ ap (λ xs. project (query.listed (map (expr_meaning state) list) []) xs) (sym all)
    ∙ sym (block_Grouped_at state from condition by old having list [])

-- a select list has as many items as the plan shows columns
no_tables : State
no_tables = record {
  region = [];
  nation = [];
  part = [];
  supplier = [];
  partsupp = [];
  customer = [];
  orders = [];
  lineitem = [];
}

pub shown_long : (list : List BoundExpr) (places : List ℕ) → AreShown list places → length places ≡ length list
shown_long list places shown =
    sym (length-map places (λ c. slice_index_or [] c Null)) ∙ ap length (shown no_tables [])
    ∙ length-map list (λ x. (expr_meaning no_tables x).value ([] ∷ []))
