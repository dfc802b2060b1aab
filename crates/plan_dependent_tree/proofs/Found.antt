-- How a list of columns grows by what the parts of a query read.
use Rattle.std.proofs.Common.{◌≡◌, ℕ, suc, ◌+◌, ◌<◌, List, [], ◌∷◌, ◌++◌}
use Rattle.std.proofs.Common.{false, ◌||◌, map, refl, sym, ap, ◌∙◌, subst, arith, length}
use Rattle.std.proofs.Common.{take, get_or, Option}
use Rattle.std.proofs.Math.Bool.{or_assoc, or-false}
use Rattle.std.proofs.lemmas.List.{map-append, take_more}
use Rattle.base_set_rows.specs.declared.kind.SetOperation.{SetOperation}
use Rattle.expr_aggregates.specs.declared.function.AggregateFunction.{AggregateFunction}
use Rattle.expr_operators.specs.declared.operator.Comparison.{Comparison}
use Rattle.base_schema.specs.declared.table.TableName.{TableName}
use Rattle.sql_bound_query.specs.declared.query.BoundAggregate.{BoundAggregate}
use Rattle.sql_bound_query.specs.declared.query.BoundAggregate.TheVariants as aggregate
use Rattle.sql_bound_query.specs.declared.query.BoundAggregate.TheOpen as node
use Rattle.sql_bound_query.specs.declared.query.BoundBlock.{BoundBlock}
use Rattle.sql_bound_query.specs.declared.query.BoundBlock.TheVariants as block
use Rattle.sql_bound_query.specs.declared.query.BoundExpr.{BoundExpr}
use Rattle.sql_bound_query.specs.declared.query.BoundSource.{BoundSource}
use Rattle.sql_bound_query.specs.declared.query.BoundSource.TheVariants as source
use Rattle.sql_bound_query.specs.declared.query.Input.{Input}
use Rattle.sql_bound_query.specs.declared.query.Input.TheVariants as input
use Rattle.sql_bound_query.specs.declared.query.SetColumn.{SetColumn}
use Rattle.plan_dependent_nodes.specs.declared.sight.OuterColumn.{OuterColumn}
use Rattle.plan_dependent_nodes.specs.Seeks.{Seeks, any_seeks, has, input_seeks, seeks_of}
use Rattle.plan_dependent_nodes.specs.Seeks.{seeks_of_source, seeks_of_input, seeks_of_expr}
use Rattle.plan_dependent_nodes.specs.Seeks.{seeks_of_aggregate}
use Rattle.plan_dependent_nodes.specs.Supplied.{Finds}
use Rattle.plan_dependent_nodes.proofs.SeeksOpened.{seeks_Column, seeks_Exists, seeks_Any}
use Rattle.plan_dependent_nodes.proofs.SeeksOpened.{seeks_Scalar}
use Rattle.plan_dependent_nodes.proofs.SeeksOpened.{seeks_CountRows, seeks_Of, seeks_Table}
use Rattle.plan_dependent_nodes.proofs.SeeksOpened.{seeks_Derived}
use Rattle.plan_dependent_nodes.proofs.SeeksOpened.{seeks_Lateral, seeks_Cross, seeks_Inner}
use Rattle.plan_dependent_nodes.proofs.SeeksOpened.{seeks_Outer, seeks_Plain}
use Rattle.plan_dependent_nodes.proofs.SeeksOpened.{seeks_Grouped, seeks_Distinct, seeks_Set}
use Rattle.plan_dependent_nodes.proofs.SeeksOpened.{seeks_expr}

-- ---- one part after the other

pub finds_none : (seeks : Seeks) (within : ℕ) (old : List OuterColumn)
    → ((level place : ℕ) → seeks level place ≡ false) → Finds seeks within old old
finds_none seeks within old none = record {
  grows = λ level place.
      sym (ap (λ z. has old level place || z) (none (within + level) place)
      ∙ or-false (has old level place));
}

pub finds_then : (a b : Seeks) (within : ℕ) (old mid new : List OuterColumn)
    → Finds a within old mid → Finds b within mid new
    → Finds (λ level place. a level place || b level place) within old new
finds_then a b within old mid new f g = record {
  grows = λ level place.
      g.grows level place
      ∙ ap (λ z. z || b (within + level) place) (f.grows level place)
      ∙ or_assoc (has old level place) (a (within + level) place) (b (within + level) place);
}

pub finds_deeper : (a : Seeks) (within : ℕ) (old new : List OuterColumn)
    → Finds a (within + 1) old new → Finds (λ level place. a (suc level) place) within old new
finds_deeper a within old new f = record {
  grows = λ level place.
      f.grows level place
      ∙ ap (λ z. has old level place || a z place)
      (let n : within + 1 + level ≡ suc (within + level) = omega arith in n);
}

-- a part by another name
finds_as : {X : Type 0} (seeks_in : X → Seeks) (within : ℕ) (old new : List OuterColumn) (x y : X)
    → x ≡ y → Finds (seeks_in y) within old new → Finds (seeks_in x) within old new
finds_as seeks_in within old new x y e f =
    subst (λ z. Finds (seeks_in z) within old new) (sym e) f

-- ---- lists of parts, one more

any_last : (parts : List Seeks) (part : Seeks) (level place : ℕ)
    → any_seeks (parts ++ part ∷ []) level place ≡ (any_seeks parts level place || part level place)
any_last [] part level place = or-false (part level place)
any_last (x ∷ parts) part level place =
    ap (λ z. x level place || z) (any_last parts part level place)
    ∙ sym (or_assoc (x level place) (any_seeks parts level place) (part level place))

pub any_none : {X : Type 0} (seeks_in : X → Seeks) (within : ℕ) (old : List OuterColumn)
    → Finds (any_seeks (map seeks_in [])) within old old
any_none seeks_in within old = finds_none (any_seeks []) within old (λ level place. refl)

pub any_more : {X : Type 0} (seeks_in : X → Seeks) (xs : List X) (i : ℕ) (x : X) (within : ℕ)
    (first old new : List OuterColumn) → i < length xs → x ≡ get_or xs i x
    → Finds (any_seeks (map seeks_in (take i xs))) within first old
    → Finds (seeks_in x) within old new
    → Finds (any_seeks (map seeks_in (take (i + 1) xs))) within first new
any_more seeks_in xs i x within first old new h is f g =
    let both : Finds (λ level place. any_seeks (map seeks_in (take i xs)) level place
    || seeks_in x level place) within first new =
    finds_then (any_seeks (map seeks_in (take i xs))) (seeks_in x) within first old new f g in
    record {
      grows = λ level place.
          both.grows level place
          ∙ ap (λ z. has first level place || z)
          (sym (any_last (map seeks_in (take i xs)) (seeks_in x) (within + level) place)
          ∙ ap (λ (ys : List Seeks). any_seeks ys (within + level) place)
          (sym (map-append seeks_in (take i xs) (x ∷ []))
          ∙ ap (map seeks_in)
          (ap (λ y. take i xs ++ y ∷ []) is ∙ sym (take_more xs i x h))));
    }

-- ---- inputs

pub column_input_found : {i : Input} {out at n : ℕ} {old new : List OuterColumn}
    → i ≡ input.Column out at → Finds (input_seeks (node.Column out at)) n old new
    → Finds (seeks_of_input i) n old new
column_input_found {i} {out} {at} {n} {old} {new} is f =
    finds_as seeks_of_input n old new i (input.Column out at) is
    (subst (λ (z : Seeks). Finds z n old new) (sym (seeks_Column out at)) f)

pub exists_found : {i : Input} {q seen : BoundBlock} {n deeper : ℕ} {old new : List OuterColumn}
    → i ≡ input.Exists q → seen ≡ q → deeper ≡ n → Finds (seeks_of seen) deeper old new
    → Finds (seeks_of_input i) n old new
exists_found {i} {q} {seen} {n} {deeper} {old} {new} is get same f =
    finds_as seeks_of_input n old new i (input.Exists q) is
    (subst (λ (z : Seeks). Finds z n old new) (sym (seeks_Exists q))
    (subst (λ k. Finds (seeks_of q) k old new) same
    (subst (λ z. Finds (seeks_of z) deeper old new) get f)))

pub scalar_found : {i : Input} {q seen : BoundBlock} {n deeper : ℕ} {old new : List OuterColumn}
    → i ≡ input.Scalar q → seen ≡ q → deeper ≡ n → Finds (seeks_of seen) deeper old new
    → Finds (seeks_of_input i) n old new
scalar_found {i} {q} {seen} {n} {deeper} {old} {new} is get same f =
    finds_as seeks_of_input n old new i (input.Scalar q) is
    (subst (λ (z : Seeks). Finds z n old new) (sym (seeks_Scalar q))
    (subst (λ k. Finds (seeks_of q) k old new) same
    (subst (λ z. Finds (seeks_of z) deeper old new) get f)))

pub any_found : {i : Input} {c : Comparison} {x read : BoundExpr} {q seen : BoundBlock}
    {n deeper : ℕ} {old mid new : List OuterColumn} → i ≡ input.Any c x q → read ≡ x
    → Finds (seeks_of_expr read) n old mid → seen ≡ q → deeper ≡ n
    → Finds (seeks_of seen) deeper mid new → Finds (seeks_of_input i) n old new
any_found {i} {c} {x} {read} {q} {seen} {n} {deeper} {old} {mid} {new} is left f get same g =
    finds_as seeks_of_input n old new i (input.Any c x q) is
    (subst (λ (z : Seeks). Finds z n old new) (sym (seeks_Any c x q))
    (finds_then (seeks_of_expr x) (seeks_of q) n old mid new
    (subst (λ z. Finds (seeks_of_expr z) n old mid) left f)
    (subst (λ k. Finds (seeks_of q) k mid new) same
    (subst (λ z. Finds (seeks_of z) deeper mid new) get g))))

pub expr_found : (e : BoundExpr) {read : List Input} {within : ℕ} {old new : List OuterColumn}
    → read ≡ e.inputs → Finds (any_seeks (map seeks_of_input read)) within old new
    → Finds (seeks_of_expr e) within old new
expr_found e {read} {within} {old} {new} same f =
    subst (λ (z : Seeks). Finds z within old new) (sym (seeks_expr e))
    (subst (λ z. Finds (any_seeks (map seeks_of_input z)) within old new) same f)

-- ---- aggregates

pub count_rows_found : {a : BoundAggregate} {within : ℕ} {old : List OuterColumn}
    → a ≡ aggregate.CountRows → Finds (seeks_of_aggregate a) within old old
count_rows_found {a} {within} {old} is =
    finds_as seeks_of_aggregate within old old a aggregate.CountRows is
    (subst (λ (z : Seeks). Finds z within old old) (sym seeks_CountRows)
    (finds_none (λ level place. false) within old (λ level place. refl)))

pub argument_found : {a : BoundAggregate} {function : AggregateFunction} {scale : ℕ}
    (x : BoundExpr) {within : ℕ} {old new : List OuterColumn}
    → a ≡ aggregate.Of function scale x → Finds (seeks_of_expr x) within old new
    → Finds (seeks_of_aggregate a) within old new
argument_found {a} {function} {scale} x {within} {old} {new} is f =
    finds_as seeks_of_aggregate within old new a (aggregate.Of function scale x) is
    (subst (λ (z : Seeks). Finds z within old new) (sym (seeks_Of function scale x)) f)

-- ---- sources

pub table_found : {s : BoundSource} {t : TableName} {within : ℕ} {old : List OuterColumn}
    → s ≡ source.Table t → Finds (seeks_of_source s) within old old
table_found {s} {t} {within} {old} is =
    finds_as seeks_of_source within old old s (source.Table t) is
    (subst (λ (z : Seeks). Finds z within old old) (sym (seeks_Table t))
    (finds_none (λ level place. false) within old (λ level place. refl)))

pub derived_found : {s : BoundSource} (kept : Option ℕ) (q : BoundBlock) {within : ℕ}
    {old : List OuterColumn}
    → s ≡ source.Derived kept q → Finds (seeks_of_source s) within old old
derived_found {s} kept q {within} {old} is =
    finds_as seeks_of_source within old old s (source.Derived kept q) is
    (subst (λ (z : Seeks). Finds z within old old) (sym (seeks_Derived kept q))
    (finds_none (λ level place. false) within old (λ level place. refl)))

pub lateral_found : {s : BoundSource} {q seen : BoundBlock} {within deeper : ℕ}
    {old new : List OuterColumn} → s ≡ source.Lateral q → seen ≡ q → deeper ≡ within + 1
    → Finds (seeks_of seen) deeper old new → Finds (seeks_of_source s) within old new
lateral_found {s} {q} {seen} {within} {deeper} {old} {new} is get same f =
    finds_as seeks_of_source within old new s (source.Lateral q) is
    (subst (λ (z : Seeks). Finds z within old new) (sym (seeks_Lateral q))
    (finds_deeper (seeks_of q) within old new
    (subst (λ k. Finds (seeks_of q) k old new) same
    (subst (λ z. Finds (seeks_of z) deeper old new) get f))))

-- both sides
sides_found : {a b read other : BoundSource} {within : ℕ} {old mid new : List OuterColumn}
    → read ≡ a → Finds (seeks_of_source read) within old mid → other ≡ b
    → Finds (seeks_of_source other) within mid new
    → Finds (λ level place. seeks_of_source a level place || seeks_of_source b level place) within
    old new
sides_found {a} {b} {read} {other} {within} {old} {mid} {new} get f also g =
    finds_then (seeks_of_source a) (seeks_of_source b) within old mid new
    (subst (λ z. Finds (seeks_of_source z) within old mid) get f)
    (subst (λ z. Finds (seeks_of_source z) within mid new) also g)

-- both sides and a condition on them
join_found : {a b read other : BoundSource} (on : BoundExpr) {within : ℕ}
    {old mid next new : List OuterColumn} → read ≡ a → Finds (seeks_of_source read) within old mid
    → other ≡ b → Finds (seeks_of_source other) within mid next
    → Finds (seeks_of_expr on) (within + 1) next new
    → Finds (λ level place.
    seeks_of_source a level place || seeks_of_source b level place
    || seeks_of_expr on (suc level) place) within old new
join_found {a} {b} {read} {other} on {within} {old} {mid} {next} {new} get f also g h =
    finds_then (λ level place. seeks_of_source a level place || seeks_of_source b level place)
    (λ level place. seeks_of_expr on (suc level) place) within old next new
    (sides_found get f also g) (finds_deeper (seeks_of_expr on) within next new h)

pub cross_found : {s a b read other : BoundSource} {within : ℕ} {old mid new : List OuterColumn}
    → s ≡ source.Cross a b → read ≡ a → Finds (seeks_of_source read) within old mid → other ≡ b
    → Finds (seeks_of_source other) within mid new → Finds (seeks_of_source s) within old new
cross_found {s} {a} {b} {read} {other} {within} {old} {mid} {new} is get f also g =
    finds_as seeks_of_source within old new s (source.Cross a b) is
    (subst (λ (z : Seeks). Finds z within old new) (sym (seeks_Cross a b))
    (sides_found get f also g))

pub inner_found : {s a b read other : BoundSource} (on : BoundExpr) {within : ℕ}
    {old mid next new : List OuterColumn} → s ≡ source.Inner a b on → read ≡ a
    → Finds (seeks_of_source read) within old mid → other ≡ b
    → Finds (seeks_of_source other) within mid next
    → Finds (seeks_of_expr on) (within + 1) next new → Finds (seeks_of_source s) within old new
inner_found {s} {a} {b} {read} {other} on {within} {old} {mid} {next} {new} is get f also g h =
    finds_as seeks_of_source within old new s (source.Inner a b on) is
    (subst (λ (z : Seeks). Finds z within old new) (sym (seeks_Inner a b on))
    (join_found on get f also g h))

pub outer_found : {s a b read other : BoundSource} {nulls : ℕ} (on : BoundExpr) {within : ℕ}
    {old mid next new : List OuterColumn} → s ≡ source.Outer a b nulls on → read ≡ a
    → Finds (seeks_of_source read) within old mid → other ≡ b
    → Finds (seeks_of_source other) within mid next
    → Finds (seeks_of_expr on) (within + 1) next new → Finds (seeks_of_source s) within old new
outer_found {s} {a} {b} {read} {other} {nulls} on {within} {old} {mid} {next} {new} is get f also
    g h =
    finds_as seeks_of_source within old new s (source.Outer a b nulls on) is
    (subst (λ (z : Seeks). Finds z within old new) (sym (seeks_Outer a b nulls on))
    (join_found on get f also g h))

-- ---- queries

pub plain_found : {q : BoundBlock} {from read : BoundSource} (condition : BoundExpr)
    {list seen : List BoundExpr} {within : ℕ} {old mid next new : List OuterColumn}
    → q ≡ block.Plain from condition list → read ≡ from
    → Finds (seeks_of_source read) within old mid
    → Finds (seeks_of_expr condition) (within + 1) mid next → seen ≡ list
    → Finds (any_seeks (map seeks_of_expr seen)) (within + 1) next new
    → Finds (seeks_of q) within old new
plain_found {q} {from} {read} condition {list} {seen} {within} {old} {mid} {next} {new} is get f g
    same h =
    finds_as seeks_of within old new q (block.Plain from condition list) is
    (subst (λ (z : Seeks). Finds z within old new) (sym (seeks_Plain from condition list))
    (finds_then
    (λ level place. seeks_of_source from level place || seeks_of_expr condition (suc level) place)
    (λ level place. any_seeks (map seeks_of_expr list) (suc level) place) within old next new
    (finds_then (seeks_of_source from) (λ level place. seeks_of_expr condition (suc level) place)
    within old mid next (subst (λ z. Finds (seeks_of_source z) within old mid) get f)
    (finds_deeper (seeks_of_expr condition) within mid next g))
    (finds_deeper (any_seeks (map seeks_of_expr list)) within next new
    (subst (λ z. Finds (any_seeks (map seeks_of_expr z)) (within + 1) next new) same h))))

pub grouped_found : {q : BoundBlock} {from read : BoundSource} (condition having : BoundExpr)
    {keys : List ℕ} {aggregates all : List BoundAggregate} {list seen : List BoundExpr}
    {within : ℕ} {old mid next after last new : List OuterColumn}
    → q ≡ block.Grouped from condition keys aggregates having list → read ≡ from
    → Finds (seeks_of_source read) within old mid
    → Finds (seeks_of_expr condition) (within + 1) mid next → all ≡ aggregates
    → Finds (any_seeks (map seeks_of_aggregate all)) (within + 1) next after
    → Finds (seeks_of_expr having) (within + 1) after last → seen ≡ list
    → Finds (any_seeks (map seeks_of_expr seen)) (within + 1) last new
    → Finds (seeks_of q) within old new
grouped_found {q} {from} {read} condition having {keys} {aggregates} {all} {list} {seen}
    {within} {old} {mid} {next} {after} {last} {new} is get f g each a h same l =
    let s : Seeks = seeks_of_source from in
    let c : Seeks = λ level place. seeks_of_expr condition (suc level) place in
    let as' : Seeks = λ level place. any_seeks (map seeks_of_aggregate aggregates) (suc level) place
    in
    let hs : Seeks = λ level place. seeks_of_expr having (suc level) place in
    let ls : Seeks = λ level place. any_seeks (map seeks_of_expr list) (suc level) place in
    finds_as seeks_of within old new q (block.Grouped from condition keys aggregates having list) is
    (subst (λ (z : Seeks). Finds z within old new)
    (sym (seeks_Grouped from condition keys aggregates having list))
    (finds_then
    (λ level place. s level place || c level place || as' level place || hs level place) ls within
    old last new
    (finds_then (λ level place. s level place || c level place || as' level place) hs within old
    after last
    (finds_then (λ level place. s level place || c level place) as' within old next after
    (finds_then s c within old mid next
    (subst (λ z. Finds (seeks_of_source z) within old mid) get f)
    (finds_deeper (seeks_of_expr condition) within mid next g))
    (finds_deeper (any_seeks (map seeks_of_aggregate aggregates)) within next after
    (subst (λ z. Finds (any_seeks (map seeks_of_aggregate z)) (within + 1) next after) each a)))
    (finds_deeper (seeks_of_expr having) within after last h))
    (finds_deeper (any_seeks (map seeks_of_expr list)) within last new
    (subst (λ z. Finds (any_seeks (map seeks_of_expr z)) (within + 1) last new) same l))))

pub distinct_found : {q x seen : BoundBlock} {within : ℕ} {old new : List OuterColumn}
    → q ≡ block.Distinct x → seen ≡ x → Finds (seeks_of seen) within old new
    → Finds (seeks_of q) within old new
distinct_found {q} {x} {seen} {within} {old} {new} is get f =
    finds_as seeks_of within old new q (block.Distinct x) is
    (subst (λ (z : Seeks). Finds z within old new) (sym (seeks_Distinct x))
    (subst (λ z. Finds (seeks_of z) within old new) get f))

pub set_found : {q a b read other : BoundBlock} {columns : List SetColumn}
    {operation : SetOperation} {within : ℕ} {old mid new : List OuterColumn}
    → q ≡ block.Set a b columns operation → read ≡ a → Finds (seeks_of read) within old mid
    → other ≡ b → Finds (seeks_of other) within mid new → Finds (seeks_of q) within old new
set_found {q} {a} {b} {read} {other} {columns} {operation} {within} {old} {mid} {new} is get f also
    g =
    finds_as seeks_of within old new q (block.Set a b columns operation) is
    (subst (λ (z : Seeks). Finds z within old new) (sym (seeks_Set a b columns operation))
    (finds_then (seeks_of a) (seeks_of b) within old mid new
    (subst (λ z. Finds (seeks_of z) within old mid) get f)
    (subst (λ z. Finds (seeks_of z) within mid new) also g)))

-- ---- whole parts

-- what is found in an empty list at first
pub all_found : {seeks : Seeks} {old new : List OuterColumn} → old ≡ [] → Finds seeks 0 old new
    → (level place : ℕ) → has new level place ≡ seeks level place
all_found {seeks} {old} {new} none f level place =
    f.grows level place ∙ ap (λ z. has z level place || seeks (0 + level) place) none
    ∙ ap (λ z. seeks z place) (let n : 0 + level ≡ level = omega arith in n)

-- what is found in an empty list by a source, and then by an ON condition above it
pub join_found_all : (s : BoundSource) (on : BoundExpr) {old mid new : List OuterColumn} → old ≡ []
    → Finds (seeks_of_source s) 0 old mid → Finds (seeks_of_expr on) 1 mid new
    → (level place : ℕ) → has new level place
    ≡ (seeks_of_source s level place || seeks_of_expr on (suc level) place)
join_found_all s on {old} {mid} {new} none f g =
    all_found none
    (finds_then (seeks_of_source s) (λ level place. seeks_of_expr on (suc level) place) 0 old mid
    new f (finds_deeper (seeks_of_expr on) 0 mid new g))
