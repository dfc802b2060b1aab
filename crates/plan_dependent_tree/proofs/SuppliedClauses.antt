-- The clauses of a well-typed query are supplied where it is.
use Rattle.std.proofs.Common.{◌≡◌, ℕ, suc, ◌+◌, ◌<◌, List, [], ◌∷◌, ◌++◌, Bool, true, false}
use Rattle.std.proofs.Common.{◌||◌, map, length, refl, sym, ap, ◌∙◌, subst, arith}
use Rattle.std.specs.Prelude.{Option, Some, slice_get}
use Rattle.std.specs.List.{All}
use Rattle.std.proofs.lemmas.List.{length-append, length-map}
use Rattle.base_set_rows.specs.declared.kind.SetOperation.{SetOperation}
use Rattle.plan_algebra.specs.declared.aggregate.Aggregate.{Aggregate}
use Rattle.expr_scalar.specs.declared.expr.Expr.{Expr}
use Rattle.expr_scalar.specs.declared.kind.Kind.{Kind}
use Rattle.expr_scalar.specs.Typing.{sort_of}
use Rattle.sql_bound_query.specs.declared.query.BoundAggregate.{BoundAggregate}
use Rattle.sql_bound_query.specs.declared.query.BoundBlock.{BoundBlock}
use Rattle.sql_bound_query.specs.declared.query.BoundBlock.TheVariants as block
use Rattle.sql_bound_query.specs.declared.query.BoundExpr.{BoundExpr}
use Rattle.sql_bound_query.specs.declared.query.BoundSource.{BoundSource}
use Rattle.sql_bound_query.specs.declared.query.SetColumn.{SetColumn}
use Rattle.sql_bound_query.specs.Typing.{EnvKinds, KindMeaning, KindsMeaning, ExprTyping}
use Rattle.sql_bound_query.specs.Typing.{where_some}
use Rattle.sql_bound_query.specs.Typing.{all_some, kind_of_sort}
use Rattle.sql_bound_query.specs.Typing.{listed_kinds, kind_of_aggregate, block_kinds, from_kinds}
use Rattle.sql_bound_query.specs.Typing.{typing_of, common_kind, set_kinds}
use Rattle.sql_bound_query.proofs.TypingOpened.{kinds_Distinct}
use Rattle.sql_bound_query.proofs.Keeps.{Found, some_of, some_is}
use Rattle.plan_dependent_nodes.specs.declared.sight.OuterColumn.{OuterColumn}
use Rattle.plan_dependent_nodes.specs.Seeks.{Seeks, any_seeks, has, seeks_of, seeks_of_source}
use Rattle.plan_dependent_nodes.specs.Seeks.{seeks_of_expr, seeks_of_aggregate}
use Rattle.plan_dependent_nodes.specs.Supplied.{QueryIsSupplied}
use Rattle.plan_dependent_nodes.specs.Supplied.{FromIsSupplied}
use Rattle.plan_dependent_nodes.specs.Supplied.{ExprIsSupplied, ListIsSupplied}
use Rattle.plan_dependent_nodes.specs.Supplied.{AggregatesAreSupplied}
use Rattle.plan_dependent_nodes.specs.Supplied.{IsWidthOf}
use Rattle.plan_dependent_nodes.proofs.SeeksOpened.{seeks_Plain, seeks_Grouped, seeks_Distinct}
use Rattle.plan_dependent_nodes.proofs.SeeksOpened.{seeks_Set}
use Rattle.plan_algebra.specs.declared.tree.DepTree.{DepTree}
use Rattle.plan_kept_queries.proofs.FormsOpened.{IsGrouped, grouped_of}
use Rattle.plan_dependent_nodes.specs.Growth.{IsLeaf}
use Rattle.plan_dependent_nodes.proofs.TypedParts.{PlainTyped, plain_typed, GroupedTyped}
use Rattle.plan_dependent_nodes.proofs.TypedParts.{grouped_typed, SetTyped, set_typed}
use Rattle.plan_dependent_nodes.proofs.Within.{query_within}
use Rattle.plan_dependent_nodes.proofs.Supplies.{or_left, or_right, expr_supplied, list_supplied}
use Rattle.plan_dependent_nodes.proofs.Supplies.{aggregates_supplied, keys_within}

-- ---- queries

-- the kinds of a select list are as many
length_all : {A : Type 0} (os : List (Option A)) (all : List A) → all_some os ≡ Some all
    → length all ≡ length os
length_all [] all e = ap length (sym (some_is [] all e))
length_all {A} (o ∷ os) all e =
    let f : Found o (λ a. where_some (all_some os) (λ rest. Some (a ∷ rest))) all =
    some_of o (λ a. where_some (all_some os) (λ rest. Some (a ∷ rest))) all e in
    let g : Found (all_some os) (λ rest. Some (f.it ∷ rest)) all =
    some_of (all_some os) (λ rest. Some (f.it ∷ rest)) all f.gives in
    ap length (sym (some_is (f.it ∷ g.it) all g.gives)) ∙ ap suc (length_all os g.it g.is)

length_keys : (own : List Kind) (keys : List ℕ) (js : List Kind)
    → all_some (map (slice_get own) keys) ≡ Some js → length js ≡ length keys
length_keys own keys js e =
    length_all (map (slice_get own) keys) js e ∙ length-map keys (slice_get own)

length_kinds : (as' : List BoundAggregate) (kinds : EnvKinds) (ms : List Kind)
    → all_some (map (λ (a : KindMeaning). a kinds) (map kind_of_aggregate as')) ≡ Some ms
    → length ms ≡ length as'
length_kinds as' kinds ms e =
    length_all (map (λ (a : KindMeaning). a kinds) (map kind_of_aggregate as')) ms e
    ∙ length-map (map kind_of_aggregate as') (λ (a : KindMeaning). a kinds)
    ∙ length-map as' kind_of_aggregate

length_listed : (es : List BoundExpr) (kinds : EnvKinds) (ks : List Kind)
    → listed_kinds (map typing_of es) kinds ≡ Some ks → length ks ≡ length es
length_listed es kinds ks e =
    length_all (map (λ (t : ExprTyping). kind_of_sort (t.sort kinds)) (map typing_of es)) ks e
    ∙ length-map (map typing_of es) (λ (t : ExprTyping). kind_of_sort (t.sort kinds))
    ∙ length-map es typing_of

module _ (outer : List OuterColumn) (c : BoundExpr) (es : List BoundExpr) {q : BoundBlock}
    {f seen : BoundSource} (supplied : QueryIsSupplied q outer) (is : q ≡ block.Plain f c es)
    (get : seen ≡ f) where
  plain_parts : PlainTyped f c es supplied.around supplied.kinds
  plain_parts = plain_typed f c es supplied.around supplied.kinds
      (sym (ap (λ z. block_kinds z supplied.around) is) ∙ supplied.typed)

  -- what the clauses read is among the columns
  plain_there : (level place : ℕ)
      → (seeks_of_source f level place || seeks_of_expr c (suc level) place
      || any_seeks (map seeks_of_expr es) (suc level) place) ≡ true
      → has outer level place ≡ true
  plain_there level place e =
      supplied.there level place
      (ap (λ z. seeks_of z level place) is
      ∙ ap (λ (m : Seeks). m level place) (seeks_Plain f c es) ∙ e)

  pub plain_from_supplied : FromIsSupplied seen outer
  plain_from_supplied = subst (λ z. FromIsSupplied z outer) (sym get) (record {
    around = supplied.around;
    kinds = plain_parts.own;
    typed = plain_parts.from;
    there = λ level place e.
        plain_there level place
        (or_left (seeks_of_source f level place || seeks_of_expr c (suc level) place)
        (any_seeks (map seeks_of_expr es) (suc level) place)
        (or_left (seeks_of_source f level place) (seeks_of_expr c (suc level) place) e));
  })

  module _ {w : ℕ} (width : IsWidthOf (from_kinds seen []) w) where
    plain_wide : w ≡ length plain_parts.own
    plain_wide = width.is supplied.around plain_parts.own
        (ap (λ z. from_kinds z [] supplied.around) get ∙ plain_parts.from)

    pub plain_where_supplied : ExprIsSupplied c outer w
    plain_where_supplied =
        expr_supplied plain_parts.own supplied.around outer w plain_wide c plain_parts.condition
        (λ level place e.
        plain_there level place
        (or_left (seeks_of_source f level place || seeks_of_expr c (suc level) place)
        (any_seeks (map seeks_of_expr es) (suc level) place)
        (or_right (seeks_of_source f level place) (seeks_of_expr c (suc level) place) e)))

    pub plain_list_supplied : {list : List BoundExpr} → list ≡ es → ListIsSupplied list outer w
    plain_list_supplied {list} same = subst (λ z. ListIsSupplied z outer w) (sym same)
        (list_supplied plain_parts.own supplied.around outer w plain_wide es supplied.kinds
        plain_parts.list
        (λ level place e.
        plain_there level place
        (or_right (seeks_of_source f level place || seeks_of_expr c (suc level) place)
        (any_seeks (map seeks_of_expr es) (suc level) place) e)))

pub plain_width : (f : BoundSource) (c : BoundExpr) (exprs : List Expr) {q : BoundBlock}
    {es list : List BoundExpr} {w : ℕ} → q ≡ block.Plain f c es → list ≡ es → length exprs ≡ length list
    → w ≡ length exprs → IsWidthOf (block_kinds q) w
plain_width f c exprs {q} {es} {list} {w} is same count wide = record {
  is = λ around kinds e.
      let t : PlainTyped f c es around kinds =
      plain_typed f c es around kinds (sym (ap (λ z. block_kinds z around) is) ∙ e) in
      wide ∙ count ∙ ap length same ∙ sym (length_listed es (t.own ∷ around) kinds t.list);
}

-- one of the five
five_first : (a b c d e : Bool) → a ≡ true → (a || b || c || d || e) ≡ true
five_first true b c d e h = refl
five_first false b c d e h = cc

five_second : (a b c d e : Bool) → b ≡ true → (a || b || c || d || e) ≡ true
five_second true b c d e h = refl
five_second false true c d e h = refl
five_second false false c d e h = cc

five_third : (a b c d e : Bool) → c ≡ true → (a || b || c || d || e) ≡ true
five_third a b true d e h = or_left (a || b || true || d) e (or_left (a || b || true) d
    (or_right (a || b) true refl))
five_third a b false d e h = cc

five_fourth : (a b c d e : Bool) → d ≡ true → (a || b || c || d || e) ≡ true
five_fourth a b c d e h = or_left (a || b || c || d) e (or_right (a || b || c) d h)

module _ (outer : List OuterColumn) (c : BoundExpr) (keys : List ℕ) (as' : List BoundAggregate)
    (h : BoundExpr) (es : List BoundExpr) {q : BoundBlock} {f seen : BoundSource}
    (supplied : QueryIsSupplied q outer) (is : q ≡ block.Grouped f c keys as' h es)
    (get : seen ≡ f) where
  grouped_parts : GroupedTyped f c keys as' h es supplied.around supplied.kinds
  grouped_parts = grouped_typed f c keys as' h es supplied.around supplied.kinds
      (sym (ap (λ z. block_kinds z supplied.around) is) ∙ supplied.typed)

  -- what the clauses read is among the columns
  grouped_there : (level place : ℕ)
      → (seeks_of_source f level place || seeks_of_expr c (suc level) place
      || any_seeks (map seeks_of_aggregate as') (suc level) place
      || seeks_of_expr h (suc level) place || any_seeks (map seeks_of_expr es) (suc level) place)
      ≡ true
      → has outer level place ≡ true
  grouped_there level place e =
      supplied.there level place
      (ap (λ z. seeks_of z level place) is
      ∙ ap (λ (m : Seeks). m level place) (seeks_Grouped f c keys as' h es) ∙ e)

  pub grouped_from_supplied : FromIsSupplied seen outer
  grouped_from_supplied = subst (λ z. FromIsSupplied z outer) (sym get) (record {
    around = supplied.around;
    kinds = grouped_parts.own;
    typed = grouped_parts.from;
    there = λ level place e.
        grouped_there level place
        (five_first (seeks_of_source f level place) (seeks_of_expr c (suc level) place)
        (any_seeks (map seeks_of_aggregate as') (suc level) place)
        (seeks_of_expr h (suc level) place)
        (any_seeks (map seeks_of_expr es) (suc level) place) e);
  })

  module _ {w : ℕ} (width : IsWidthOf (from_kinds seen []) w) where
    grouped_wide : w ≡ length grouped_parts.own
    grouped_wide = width.is supplied.around grouped_parts.own
        (ap (λ z. from_kinds z [] supplied.around) get ∙ grouped_parts.from)

    pub grouped_where_supplied : ExprIsSupplied c outer w
    grouped_where_supplied =
        expr_supplied grouped_parts.own supplied.around outer w grouped_wide c
        grouped_parts.condition
        (λ level place e.
        grouped_there level place
        (five_second (seeks_of_source f level place) (seeks_of_expr c (suc level) place)
        (any_seeks (map seeks_of_aggregate as') (suc level) place)
        (seeks_of_expr h (suc level) place)
        (any_seeks (map seeks_of_expr es) (suc level) place) e))

    pub grouped_keys_within : {read : List ℕ} → read ≡ keys → All (λ key. key < w) read
    grouped_keys_within {read} same = subst (All (λ key. key < w)) (sym same)
        (keys_within grouped_parts.own supplied.around outer w grouped_wide keys grouped_parts.js
        grouped_parts.key_kinds)

    pub grouped_aggregates_supplied : {all : List BoundAggregate} → all ≡ as'
        → AggregatesAreSupplied all outer w
    grouped_aggregates_supplied {all} same =
        subst (λ z. AggregatesAreSupplied z outer w) (sym same)
        (aggregates_supplied grouped_parts.own supplied.around outer w grouped_wide as'
        grouped_parts.ms grouped_parts.aggregates
        (λ level place e.
        grouped_there level place
        (five_third (seeks_of_source f level place) (seeks_of_expr c (suc level) place)
        (any_seeks (map seeks_of_aggregate as') (suc level) place)
        (seeks_of_expr h (suc level) place)
        (any_seeks (map seeks_of_expr es) (suc level) place) e)))

  -- over the rows of groups
  module _ (places : List ℕ) (gs : List Aggregate) {v : ℕ} {read : List ℕ}
      {all : List BoundAggregate}
      (same_keys : read ≡ keys) (keys_count : length places ≡ length read) (same_all : all ≡ as')
      (all_count : length gs ≡ length all) (wide : v ≡ length places + length gs) where
    group_wide : v ≡ length (grouped_parts.js ++ grouped_parts.ms)
    group_wide =
        wide ∙ ap (λ n. n + length gs) (keys_count ∙ ap length same_keys
        ∙ sym (length_keys grouped_parts.own keys grouped_parts.js grouped_parts.key_kinds))
        ∙ ap (λ n. length grouped_parts.js + n) (all_count ∙ ap length same_all
        ∙ sym (length_kinds as' (grouped_parts.own ∷ supplied.around) grouped_parts.ms
        grouped_parts.aggregates))
        ∙ sym (length-append grouped_parts.js grouped_parts.ms)

    pub grouped_having_supplied : ExprIsSupplied h outer v
    grouped_having_supplied =
        expr_supplied (grouped_parts.js ++ grouped_parts.ms) supplied.around outer v group_wide h
        grouped_parts.having
        (λ level place e.
        grouped_there level place
        (five_fourth (seeks_of_source f level place) (seeks_of_expr c (suc level) place)
        (any_seeks (map seeks_of_aggregate as') (suc level) place)
        (seeks_of_expr h (suc level) place)
        (any_seeks (map seeks_of_expr es) (suc level) place) e))

    pub grouped_list_supplied : {list : List BoundExpr} → list ≡ es → ListIsSupplied list outer v
    grouped_list_supplied {list} same = subst (λ z. ListIsSupplied z outer v) (sym same)
        (list_supplied (grouped_parts.js ++ grouped_parts.ms) supplied.around outer v group_wide es
        supplied.kinds grouped_parts.list
        (λ level place e.
        grouped_there level place
        (or_right (seeks_of_source f level place || seeks_of_expr c (suc level) place
        || any_seeks (map seeks_of_aggregate as') (suc level) place
        || seeks_of_expr h (suc level) place)
        (any_seeks (map seeks_of_expr es) (suc level) place) e)))

pub grouped_width : (f : BoundSource) (c : BoundExpr) (keys : List ℕ) (as' : List BoundAggregate)
    (h : BoundExpr) (exprs : List Expr) {q : BoundBlock} {es list : List BoundExpr} {w : ℕ}
    → q ≡ block.Grouped f c keys as' h es → list ≡ es → length exprs ≡ length list
    → w ≡ length exprs → IsWidthOf (block_kinds q) w
grouped_width f c keys as' h exprs {q} {es} {list} {w} is same count wide = record {
  is = λ around kinds e.
      let t : GroupedTyped f c keys as' h es around kinds =
      grouped_typed f c keys as' h es around kinds
      (sym (ap (λ z. block_kinds z around) is) ∙ e) in
      wide ∙ count ∙ ap length same
      ∙ sym (length_listed es ((t.js ++ t.ms) ∷ around) kinds t.list);
}

-- a query that is kept has as many columns as its plan shows
pub kept_width : {q : BoundBlock} {number w : ℕ} {tree : DepTree} → IsLeaf number q tree w
    → IsWidthOf (block_kinds q) w
kept_width {q} {number} {w} {tree} made = record {
  is = λ around kinds e.
      let g : IsGrouped q = grouped_of q made.is_kept in
      let t : GroupedTyped g.from g.condition g.by g.aggregates g.having g.list around kinds =
      grouped_typed g.from g.condition g.by g.aggregates g.having g.list around kinds
      (sym (ap (λ z. block_kinds z around) g.is) ∙ e) in
      made.width_is ∙ made.is_plan.columns ∙ g.columns
      ∙ sym (length_listed g.list ((t.js ++ t.ms) ∷ around) kinds t.list);
}

pub distinct_supplied : (outer : List OuterColumn) {q x seen : BoundBlock}
    → QueryIsSupplied q outer → q ≡ block.Distinct x → seen ≡ x → QueryIsSupplied seen outer
distinct_supplied outer {q} {x} {seen} supplied is get =
    subst (λ z. QueryIsSupplied z outer) (sym get) (record {
      around = supplied.around;
      kinds = supplied.kinds;
      typed = sym (ap (λ (m : KindsMeaning). m supplied.around) (kinds_Distinct x))
          ∙ sym (ap (λ z. block_kinds z supplied.around) is) ∙ supplied.typed;
      there = λ level place e.
          supplied.there level place
          (ap (λ z. seeks_of z level place) is
          ∙ ap (λ (m : Seeks). m level place) (seeks_Distinct x) ∙ e);
    })

pub distinct_width : {q x seen : BoundBlock} {w v : ℕ} → q ≡ block.Distinct x → seen ≡ x
    → IsWidthOf (block_kinds seen) w → v ≡ w → IsWidthOf (block_kinds q) v
distinct_width {q} {x} {seen} {w} {v} is get width same = record {
  is = λ around kinds e.
      same ∙ width.is around kinds
      (ap (λ z. block_kinds z around) get
      ∙ sym (ap (λ (m : KindsMeaning). m around) (kinds_Distinct x))
      ∙ sym (ap (λ z. block_kinds z around) is) ∙ e);
}

-- the kinds of the columns of a set operation are as many
length_set : (columns : List SetColumn) (ls rs ks : List Kind)
    → set_kinds columns ls rs ≡ Some ks → length ks ≡ length columns
length_set columns ls rs ks e =
    length_all (map (λ (c : SetColumn). common_kind (sort_of c.left ls) (sort_of c.right rs))
    columns) ks e
    ∙ length-map columns (λ (c : SetColumn). common_kind (sort_of c.left ls) (sort_of c.right rs))

module _ (outer : List OuterColumn) (a b : BoundBlock) (columns : List SetColumn)
    (operation : SetOperation) {q : BoundBlock} (supplied : QueryIsSupplied q outer)
    (is : q ≡ block.Set a b columns operation) where
  set_parts : SetTyped a b columns supplied.around supplied.kinds
  set_parts = set_typed a b columns operation supplied.around supplied.kinds
      (sym (ap (λ z. block_kinds z supplied.around) is) ∙ supplied.typed)

  -- what the sides read is among the columns
  set_there : (level place : ℕ) → (seeks_of a level place || seeks_of b level place) ≡ true
      → has outer level place ≡ true
  set_there level place e =
      supplied.there level place
      (ap (λ z. seeks_of z level place) is
      ∙ ap (λ (m : Seeks). m level place) (seeks_Set a b columns operation) ∙ e)

  pub set_left_supplied : {seen : BoundBlock} → seen ≡ a → QueryIsSupplied seen outer
  set_left_supplied {seen} get = subst (λ z. QueryIsSupplied z outer) (sym get) (record {
    around = supplied.around;
    kinds = set_parts.ls;
    typed = set_parts.left;
    there = λ level place e.
        set_there level place (or_left (seeks_of a level place) (seeks_of b level place) e);
  })

  pub set_right_supplied : {seen : BoundBlock} → seen ≡ b → QueryIsSupplied seen outer
  set_right_supplied {seen} get = subst (λ z. QueryIsSupplied z outer) (sym get) (record {
    around = supplied.around;
    kinds = set_parts.rs;
    typed = set_parts.right;
    there = λ level place e.
        set_there level place (or_right (seeks_of a level place) (seeks_of b level place) e);
  })

pub set_width : (a b : BoundBlock) (operation : SetOperation) {q : BoundBlock}
    {columns seen : List SetColumn} {w : ℕ} → q ≡ block.Set a b columns operation → seen ≡ columns
    → w ≡ length seen → IsWidthOf (block_kinds q) w
set_width a b operation {q} {columns} {seen} {w} is get same = record {
  is = λ around kinds e.
      let t : SetTyped a b columns around kinds =
      set_typed a b columns operation around kinds
      (sym (ap (λ z. block_kinds z around) is) ∙ e) in
      same ∙ ap length get ∙ sym (length_set columns t.ls t.rs kinds t.both);
}

-- ---- whole queries

-- a query that is well typed by itself reads nothing of any row around
pub whole_supplied : (q : BoundBlock) (outer : List OuterColumn) (kinds : List Kind)
    → block_kinds q [] ≡ Some kinds → QueryIsSupplied q outer
whole_supplied q outer kinds e = record {
  around = [];
  kinds = kinds;
  typed = e;
  there = λ level place h.
      absurd (let n : place < 0 = query_within q [] kinds e level place h in omega (arith, n));
}
