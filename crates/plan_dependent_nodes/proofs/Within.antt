-- What a well-typed query reads of the rows around is there.
use Rattle.std.proofs.Common.{◌≡◌, ℕ, suc, ◌<◌, List, [], ◌∷◌, ◌++◌, Bool, true, false, ◌||◌}
use Rattle.std.proofs.Common.{◌==◌, map, length, refl, sym, ap, ◌∙◌, subst}
use Rattle.std.specs.Prelude.{Option, Some, slice_get, slice_index_or}
use Rattle.std.specs.Cmp.{first_so, second_so}
use Rattle.std.proofs.lemmas.Bool.{eqb-true}
use Rattle.std.proofs.lemmas.Option.{slice_get_within}
use Rattle.base_set_rows.specs.declared.kind.SetOperation.{SetOperation}
use Rattle.expr_aggregates.specs.declared.function.AggregateFunction.{AggregateFunction}
use Rattle.expr_operators.specs.declared.operator.Comparison.{Comparison}
use Rattle.expr_scalar.specs.declared.expr.Expr.{Expr}
use Rattle.expr_scalar.specs.declared.kind.Kind.{Kind}
use Rattle.base_schema.specs.declared.table.TableName.{TableName}
use Rattle.sql_bound_query.specs.declared.query.BoundAggregate.{BoundAggregate}
use Rattle.sql_bound_query.specs.declared.query.BoundAggregate.TheVariants as aggregate
use Rattle.sql_bound_query.specs.declared.query.BoundBlock.{BoundBlock}
use Rattle.sql_bound_query.specs.declared.query.BoundBlock.TheVariants as block
use Rattle.sql_bound_query.specs.declared.query.BoundExpr.{BoundExpr}
use Rattle.sql_bound_query.specs.declared.query.BoundSource.{BoundSource}
use Rattle.sql_bound_query.specs.declared.query.BoundSource.TheVariants as source
use Rattle.sql_bound_query.specs.declared.query.Input.{Input}
use Rattle.sql_bound_query.specs.declared.query.Input.TheVariants as input
use Rattle.sql_bound_query.specs.declared.query.SetColumn.{SetColumn}
use Rattle.sql_bound_query.specs.Typing.{EnvKinds, KindMeaning, KindsMeaning, FromKinds}
use Rattle.sql_bound_query.specs.Typing.{where_some}
use Rattle.sql_bound_query.specs.Typing.{all_some, kind_of_sort, listed_kinds, kind_of_aggregate}
use Rattle.sql_bound_query.specs.Typing.{block_kinds, from_kinds, kind_of_input, typing_of}
use Rattle.sql_bound_query.proofs.TypingOpened.{kind_Column, kinds_Lateral, kinds_Distinct}
use Rattle.sql_bound_query.proofs.Induction.{Withs, parts, induction}
use Rattle.sql_bound_query.proofs.Keeps.{Found, some_of}
use Rattle.plan_dependent_nodes.specs.Seeks.{Seeks, any_seeks, seeks_of, seeks_of_source}
use Rattle.plan_dependent_nodes.specs.Seeks.{seeks_of_input}
use Rattle.plan_dependent_nodes.specs.Seeks.{seeks_of_expr, seeks_of_aggregate}
use Rattle.plan_dependent_nodes.proofs.SeeksOpened.{seeks_Column, seeks_Exists, seeks_Any}
use Rattle.plan_dependent_nodes.proofs.SeeksOpened.{seeks_Scalar}
use Rattle.plan_dependent_nodes.proofs.SeeksOpened.{seeks_CountRows, seeks_Of, seeks_Table}
use Rattle.plan_dependent_nodes.proofs.SeeksOpened.{seeks_Derived}
use Rattle.plan_dependent_nodes.proofs.SeeksOpened.{seeks_Lateral, seeks_Cross, seeks_Inner}
use Rattle.plan_dependent_nodes.proofs.SeeksOpened.{seeks_Outer, seeks_Plain}
use Rattle.plan_dependent_nodes.proofs.SeeksOpened.{seeks_Grouped, seeks_Distinct, seeks_Set}
use Rattle.plan_dependent_nodes.proofs.SeeksOpened.{seeks_expr}
use Rattle.plan_dependent_nodes.proofs.TypedParts.{There, input_kinds, sort_inputs, exists_typed}
use Rattle.plan_dependent_nodes.proofs.TypedParts.{scalar_typed, AnyTyped, any_typed, of_typed}
use Rattle.plan_dependent_nodes.proofs.TypedParts.{CrossTyped}
use Rattle.plan_dependent_nodes.proofs.TypedParts.{cross_typed, JoinTyped, inner_typed, OuterTyped}
use Rattle.plan_dependent_nodes.proofs.TypedParts.{outer_typed, PlainTyped, plain_typed}
use Rattle.plan_dependent_nodes.proofs.TypedParts.{GroupedTyped}
use Rattle.plan_dependent_nodes.proofs.TypedParts.{grouped_typed, SetTyped, set_typed}

-- what is read is there in rows of these kinds
abbrev pub Within : EnvKinds → Seeks → Type 0
Within kinds seeks = (level place : ℕ) → seeks level place ≡ true
    → place < length (slice_index_or kinds level [])

pub either : {C : Type 0} (a b : Bool) → (a || b) ≡ true → (a ≡ true → C) → (b ≡ true → C) → C
either true b e f g = f refl
either false b e f g = g e

both_within : (kinds : EnvKinds) (a b : Seeks) → Within kinds a → Within kinds b
    → Within kinds (λ level place. a level place || b level place)
both_within kinds a b f g level place e =
    either (a level place) (b level place) e (f level place) (g level place)

deeper_within : (ls : List Kind) (kinds : EnvKinds) (a : Seeks) → Within (ls ∷ kinds) a
    → Within kinds (λ level place. a (suc level) place)
deeper_within ls kinds a f level place e = f (suc level) place e

none_within : (kinds : EnvKinds) → Within kinds (λ level place. false)
none_within kinds level place e = cc

abbrev A : BoundAggregate → Type 0
A a = (kinds : EnvKinds) (k : Kind) → kind_of_aggregate a kinds ≡ Some k
    → Within kinds (seeks_of_aggregate a)

abbrev B : BoundBlock → Type 0
B q = (kinds : EnvKinds) (ks : List Kind) → block_kinds q kinds ≡ Some ks
    → Within kinds (seeks_of q)

abbrev S : BoundSource → Type 0
S s = (js : List Kind) (kinds : EnvKinds) (ks : List Kind) → from_kinds s js kinds ≡ Some ks
    → Within kinds (seeks_of_source s)

abbrev I : Input → Type 0
I i = (kinds : EnvKinds) (k : Kind) → kind_of_input i kinds ≡ Some k
    → Within kinds (seeks_of_input i)

abbrev E : BoundExpr → Type 0
E e = (kinds : EnvKinds) → There (input_kinds e.inputs kinds) → Within kinds (seeks_of_expr e)

-- ---- lists

inputs_within : (is : Withs Input I) (kinds : EnvKinds) (ks : List Kind)
    → input_kinds (parts {P = I} is) kinds ≡ Some ks
    → Within kinds (any_seeks (map seeks_of_input (parts {P = I} is)))
inputs_within [] kinds ks e = none_within kinds
inputs_within (i ∷ is) kinds ks e =
    let rest : Option (List Kind) = input_kinds (parts {P = I} is) kinds in
    let f : Found (kind_of_input i.0 kinds) (λ a. where_some rest (λ all. Some (a ∷ all))) ks =
    some_of (kind_of_input i.0 kinds) (λ a. where_some rest (λ all. Some (a ∷ all))) ks e in
    let g : Found rest (λ all. Some (f.it ∷ all)) ks =
    some_of rest (λ all. Some (f.it ∷ all)) ks f.gives in
    both_within kinds (seeks_of_input i.0) (any_seeks (map seeks_of_input (parts {P = I} is)))
    (i.1 kinds f.it f.is) (inputs_within is kinds g.it g.is)

list_within : (es : Withs BoundExpr E) (kinds : EnvKinds) (ks : List Kind)
    → listed_kinds (map typing_of (parts {P = E} es)) kinds ≡ Some ks
    → Within kinds (any_seeks (map seeks_of_expr (parts {P = E} es)))
list_within [] kinds ks e = none_within kinds
list_within (x ∷ es) kinds ks e =
    let rest : Option (List Kind) = listed_kinds (map typing_of (parts {P = E} es)) kinds in
    let own : Option Kind = kind_of_sort ((typing_of x.0).sort kinds) in
    let f : Found own (λ a. where_some rest (λ all. Some (a ∷ all))) ks =
    some_of own (λ a. where_some rest (λ all. Some (a ∷ all))) ks e in
    let g : Found rest (λ all. Some (f.it ∷ all)) ks =
    some_of rest (λ all. Some (f.it ∷ all)) ks f.gives in
    both_within kinds (seeks_of_expr x.0) (any_seeks (map seeks_of_expr (parts {P = E} es)))
    (x.1 kinds (sort_inputs x.0 kinds f.it f.is)) (list_within es kinds g.it g.is)

aggregates_within : (as' : Withs BoundAggregate A) (kinds : EnvKinds) (ks : List Kind)
    → all_some (map (λ (a : KindMeaning). a kinds) (map kind_of_aggregate (parts {P = A} as')))
    ≡ Some ks
    → Within kinds (any_seeks (map seeks_of_aggregate (parts {P = A} as')))
aggregates_within [] kinds ks e = none_within kinds
aggregates_within (x ∷ as') kinds ks e =
    let rest : Option (List Kind) =
    all_some (map (λ (a : KindMeaning). a kinds) (map kind_of_aggregate (parts {P = A} as'))) in
    let own : Option Kind = kind_of_aggregate x.0 kinds in
    let f : Found own (λ a. where_some rest (λ all. Some (a ∷ all))) ks =
    some_of own (λ a. where_some rest (λ all. Some (a ∷ all))) ks e in
    let g : Found rest (λ all. Some (f.it ∷ all)) ks =
    some_of rest (λ all. Some (f.it ∷ all)) ks f.gives in
    both_within kinds (seeks_of_aggregate x.0)
    (any_seeks (map seeks_of_aggregate (parts {P = A} as'))) (x.1 kinds f.it f.is)
    (aggregates_within as' kinds g.it g.is)

-- ---- expressions and aggregates

expr_within : (is : Withs Input I) (x : Expr) → E (record { inputs = parts {P = I} is; expr = x })
expr_within is x kinds t =
    subst (Within kinds) (sym (seeks_expr (record { inputs = parts {P = I} is; expr = x })))
    (inputs_within is kinds t.it t.is)

count_rows_within : A aggregate.CountRows
count_rows_within kinds k e = subst (Within kinds) (sym seeks_CountRows) (none_within kinds)

of_within : (function : AggregateFunction) (scale : ℕ) (a : BoundExpr) → E a
    → A (aggregate.Of function scale a)
of_within function scale a ea kinds k e =
    subst (Within kinds) (sym (seeks_Of function scale a))
    (ea kinds (of_typed function scale a kinds k e))

-- ---- sources

table_within : (t : TableName) → S (source.Table t)
table_within t js kinds ks e = subst (Within kinds) (sym (seeks_Table t)) (none_within kinds)

derived_within : (kept : Option ℕ) (q : BoundBlock) → B q → S (source.Derived kept q)
derived_within kept q b js kinds ks e =
    subst (Within kinds) (sym (seeks_Derived kept q)) (none_within kinds)

lateral_within : (q : BoundBlock) → B q → S (source.Lateral q)
lateral_within q b js kinds ks e =
    subst (Within kinds) (sym (seeks_Lateral q))
    (deeper_within js kinds (seeks_of q)
    (b (js ∷ kinds) ks (sym (ap (λ (m : FromKinds). m js kinds) (kinds_Lateral q)) ∙ e)))

cross_within : (a : BoundSource) → S a → (b : BoundSource) → S b → S (source.Cross a b)
cross_within a sa b sb js kinds ks e =
    let t : CrossTyped a b js kinds ks = cross_typed a b js kinds ks e in
    subst (Within kinds) (sym (seeks_Cross a b))
    (both_within kinds (seeks_of_source a) (seeks_of_source b) (sa js kinds t.ls t.left)
    (sb (js ++ t.ls) kinds t.rs t.right))

join_within : (a : BoundSource) → S a → (b : BoundSource) → S b → (on : BoundExpr) → E on
    → (js : List Kind) (kinds : EnvKinds) (ks : List Kind) → JoinTyped a b on js kinds ks
    → Within kinds (λ level place.
    seeks_of_source a level place || seeks_of_source b level place
    || seeks_of_expr on (suc level) place)
join_within a sa b sb on eo js kinds ks t =
    both_within kinds (λ level place. seeks_of_source a level place || seeks_of_source b level place)
    (λ level place. seeks_of_expr on (suc level) place)
    (both_within kinds (seeks_of_source a) (seeks_of_source b) (sa js kinds t.sides.ls t.sides.left)
    (sb (js ++ t.sides.ls) kinds t.sides.rs t.sides.right))
    (deeper_within ks kinds (seeks_of_expr on) (eo (ks ∷ kinds) t.inputs))

inner_within : (a : BoundSource) → S a → (b : BoundSource) → S b → (on : BoundExpr) → E on
    → S (source.Inner a b on)
inner_within a sa b sb on eo js kinds ks e =
    subst (Within kinds) (sym (seeks_Inner a b on))
    (join_within a sa b sb on eo js kinds ks (inner_typed a b on js kinds ks e))

outer_within : (a : BoundSource) → S a → (b : BoundSource) → S b → (width : ℕ) (on : BoundExpr)
    → E on → S (source.Outer a b width on)
outer_within a sa b sb width on eo js kinds ks e =
    let t : OuterTyped a b width on js kinds ks = outer_typed a b width on js kinds ks e in
    subst (Within kinds) (sym (seeks_Outer a b width on))
    (join_within a sa b sb on eo js kinds ks t.join)

-- ---- queries

plain_within : (from : BoundSource) → S from → (condition : BoundExpr) → E condition
    → (list : Withs BoundExpr E) → B (block.Plain from condition (parts {P = E} list))
plain_within from sf condition ec list kinds ks e =
    let es : List BoundExpr = parts {P = E} list in
    let t : PlainTyped from condition es kinds ks = plain_typed from condition es kinds ks e in
    subst (Within kinds) (sym (seeks_Plain from condition es))
    (both_within kinds
    (λ level place. seeks_of_source from level place || seeks_of_expr condition (suc level) place)
    (λ level place. any_seeks (map seeks_of_expr es) (suc level) place)
    (both_within kinds (seeks_of_source from)
    (λ level place. seeks_of_expr condition (suc level) place) (sf [] kinds t.own t.from)
    (deeper_within t.own kinds (seeks_of_expr condition) (ec (t.own ∷ kinds) t.condition)))
    (deeper_within t.own kinds (any_seeks (map seeks_of_expr es))
    (list_within list (t.own ∷ kinds) ks t.list)))

grouped_within : (from : BoundSource) → S from → (condition : BoundExpr) → E condition
    → (keys : List ℕ) → (aggregates : Withs BoundAggregate A)
    → (having : BoundExpr) → E having → (list : Withs BoundExpr E)
    → B (block.Grouped from condition keys (parts {P = A} aggregates) having (parts {P = E} list))
grouped_within from sf condition ec keys aggregates having eh list kinds ks e =
    let es : List BoundExpr = parts {P = E} list in
    let as' : List BoundAggregate = parts {P = A} aggregates in
    let t : GroupedTyped from condition keys as' having es kinds ks =
    grouped_typed from condition keys as' having es kinds ks e in
    let row : List Kind = t.js ++ t.ms in
    let s : Seeks = seeks_of_source from in
    let c : Seeks = λ level place. seeks_of_expr condition (suc level) place in
    let a : Seeks = λ level place. any_seeks (map seeks_of_aggregate as') (suc level) place in
    let h : Seeks = λ level place. seeks_of_expr having (suc level) place in
    let l : Seeks = λ level place. any_seeks (map seeks_of_expr es) (suc level) place in
    subst (Within kinds) (sym (seeks_Grouped from condition keys as' having es))
    (both_within kinds
    (λ level place. s level place || c level place || a level place || h level place) l
    (both_within kinds (λ level place. s level place || c level place || a level place) h
    (both_within kinds (λ level place. s level place || c level place) a
    (both_within kinds s c (sf [] kinds t.own t.from)
    (deeper_within t.own kinds (seeks_of_expr condition) (ec (t.own ∷ kinds) t.condition)))
    (deeper_within t.own kinds (any_seeks (map seeks_of_aggregate as'))
    (aggregates_within aggregates (t.own ∷ kinds) t.ms t.aggregates)))
    (deeper_within row kinds (seeks_of_expr having) (eh (row ∷ kinds) t.having)))
    (deeper_within row kinds (any_seeks (map seeks_of_expr es))
    (list_within list (row ∷ kinds) ks t.list)))

distinct_within : (q : BoundBlock) → B q → B (block.Distinct q)
distinct_within q b kinds ks e =
    subst (Within kinds) (sym (seeks_Distinct q))
    (b kinds ks (sym (ap (λ (m : KindsMeaning). m kinds) (kinds_Distinct q)) ∙ e))

set_within : (a : BoundBlock) → B a → (b : BoundBlock) → B b → (columns : List SetColumn)
    → (operation : SetOperation) → B (block.Set a b columns operation)
set_within a f b g columns operation kinds ks e =
    let t : SetTyped a b columns kinds ks = set_typed a b columns operation kinds ks e in
    subst (Within kinds) (sym (seeks_Set a b columns operation))
    (both_within kinds (seeks_of a) (seeks_of b) (f kinds t.ls t.left) (g kinds t.rs t.right))

-- ---- inputs

column_within : (out at : ℕ) → I (input.Column out at)
column_within out at kinds k e =
    let t : slice_get (slice_index_or kinds out []) at ≡ Some k =
    sym (ap (λ (m : KindMeaning). m kinds) (kind_Column out at)) ∙ e in
    subst (Within kinds) (sym (seeks_Column out at))
    (λ level place h.
    subst (λ z. place < length (slice_index_or kinds z []))
    (eqb-true out level (first_so (out == level) (at == place) h))
    (subst (λ z. z < length (slice_index_or kinds out []))
    (eqb-true at place (second_so (out == level) (at == place) h))
    (slice_get_within (slice_index_or kinds out []) at k t)))

exists_within : (q : BoundBlock) → B q → I (input.Exists q)
exists_within q b kinds k e =
    let t : There (block_kinds q kinds) = exists_typed q kinds k e in
    subst (Within kinds) (sym (seeks_Exists q)) (b kinds t.it t.is)

any_within : (c : Comparison) (x : BoundExpr) → E x → (q : BoundBlock) → B q
    → I (input.Any c x q)
any_within c x ex q b kinds k e =
    let t : AnyTyped x q kinds = any_typed c x q kinds k e in
    subst (Within kinds) (sym (seeks_Any c x q))
    (both_within kinds (seeks_of_expr x) (seeks_of q) (ex kinds t.left)
    (b kinds t.right.it t.right.is))

scalar_within : (q : BoundBlock) → B q → I (input.Scalar q)
scalar_within q b kinds k e =
    let t : There (block_kinds q kinds) = scalar_typed q kinds k e in
    subst (Within kinds) (sym (seeks_Scalar q)) (b kinds t.it t.is)

pub query_within : (q : BoundBlock) → B q
query_within = induction A B S I E (record {
  count_rows = count_rows_within;
  of = of_within;
  plain = plain_within;
  grouped = grouped_within;
  distinct = distinct_within;
  set = set_within;
  table = table_within;
  derived = derived_within;
  lateral = lateral_within;
  cross = cross_within;
  inner = inner_within;
  outer = outer_within;
  column = column_within;
  exists = exists_within;
  any = any_within;
  scalar = scalar_within;
  expr = expr_within;
})
