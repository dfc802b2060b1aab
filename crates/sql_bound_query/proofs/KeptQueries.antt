-- A well-typed query keeps the kinds of its columns: the induction over its tree.
use Rattle.std.proofs.Common.{◌≡◌, ℕ, List, [], ◌∷◌, ◌++◌, true, ◌==◌, map}
use Rattle.std.proofs.Common.{length, replicate, refl, sym, ◌∙◌, ap, subst}
use Rattle.std.specs.Prelude.{Option, Some, None, slice_get, slice_index_or, if◌then◌else◌}
use Rattle.std.proofs.lemmas.Bool.Decides.{Decides-eqb}
use Rattle.expr_aggregates.specs.Values.{reading}
use Rattle.expr_aggregates.specs.declared.function.AggregateFunction.{AggregateFunction}
use Rattle.base_row_laws.specs.Aggregates.{aggregated, count_rows}
use Rattle.base_row_laws.specs.Bags.{Each}
use Rattle.base_row_laws.specs.Ranked.{Ranked}
use Rattle.base_row_laws.specs.Rows.{columns, scanned}
use Rattle.base_row_laws.specs.Operators.{select, project}
use Rattle.base_row_laws.proofs.Lists.{Each-map, Each-weaker}
use Rattle.expr_scalar.specs.declared.expr.Expr.{Expr}
use Rattle.expr_scalar.specs.declared.kind.Kind.{Kind}
use Rattle.expr_scalar.specs.declared.kind.Kind.TheVariants as kind
use Rattle.expr_scalar.specs.Typing.{Sort, comparable, is_of_kind, row_is_of}
use Rattle.expr_scalar.specs.Typing.Sort.{Of}
use Rattle.base_value.specs.declared.value.Value.{Value}
use Rattle.base_value.specs.declared.value.Value.TheVariants.{Null}
use Rattle.base_value.specs.Value.{same_value}
use Rattle.base_set_rows.specs.declared.kind.SetOperation.{SetOperation}
use Rattle.base_set_rows.proofs.Operations.{set_rows_each}
use Rattle.expr_operators.specs.declared.operator.Comparison.{Comparison}
use Rattle.base_value.proofs.Identity.{value_identity}
use Rattle.base_schema.specs.State.{State, table_rows}
use Rattle.base_schema.specs.declared.table.TableName.{TableName}
use Rattle.sql_bound_query.specs.declared.query.BoundAggregate.{BoundAggregate}
use Rattle.sql_bound_query.specs.declared.query.BoundAggregate.TheVariants as aggregate
use Rattle.sql_bound_query.specs.declared.query.BoundBlock.{BoundBlock}
use Rattle.sql_bound_query.specs.declared.query.BoundBlock.TheVariants as block
use Rattle.sql_bound_query.specs.declared.query.BoundExpr.{BoundExpr}
use Rattle.sql_bound_query.specs.declared.query.BoundSource.{BoundSource}
use Rattle.sql_bound_query.specs.declared.query.BoundSource.TheVariants as source
use Rattle.sql_bound_query.specs.declared.query.SetColumn.{SetColumn}
use Rattle.sql_bound_query.specs.declared.query.Input.{Input}
use Rattle.sql_bound_query.specs.declared.query.Input.TheVariants as input
use Rattle.sql_bound_query.specs.Meaning.{Env, InputMeaning, ExprMeaning, AggregateMeaning}
use Rattle.sql_bound_query.specs.Meaning.{RowsMeaning, FromMeaning, holds_for, listed, groups}
use Rattle.sql_bound_query.specs.Meaning.{left_columns, right_columns}
use Rattle.sql_bound_query.specs.Meaning.{aggregate_meaning, block_meaning}
use Rattle.sql_bound_query.specs.Meaning.{source_meaning}
use Rattle.sql_bound_query.specs.Meaning.{input_meaning, expr_meaning}
use Rattle.sql_bound_query.specs.Typing.{EnvKinds, KindMeaning, KindsMeaning, FromKinds, ExprTyping}
use Rattle.sql_bound_query.specs.Typing.{env_is_of}
use Rattle.sql_bound_query.specs.Typing.{where_some, where_true, all_some, kind_of_sort, sort_over}
use Rattle.sql_bound_query.specs.Typing.{only_kind, column_kinds, joined_kinds, listed_kinds}
use Rattle.sql_bound_query.specs.Typing.{set_kinds}
use Rattle.sql_bound_query.specs.Typing.{group_kinds, kind_of_aggregate, block_kinds, from_kinds}
use Rattle.sql_bound_query.specs.Typing.{kind_of_input, typing_of}
use Rattle.sql_bound_query.proofs.Opened.{input_Column, input_Exists, input_Any, input_Scalar}
use Rattle.sql_bound_query.proofs.Opened.{aggregate_CountRows, aggregate_Of, source_Table}
use Rattle.sql_bound_query.proofs.Opened.{source_Derived, source_Lateral, source_Cross, source_Inner}
use Rattle.sql_bound_query.proofs.Opened.{source_Outer}
use Rattle.sql_bound_query.proofs.Opened.{block_Plain, block_Grouped, block_Distinct, block_Set, expr_is}
use Rattle.sql_bound_query.proofs.TypingOpened.{kind_Column, kind_Exists, kind_Any, kind_Scalar}
use Rattle.sql_bound_query.proofs.TypingOpened.{kind_CountRows, kind_Of, kinds_Table, kinds_Derived}
use Rattle.sql_bound_query.proofs.TypingOpened.{kinds_Lateral, kinds_Cross, kinds_Inner, kinds_Outer}
use Rattle.sql_bound_query.proofs.TypingOpened.{kinds_Plain}
use Rattle.sql_bound_query.proofs.TypingOpened.{kinds_Grouped, kinds_Distinct, kinds_Set, typing_is}
use Rattle.sql_bound_query.proofs.Induction.{Withs, parts, induction}
use Rattle.sql_bound_query.proofs.KeptRows as kept
use Rattle.sql_bound_query.proofs.Keeps.{Found, some_of, Passed, passed, some_is, both_so, to_kind}
use Rattle.sql_bound_query.proofs.Keeps.{aggregate_kept, mark_kept, row_append}
use Rattle.sql_bound_query.proofs.Keeps.{nulls_row, column_kept}
use Rattle.sql_bound_query.proofs.KeptParts.{Rows, over_kept, groups_kept, set_left, set_right}
use Rattle.sql_bound_query.proofs.KeptParts.{only_is, single_row}
use Rattle.sql_bound_query.proofs.StandingQueries.{query_stands}

module _ (state : State)
    (tables : (t : TableName) → Each (Rows (column_kinds t)) (scanned (table_rows state t))) where
  abbrev A : BoundAggregate → Type 0
  A a = (kinds : EnvKinds) (env : Env) (ls : List Kind) (ys : List (Ranked Value)) (k : Kind)
      → env_is_of kinds env ≡ true → Each (Rows ls) ys
      → kind_of_aggregate a (ls ∷ kinds) ≡ Some k
      → is_of_kind k ((aggregate_meaning state a env).1
      (map (λ (y : Ranked Value). (aggregate_meaning state a env).0 y.values) ys)) ≡ true

  abbrev B : BoundBlock → Type 0
  B q = (kinds : EnvKinds) (env : Env) (ks : List Kind) → env_is_of kinds env ≡ true
      → block_kinds q kinds ≡ Some ks → Each (Rows ks) (block_meaning state q env)

  abbrev S : BoundSource → Type 0
  S s = (js : List Kind) (kinds : EnvKinds) (p : List Value) (env : Env) (ks : List Kind)
      → row_is_of js p ≡ true → env_is_of kinds env ≡ true
      → from_kinds s js kinds ≡ Some ks → Each (Rows ks) (source_meaning state s p env)

  abbrev I : Input → Type 0
  I i = (kinds : EnvKinds) (env : Env) (k : Kind) → env_is_of kinds env ≡ true
      → kind_of_input i kinds ≡ Some k → is_of_kind k (input_meaning state i env) ≡ true

  abbrev E : BoundExpr → Type 0
  E e = (kinds : EnvKinds) (env : Env) (k : Kind) → env_is_of kinds env ≡ true
      → kind_of_sort ((typing_of e).sort kinds) ≡ Some k
      → is_of_kind k ((expr_meaning state e).value env) ≡ true

  inputs_kept : (is : Withs Input I) (kinds : EnvKinds) (env : Env) (ks : List Kind)
      → env_is_of kinds env ≡ true
      → all_some (map (λ (i : KindMeaning). i kinds) (map kind_of_input (parts {P = I} is)))
      ≡ Some ks
      → row_is_of ks (map (λ (i : InputMeaning). i env)
      (map (input_meaning state) (parts {P = I} is))) ≡ true
  inputs_kept [] kinds env ks h e = subst (λ z. row_is_of z [] ≡ true) (some_is [] ks e) refl
  inputs_kept (i ∷ is) kinds env ks h e =
      let rest : Option (List Kind) =
      all_some (map (λ (i : KindMeaning). i kinds) (map kind_of_input (parts {P = I} is))) in
      let f : Found (kind_of_input i.0 kinds) (λ a. where_some rest (λ all. Some (a ∷ all))) ks =
      some_of (kind_of_input i.0 kinds) (λ a. where_some rest (λ all. Some (a ∷ all))) ks e in
      let g : Found rest (λ all. Some (f.it ∷ all)) ks =
      some_of rest (λ all. Some (f.it ∷ all)) ks f.gives in
      let vs : List Value = map (λ (i : InputMeaning). i env)
      (map (input_meaning state) (parts {P = I} is)) in
      subst (λ z. row_is_of z (input_meaning state i.0 env ∷ vs) ≡ true)
      (some_is (f.it ∷ g.it) ks g.gives)
      (both_so (is_of_kind f.it (input_meaning state i.0 env)) (row_is_of g.it vs)
      (i.1 kinds env f.it h f.is) (inputs_kept is kinds env g.it h g.is))

  list_kept : (es : Withs BoundExpr E) (kinds : EnvKinds) (env : Env) (ks : List Kind)
      → env_is_of kinds env ≡ true
      → all_some (map (λ (e : ExprTyping). kind_of_sort (e.sort kinds))
      (map typing_of (parts {P = E} es))) ≡ Some ks
      → row_is_of ks (map (λ (e : ExprMeaning). e.value env)
      (map (expr_meaning state) (parts {P = E} es))) ≡ true
  list_kept [] kinds env ks h e = subst (λ z. row_is_of z [] ≡ true) (some_is [] ks e) refl
  list_kept (x ∷ es) kinds env ks h e =
      let rest : Option (List Kind) =
      all_some (map (λ (e : ExprTyping). kind_of_sort (e.sort kinds))
      (map typing_of (parts {P = E} es))) in
      let own : Option Kind = kind_of_sort ((typing_of x.0).sort kinds) in
      let f : Found own (λ a. where_some rest (λ all. Some (a ∷ all))) ks =
      some_of own (λ a. where_some rest (λ all. Some (a ∷ all))) ks e in
      let g : Found rest (λ all. Some (f.it ∷ all)) ks =
      some_of rest (λ all. Some (f.it ∷ all)) ks f.gives in
      let vs : List Value = map (λ (e : ExprMeaning). e.value env)
      (map (expr_meaning state) (parts {P = E} es)) in
      subst (λ z. row_is_of z ((expr_meaning state x.0).value env ∷ vs) ≡ true)
      (some_is (f.it ∷ g.it) ks g.gives)
      (both_so (is_of_kind f.it ((expr_meaning state x.0).value env)) (row_is_of g.it vs)
      (x.1 kinds env f.it h f.is) (list_kept es kinds env g.it h g.is))

  aggregates_kept : (as' : Withs BoundAggregate A) (kinds : EnvKinds) (env : Env) (ls : List Kind)
      (ys : List (Ranked Value)) (ks : List Kind) → env_is_of kinds env ≡ true → Each (Rows ls) ys
      → all_some (map (λ (a : KindMeaning). a (ls ∷ kinds))
      (map kind_of_aggregate (parts {P = A} as'))) ≡ Some ks
      → row_is_of ks (aggregated
      (map (λ (a : AggregateMeaning). a env) (map (aggregate_meaning state) (parts {P = A} as')))
      ys) ≡ true
  aggregates_kept [] kinds env ls ys ks h all e =
      subst (λ z. row_is_of z [] ≡ true) (some_is [] ks e) refl
  aggregates_kept (x ∷ as') kinds env ls ys ks h all e =
      let rest : Option (List Kind) =
      all_some (map (λ (a : KindMeaning). a (ls ∷ kinds))
      (map kind_of_aggregate (parts {P = A} as'))) in
      let own : Option Kind = kind_of_aggregate x.0 (ls ∷ kinds) in
      let f : Found own (λ a. where_some rest (λ all. Some (a ∷ all))) ks =
      some_of own (λ a. where_some rest (λ all. Some (a ∷ all))) ks e in
      let g : Found rest (λ all. Some (f.it ∷ all)) ks =
      some_of rest (λ all. Some (f.it ∷ all)) ks f.gives in
      let vs : List Value = aggregated
      (map (λ (a : AggregateMeaning). a env) (map (aggregate_meaning state) (parts {P = A} as')))
      ys in
      let it : Value = (aggregate_meaning state x.0 env).1
      (map (λ (y : Ranked Value). (aggregate_meaning state x.0 env).0 y.values) ys) in
      subst (λ z. row_is_of z (it ∷ vs) ≡ true) (some_is (f.it ∷ g.it) ks g.gives)
      (both_so (is_of_kind f.it it) (row_is_of g.it vs) (x.1 kinds env ls ys f.it h all f.is)
      (aggregates_kept as' kinds env ls ys g.it h all g.is))

  -- ---- expressions and aggregates

  expr_kept : (is : Withs Input I) (x : Expr) → E (record { inputs = parts {P = I} is; expr = x })
  expr_kept is x kinds env k h e =
      let r : BoundExpr = record { inputs = parts {P = I} is; expr = x } in
      let o : Option (List Kind) =
      all_some (map (λ (i : KindMeaning). i kinds) (map kind_of_input (parts {P = I} is))) in
      let row : List Value = map (λ (i : InputMeaning). i env)
      (map (input_meaning state) (parts {P = I} is)) in
      let t : kind_of_sort (sort_over x o) ≡ Some k =
      sym (ap (λ (t : ExprTyping). kind_of_sort (t.sort kinds)) (typing_is r)) ∙ e in
      subst (λ (m : ExprMeaning). is_of_kind k (m.value env) ≡ true) (sym (expr_is state r))
      (over_kept x o k row t (λ ks f. inputs_kept is kinds env ks h f))

  count_rows_kept : A aggregate.CountRows
  count_rows_kept kinds env ls ys k h all e =
      let t : Some (kind.Number 0) ≡ Some k =
      sym (ap (λ (m : KindMeaning). m (ls ∷ kinds)) kind_CountRows) ∙ e in
      subst (λ (m : AggregateMeaning).
      is_of_kind k ((m env).1 (map (λ (y : Ranked Value). (m env).0 y.values) ys)) ≡ true)
      (sym (aggregate_CountRows state))
      (to_kind (kind.Number 0) k (count_rows (reading 0) (map (λ (y : Ranked Value). Null) ys)) t
      refl)

  of_kept : (function : AggregateFunction) (scale : ℕ) (a : BoundExpr) → E a
      → A (aggregate.Of function scale a)
  of_kept function scale a ea kinds env ls ys k h all e =
      let s : Sort = (typing_of a).sort (ls ∷ kinds) in
      let vs : List Value = map
      (λ (y : Ranked Value). (expr_meaning state a).value (y.values ∷ env)) ys in
      let t = sym (ap (λ (m : KindMeaning). m (ls ∷ kinds)) (kind_Of function scale a)) ∙ e in
      subst (λ (m : AggregateMeaning).
      is_of_kind k ((m env).1 (map (λ (y : Ranked Value). (m env).0 y.values) ys)) ≡ true)
      (sym (aggregate_Of state function scale a))
      (aggregate_kept function scale s k vs t
      (λ j f. Each-map (λ x. is_of_kind j x ≡ true)
      (λ (y : Ranked Value). (expr_meaning state a).value (y.values ∷ env)) ys
      (Each-weaker (Rows ls) (λ (y : Ranked Value).
      is_of_kind j ((expr_meaning state a).value (y.values ∷ env)) ≡ true) ys
      (λ y p. ea (ls ∷ kinds) (y.values ∷ env) j
      (both_so (row_is_of ls y.values) (env_is_of kinds env) p h) f) all)))

  -- ---- sources

  table_kept : (t : TableName) → S (source.Table t)
  table_kept t js kinds p env ks so h e =
      let f : Some (column_kinds t) ≡ Some ks =
      sym (ap (λ (m : FromKinds). m js kinds) (kinds_Table t)) ∙ e in
      subst (λ (m : FromMeaning). Each (Rows ks) (m p env)) (sym (source_Table state t))
      (subst (λ z. Each (Rows z) (scanned (table_rows state t))) (some_is (column_kinds t) ks f)
      (tables t))

  derived_kept : (kept : Option ℕ) (q : BoundBlock) → B q → S (source.Derived kept q)
  derived_kept kept q b js kinds p env ks so h e =
      let f : block_kinds q [] ≡ Some ks =
      sym (ap (λ (m : FromKinds). m js kinds) (kinds_Derived kept q)) ∙ e in
      subst (λ (m : FromMeaning). Each (Rows ks) (m p env)) (sym (source_Derived state kept q))
      (b [] [] ks refl f)

  lateral_kept : (q : BoundBlock) → B q → S (source.Lateral q)
  lateral_kept q b js kinds p env ks so h e =
      let f : block_kinds q (js ∷ kinds) ≡ Some ks =
      sym (ap (λ (m : FromKinds). m js kinds) (kinds_Lateral q)) ∙ e in
      subst (λ (m : FromMeaning). Each (Rows ks) (m p env)) (sym (source_Lateral state q))
      (b (js ∷ kinds) (p ∷ env) ks (both_so (row_is_of js p) (env_is_of kinds env) so h) f)

  both_rows : (ls rs ks : List Kind) → ls ++ rs ≡ ks → (x y : List Value) → row_is_of ls x ≡ true
      → row_is_of rs y ≡ true → row_is_of ks (x ++ y) ≡ true
  both_rows ls rs ks is x y p q =
      subst (λ z. row_is_of z (x ++ y) ≡ true) is (row_append ls rs x y p q)

  cross_kept : (a : BoundSource) → S a → (b : BoundSource) → S b → S (source.Cross a b)
  cross_kept a sa b sb js kinds p env ks so h e =
      let right : List Kind → Option (List Kind) = λ ls. from_kinds b (js ++ ls) kinds in
      let t : where_some (from_kinds a js kinds)
      (λ ls. where_some (right ls) (λ rs. Some (ls ++ rs)))
      ≡ Some ks = sym (ap (λ (m : FromKinds). m js kinds) (kinds_Cross a b)) ∙ e in
      let f : Found (from_kinds a js kinds)
      (λ ls. where_some (right ls) (λ rs. Some (ls ++ rs))) ks =
      some_of (from_kinds a js kinds) (λ ls. where_some (right ls) (λ rs. Some (ls ++ rs))) ks t in
      let g : Found (right f.it) (λ rs. Some (f.it ++ rs)) ks =
      some_of (right f.it) (λ rs. Some (f.it ++ rs)) ks f.gives in
      subst (λ (m : FromMeaning). Each (Rows ks) (m p env)) (sym (source_Cross state a b))
      (kept.cross_each (λ r. row_is_of f.it r ≡ true) (λ r. row_is_of g.it r ≡ true)
      (λ r. row_is_of ks r ≡ true) (source_meaning state a p env)
      (λ l. source_meaning state b (p ++ l) env)
      (both_rows f.it g.it ks (some_is (f.it ++ g.it) ks g.gives)) (sa js kinds p env f.it so h f.is)
      (λ l k. sb (js ++ f.it) kinds (p ++ l) env g.it (row_append js f.it p l so k) h g.is))

  inner_kept : (a : BoundSource) → S a → (b : BoundSource) → S b → (on : BoundExpr) → E on
      → S (source.Inner a b on)
  inner_kept a sa b sb on eo js kinds p env ks so h e =
      let right : List Kind → Option (List Kind) = λ ls. from_kinds b (js ++ ls) kinds in
      let last : List Kind → List Kind → Option (List Kind) =
      λ ls rs. joined_kinds (typing_of on) kinds ls rs in
      let t : where_some (from_kinds a js kinds) (λ ls. where_some (right ls) (last ls))
      ≡ Some ks = sym (ap (λ (m : FromKinds). m js kinds) (kinds_Inner a b on)) ∙ e in
      let f : Found (from_kinds a js kinds) (λ ls. where_some (right ls) (last ls)) ks =
      some_of (from_kinds a js kinds) (λ ls. where_some (right ls) (last ls)) ks t in
      let g : Found (right f.it) (last f.it) ks =
      some_of (right f.it) (last f.it) ks f.gives in
      let t : Passed ((typing_of on).is_condition ((f.it ++ g.it) ∷ kinds)) (Some (f.it ++ g.it))
      ks = passed ((typing_of on).is_condition ((f.it ++ g.it) ∷ kinds)) (Some (f.it ++ g.it)) ks
      g.gives in
      subst (λ (m : FromMeaning). Each (Rows ks) (m p env)) (sym (source_Inner state a b on))
      (kept.join_each (λ r. row_is_of f.it r ≡ true) (λ r. row_is_of g.it r ≡ true)
      (λ r. row_is_of ks r ≡ true) (holds_for (expr_meaning state on) env)
      (source_meaning state a p env) (λ l. source_meaning state b (p ++ l) env)
      (both_rows f.it g.it ks (some_is (f.it ++ g.it) ks t.is)) (sa js kinds p env f.it so h f.is)
      (λ l k. sb (js ++ f.it) kinds (p ++ l) env g.it (row_append js f.it p l so k) h g.is))

  outer_kept : (a : BoundSource) → S a → (b : BoundSource) → S b → (width : ℕ) (on : BoundExpr)
      → E on → S (source.Outer a b width on)
  outer_kept a sa b sb width on eo js kinds p env ks so h e =
      let right : List Kind → Option (List Kind) = λ ls. from_kinds b (js ++ ls) kinds in
      let last : List Kind → List Kind → Option (List Kind) =
      λ ls rs. if width == length rs then joined_kinds (typing_of on) kinds ls rs else None in
      let t : where_some (from_kinds a js kinds) (λ ls. where_some (right ls) (last ls))
      ≡ Some ks = sym (ap (λ (m : FromKinds). m js kinds) (kinds_Outer a b width on)) ∙ e in
      let f : Found (from_kinds a js kinds) (λ ls. where_some (right ls) (last ls)) ks =
      some_of (from_kinds a js kinds) (λ ls. where_some (right ls) (last ls)) ks t in
      let g : Found (right f.it) (last f.it) ks =
      some_of (right f.it) (last f.it) ks f.gives in
      let w : Passed (width == length g.it) (joined_kinds (typing_of on) kinds f.it g.it) ks =
      passed (width == length g.it) (joined_kinds (typing_of on) kinds f.it g.it) ks g.gives in
      let t : Passed ((typing_of on).is_condition ((f.it ++ g.it) ∷ kinds)) (Some (f.it ++ g.it))
      ks = passed ((typing_of on).is_condition ((f.it ++ g.it) ∷ kinds)) (Some (f.it ++ g.it)) ks
      w.is in
      subst (λ (m : FromMeaning). Each (Rows ks) (m p env)) (sym (source_Outer state a b width on))
      (kept.outer_each (λ r. row_is_of f.it r ≡ true) (λ r. row_is_of g.it r ≡ true)
      (λ r. row_is_of ks r ≡ true) (replicate width Null) (holds_for (expr_meaning state on) env)
      (source_meaning state a p env) (λ l. source_meaning state b (p ++ l) env)
      (both_rows f.it g.it ks (some_is (f.it ++ g.it) ks t.is))
      (nulls_row g.it width ((Decides-eqb width (length g.it)).0 w.test))
      (sa js kinds p env f.it so h f.is)
      (λ l k. sb (js ++ f.it) kinds (p ++ l) env g.it (row_append js f.it p l so k) h g.is))

  -- ---- queries

  plain_kept : (from : BoundSource) → S from → (condition : BoundExpr) → E condition
      → (list : Withs BoundExpr E) → B (block.Plain from condition (parts {P = E} list))
  plain_kept from sf condition ec list kinds env ks h e =
      let shown : List Kind → Option (List Kind) =
      λ ls. listed_kinds (map typing_of (parts {P = E} list)) (ls ∷ kinds) in
      let last : List Kind → Option (List Kind) =
      λ ls. if (typing_of condition).is_condition (ls ∷ kinds) then shown ls else None in
      let t : where_some (from_kinds from [] kinds) last ≡ Some ks =
      sym (ap (λ (m : KindsMeaning). m kinds) (kinds_Plain from condition (parts {P = E} list)))
      ∙ e in
      let f : Found (from_kinds from [] kinds) last ks = some_of (from_kinds from [] kinds) last ks t in
      let p : Passed ((typing_of condition).is_condition (f.it ∷ kinds)) (shown f.it) ks =
      passed ((typing_of condition).is_condition (f.it ∷ kinds)) (shown f.it) ks f.gives in
      subst (λ (m : RowsMeaning). Each (Rows ks) (m env))
      (sym (block_Plain state from condition (parts {P = E} list)))
      (kept.project_each (λ r. row_is_of f.it r ≡ true) (λ r. row_is_of ks r ≡ true)
      (listed (map (expr_meaning state) (parts {P = E} list)) env)
      (select (holds_for (expr_meaning state condition) env) (source_meaning state from [] env))
      (λ r q. list_kept list (f.it ∷ kinds) (r ∷ env) ks
      (both_so (row_is_of f.it r) (env_is_of kinds env) q h) p.is)
      (kept.select_each (λ r. row_is_of f.it r ≡ true)
      (holds_for (expr_meaning state condition) env) (source_meaning state from [] env)
      (sf [] kinds [] env f.it refl h f.is)))

  grouped_kept : (from : BoundSource) → S from → (condition : BoundExpr) → E condition
      → (keys : List ℕ) → (aggregates : Withs BoundAggregate A)
      → (having : BoundExpr) → E having → (list : Withs BoundExpr E)
      → B (block.Grouped from condition keys (parts {P = A} aggregates) having (parts {P = E} list))
  grouped_kept from sf condition ec keys aggregates having eh list kinds env ks h e =
      let shown : List Kind → Option (List Kind) =
      λ gs. listed_kinds (map typing_of (parts {P = E} list)) (gs ∷ kinds) in
      let kept_groups : List Kind → Option (List Kind) =
      λ gs. if (typing_of having).is_condition (gs ∷ kinds) then shown gs else None in
      let made : List Kind → Option (List Kind) =
      λ ls. group_kinds keys (map kind_of_aggregate (parts {P = A} aggregates)) ls kinds in
      let last : List Kind → Option (List Kind) =
      λ ls. if (typing_of condition).is_condition (ls ∷ kinds) then where_some (made ls) kept_groups
      else None in
      let t : where_some (from_kinds from [] kinds) last ≡ Some ks =
      sym (ap (λ (m : KindsMeaning). m kinds)
      (kinds_Grouped from condition keys (parts {P = A} aggregates) having (parts {P = E} list)))
      ∙ e in
      let f : Found (from_kinds from [] kinds) last ks = some_of (from_kinds from [] kinds) last ks t in
      let p : Passed ((typing_of condition).is_condition (f.it ∷ kinds))
      (where_some (made f.it) kept_groups) ks =
      passed ((typing_of condition).is_condition (f.it ∷ kinds))
      (where_some (made f.it) kept_groups) ks f.gives in
      let g : Found (made f.it) kept_groups ks = some_of (made f.it) kept_groups ks p.is in
      let q : Passed ((typing_of having).is_condition (g.it ∷ kinds)) (shown g.it) ks =
      passed ((typing_of having).is_condition (g.it ∷ kinds)) (shown g.it) ks g.gives in
      let own : Option (List Kind) = all_some (map (slice_get f.it) keys) in
      let folded : Option (List Kind) =
      all_some (map (λ (a : KindMeaning). a (f.it ∷ kinds))
      (map kind_of_aggregate (parts {P = A} aggregates))) in
      let j : Found own (λ js. where_some folded (λ ms. Some (js ++ ms))) g.it =
      some_of own (λ js. where_some folded (λ ms. Some (js ++ ms))) g.it g.is in
      let m : Found folded (λ ms. Some (j.it ++ ms)) g.it =
      some_of folded (λ ms. Some (j.it ++ ms)) g.it j.gives in
      let aggregates_of : List (Ranked Value) → List Value =
      aggregated (map (λ (a : AggregateMeaning). a env)
      (map (aggregate_meaning state) (parts {P = A} aggregates))) in
      let there : List (Ranked Value) =
      select (holds_for (expr_meaning state condition) env) (source_meaning state from [] env) in
      let rows_there : Each (Rows f.it) there =
      kept.select_each (λ r. row_is_of f.it r ≡ true) (holds_for (expr_meaning state condition) env)
      (source_meaning state from [] env) (sf [] kinds [] env f.it refl h f.is) in
      let in_groups : Each (Rows (j.it ++ m.it)) (groups keys aggregates_of there) =
      groups_kept f.it j.it m.it keys aggregates_of there j.is
      (λ ys all. aggregates_kept aggregates kinds env f.it ys m.it h all m.is) rows_there in
      let of_groups : Each (Rows g.it) (groups keys aggregates_of there) =
      subst (λ z. Each (Rows z) (groups keys aggregates_of there))
      (some_is (j.it ++ m.it) g.it m.gives) in_groups in
      subst (λ (m : RowsMeaning). Each (Rows ks) (m env))
      (sym (block_Grouped state from condition keys (parts {P = A} aggregates) having
      (parts {P = E} list)))
      (kept.project_each (λ r. row_is_of g.it r ≡ true) (λ r. row_is_of ks r ≡ true)
      (listed (map (expr_meaning state) (parts {P = E} list)) env)
      (select (holds_for (expr_meaning state having) env) (groups keys aggregates_of there))
      (λ r k. list_kept list (g.it ∷ kinds) (r ∷ env) ks
      (both_so (row_is_of g.it r) (env_is_of kinds env) k h) q.is)
      (kept.select_each (λ r. row_is_of g.it r ≡ true) (holds_for (expr_meaning state having) env)
      (groups keys aggregates_of there) of_groups))

  distinct_kept : (q : BoundBlock) → B q → B (block.Distinct q)
  distinct_kept q b kinds env ks h e =
      let f : block_kinds q kinds ≡ Some ks =
      sym (ap (λ (m : KindsMeaning). m kinds) (kinds_Distinct q)) ∙ e in
      subst (λ (m : RowsMeaning). Each (Rows ks) (m env)) (sym (block_Distinct state q))
      (kept.distinct_each (λ r. row_is_of ks r ≡ true) same_value (block_meaning state q env)
      (b kinds env ks h f))

  set_kept : (a : BoundBlock) → B a → (b : BoundBlock) → B b → (columns : List SetColumn)
      → (operation : SetOperation) → B (block.Set a b columns operation)
  set_kept a ba b bb columns operation kinds env ks h e =
      let last : List Kind → Option (List Kind) =
      λ ls. where_some (block_kinds b kinds) (λ rs. set_kinds columns ls rs) in
      let t : where_some (block_kinds a kinds) last ≡ Some ks =
      sym (ap (λ (m : KindsMeaning). m kinds) (kinds_Set a b columns operation)) ∙ e in
      let f : Found (block_kinds a kinds) last ks = some_of (block_kinds a kinds) last ks t in
      let g : Found (block_kinds b kinds) (λ rs. set_kinds columns f.it rs) ks =
      some_of (block_kinds b kinds) (λ rs. set_kinds columns f.it rs) ks f.gives in
      let ls : List (Ranked Value) = block_meaning state a env in
      let rs : List (Ranked Value) = block_meaning state b env in
      subst (λ (m : RowsMeaning). Each (Rows ks) (m env)) (sym (block_Set state a b columns operation))
      (set_rows_each same_value value_identity (λ r. row_is_of ks r ≡ true) operation
      (project (left_columns columns) ls) (project (right_columns columns) rs)
      (kept.project_each (λ r. row_is_of f.it r ≡ true) (λ r. row_is_of ks r ≡ true)
      (left_columns columns) ls (λ r k. set_left columns f.it g.it ks r k g.gives)
      (ba kinds env f.it h f.is))
      (kept.project_each (λ r. row_is_of g.it r ≡ true) (λ r. row_is_of ks r ≡ true)
      (right_columns columns) rs (λ r k. set_right columns f.it g.it ks r k g.gives)
      (bb kinds env g.it h g.is)))

  -- ---- inputs

  column_input : (level place : ℕ) → I (input.Column level place)
  column_input level place kinds env k h e =
      let t : slice_get (slice_index_or kinds level []) place ≡ Some k =
      sym (ap (λ (m : KindMeaning). m kinds) (kind_Column level place)) ∙ e in
      subst (λ (m : InputMeaning). is_of_kind k (m env) ≡ true)
      (sym (input_Column state level place)) (column_kept kinds env level place k h t)

  exists_input : (q : BoundBlock) → B q → I (input.Exists q)
  exists_input q b kinds env k h e =
      let t : where_some (block_kinds q kinds) (λ js. Some (kind.Number 0)) ≡ Some k =
      sym (ap (λ (m : KindMeaning). m kinds) (kind_Exists q)) ∙ e in
      let f : Found (block_kinds q kinds) (λ js. Some (kind.Number 0)) k =
      some_of (block_kinds q kinds) (λ js. Some (kind.Number 0)) k t in
      subst (λ (m : InputMeaning). is_of_kind k (m env) ≡ true) (sym (input_Exists state q))
      (to_kind (kind.Number 0) k _ f.gives (mark_kept _))

  any_input : (c : Comparison) (x : BoundExpr) → E x → (q : BoundBlock) → B q → I (input.Any c x q)
  any_input c x ex q b kinds env k h e =
      let last : Kind → Option Kind =
      λ j. where_true (comparable ((typing_of x).sort kinds) (Of j)) (kind.Number 0) in
      let t : where_some (block_kinds q kinds) (λ js. where_some (only_kind js) last) ≡ Some k =
      sym (ap (λ (m : KindMeaning). m kinds) (kind_Any c x q)) ∙ e in
      let f : Found (block_kinds q kinds) (λ js. where_some (only_kind js) last) k =
      some_of (block_kinds q kinds) (λ js. where_some (only_kind js) last) k t in
      let g : Found (only_kind f.it) last k = some_of (only_kind f.it) last k f.gives in
      let p : Passed (comparable ((typing_of x).sort kinds) (Of g.it)) (Some (kind.Number 0)) k =
      passed (comparable ((typing_of x).sort kinds) (Of g.it)) (Some (kind.Number 0)) k g.gives in
      subst (λ (m : InputMeaning). is_of_kind k (m env) ≡ true) (sym (input_Any state c x q))
      (to_kind (kind.Number 0) k _ p.is (mark_kept _))

  scalar_input : (q : BoundBlock) → B q → I (input.Scalar q)
  scalar_input q b kinds env k h e =
      let t : where_some (block_kinds q kinds) only_kind ≡ Some k =
      sym (ap (λ (m : KindMeaning). m kinds) (kind_Scalar q)) ∙ e in
      let f : Found (block_kinds q kinds) only_kind k =
      some_of (block_kinds q kinds) only_kind k t in
      let one : f.it ≡ k ∷ [] = only_is f.it k f.gives in
      subst (λ (m : InputMeaning). is_of_kind k (m env) ≡ true) (sym (input_Scalar state q))
      (single_row k (block_meaning state q env)
      (subst (λ z. Each (Rows z) (block_meaning state q env)) one (b kinds env f.it h f.is))
      (query_stands state q env))

  pub query_kept : (q : BoundBlock) → B q
  query_kept = induction A B S I E (record {
    count_rows = count_rows_kept;
    of = of_kept;
    plain = plain_kept;
    grouped = grouped_kept;
    distinct = distinct_kept;
    set = set_kept;
    table = table_kept;
    derived = derived_kept;
    lateral = lateral_kept;
    cross = cross_kept;
    inner = inner_kept;
    outer = outer_kept;
    column = column_input;
    exists = exists_input;
    any = any_input;
    scalar = scalar_input;
    expr = expr_kept;
  })
