-- The queries of WITH, computed.
use Rattle.std.proofs.Common.{◌≡◌, ◌∙◌, ℕ, List, [], ◌∷◌, ◌++◌, refl, ap}
use Rattle.std.specs.Prelude.{None, Ok, Err, codes}
use Rattle.base_refusals.specs.declared.bind.BindRefusal.{BindRefusal}
use Rattle.base_refusals.specs.declared.bind.BindRefusal.TheVariants.{UnknownTable, UnknownColumn}
use Rattle.base_refusals.specs.declared.bind.BindRefusal.TheVariants.{DuplicateAlias, SubqueryColumns}
use Rattle.base_refusals.specs.declared.bind.BindRefusal.TheVariants.{TooManyTables}
use Rattle.expr_scalar.specs.declared.kind.Kind.TheVariants as kind
use Rattle.sql_ast.specs.declared.statement.Query.{Query}
use Rattle.sql_ast.specs.declared.statement.WithQuery.{WithQuery}
use Rattle.sql_bound_query.specs.declared.query.BoundBlock.{BoundBlock}
use Rattle.sql_bound_query.specs.declared.query.BoundQuery.{BoundQuery}
use Rattle.sql_bound_query.specs.declared.query.BoundSource.TheVariants as source
use Rattle.sql_binder_steps.specs.declared.view.View.{View}
use Rattle.sql_binder_steps.specs.Steps.{Name, Checked, and_then}
use Rattle.sql_binder_steps.specs.Parts.{new_name}
use Rattle.sql_binder.specs.Binding.{bound_over, with_views, with_views_from}
use Rattle.sql_binder.specs.Examples.{named, item, from_table, select_from, view_of}
use Rattle.sql_binder_steps.specs.Steps.{input, aggregate, alone, apart, counted, take_aggregates}
use Rattle.sql_binder_steps.specs.Names.{is_met, ends, means, the_one, key_of, found, resolved}
use Rattle.sql_binder_steps.specs.Values.{date_literal, negative, compared, null_test, between, liked}
use Rattle.sql_binder_steps.specs.Values.{in_list, denied, extracted, substring, operated, shifted, ended}
use Rattle.sql_binder_steps.specs.Values.{first_condition, next_condition, all_of, any_of, chosen}
use Rattle.sql_binder_steps.specs.Values.{case_of, case_else_of}
use Rattle.sql_binder_steps.specs.Parts.{column, inside, within_on, hiding, among_rows, grouped}
use Rattle.sql_binder_steps.specs.Parts.{aggregated, existing, containing, only_value, member}
use Rattle.sql_binder_steps.specs.Parts.{table_headers, named_item, unused, column_of, renamed_headers}
use Rattle.sql_binder_steps.specs.Parts.{distinct_names, listed_headers, table_rows, named_rows}
use Rattle.sql_binder_steps.specs.Parts.{first_rows, crossed, joining, joined_rows, present, holding}
use Rattle.sql_binder_steps.specs.Parts.{shown_part, star, keys_of, plain, closing, once_each}
use Rattle.sql_binder_steps.specs.Parts.{output_place, order_of}
use Rattle.sql_binder.specs.Operands.{conditions, operands, chain, arm_conditions, arm_values}
use Rattle.sql_binder.specs.FromLists.{on_condition, on_joining, joins, chained, from_list}
use Rattle.sql_binder.specs.Clauses.{condition, shown_item, shown_items, select}
use Rattle.sql_binder.specs.Blocks.{is_grouped, from_where, over_rows, group_lists, over_groups}
use Rattle.sql_binder.specs.Binding.{clauses_of, is_grouped_select, bound_query, bound_view}
use Rattle.sql_binder.proofs.Applied.{computed}
use Rattle.sql_binder.specs.WithCases.{NamesOfWith, RefusalsOfWith, with_named, with_listed, under}
use Rattle.sql_binder.specs.WithCases.{names_from, nope_from_region, first_column, bound_names}

-- one query of WITH is bound
went_on : (done : List View) (w : WithQuery) (ws : List WithQuery) (views : List View) (v : View)
    → new_name w.name done ≡ Ok tt
    → bound_view w.name w.columns w.block (done ++ views) ≡ Ok v
    → with_views_from done (w ∷ ws) views ≡ with_views_from (done ++ v ∷ []) ws views
went_on done w ws views v n b =
    let next : View → Checked (List View) = λ x. with_views_from (done ++ x ∷ []) ws views in
    ap (λ (r : Checked (Unit {0})). and_then r
    (λ new. and_then (bound_view w.name w.columns w.block (done ++ views)) next)) n
    ∙ ap (λ (r : Checked View). and_then r next) b

-- its name is refused
refused_name : (done : List View) (w : WithQuery) (ws : List WithQuery) (views : List View)
    (why : BindRefusal) → new_name w.name done ≡ Err why
    → with_views_from done (w ∷ ws) views ≡ Err why
refused_name done w ws views why n =
    let next : View → Checked (List View) = λ x. with_views_from (done ++ x ∷ []) ws views in
    ap (λ (r : Checked (Unit {0})). and_then r
    (λ new. and_then (bound_view w.name w.columns w.block (done ++ views)) next)) n

-- its query is refused
refused_view : (done : List View) (w : WithQuery) (ws : List WithQuery) (views : List View)
    (why : BindRefusal) → new_name w.name done ≡ Ok tt
    → bound_view w.name w.columns w.block (done ++ views) ≡ Err why
    → with_views_from done (w ∷ ws) views ≡ Err why
refused_view done w ws views why n b =
    let next : View → Checked (List View) = λ x. with_views_from (done ++ x ∷ []) ws views in
    ap (λ (r : Checked (Unit {0})). and_then r
    (λ new. and_then (bound_view w.name w.columns w.block (done ++ views)) next)) n
    ∙ ap (λ (r : Checked View). and_then r next) b

-- the statement after its queries of WITH
over : (q : Query) (views named : List View) (r : Checked BoundQuery)
    → with_views q.with_queries views ≡ Ok named → bound_over q (named ++ views) ≡ r
    → bound_query q views ≡ r
unfolding bound_query
over q views named r w b =
    ap (λ (x : Checked (List View)). and_then x (λ named. bound_over q (named ++ views))) w ∙ b

-- a statement of which a query of WITH is refused
refused : (q : Query) (views : List View) (why : BindRefusal)
    → with_views q.with_queries views ≡ Err why → bound_query q views ≡ Err why
unfolding bound_query
refused q views why w =
    ap (λ (x : Checked (List View)). and_then x (λ named. bound_over q (named ++ views))) w

-- a view of one column of texts
abbrev text_view : Name → Name → BoundBlock → ℕ → View
text_view name column block items = record {
  name = name;
  columns = record { name = column; kind = kind.Text } ∷ [];
  block = block;
  items = items;
  kept = None;
}

-- the names of the regions under a name
abbrev names_view : Name → View
names_view name = text_view name (codes "r_name") bound_names 1

pub names_of_with : NamesOfWith
unfolding input aggregate alone apart counted take_aggregates is_met ends means the_one key_of found
    resolved date_literal negative compared null_test between liked in_list denied extracted
    substring operated shifted ended first_condition next_condition all_of any_of chosen case_of
    case_else_of column inside within_on hiding among_rows grouped aggregated existing containing
    only_value member table_headers named_item unused column_of renamed_headers distinct_names
    listed_headers table_rows named_rows first_rows crossed joining joined_rows present holding
    shown_part star keys_of plain closing once_each output_place order_of conditions operands chain
    arm_conditions arm_values on_condition on_joining joins chained from_list condition shown_item
    shown_items select is_grouped from_where over_rows group_lists over_groups clauses_of
    is_grouped_select bound_query bound_view
names_of_with =
    let a = codes "a" in
    let b = codes "b" in
    let n = codes "nation" in
    let v = codes "v" in
    let region = names_from (codes "region") in
    let view_a : bound_view a [] region [] ≡ Ok (names_view a) = simp computed in
    let view_n : bound_view n [] region [] ≡ Ok (names_view n) = simp computed in
    let view_v : bound_view v [] region (view_of 32 ∷ []) ≡ Ok (names_view v) = simp computed in
    let second =
    text_view b (codes "r_name") (first_column (source.Derived None bound_names)) 2 in
    let view_b : bound_view b [] (names_from a) (names_view a ∷ []) ≡ Ok second = simp computed in
    let listed = text_view a (codes "n") bound_names 1 in
    let view_l : bound_view a (codes "n" ∷ []) region [] ≡ Ok listed = simp computed in
    let wide =
    text_view a (codes "r_name") (first_column (source.Derived None (view_of 31).block)) 32 in
    let view_w : bound_view a [] (names_from v) (view_of 31 ∷ []) ≡ Ok wide = simp computed in (
      over (under (with_named a region ∷ with_named b (names_from a) ∷ []) (names_from b)) []
          (names_view a ∷ second ∷ []) _
          (went_on [] (with_named a region) (with_named b (names_from a) ∷ []) [] (names_view a) refl
          view_a
          ∙ went_on (names_view a ∷ []) (with_named b (names_from a)) [] [] second refl view_b)
          (simp computed),
      over (under (with_named n region ∷ []) (names_from n)) [] (names_view n ∷ []) _
          (went_on [] (with_named n region) [] [] (names_view n) refl view_n) (simp computed),
      over (under (with_named v region ∷ []) (names_from v)) (view_of 32 ∷ []) (names_view v ∷ []) _
          (went_on [] (with_named v region) [] (view_of 32 ∷ []) (names_view v) refl view_v)
          (simp computed),
      over (under (with_listed a (codes "n" ∷ []) region ∷ [])
          (select_from (item (named (codes "n")) ∷ []) (from_table a ∷ []))) [] (listed ∷ []) _
          (went_on [] (with_listed a (codes "n" ∷ []) region) [] [] listed refl view_l)
          (simp computed),
      over (under (with_named a (names_from v) ∷ []) region) (view_of 31 ∷ []) (wide ∷ []) _
          (went_on [] (with_named a (names_from v)) [] (view_of 31 ∷ []) wide refl view_w)
          (simp computed),
    )

pub refusals_of_with : RefusalsOfWith
unfolding input aggregate alone apart counted take_aggregates is_met ends means the_one key_of found
    resolved date_literal negative compared null_test between liked in_list denied extracted
    substring operated shifted ended first_condition next_condition all_of any_of chosen case_of
    case_else_of column inside within_on hiding among_rows grouped aggregated existing containing
    only_value member table_headers named_item unused column_of renamed_headers distinct_names
    listed_headers table_rows named_rows first_rows crossed joining joined_rows present holding
    shown_part star keys_of plain closing once_each output_place order_of conditions operands chain
    arm_conditions arm_values on_condition on_joining joins chained from_list condition shown_item
    shown_items select is_grouped from_where over_rows group_lists over_groups clauses_of
    is_grouped_select bound_query bound_view
refusals_of_with =
    let a = codes "a" in
    let b = codes "b" in
    let n = codes "nation" in
    let v = codes "v" in
    let region = names_from (codes "region") in
    let twice = codes "n" ∷ codes "n" ∷ [] in
    let two = codes "m" ∷ codes "n" ∷ [] in
    let view_a : bound_view a [] region [] ≡ Ok (names_view a) = simp computed in
    let view_n : bound_view n [] region [] ≡ Ok (names_view n) = simp computed in
    let wide =
    text_view a (codes "r_name") (first_column (source.Derived None (view_of 31).block)) 32 in
    let view_w : bound_view a [] (names_from v) (view_of 31 ∷ []) ≡ Ok wide = simp computed in (
      refused (under (with_named a (names_from b) ∷ with_named b region ∷ []) (names_from a)) []
          UnknownTable (refused_view [] (with_named a (names_from b)) (with_named b region ∷ []) []
          UnknownTable refl (simp computed)),
      refused (under (with_named a (names_from a) ∷ []) (names_from a)) [] UnknownTable
          (refused_view [] (with_named a (names_from a)) [] [] UnknownTable refl (simp computed)),
      refused (under (with_named a region ∷ with_named a nope_from_region ∷ []) (names_from a)) []
          DuplicateAlias
          (went_on [] (with_named a region) (with_named a nope_from_region ∷ []) [] (names_view a) refl
          view_a
          ∙ refused_name (names_view a ∷ []) (with_named a nope_from_region) [] [] DuplicateAlias
          refl),
      refused (under (with_listed a two region ∷ []) (names_from a)) [] SubqueryColumns
          (refused_view [] (with_listed a two region) [] [] SubqueryColumns refl (simp computed)),
      refused (under (with_listed a twice nope_from_region ∷ []) (names_from a)) [] DuplicateAlias
          (refused_view [] (with_listed a twice nope_from_region) [] [] DuplicateAlias refl
          refl),
      over (under (with_named a (names_from v) ∷ []) (names_from a)) (view_of 31 ∷ []) (wide ∷ []) _
          (went_on [] (with_named a (names_from v)) [] (view_of 31 ∷ []) wide refl view_w)
          (simp computed),
      refused (under (with_named a (names_from v) ∷ []) region) (view_of 32 ∷ []) TooManyTables
          (refused_view [] (with_named a (names_from v)) [] (view_of 32 ∷ []) TooManyTables refl
          (simp computed)),
      refused (under (with_named a nope_from_region ∷ []) (names_from (codes "nowhere"))) []
          UnknownColumn
          (refused_view [] (with_named a nope_from_region) [] [] UnknownColumn refl (simp computed)),
      over (under (with_named n region ∷ [])
          (select_from (item (named (codes "n_name")) ∷ []) (from_table n ∷ []))) [] (names_view n ∷ []) _
          (went_on [] (with_named n region) [] [] (names_view n) refl view_n) (simp computed),
    )
