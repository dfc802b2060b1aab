use Rattle.std.proofs.Common.{ap, sym, subst, refl, ◌∙◌, []}
use Rattle.std.specs.Prelude.{is_some}
use Rattle.std.specs.List.{list_all}
use Rattle.sql_bound_query.specs.Meaning.{rows}
use Rattle.plan_kept_queries.specs.Forms.{AreItems, AreShown, IsOver, IsKeptPlan, is_kept_aggregate, columns_of, is_kept_block, is_over_row, is_table, shown_place}
use Rattle.plan_kept_queries.proofs.FormsOpened.{columns_Grouped, no_block, no_table, table_Table, with_all, without_aggregates, without_condition, without_having, without_list, without_table}
use Rattle.plan_kept_queries.proofs.FormLists.{plan_is, shown_long}
use Rattle.plan_kept_queries.proofs.FormLoops.{residual}
use Rattle.plan_kept_queries.proofs.form.plan_of_block.Goals as goal

pub returns-in_default : goal.returns-in_default
returns-in_default c = no_block c.args.q.now c.in_default.not-Grouped

pub returns-in_default-get : goal.returns-in_default-get
returns-in_default-get c =
    without_table c.args.q.now c.in-Grouped.from c.in-Grouped.condition c.in-Grouped.by c.in-Grouped.aggregates c.in-Grouped.having c.in-Grouped.list c.in-Grouped.is
    (sym (ap is_table c.get.ensures) ∙ no_table c.get.result.now c.in_default-get.not-Table)

pub returns-then-not-holds_always : goal.returns-then-not-holds_always
returns-then-not-holds_always c =
    without_having c.args.q.now c.in-Grouped.from c.in-Grouped.condition c.in-Grouped.by c.in-Grouped.aggregates c.in-Grouped.having c.in-Grouped.list c.in-Grouped.is
    (sym c.holds_always.ensures.test ∙ c.if-not-holds_always.true)

pub returns-in_err-condition : goal.returns-in_err-condition
returns-in_err-condition c =
    residual (is_over_row c.in-Grouped.condition) (is_kept_block c.args.q.now) (IsOver c.in-Grouped.condition) (IsKeptPlan c.args.q.now)
    c.in_err-condition.field-0.0 c.from_residual.result c.from_residual.ensures.1
    (λ f. without_condition c.args.q.now c.in-Grouped.from c.in-Grouped.condition c.in-Grouped.by c.in-Grouped.aggregates c.in-Grouped.having c.in-Grouped.list c.in-Grouped.is f)
    c.in_err-condition.ensures

pub returns-in_err-aggregates : goal.returns-in_err-aggregates
returns-in_err-aggregates c =
    residual (list_all is_kept_aggregate c.as_slice.result.now) (is_kept_block c.args.q.now) (AreItems c.as_slice.result.now) (IsKeptPlan c.args.q.now)
    c.in_err-aggregates.field-0.0 c.from_residual-in_err-aggregates.result c.from_residual-in_err-aggregates.ensures.1
    (λ f. without_aggregates c.args.q.now c.in-Grouped.from c.in-Grouped.condition c.in-Grouped.by c.in-Grouped.aggregates c.in-Grouped.having c.in-Grouped.list c.in-Grouped.is
    (sym (ap (list_all is_kept_aggregate) c.as_slice.ensures) ∙ f))
    c.in_err-aggregates.ensures

pub returns-in_err-list : goal.returns-in_err-list
returns-in_err-list c =
    residual (list_all (λ x. is_some (shown_place x)) c.as_slice-2.result.now) (is_kept_block c.args.q.now) (AreShown c.as_slice-2.result.now) (IsKeptPlan c.args.q.now)
    c.in_err-list.field-0.0 c.from_residual-in_err-list.result c.from_residual-in_err-list.ensures.1
    (λ f. without_list c.args.q.now c.in-Grouped.from c.in-Grouped.condition c.in-Grouped.by c.in-Grouped.aggregates c.in-Grouped.having c.in-Grouped.list c.in-Grouped.is
    (sym (ap (list_all (λ x. is_some (shown_place x))) c.as_slice-2.ensures) ∙ f))
    c.in_err-list.ensures

pub returns : goal.returns
returns c =
    let from = sym c.get.ensures ∙ c.in-Table.is in
    let always = sym c.holds_always.ensures.test ∙ c.if-not-holds_always.false in (
      with_all c.args.q.now c.in-Grouped.from c.in-Grouped.condition c.in-Grouped.by c.in-Grouped.aggregates c.in-Grouped.having c.in-Grouped.list c.in-Grouped.is
          (ap is_table from ∙ table_Table c.in-Table.table) c.in_ok-condition.ensures.0
          (sym (ap (list_all is_kept_aggregate) c.as_slice.ensures) ∙ c.in_ok-aggregates.ensures.0) always
          (sym (ap (list_all (λ x. is_some (shown_place x))) c.as_slice-2.ensures) ∙ c.in_ok-list.ensures.0),
      record {
        rows = λ state.
            plan_is c.in-Table.table c.in-Grouped.from c.in-Grouped.condition c.in-Grouped.having c.in-Grouped.by c.in-Grouped.aggregates c.in-Grouped.list
            (record {
              table = c.in-Table.table;
              condition = c.in_ok-condition.condition;
              by = c.in_ok-by.by;
              aggregates = c.in_ok-aggregates.aggregates;
              list = c.in_ok-list.list;
            })
            from refl c.in_ok-condition.ensures.1 (c.in_ok-by.ensures ∙ c.as_slice-3.ensures)
            (subst (λ old. AreItems old c.in_ok-aggregates.aggregates) c.as_slice.ensures c.in_ok-aggregates.ensures.1)
            (c.holds_always.ensures.always c.if-not-holds_always.false)
            (subst (λ list. AreShown list c.in_ok-list.list) c.as_slice-2.ensures c.in_ok-list.ensures.1) state
            ∙ ap (λ q. rows q [] state) (sym c.in-Grouped.is);
        columns = shown_long c.in-Grouped.list c.in_ok-list.list (subst (λ list. AreShown list c.in_ok-list.list) c.as_slice-2.ensures c.in_ok-list.ensures.1)
            ∙ sym (columns_Grouped c.in-Grouped.from c.in-Grouped.condition c.in-Grouped.by c.in-Grouped.aggregates c.in-Grouped.having c.in-Grouped.list)
            ∙ ap columns_of (sym c.in-Grouped.is);
      },
    )
