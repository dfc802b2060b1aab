use Rattle.std.proofs.Common.{◌≡◌, ◌+◌, rules}
use Rattle.plan_dependent_nodes.specs.Seeks.{seeks_of_aggregate, seeks_of_expr, seeks_of_input}
use Rattle.plan_dependent_tree.proofs.Found.{any_none, any_more, column_input_found, exists_found}
use Rattle.plan_dependent_tree.proofs.Found.{scalar_found, any_found, expr_found, count_rows_found}
use Rattle.plan_dependent_tree.proofs.Found.{argument_found, table_found, derived_found}
use Rattle.plan_dependent_tree.proofs.Found.{lateral_found}
use Rattle.plan_dependent_tree.proofs.Found.{cross_found, inner_found, outer_found, plain_found}
use Rattle.plan_dependent_tree.proofs.Found.{grouped_found, distinct_found, set_found}
use Rattle.plan_dependent_tree.proofs.outer.+outer.Goals as goal

pub inputs-loop-i-init : goal.inputs-loop-i-init
inputs-loop-i-init t c = any_none seeks_of_input _ _

pub inputs-loop-i-preserved : goal.inputs-loop-i-preserved
inputs-loop-i-preserved t c =
    any_more seeks_of_input c.args.all.now c.loop-i.i-index _ _ _ _ _ c.loop-i-test.true c.i-item.is
    c.loop-i.invariant c.in_ok-input.ensures

pub exprs-loop-e-init : goal.exprs-loop-e-init
exprs-loop-e-init t c = any_none seeks_of_expr _ _

pub exprs-loop-e-preserved : goal.exprs-loop-e-preserved
exprs-loop-e-preserved t c =
    any_more seeks_of_expr c.args.all.now c.loop-e.e-index _ _ _ _ _ c.loop-e-test.true c.e-item.is
    c.loop-e.invariant c.in_ok-expr.ensures

pub aggregates-loop-a-init : goal.aggregates-loop-a-init
aggregates-loop-a-init t c = any_none seeks_of_aggregate _ _

pub aggregates-loop-a-preserved : goal.aggregates-loop-a-preserved
aggregates-loop-a-preserved t c =
    any_more seeks_of_aggregate c.args.all.now c.loop-a.a-index _ _ _ _ _ c.loop-a-test.true
    c.a-item.is c.loop-a.invariant c.in_ok-aggregate.ensures

pub input-returns-in_ok-column-in-Column : goal.input-returns-in_ok-column-in-Column
input-returns-in_ok-column-in-Column t c =
    column_input_found c.in-Column.is c.in_ok-column-in-Column.ensures

pub input-returns-in_ok-block-in-Exists : goal.input-returns-in_ok-block-in-Exists
input-returns-in_ok-block-in-Exists t c =
    let same : c.in_ok-deeper-in-Exists.deeper ≡ c.args.within + 1 = search rules in
    exists_found c.in-Exists.is c.get.ensures same c.in_ok-block-in-Exists.ensures

pub input-returns-in_ok-block-in-Any : goal.input-returns-in_ok-block-in-Any
input-returns-in_ok-block-in-Any t c =
    let same : c.in_ok-deeper-in-Any.deeper ≡ c.args.within + 1 = search rules in
    any_found c.in-Any.is c.get-in-Any.ensures c.in_ok-expr-in-Any.ensures c.get-in-Any-2.ensures
    same c.in_ok-block-in-Any.ensures

pub input-returns-in_ok-block-in-Scalar : goal.input-returns-in_ok-block-in-Scalar
input-returns-in_ok-block-in-Scalar t c =
    let same : c.in_ok-deeper-in-Scalar.deeper ≡ c.args.within + 1 = search rules in
    scalar_found c.in-Scalar.is c.get-in-Scalar.ensures same c.in_ok-block-in-Scalar.ensures

pub expr-returns : goal.expr-returns
expr-returns t c = expr_found c.args.e.now c.as_slice.ensures c.in_ok-inputs.ensures

pub aggregate-returns-in-CountRows : goal.aggregate-returns-in-CountRows
aggregate-returns-in-CountRows t c = count_rows_found c.in-CountRows.is

pub aggregate-returns-in_ok-expr-in-Of : goal.aggregate-returns-in_ok-expr-in-Of
aggregate-returns-in_ok-expr-in-Of t c =
    argument_found c.in-Of.argument c.in-Of.is c.in_ok-expr-in-Of.ensures

pub source-returns-in-Table : goal.source-returns-in-Table
source-returns-in-Table t c = table_found c.in-Table.is

pub source-returns-in-Derived : goal.source-returns-in-Derived
source-returns-in-Derived t c = derived_found _ _ c.in-Derived.is

pub source-returns-in_ok-block-in-Lateral : goal.source-returns-in_ok-block-in-Lateral
source-returns-in_ok-block-in-Lateral t c =
    let same : c.in_ok-deeper-in-Lateral.deeper ≡ c.args.within + 1 = search rules in
    lateral_found c.in-Lateral.is c.get.ensures same c.in_ok-block-in-Lateral.ensures

pub source-returns-in_ok-source-in-Cross-2 : goal.source-returns-in_ok-source-in-Cross-2
source-returns-in_ok-source-in-Cross-2 t c =
    cross_found c.in-Cross.is c.get-in-Cross.ensures c.in_ok-source-in-Cross.ensures
    c.get-in-Cross-2.ensures c.in_ok-source-in-Cross-2.ensures

pub source-returns-in_ok-expr-in-Inner : goal.source-returns-in_ok-expr-in-Inner
source-returns-in_ok-expr-in-Inner t c =
    inner_found c.in-Inner.on c.in-Inner.is c.get-in-Inner.ensures c.in_ok-source-in-Inner.ensures
    c.get-in-Inner-2.ensures c.in_ok-source-in-Inner-2.ensures c.in_ok-expr-in-Inner.ensures

pub source-returns-in_ok-expr-in-Outer : goal.source-returns-in_ok-expr-in-Outer
source-returns-in_ok-expr-in-Outer t c =
    outer_found c.in-Outer.on c.in-Outer.is c.get-in-Outer.ensures c.in_ok-source-in-Outer.ensures
    c.get-in-Outer-2.ensures c.in_ok-source-in-Outer-2.ensures c.in_ok-expr-in-Outer.ensures

pub block-returns-in_ok-exprs-in-Plain : goal.block-returns-in_ok-exprs-in-Plain
block-returns-in_ok-exprs-in-Plain t c =
    plain_found c.in-Plain.condition c.in-Plain.is c.get.ensures c.in_ok-source-in-Plain.ensures
    c.in_ok-expr-in-Plain.ensures c.as_slice.ensures c.in_ok-exprs-in-Plain.ensures

pub block-returns-in_ok-exprs-in-Grouped : goal.block-returns-in_ok-exprs-in-Grouped
block-returns-in_ok-exprs-in-Grouped t c =
    grouped_found c.in-Grouped.condition c.in-Grouped.having c.in-Grouped.is
    c.get-in-Grouped.ensures c.in_ok-source-in-Grouped.ensures c.in_ok-expr-in-Grouped.ensures
    c.as_slice-in-Grouped.ensures c.in_ok-aggregates-in-Grouped.ensures
    c.in_ok-expr-in-Grouped-2.ensures c.as_slice-in-Grouped-2.ensures
    c.in_ok-exprs-in-Grouped.ensures

pub block-returns-in_ok-block-in-Distinct : goal.block-returns-in_ok-block-in-Distinct
block-returns-in_ok-block-in-Distinct t c =
    distinct_found c.in-Distinct.is c.get-in-Distinct.ensures c.in_ok-block-in-Distinct.ensures

pub block-returns-in_ok-block-in-Set-2 : goal.block-returns-in_ok-block-in-Set-2
block-returns-in_ok-block-in-Set-2 t c =
    set_found c.in-Set.is c.get-in-Set.ensures c.in_ok-block-in-Set.ensures c.get-in-Set-2.ensures
    c.in_ok-block-in-Set-2.ensures
