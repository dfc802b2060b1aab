use Rattle.std.proofs.Common.{◌≡◌, ◌++◌, List, map, ap, sym, ◌∙◌, length}
use Rattle.std.specs.List.{range_with_len}
use Rattle.base_row_laws.specs.Rows.{scanned}
use Rattle.base_row_laws.specs.Operators.{select}
use Rattle.base_columns.specs.Lists.{one_list}
use Rattle.expr_conditions.specs.Ranks.{rank_of}
use Rattle.expr_scalar.specs.declared.expr.Expr.{Expr}
use Rattle.exec_parallel_scan.specs.ExpressionGroups.{argument_of, place_aggregates}
use Rattle.exec_parallel_scan.proofs.ByExpressions.{grouped_rows, grouped_width}
use Rattle.exec_parallel_scan.proofs.expression_groups.scan_groups.Goals as goal

pub returns-clause-width : goal.returns-clause-width
returns-clause-width g c =
    c.in_ok-bag.ensures.width
    ∙ grouped_width c.args.columns.now c.args.aggregates.now c.as_slice-3.result.now c.as_slice-2.result.now
    (c.as_slice-2.ensures ∙ c.in_ok-by.ensures ∙ ap (range_with_len 0) c.in_ok-width.ensures) (c.as_slice-3.ensures.value ∙ c.in_ok-moved.ensures)

pub returns-clause-rows : goal.returns-clause-rows
returns-clause-rows g c =
    let items : c.as_slice.result.now ≡ c.args.columns.now ++ map argument_of c.args.aggregates.now =
    c.as_slice.ensures ∙ c.in_ok-put_arguments.ensures ∙ ap (λ l. l ++ map argument_of c.args.aggregates.now) c.in_ok-items.ensures in
    c.in_ok-bag.ensures.rows
    ∙ grouped_rows c.args.columns.now c.as_slice.result.now c.args.aggregates.now c.as_slice-3.result.now c.as_slice-2.result.now
    (select (rank_of c.args.condition.now) (scanned (one_list c.args.pieces.now))) c.in_ok-rows.rows.rows
    (c.as_slice-2.ensures ∙ c.in_ok-by.ensures ∙ ap (range_with_len 0) c.in_ok-width.ensures) (c.as_slice-3.ensures.value ∙ c.in_ok-moved.ensures) items c.in_ok-rows.ensures.rows
