use Rattle.std.proofs.Common.{ap, sym, ◌∙◌, length}
use Rattle.exec_hash_group.specs.Grouping.{aggregate_column}
use Rattle.exec_hash_group.proofs.GroupRows.{rows_counted}
use Rattle.exec_hash_group.proofs.group_by.aggregate_column.Goals as goal

pub returns-in_ok-column-in-CountRows : goal.returns-in_ok-column-in-CountRows
returns-in_ok-column-in-CountRows c =
    rows_counted c.args.rows.now.rows c.args.numbers.now c.args.count (length c.args.numbers.now) _ c.in_ok-counts-in-CountRows.counts.items c.in_ok-column-in-CountRows.column
    c.new-nulls.ensures c.requires.rows c.in_ok-counts-in-CountRows.ensures (c.in_ok-column-in-CountRows.ensures ∙ c.as_slice.ensures.value)
    ∙ ap (aggregate_column c.args.rows.now.rows c.args.numbers.now c.args.count) (sym c.in-CountRows.is)
