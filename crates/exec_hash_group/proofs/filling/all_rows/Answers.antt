use Rattle.std.proofs.Common.{◌++◌, map, replicate, ap, ◌∙◌}
use Rattle.base_row_laws.specs.Ranked.{true_rank}
use Rattle.exec_hash_group.specs.Standings.{row_ranks}
use Rattle.exec_hash_group.proofs.FilledRows.{both_beside, all_rows_long, all_rows_are, all_rows_wide}
use Rattle.exec_hash_group.proofs.filling.all_rows.Goals as goal

pub both_sides-requires : goal.both_sides-requires
both_sides-requires c = both_beside c.args.groups.now c.args.domain.now c.args.group_columns.now c.args.domain_columns.items c.args.empty.now c.requires.groups c.requires.domain c.requires.widths c.as_slice.result.now
    (c.as_slice.ensures.value ∙ c.in_ok-put_repeated.ensures ∙ ap (λ k. c.args.domain_columns.items ++ map (replicate k) c.args.empty.now) c.len.ensures)

pub of-requires : goal.of-requires
of-requires c =
    all_rows_long c.args.groups.now c.args.domain.now c.args.group_columns.now c.args.domain_columns.items c.args.empty.now c.requires.groups c.requires.domain c.requires.widths c.as_slice.result.now c.in_ok-columns.columns.items c.in_ok-standings.standings.items
    (c.as_slice.ensures.value ∙ c.in_ok-put_repeated.ensures ∙ ap (λ k. c.args.domain_columns.items ++ map (replicate k) c.args.empty.now) c.len.ensures) c.in_ok-columns.ensures
    (c.in_ok-standings.ensures ∙ ap (λ k. row_ranks c.args.groups.now.rows ++ replicate k true_rank) c.len-2.ensures)

pub returns-clause-width : goal.returns-clause-width
returns-clause-width c =
    ap (λ x. x.width) c.of.ensures
    ∙ all_rows_wide c.args.groups.now c.args.domain.now c.args.group_columns.now c.args.domain_columns.items c.args.empty.now c.requires.groups c.requires.domain c.requires.widths c.as_slice.result.now c.in_ok-columns.columns.items c.in_ok-standings.standings.items
    (c.as_slice.ensures.value ∙ c.in_ok-put_repeated.ensures ∙ ap (λ k. c.args.domain_columns.items ++ map (replicate k) c.args.empty.now) c.len.ensures) c.in_ok-columns.ensures

pub returns-clause-rows : goal.returns-clause-rows
returns-clause-rows c =
    ap (λ x. x.rows) c.of.ensures
    ∙ all_rows_are c.args.groups.now c.args.domain.now c.args.group_columns.now c.args.domain_columns.items c.args.empty.now c.requires.groups c.requires.domain c.requires.widths c.as_slice.result.now c.in_ok-columns.columns.items c.in_ok-standings.standings.items
    (c.as_slice.ensures.value ∙ c.in_ok-put_repeated.ensures ∙ ap (λ k. c.args.domain_columns.items ++ map (replicate k) c.args.empty.now) c.len.ensures) c.in_ok-columns.ensures
    (c.in_ok-standings.ensures ∙ ap (λ k. row_ranks c.args.groups.now.rows ++ replicate k true_rank) c.len-2.ensures)
