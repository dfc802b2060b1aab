use Rattle.std.proofs.Common.{◌≤◌, ◌∙◌, ap, arith, length}
use Rattle.std.specs.Prelude.{slice_index_or}
use Rattle.base_value.specs.declared.value.Value.TheVariants.{Null}
use Rattle.store_groups.specs.Stored.{cell_in}
use Rattle.store_kept_views.specs.RowGroups.{all_shown}
use Rattle.store_kept_views.proofs.Shows.{shown_in, ags_past, cells_past}
use Rattle.store_kept_views.proofs.output.shown_at.Goals as goal

pub returns-then-place-aggregates : goal.returns-then-place-aggregates
returns-then-place-aggregates c = ags_past c.args.aggregates.now c.args.group.now.rows c.args.group.now.cells c.args.place c.if-place-aggregates.true

pub returns-then-place-width : goal.returns-then-place-width
returns-then-place-width c =
    let past : length c.args.group.now.cells ≤ c.args.place = omega (arith, c.if-place-width.true, c.width.ensures) in
    cells_past c.args.aggregates.now c.args.group.now.rows c.args.group.now.cells c.args.place past

pub returns : goal.returns
returns c =
    c.shown.ensures
    ∙ shown_in c.args.aggregates.now c.len.result c.args.group.now.cells c.args.place c.index-aggregates-place.result (cell_in c.cell.result) c.if-place-aggregates.false c.cell.ensures c.index-aggregates-place.is
    ∙ ap (λ n. slice_index_or (all_shown c.args.aggregates.now n c.args.group.now.cells) c.args.place Null) c.len.ensures
