use Rattle.std.proofs.Common.{◌<◌, ◌∙◌, sym, ap, subst, length}
use Rattle.std.specs.List.{All}
use Rattle.base_columns.specs.Batches.{cells, row_at}
use Rattle.store_kept_views.specs.Readings.{PlanRows}
use Rattle.store_kept_views.specs.Standing.{arguments_in}
use Rattle.store_kept_views.proofs.ReadingLists.{argument_cells, arguments_long}
use Rattle.store_kept_views.proofs.reading.Reading.put_arguments.Goals as goal

pub cells_of-requires : goal.cells_of-requires
cells_of-requires c =
    let less : c.args.i < length c.self.inside.rows.rows = subst (λ (v : PlanRows). c.args.i < length v.rows) (sym c.self.view_is) c.requires in
    subst (λ l. All (λ x. c.args.i < length x) l) (sym (c.as_slice.ensures.value ∙ c.self.invariant.1))
    (arguments_long c.self.inside.plan.now.aggregates c.self.inside.rows.rows c.args.i less)

pub returns : goal.returns
returns c =
    let less : c.args.i < length c.self.inside.rows.rows = subst (λ (v : PlanRows). c.args.i < length v.rows) (sym c.self.view_is) c.requires in
    c.in_ok-cells_of.ensures
    ∙ ap (λ l. cells l c.args.i) (c.as_slice.ensures.value ∙ c.self.invariant.1)
    ∙ argument_cells c.self.inside.plan.now.aggregates c.self.inside.rows.rows c.args.i less
    ∙ ap (λ (v : PlanRows). arguments_in v.plan.aggregates (row_at v.rows c.args.i).values) c.self.view_is
