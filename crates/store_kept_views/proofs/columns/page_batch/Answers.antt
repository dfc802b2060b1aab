use Rattle.store_groups.specs.Pages.{entries_of}
use Rattle.store_kept_views.proofs.ShownColumns.{shown_long, shown_rows, shown_width}
use Rattle.store_kept_views.proofs.columns.page_batch.Goals as goal

pub of-requires : goal.of-requires
of-requires c = shown_long c.args.plan.now (entries_of c.args.pages.now) c.in_ok-columns.columns.items c.in_ok-standings.standings.items c.in_ok-columns.ensures c.in_ok-standings.ensures

pub returns-clause-rows : goal.returns-clause-rows
returns-clause-rows c = shown_rows c.args.plan.now (entries_of c.args.pages.now) c.in_ok-columns.columns.items c.in_ok-standings.standings.items c.in_ok-columns.ensures c.in_ok-standings.ensures c.of.result c.of.ensures

pub returns-clause-width : goal.returns-clause-width
returns-clause-width c = shown_width c.args.plan.now (entries_of c.args.pages.now) c.in_ok-columns.columns.items c.in_ok-standings.standings.items c.in_ok-columns.ensures c.in_ok-standings.ensures c.of.result c.of.ensures
