use Rattle.std.proofs.Common.{[]}
use Rattle.std.specs.Prelude.{map}
use Rattle.base_value.specs.Truth.{standing_rank}
use Rattle.store_kept_views.proofs.Shows.{rows_more}
use Rattle.store_kept_views.proofs.columns.standings_of.Goals as goal

pub loop-page-preserved : goal.loop-page-preserved
loop-page-preserved c =
    rows_more (λ e. e.1.least) [] (map standing_rank c.loop-page.standings.items) (map standing_rank c.put_standings.new.standings.items) c.args.pages.now c.loop-page.page-index c.page-item.result
    c.loop-page-test.true c.page-item.is c.loop-page.invariant c.in_ok-put_standings.ensures
