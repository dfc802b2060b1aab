use Rattle.std.proofs.Common.{[]}
use Rattle.store_kept_views.specs.Output.{value_in}
use Rattle.store_kept_views.proofs.Shows.{rows_more}
use Rattle.store_kept_views.proofs.columns.values_of.Goals as goal

pub loop-page-preserved : goal.loop-page-preserved
loop-page-preserved c =
    rows_more (value_in c.args.plan.now c.args.place) [] c.loop-page.builder c.put_page_values.new.builder c.args.pages.now c.loop-page.page-index c.page-item.result
    c.loop-page-test.true c.page-item.is c.loop-page.invariant c.in_ok-put_page_values.ensures
