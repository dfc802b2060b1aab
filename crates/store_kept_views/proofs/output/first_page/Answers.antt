use Rattle.std.proofs.Common.{arith}
use Rattle.store_groups.proofs.PageLists.{none_more}
use Rattle.store_kept_views.proofs.Shows.{some_page}
use Rattle.store_kept_views.proofs.output.first_page.Goals as goal

pub loop-page-preserved : goal.loop-page-preserved
loop-page-preserved c =
    none_more c.args.pages.now c.loop-page.page-index c.len.result c.page-item.result c.loop-page-test.true c.page-item.is c.len.ensures c.if-len-gt0.false c.loop-page.invariant

pub returns-then-len-gt0 : goal.returns-then-len-gt0
returns-then-len-gt0 c = (
  omega (arith, c.if-len-gt0.true, c.len.ensures),
  some_page c.args.pages.now c.loop-page.page-index c.len.result c.page-item.result c.loop-page-test.true c.page-item.is c.len.ensures c.if-len-gt0.true,
)
