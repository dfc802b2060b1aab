use Rattle.std.proofs.Common.{[]}
use Rattle.std.specs.Prelude.{map}
use Rattle.base_value.specs.declared.value.Value.TheVariants.{Number}
use Rattle.store_kept_views.specs.Output.{value_in}
use Rattle.store_kept_views.proofs.Shows.{rows_more}
use Rattle.store_kept_views.proofs.columns.numbers_of.Goals as goal

pub loop-page-preserved : goal.loop-page-preserved
loop-page-preserved c =
    rows_more (value_in c.args.plan.now c.args.place) [] (map (Number c.args.scale) c.loop-page.numbers.items) (map (Number c.args.scale) c.put_numbers.new.numbers.items) c.args.pages.now c.loop-page.page-index c.page-item.result
    c.loop-page-test.true c.page-item.is c.loop-page.invariant (c.in_ok-put_numbers.ensures c.if-not-branch.false)
