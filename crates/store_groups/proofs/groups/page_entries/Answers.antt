use Rattle.std.proofs.Common.{◌∙◌, ◌++◌, ap, sym}
use Rattle.store_groups.proofs.PageLists.{entries_more}
use Rattle.store_groups.proofs.groups.page_entries.Goals as goal

pub loop-page-preserved : goal.loop-page-preserved
loop-page-preserved c =
    c.in_ok-put_entries_of.ensures
    ∙ ap (λ l. l ++ c.page-item.result) c.loop-page.invariant
    ∙ sym (entries_more c.args.pages.now c.loop-page.page-index c.page-item.result c.loop-page-test.true c.page-item.is)
