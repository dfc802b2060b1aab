use Rattle.store_groups.proofs.PageLists.{no_entries, table_none}
use Rattle.store_groups.proofs.groups.Groups.of_pages.Goals as goal

pub invariant_of-result : goal.invariant_of-result
invariant_of-result c = table_none c.args.count c.in_ok-pages.pages.items c.requires c.in_ok-pages.ensures

pub returns : goal.returns
returns c = no_entries c.args.count c.in_ok-pages.pages.items c.in_ok-pages.ensures
