use Rattle.store_groups.proofs.BodyLists.{entry_more}
use Rattle.store_groups.proofs.groups.put_entries_of.Goals as goal

pub loop-i-preserved : goal.loop-i-preserved
loop-i-preserved c = entry_more c.args.page.now c.args.all.now.items c.loop-i.all.items c.push.new.self.items c.loop-i.i _ c.in_ok-entry.ensures c.loop-i.invariant c.in_ok-push.ensures.items
