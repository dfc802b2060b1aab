use Rattle.store_groups.proofs.EntryLists.{hash_same}
use Rattle.store_groups.proofs.key.Key.hash.Goals as goal

pub returns : goal.returns
returns c = hash_same c.self.view_is c.self.invariant
