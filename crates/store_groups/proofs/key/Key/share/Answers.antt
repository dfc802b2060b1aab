use Rattle.std.proofs.Common.{sym}
use Rattle.store_groups.proofs.EntryLists.{hash_same}
use Rattle.store_groups.proofs.key.Key.share.Goals as goal

pub invariant_of-result : goal.invariant_of-result
invariant_of-result c = hash_same (sym c.in_ok-values.ensures) c.self.invariant
