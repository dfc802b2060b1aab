use Rattle.std.proofs.Common.{◌≡◌, List, false, sym, subst}
use Rattle.base_value.specs.declared.value.Value.{Value}
use Rattle.store_groups.specs.Entries.{same_key}
use Rattle.store_groups.proofs.EntryLists.{other_hash}
use Rattle.store_groups.proofs.key.Key.is_of.Goals as goal

pub returns-then-self-hash : goal.returns-then-self-hash
returns-then-self-hash c =
    sym (subst (λ (k : List Value). same_key c.args.key.now k ≡ false) c.self.view_is
    (other_hash c.requires c.self.invariant c.if-self-hash.true))
