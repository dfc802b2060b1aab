use Rattle.store_machine.specs.Machine.{World}
use Rattle.store_machine.proofs.Kept.{kept_offered}
use Rattle.store_machine.proofs.machine.Machine.offer.Goals as goal

pub invariant_of-self-2 : goal.invariant_of-self-2
invariant_of-self-2 c =
    let world : World = record { base = c.self.inside.base; list = c.self.inside.list.items; done = c.self.inside.done; sessions = c.self.inside.sessions.items } in
    rw c.in_ok-push.ensures.items (kept_offered world c.self.inside.versions.items c.args.refresh c.self.invariant)
