use Rattle.std.proofs.Common.{◌<◌, Some, None, length, rules, subst, sym}
use Rattle.store_machine.specs.Kept.{IsTried}
use Rattle.store_machine.specs.Machine.{World}
use Rattle.store_machine.proofs.Kept.{kept_accepted, kept_refused}
use Rattle.store_machine.proofs.machine.Machine.publish.Goals as goal

pub invariant_of-self-in-Some : goal.invariant_of-self-in-Some
invariant_of-self-in-Some c =
    let world : World = record { base = c.self.inside.base; list = c.self.inside.list.items; done = c.self.inside.done; sessions = c.self.inside.sessions.items } in
    let less : c.self.inside.done < length c.self.inside.list.items = search rules in
    let here : IsTried c.args.self.now (Some c.in-Some.next) = subst (IsTried c.args.self.now) c.in-Some.is c.in_ok-next.ensures in
    let tried : IsTried world (Some c.in-Some.next) = subst (λ w. IsTried w (Some c.in-Some.next)) (sym c.self.view_is) here in
    rw c.in_ok-push-in-Some.ensures.items (kept_accepted world c.self.inside.versions.items c.in-Some.next c.self.invariant less tried)

pub invariant_of-self-in-None : goal.invariant_of-self-in-None
invariant_of-self-in-None c =
    let world : World = record { base = c.self.inside.base; list = c.self.inside.list.items; done = c.self.inside.done; sessions = c.self.inside.sessions.items } in
    let less : c.self.inside.done < length c.self.inside.list.items = search rules in
    let here : IsTried c.args.self.now None = subst (IsTried c.args.self.now) c.in-None.is c.in_ok-next.ensures in
    let tried : IsTried world None = subst (λ w. IsTried w None) (sym c.self.view_is) here in
    kept_refused world c.self.inside.versions.items c.self.invariant less tried
