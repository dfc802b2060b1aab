use Rattle.store_durability.proofs.Outcomes.{accepted_payloads, not_refused}
use Rattle.store_durability.proofs.trial.accept.Goals as goal

pub returns-in-Published-clause-payloads : goal.returns-in-Published-clause-payloads
returns-in-Published-clause-payloads g c =
    let t = c.in-Published.ensures in
    accepted_payloads c.args.refresh c.args.publisher.now.version t.within c.requires.next c.try_refresh.new.publisher c.in-Published.note c.requires.accepted t.tries

pub unreachable-requires : goal.unreachable-requires
unreachable-requires g c =
    let t = c.in-Refused.ensures in
    not_refused c.args.refresh c.args.publisher.now.version t.within c.requires.next _ _ _ c.requires.accepted t.tries
