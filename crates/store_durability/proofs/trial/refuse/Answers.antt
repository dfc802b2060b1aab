use Rattle.store_durability.proofs.Outcomes.{not_accepted, refused_payloads, told_cause}
use Rattle.store_durability.proofs.trial.refuse.Goals as goal

pub unreachable-requires : goal.unreachable-requires
unreachable-requires g c =
    let t = c.in-Published.ensures in
    not_accepted c.args.refresh c.args.publisher.now.version t.within c.requires.next _ _ c.requires.refused t.tries

pub returns-in-Refused-clause-cause : goal.returns-in-Refused-clause-cause
returns-in-Refused-clause-cause g c =
    let t = c.in-Refused.ensures in
    told_cause c.args.refresh c.args.publisher.now.version t.within c.requires.next c.in-Refused.cause c.args.publisher.now.shown c.try_refresh.new.publisher t.tries

pub returns-in-Refused-clause-payloads : goal.returns-in-Refused-clause-payloads
returns-in-Refused-clause-payloads g c =
    let t = c.in-Refused.ensures in
    refused_payloads c.args.refresh c.args.publisher.now.version t.within c.requires.next c.in-Refused.cause c.args.publisher.now.shown c.try_refresh.new.publisher c.requires.refused t.tries
