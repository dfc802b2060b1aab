use Rattle.store_durability.proofs.Outcomes.{listed_accepts, listed_refuses}
use Rattle.store_durability.proofs.trial.try_listed.Goals as goal

pub returns-in-Published-clause-tries : goal.returns-in-Published-clause-tries
returns-in-Published-clause-tries g c =
    let t = c.in-Published.ensures in
    listed_accepts c.args.publisher.now c.publish_next.new.self c.in-Published.note t.tries t.shown

pub returns-in-Refused-clause-tries : goal.returns-in-Refused-clause-tries
returns-in-Refused-clause-tries g c =
    let t = c.in-Refused.ensures in
    listed_refuses c.args.publisher.now c.publish_next.new.self c.in-Refused.cause t.tries t.shown
