use Rattle.std.proofs.Common.{length}
use Rattle.store_durability.proofs.Outcomes.{end_tries, left_tries, none_left}
use Rattle.store_durability.proofs.trial.try_refresh.Goals as goal

pub returns-then-left-clause-tries : goal.returns-then-left-clause-tries
returns-then-left-clause-tries g c =
    left_tries c.args.refresh c.args.publisher.now c.try_listed.new.publisher c.try_listed.result (c.left.ensures.left.0 c.if-left.true) c.try_listed.ensures.tries

pub returns-clause-tries : goal.returns-clause-tries
returns-clause-tries g c =
    let version = c.args.publisher.now.version in
    end_tries c.args.refresh c.args.publisher.now c.publish_given.new.self c.publish_given.result
    (none_left c.left.result version.done (length version.list) c.left.ensures.left c.if-left.false) c.publish_given.ensures.tries
