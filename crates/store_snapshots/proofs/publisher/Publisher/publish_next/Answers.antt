use Rattle.std.proofs.Common.{rules, ◌≡◌, ◌<◌, Ok, Err, length, subst}
use Rattle.store_state.specs.declared.applied.RefreshError.TheVariants.{Refused}
use Rattle.store_versions.specs.Trials.{IsAfter, Trials}
use Rattle.store_snapshots.proofs.Steps.{follows_same}
use Rattle.store_snapshots.proofs.publisher.Publisher.publish_next.Goals as goal

pub try_next-requires-clause-follows : goal.try_next-requires-clause-follows
try_next-requires-clause-follows g c =
    let same : c.in-Ok.trials ≡ c.args.self.now.version = search rules in
    follows_same c.args.self.now.version c.in-Ok.trials same

pub returns-in-Published-clause-tries : goal.returns-in-Published-clause-tries
returns-in-Published-clause-tries g c =
    let same : c.in-Ok.trials ≡ c.args.self.now.version = search rules in
    let less : c.args.self.now.version.done < length c.args.self.now.version.list = search rules in
    let tries = c.in-Published.ensures.tries in
    (less, subst (λ (t : Trials). IsAfter t t (Ok c.try_next.new.self.version)) same tries.after, tries.tells)

pub returns-in-Refused-clause-tries : goal.returns-in-Refused-clause-tries
returns-in-Refused-clause-tries g c =
    let same : c.in-Ok.trials ≡ c.args.self.now.version = search rules in
    let less : c.args.self.now.version.done < length c.args.self.now.version.list = search rules in
    let tries = c.in-Refused.ensures.tries in
    (less, subst (λ (t : Trials). IsAfter t c.try_next.new.self.version (Err (Refused c.in-Refused.cause))) same tries.after)
