use Rattle.std.proofs.Common.{rules, ◌≡◌, ◌∙◌, ◌+◌, ◌<◌, ap, length, subst, sym}
use Rattle.store_state.specs.Versions.{accepted}
use Rattle.store_snapshots.specs.Openings.{opening_at}
use Rattle.store_snapshots.specs.Ruled.{list_fits, opening_of}
use Rattle.store_versions.specs.Trials.{Trials, version_of}
use Rattle.app_sessions.specs.Gathered.{ArePrepared}
use Rattle.app_sessions.specs.Orders.{later_by}
use Rattle.app_sessions.specs.Workers.{AllInformed, AreAssigned}
use Rattle.app_sessions.proofs.JobSets.{refilled}
use Rattle.app_sessions.proofs.JobStarts.{later_is, prepared}
use Rattle.app_sessions.proofs.forking.prepare.Goals as goal

pub returns-clause-version : goal.returns-clause-version
returns-clause-version g c =
    let p = c.in_ok-publish_first.ensures in
    later_is c.args.before c.args.publisher.now.version c.publish_first.new.publisher _ p.tried p.done p.list

pub returns-clause-workers : goal.returns-clause-workers
returns-clause-workers g c =
    let p = c.in_ok-publish_first.ensures in
    let w = c.in_ok-workers.ensures in
    let m = c.as_mut_slice.ensures in
    let start = c.args.publisher.now.version in
    let after = c.publish_first.new.publisher.version in
    let olds = c.in_ok-workers.workers.items in
    let news = c.assign_sessions.new.workers in
    let low = accepted start.base start.list (start.done + c.args.before) in
    let is : after ≡ later_by c.args.before start = later_is c.args.before start c.publish_first.new.publisher _ p.tried p.done p.list in
    let opened : opening_at after ≡ opening_at start = ap opening_at is in
    let number : version_of after ≡ low = ap version_of is in
    let informed : AllInformed opening_of list_fits after low olds = subst (λ n. AllInformed opening_of list_fits after n olds) number w.informed in
    let assigned : AreAssigned c.args.sessions.items olds news (length c.args.sessions.items) = search rules in
    let some : 0 < length olds = search rules in
    let whole = refilled olds news c.in_ok-workers.workers.len (sym m.len ∙ ap length m.value) assigned.len in
    subst (ArePrepared opening_of list_fits start low c.args.sessions.items) (sym whole)
    (prepared opening_of list_fits start after low c.args.sessions.items olds news some opened informed assigned)
