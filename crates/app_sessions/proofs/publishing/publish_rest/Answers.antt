use Rattle.std.proofs.Common.{rules, ◌≡◌, ◌∙◌, ◌+◌, arith, subst, true}
use Rattle.app_sessions.specs.Reports.{PublishesOne, PublishesRefresh}
use Rattle.app_sessions.proofs.JobSteps.{done_more, told_more, tried_more}
use Rattle.app_sessions.proofs.publishing.publish_rest.Goals as goal

pub publishing-preserved : goal.publishing-preserved
publishing-preserved g c =
    let i = c.publishing.invariant in
    let faults = c.publish_one.ensures.failed.later in
    let risen = i.faults in
    let tried = g.F.Feed.tried c.publishing.feed in
    let more = g.F.Feed.tried c.publish_one.new.feed in
    let old = c.publishing.publisher in
    let new = c.publish_one.new.publisher in
    let before = c.publishing.report in
    let after = c.publish_one.new.report in
    let yes : c.in_ok-publish_one.field-0 ≡ true = search rules in
    let p : PublishesRefresh tried more old new before after =
    subst (PublishesOne tried more (g.F.Feed.is_over c.publish_one.new.feed) old new before after) yes c.in_ok-publish_one.ensures.one in
    let done : new.version.done ≡ old.version.done + 1 = done_more p.change old.version p.trials new.version p.next p.version in
    let count = p.count in
    let room = i.room in
    record {
      fits = c.in_ok-publish_one.ensures.fits;
      source = c.in_ok-publish_one.ensures.source ∙ i.source;
      room = omega (arith, done, count, room);
      tried = λ start first h. tried_more start first tried more old new before after (i.tried start first h) p;
      told = λ start first h t. told_more start first tried more old new before after (i.tried start first h) p (i.told start first h t);
      faults = omega (arith, faults, risen);
    }
