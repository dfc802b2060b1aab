use Rattle.std.proofs.Common.{rules, ◌≡◌, ◌∙◌, ◌+◌, ◌<◌, [], ap, arith, length, subst, true}
use Rattle.app_sessions.specs.Reports.{PublishesOne, PublishesRefresh}
use Rattle.app_sessions.proofs.JobSteps.{done_more, list_kept, told_more, tried_more}
use Rattle.app_sessions.proofs.publishing.publish_first.Goals as goal

pub publishing-preserved : goal.publishing-preserved
publishing-preserved g c =
    let i = c.publishing.invariant in
    let faults = c.publish_one.ensures.failed.later in
    let risen = i.faults in
    let start = c.args.publisher.now.version in
    let tried = g.F.Feed.tried c.publishing.feed in
    let more = g.F.Feed.tried c.publish_one.new.feed in
    let old = c.publishing.publisher in
    let new = c.publish_one.new.publisher in
    let before = c.publishing.report in
    let after = c.publish_one.new.report in
    let yes : c.in_ok-publish_one.field-0 ≡ true = search rules in
    let p : PublishesRefresh tried more old new before after =
    subst (PublishesOne tried more (g.F.Feed.is_over c.publish_one.new.feed) old new before after) yes c.in_ok-publish_one.ensures.one in
    let done : new.version.done ≡ old.version.done + 1 = done_more p.change old.version p.trials new.version p.next p.version in
    let size : length old.version.list ≡ length start.list = ap length i.list in
    let less : c.publishing._k < c.args.count = c.publishing-test.true in
    let places = c.requires.places in
    let was = i.done in
    let left : old.version.done < length old.version.list = omega (arith, was, less, places, size) in
    let count = p.count in
    let told = i.count in
    record {
      fits = c.in_ok-publish_one.ensures.fits;
      tried = tried_more start [] tried more old new before after i.tried p;
      told = told_more start [] tried more old new before after i.tried p i.told;
      done = omega (arith, done, was);
      count = omega (arith, count, told);
      list = list_kept p.change old.version p.trials new.version p.next p.version left ∙ i.list;
      source = c.publish_one.ensures.source ∙ i.source;
      faults = omega (arith, faults, risen);
    }
