use Rattle.std.proofs.Common.{◌≡◌, ◌∙◌, ℕ, ◌<◌, ◌≤◌, [], IfOk, length, subst, sym}
use Rattle.app_sessions.specs.Orders.{whole_order}
use Rattle.app_sessions.specs.Starts.{HasStarted}
use Rattle.app_sessions.proofs.list_job.run_feed_job.Goals as goal

pub run_beside-requires-clause-started : goal.run_beside-requires-clause-started
run_beside-requires-clause-started g c κs within =
    let p = c.in_ok-run.ensures in
    let v = c.args.publisher.now.version in
    let begun : HasStarted c.in_ok-run.run' c.prepare.new.publisher (g.F.Feed.tried c.prepare.new.feed) = record {
      start = v;
      before = c.args.setup.before;
      sessions = c.args.setup.sessions.items;
      first = [];
      places = c.requires.before;
      prepared = p.workers;
      tries = p.tried;
      told = p.told;
      listed = p.sizes.1;
      count = p.sizes.0;
    } in
    begun

pub returns-clause-text : goal.returns-clause-text
returns-clause-text g c =
    let p = c.in_ok-run.ensures in
    let v = c.args.publisher.now.version in
    let begun : HasStarted c.in_ok-run.run' c.prepare.new.publisher (g.F.Feed.tried c.prepare.new.feed) = record {
      start = v;
      before = c.args.setup.before;
      sessions = c.args.setup.sessions.items;
      first = [];
      places = c.requires.before;
      prepared = p.workers;
      tries = p.tried;
      told = p.told;
      listed = p.sizes.1;
      count = p.sizes.0;
    } in
    c.run_beside.ensures.text begun

pub returns-clause-many : goal.returns-clause-many
returns-clause-many g c =
    let p = c.in_ok-run.ensures in
    let v = c.args.publisher.now.version in
    let begun : HasStarted c.in_ok-run.run' c.prepare.new.publisher (g.F.Feed.tried c.prepare.new.feed) = record {
      start = v;
      before = c.args.setup.before;
      sessions = c.args.setup.sessions.items;
      first = [];
      places = c.requires.before;
      prepared = p.workers;
      tries = p.tried;
      told = p.told;
      listed = p.sizes.1;
      count = p.sizes.0;
    } in
    let many = c.run_beside.ensures.many begun in
    subst (λ (n : ℕ). IfOk c.run_beside.result (λ _. length (whole_order v (g.F.Feed.tried c.run_beside.new.feed)) ≡ n)) c.requires.most many

pub returns-clause-few : goal.returns-clause-few
returns-clause-few g c = λ is.
    let p = c.in_ok-run.ensures in
    let v = c.args.publisher.now.version in
    let begun : HasStarted c.in_ok-run.run' c.prepare.new.publisher (g.F.Feed.tried c.prepare.new.feed) = record {
      start = v;
      before = c.args.setup.before;
      sessions = c.args.setup.sessions.items;
      first = [];
      places = c.requires.before;
      prepared = p.workers;
      tries = p.tried;
      told = p.told;
      listed = p.sizes.1;
      count = p.sizes.0;
    } in
    subst (λ (n : ℕ). length (whole_order v (g.F.Feed.tried c.run_beside.new.feed)) < n) c.requires.most (c.run_beside.ensures.few begun is)

pub returns-clause-ended : goal.returns-clause-ended
returns-clause-ended g c = λ memory failed.
    let p = c.in_ok-run.ensures in
    let v = c.args.publisher.now.version in
    let begun : HasStarted c.in_ok-run.run' c.prepare.new.publisher (g.F.Feed.tried c.prepare.new.feed) = record {
      start = v;
      before = c.args.setup.before;
      sessions = c.args.setup.sessions.items;
      first = [];
      places = c.requires.before;
      prepared = p.workers;
      tries = p.tried;
      told = p.told;
      listed = p.sizes.1;
      count = p.sizes.0;
    } in
    c.run_beside.ensures.ended begun memory failed
