use Rattle.std.proofs.Common.{◌≡◌, ◌∙◌, ap, arith, false, refl}
use Rattle.store_journal.specs.declared.journal.Journal.{Journal}
use Rattle.store_durability.proofs.GatewayTurns.{this_keeps, this_room}
use Rattle.store_durability.proofs.gateway.StoredGateway.try_this.Goals as goal

pub publish_stored-requires-clause-storable : goal.publish_stored-requires-clause-storable
publish_stored-requires-clause-storable g c = c.requires.storable.0

pub publish_stored-requires-clause-room : goal.publish_stored-requires-clause-room
publish_stored-requires-clause-room g c = λ _.
    this_room g.D.Disk.is_reached g.D.Disk.may_leave c.args.self.now.journal c.args.self.now.disk c.args.publisher.now.version c.requires.keeps c.args.refresh c.requires.storable c.requires.more

pub returns-in-Published-clause-turn : goal.returns-in-Published-clause-turn
returns-in-Published-clause-turn g c =
    let outcome = rw c.in-Published.is at c.in_ok-note.ensures.outcome in
    (refl, outcome.2)

pub returns-in-Published-clause-version : goal.returns-in-Published-clause-version
returns-in-Published-clause-version g c =
    let outcome = rw c.in-Published.is at c.in_ok-note.ensures.outcome in
    outcome.2.after.0

pub returns-in-Published-clause-keeps : goal.returns-in-Published-clause-keeps
returns-in-Published-clause-keeps g c =
    let e = c.in_ok-note.ensures in
    let outcome = rw c.in-Published.is at e.outcome in
    let journal = rw c.in-Published.is at e.journal in
    let end = journal.1 in
    this_keeps g.D.Disk.is_reached g.D.Disk.may_leave c.args.self.now.journal c.args.self.now.disk c.args.publisher.now.version c.requires.keeps c.args.refresh c.requires.storable c.requires.more
    c.publish_stored.new.journal c.publish_stored.new.disk c.publish_stored.new.publisher.version outcome.2.after.0 e.reached journal.0 e.holds (omega (arith, end))

pub returns-in-Refused-clause-turn : goal.returns-in-Refused-clause-turn
returns-in-Refused-clause-turn g c =
    let outcome = rw c.in-Refused.is at c.in_ok-note.ensures.outcome in
    (refl, outcome.1)

pub returns-in-Refused-clause-version : goal.returns-in-Refused-clause-version
returns-in-Refused-clause-version g c =
    let outcome = rw c.in-Refused.is at c.in_ok-note.ensures.outcome in
    outcome.1.after.0

pub returns-in-Refused-clause-keeps : goal.returns-in-Refused-clause-keeps
returns-in-Refused-clause-keeps g c =
    let e = c.in_ok-note.ensures in
    let outcome = rw c.in-Refused.is at e.outcome in
    let same : c.publish_stored.new.journal ≡ c.args.self.now.journal = rw c.in-Refused.is at e.journal in
    let end : c.publish_stored.new.journal.end ≡ c.args.self.now.journal.end = ap (λ (j : Journal). j.end) same in
    let working : c.publish_stored.new.journal.is_shut ≡ false = ap (λ (j : Journal). j.is_shut) same ∙ c.requires.keeps.working in
    this_keeps g.D.Disk.is_reached g.D.Disk.may_leave c.args.self.now.journal c.args.self.now.disk c.args.publisher.now.version c.requires.keeps c.args.refresh c.requires.storable c.requires.more
    c.publish_stored.new.journal c.publish_stored.new.disk c.publish_stored.new.publisher.version outcome.1.after.0 e.reached working e.holds (omega (arith, end))
