use Rattle.std.proofs.Common.{◌≡◌, ◌∙◌, ap, arith, false}
use Rattle.store_journal.specs.declared.journal.Journal.{Journal}
use Rattle.store_durability.proofs.Feeding.{next_room, next_storable, one_left, turned_accepts, turned_fits}
use Rattle.store_durability.proofs.feed.StoredFeed.try_listed.Goals as goal

pub publish_stored-requires-clause-storable : goal.publish_stored-requires-clause-storable
publish_stored-requires-clause-storable g c =
    next_storable g.D.Disk.is_reached g.D.Disk.may_leave c.args.self.now.journal c.args.self.now.disk c.args.publisher.now.version c.requires.fits c.args.refresh c.requires.next

pub publish_stored-requires-clause-room : goal.publish_stored-requires-clause-room
publish_stored-requires-clause-room g c = λ _.
    next_room g.D.Disk.is_reached g.D.Disk.may_leave c.args.self.now.journal c.args.self.now.disk c.args.publisher.now.version c.requires.fits c.args.refresh c.requires.next

pub returns-in-Published-clause-turn : goal.returns-in-Published-clause-turn
returns-in-Published-clause-turn g c =
    let version = c.args.publisher.now.version in
    let outcome = rw c.in-Published.is at c.in_ok-note.ensures.outcome in
    (one_left version c.args.refresh c.requires.next, turned_accepts version c.args.refresh c.requires.next c.publish_stored.new.publisher c.in-Published.note outcome.2)

pub returns-in-Published-clause-fits : goal.returns-in-Published-clause-fits
returns-in-Published-clause-fits g c = λ _.
    let e = c.in_ok-note.ensures in
    let outcome = rw c.in-Published.is at e.outcome in
    let journal = rw c.in-Published.is at e.journal in
    let end = journal.1 in
    turned_fits g.D.Disk.is_reached g.D.Disk.may_leave c.args.self.now.journal c.args.self.now.disk c.args.publisher.now.version c.requires.fits c.args.refresh c.requires.next
    c.publish_stored.new.journal c.publish_stored.new.disk c.publish_stored.new.publisher.version outcome.2.after.0 e.reached journal.0 e.holds (omega (arith, end))

pub returns-in-Refused-clause-fits : goal.returns-in-Refused-clause-fits
returns-in-Refused-clause-fits g c = λ _.
    let e = c.in_ok-note.ensures in
    let outcome = rw c.in-Refused.is at e.outcome in
    let same : c.publish_stored.new.journal ≡ c.args.self.now.journal = rw c.in-Refused.is at e.journal in
    let end : c.publish_stored.new.journal.end ≡ c.args.self.now.journal.end = ap (λ (j : Journal). j.end) same in
    let working : c.publish_stored.new.journal.is_shut ≡ false = ap (λ (j : Journal). j.is_shut) same ∙ c.requires.fits.working in
    turned_fits g.D.Disk.is_reached g.D.Disk.may_leave c.args.self.now.journal c.args.self.now.disk c.args.publisher.now.version c.requires.fits c.args.refresh c.requires.next
    c.publish_stored.new.journal c.publish_stored.new.disk c.publish_stored.new.publisher.version outcome.1.after.0 e.reached working e.holds (omega (arith, end))
