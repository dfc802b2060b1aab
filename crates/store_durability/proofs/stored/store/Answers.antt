use Rattle.std.proofs.Common.{List, ℕ, sym, ap, subst, Ok}
use Rattle.store_journal.specs.Journal.{Stands}
use Rattle.store_refresh_entries.specs.Change.{IsSpelled}
use Rattle.store_durability.specs.Stored.{payloads_of}
use Rattle.store_durability.proofs.stored.store.Goals as goal

pub returns-in-Ok-clause-holds : goal.returns-in-Ok-clause-holds
returns-in-Ok-clause-holds g c _ =
    let stands = c.in_ok-append.ensures.stored (payloads_of c.args.publisher.now.version) c.requires.stands (ap Ok c.in-Stored.is) in
    subst (λ (ps : List (List ℕ)). Stands IsSpelled (g.D.Disk.may_leave c.append.new.disk) ps c.append.new.self.end) (sym c.in-Ok.ensures.payloads) stands
