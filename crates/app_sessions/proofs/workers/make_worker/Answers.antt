use Rattle.std.proofs.Common.{subst, sym}
use Rattle.store_snapshots.specs.Openings.{IsOf, Opening}
use Rattle.store_snapshots.specs.Ruled.{opening_of}
use Rattle.store_versions.specs.Trials.{Trials}
use Rattle.app_sessions.proofs.workers.make_worker.Goals as goal

pub learn-requires : goal.learn-requires
learn-requires g c =
    subst (λ (t : Trials). IsOf (opening_of c.args.reader.entry) t) (sym c.in_ok-tell.ensures.note)
    (subst (λ (o : Opening). IsOf o c.args.publisher.now.shown) (sym c.requires.opened) c.requires.shown)
