use Rattle.std.proofs.Common.{rules, ◌≡◌, List, [], ◌∷◌, ◌++◌, subst, sym, arith}
use Rattle.std.proofs.lemmas.Grind.{common_steps}
use Rattle.store_versions.specs.Trials.{version_of}
use Rattle.store_snapshots.specs.Openings.{opening_at}
use Rattle.store_snapshots.specs.Ruled.{list_fits, opening_of}
use Rattle.app_sessions.specs.Workers.{AllInformed, AllIdle, AreOfOpening, IsInformed, sessions_of}
use Rattle.app_sessions.proofs.JobSets.{each-front, each-more}
use Rattle.app_sessions.proofs.workers.make_workers.Goals as goal

pub making-preserved : goal.making-preserved
making-preserved g c =
    let v = c.args.publisher.now.version in
    let i = c.making.invariant in
    let e : c.push.new.self.items ≡ c.making.workers.items ++ c.in_ok-make_worker.field-0 ∷ [] = search rules in
    record {
      readers = each-front (λ r. opening_of r.entry ≡ opening_at v) c.pop.new.self.items _ (subst (AreOfOpening opening_of v) c.pop.ensures.items i.readers);
      len = grind (arith, common_steps);
      informed = subst (AllInformed opening_of list_fits v (version_of v)) (sym e) (each-more (IsInformed opening_of list_fits v (version_of v)) c.making.workers.items c.in_ok-make_worker.field-0 i.informed c.in_ok-make_worker.ensures.informed);
      idle = subst AllIdle (sym e) (each-more (λ w. sessions_of w ≡ []) c.making.workers.items c.in_ok-make_worker.field-0 i.idle c.in_ok-make_worker.ensures.idle);
    }
