use Rattle.std.proofs.Common.{rules, ◌≡◌, ℕ, ◌<◌, ◌≤◌, length, slice_index_or, slice_set, subst, sym, ap, ◌∙◌, arith, le_refl}
use Rattle.std.proofs.Math.ListN.{length-set}
use Rattle.std.proofs.lemmas.List.{get_or_default}
use Rattle.store_snapshots.specs.Ruled.{list_fits, opening_of}
use Rattle.app_sessions.specs.Workers.{HasMet, MayMeet}
use Rattle.app_sessions.proofs.JobSets.{set-each}
use Rattle.app_sessions.proofs.meeting.meet_workers.Goals as goal

pub meet_worker-requires-clause-opened : goal.meet_worker-requires-clause-opened
meet_worker-requires-clause-opened g c =
    let i = c.meeting.invariant in
    let k = c.meeting.i in
    let d = c.index-workers-i.result in
    let less : k < length c.meeting.workers = search rules in
    let l = i.len in
    let here : k < length c.args.workers.now = omega (arith, less, l) in
    subst (MayMeet opening_of c.args.publisher.now.shown) (sym (i.rest k d (le_refl k) here)) (c.requires.opened k d here)

pub meeting-preserved : goal.meeting-preserved
meeting-preserved g c =
    let i = c.meeting.invariant in
    let k = c.meeting.i in
    let ws = c.meeting.workers in
    let w = c.index-workers-i.result in
    let x = c.meet_worker.new.worker in
    let less : k < length ws = search rules in
    let l = i.len in
    let here : k < length c.args.workers.now = omega (arith, less, l) in
    let met : HasMet list_fits c.args.publisher.now.shown.list w x = search rules in
    let is : w ≡ slice_index_or c.args.workers.now k x = c.index-workers-i.is ∙ get_or_default ws k _ x less ∙ i.rest k x (le_refl k) here in
    record {
      len = length-set ws k x ∙ i.len;
      met = λ j d below within.
          let in_ws : j < length ws = omega (arith, within, l) in
          set-each (λ y. HasMet list_fits c.args.publisher.now.shown.list (slice_index_or c.args.workers.now j d) y) ws k x j d in_ws
          (λ not. i.met j d (omega (arith, not, below)) within)
          (λ at. subst (λ y. HasMet list_fits c.args.publisher.now.shown.list y x)
          (is ∙ get_or_default c.args.workers.now k x d here ∙ ap (λ n. slice_index_or c.args.workers.now n d) (sym at)) met);
      rest = λ j d up within.
          let in_ws : j < length ws = omega (arith, within, l) in
          set-each (λ y. y ≡ slice_index_or c.args.workers.now j d) ws k x j d in_ws
          (λ not. i.rest j d (omega (arith, up)) within)
          (λ at. absurd (omega (arith, at, up)));
    }
