use Rattle.plan_dependent_nodes.proofs.PlaceLists.{at_none, at_put}
use Rattle.plan_dependent_nodes.proofs.parts.outer_places.Goals as goal

pub loop-column-init : goal.loop-column-init
loop-column-init c =
    let s = c.args.sight.now in
    rw c.new-places.ensures (λ seen. at_none s.outer.now s.start s.width)

pub loop-column-preserved : goal.loop-column-preserved
loop-column-preserved c =
    let s = c.args.sight.now in
    λ seen.
    at_put s.outer.now s.start s.width c.args.outer.now c.loop-column.column-index
    c.loop-column.places c.push.new.self c.in_ok-place.place c.loop-column-test.true
    c.in_ok-push.ensures.ok (c.loop-column.invariant seen)
    (c.in_ok-place.ensures
    (seen c.loop-column.column-index (record { level = 0; place = 0 }) c.loop-column-test.true))
