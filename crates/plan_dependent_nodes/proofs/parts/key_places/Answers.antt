use Rattle.plan_dependent_nodes.proofs.PlaceLists.{keys_none, keys_put}
use Rattle.plan_dependent_nodes.proofs.Supplies.{key_seen}
use Rattle.plan_dependent_nodes.proofs.parts.key_places.Goals as goal

pub loop-key-init : goal.loop-key-init
loop-key-init c =
    let s = c.args.sight.now in
    rw c.new-places.ensures (λ all. keys_none s.outer.now s.start s.width)

pub loop-key-preserved : goal.loop-key-preserved
loop-key-preserved c =
    let s = c.args.sight.now in
    λ all.
    keys_put s.outer.now s.start s.width c.args.keys.now c.loop-key.key-index c.loop-key.places
    c.push.new.self c.in_ok-place.place c.loop-key-test.true
    c.in_ok-push.ensures.ok (c.loop-key.invariant all)
    (c.in_ok-place.ensures
    (key_seen s.outer.now s.width c.args.keys.now c.loop-key.key-index c.loop-key-test.true all))
