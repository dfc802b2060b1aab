use Rattle.plan_dependent_nodes.proofs.PlaceLists.{plain_none, plain_more}
use Rattle.plan_dependent_nodes.proofs.Supplies.{plain_input_seen}
use Rattle.plan_dependent_nodes.proofs.sources.plain_places.Goals as goal

pub loop-input-init : goal.loop-input-init
loop-input-init c = let s = c.args.sight.now in
    rw c.new-places.ensures (λ p. plain_none s.outer.now s.start s.width)

pub loop-input-preserved : goal.loop-input-preserved
loop-input-preserved c =
    let s = c.args.sight.now in
    λ p.
    plain_more s.outer.now s.start s.width c.args.inputs.now c.loop-input.input-index
    c.input-item.result c.in-Column.level c.in-Column.place c.loop-input.places c.push.new.self
    c.in_ok-place-in-Column.place c.loop-input-test.true c.input-item.is c.in-Column.is
    c.in_ok-push-in-Column.ensures.ok (c.loop-input.invariant p)
    (c.in_ok-place-in-Column.ensures
    (plain_input_seen s.outer.now s.width c.args.inputs.now c.loop-input.input-index
    c.loop-input-test.true c.input-item.is p c.in-Column.is))
