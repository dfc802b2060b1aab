use Rattle.std.proofs.Common.{arith, subst}
use Rattle.std.proofs.lemmas.List.{take_all}
use Rattle.plan_dependent_nodes.specs.FromGrowth.{AreRightPlaces}
use Rattle.plan_dependent_nodes.proofs.RightPlaces.{AreOuterPlaces, outer_none, outer_put}
use Rattle.plan_dependent_nodes.proofs.RightPlaces.{right_none}
use Rattle.plan_dependent_nodes.proofs.RightPlaces.{right_put, place_at}
use Rattle.plan_dependent_nodes.proofs.Supplies.{has_at}
use Rattle.plan_dependent_nodes.proofs.source_sight.right_places.Goals as goal

pub loop-column-init : goal.loop-column-init
loop-column-init c =
    let s = c.args.sight.now in
    rw c.new-places.ensures (λ there. outer_none s.outer.now s.so_far.now s.before s.start)

pub loop-column-preserved : goal.loop-column-preserved
loop-column-preserved c =
    let s = c.args.sight.now in
    let l = c.loop-column in
    λ there.
    outer_put s.outer.now s.so_far.now s.before s.start c.args.outer.now l.column-index l.places
    c.push.new.self c.in_ok-at.at c.loop-column-test.true c.in_ok-push.ensures.ok (l.invariant there)
    (c.in_ok-at.ensures
    (there _ _
    (has_at c.args.outer.now l.column-index (record { level = 0; place = 0 })
    c.loop-column-test.true)))

pub loop-place-init : goal.loop-place-init
loop-place-init c =
    let s = c.args.sight.now in
    let l = c.loop-column in
    λ there stands.
    right_none s.outer.now s.so_far.now s.before s.start c.args.outer.now l.places
    (subst (λ xs. AreOuterPlaces s.outer.now s.so_far.now s.before s.start xs l.places)
    (take_all l.column-index c.args.outer.now (omega (arith, c.loop-column-test.false)))
    (l.invariant there))

pub loop-place-preserved : goal.loop-place-preserved
loop-place-preserved c =
    let s = c.args.sight.now in
    let l = c.loop-place in
    λ there stands.
    right_put s.outer.now s.so_far.now s.before s.start c.args.outer.now c.args.so_far.now
    l.place-index l.places c.push-in-loop-place.new.self c.in_ok-at-2.at c.loop-place-test.true
    c.in_ok-push-2.ensures.ok (l.invariant there stands)
    (c.in_ok-at-2.ensures
    (λ below. stands _ (place_at c.args.so_far.now l.place-index c.loop-place-test.true) below))

pub returns : goal.returns
returns c =
    let s = c.args.sight.now in
    let l = c.loop-place in
    λ there stands.
    subst (λ xs. AreRightPlaces s.outer.now s.so_far.now s.before s.start c.args.outer.now xs
    l.places)
    (take_all l.place-index c.args.so_far.now (omega (arith, c.loop-place-test.false)))
    (l.invariant there stands)
