use Rattle.std.proofs.Common.{ℕ, ◌<◌, take}
use Rattle.std.specs.Prelude.{IsTrue}
use Rattle.plan_dependent_nodes.specs.FromGrowth.{AreRightPlaces}
use Rattle.plan_dependent_nodes.specs.Seeks.{has, has_place}
use Rattle.plan_dependent_nodes.proofs.RightPlaces.{AreOuterPlaces}
use Rattle.plan_dependent_nodes.proofs.source_sight.right_places.Given as goal

abbrev pub invariant-loop-column : goal.invariant-loop-column
invariant-loop-column l =
    let s = l.sight in
    ((level place : ℕ) → IsTrue (has l.outer level place) → IsTrue (has s.outer.now level place))
    → AreOuterPlaces s.outer.now s.so_far.now s.before s.start (take l.column-index l.outer)
    l.places

abbrev pub invariant-loop-place : goal.invariant-loop-place
invariant-loop-place l =
    let s = l.sight in
    ((level place : ℕ) → IsTrue (has l.outer level place) → IsTrue (has s.outer.now level place))
    → ((place : ℕ) → IsTrue (has_place l.so_far place) → place < s.before
    → IsTrue (has_place s.so_far.now place))
    → AreRightPlaces s.outer.now s.so_far.now s.before s.start l.outer
    (take l.place-index l.so_far) l.places
