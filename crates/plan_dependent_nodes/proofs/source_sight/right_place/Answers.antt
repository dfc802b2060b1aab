use Rattle.std.proofs.Common.{◌≡◌, ◌+◌, length, rules}
use Rattle.plan_dependent_nodes.proofs.FromPlaces.{place_before}
use Rattle.plan_dependent_nodes.proofs.source_sight.right_place.Goals as goal

pub returns-in_ok-at : goal.returns-in_ok-at
returns-in_ok-at c =
    let s = c.args.sight.now in
    let same : c.in_ok-outer.outer ≡ length s.outer.now = search rules in
    let sum : c.in_ok-at.at ≡ c.in_ok-outer.outer + c.in_ok-index.index = search rules in
    λ there.
    place_before s.outer.now s.so_far.now s.before s.start c.args.place c.in_ok-index.index
    c.in_ok-outer.outer c.in_ok-at.at c.if-place-sight.true
    (c.in_ok-index.ensures (there c.if-place-sight.true)) same sum
