use Rattle.std.proofs.Common.{◌<◌, take}
use Rattle.std.specs.List.{All}
use Rattle.plan_dependent_nodes.specs.Growth.{AreKeys}
use Rattle.plan_dependent_nodes.proofs.parts.key_places.Given as goal

abbrev pub invariant-loop-key : goal.invariant-loop-key
invariant-loop-key l =
    All (λ key. key < l.sight.width) l.keys
    → AreKeys l.sight.outer.now l.sight.start l.sight.width (take l.key-index l.keys) l.places
