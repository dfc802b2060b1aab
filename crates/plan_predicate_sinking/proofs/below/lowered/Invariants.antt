use Rattle.std.proofs.Common.{take}
use Rattle.plan_predicate_sinking.specs.Below.{AreLowered}
use Rattle.plan_predicate_sinking.proofs.below.lowered.Given as goal

abbrev pub invariant-loop-c : goal.invariant-loop-c
invariant-loop-c l = AreLowered l.n l.es (take l.c-index l.conditions) l.parts.covered l.parts.rest
