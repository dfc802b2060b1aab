use Rattle.std.proofs.Common.{take}
use Rattle.plan_predicate_sinking.specs.Sink.{IsSplit}
use Rattle.plan_predicate_sinking.proofs.sink.split.Given as goal

abbrev pub invariant-loop-e : goal.invariant-loop-e
invariant-loop-e l = IsSplit l.limit (take l.e-index l.es) l.parts.covered l.parts.rest
