use Rattle.std.proofs.Common.{take}
use Rattle.exec_hash_group.specs.ByNumber.{AreValues}
use Rattle.exec_hash_group.proofs.groups.values_of.Given as goal

abbrev pub invariant-loop-state : goal.invariant-loop-state
invariant-loop-state g l = AreValues g.A.Accumulator.has_taken (take l.state-index l.states) l.values.items
