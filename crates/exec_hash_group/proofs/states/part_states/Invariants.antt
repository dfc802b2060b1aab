use Rattle.std.proofs.Common.{take}
use Rattle.exec_hash_group.specs.PartGroups.{part_arguments, scale_of}
use Rattle.exec_hash_group.specs.States.{HaveTaken}
use Rattle.exec_hash_group.proofs.states.part_states.Given as goal

abbrev pub invariant-loop-part : goal.invariant-loop-part
invariant-loop-part g l =
    HaveTaken g.A.Accumulator.has_taken g.A.Accumulator.terms (g.A.Accumulator.aggregate (scale_of l.aggregate)) (part_arguments l.aggregate (take l.part-index l.parts)) l.states.items
