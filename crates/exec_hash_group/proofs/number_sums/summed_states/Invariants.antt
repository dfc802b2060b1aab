use Rattle.std.proofs.Common.{map}
use Rattle.base_value.specs.declared.value.Value.TheVariants.{Number}
use Rattle.exec_hash_group.specs.Regrouping.{lists_by_number}
use Rattle.exec_hash_group.specs.States.{HaveTaken}
use Rattle.exec_hash_group.proofs.number_sums.summed_states.Given as goal

abbrev pub invariant-loop-number : goal.invariant-loop-number
invariant-loop-number g l =
    HaveTaken g.A.Accumulator.has_taken g.A.Accumulator.terms (g.A.Accumulator.aggregate l.scale) (lists_by_number l.numbers (map (Number l.fn.own) l.coefficients) 0 l.number) l.states.items
