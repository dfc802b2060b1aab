use Rattle.exec_hash_group.proofs.Steps.{Taken}
use Rattle.exec_hash_group.proofs.groups.states_row_by_row.Given as goal

abbrev pub invariant-loop-row : goal.invariant-loop-row
invariant-loop-row g l = Taken g.A.Accumulator.has_taken g.A.Accumulator.terms l.initial.states.items l.states.items l.numbers (g.L.ValueList.shown l.values) l.row
