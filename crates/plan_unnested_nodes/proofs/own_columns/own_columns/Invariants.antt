use Rattle.plan_unnested_nodes.proofs.Turns.{StandSoFar}
use Rattle.plan_unnested_nodes.proofs.own_columns.own_columns.Given as goal

abbrev pub invariant-loop-k : goal.invariant-loop-k
invariant-loop-k l = StandSoFar l.kinds l.notes l.width l.condition l.k l.own
