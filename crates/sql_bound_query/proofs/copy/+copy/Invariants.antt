use Rattle.std.proofs.Common.{◌≡◌, take}
use Rattle.sql_bound_query.proofs.copy.+copy.Given as goal

abbrev pub invariant-inputs-loop-i : goal.invariant-inputs-loop-i
invariant-inputs-loop-i l = l.new ≡ take l.i-index l.all

abbrev pub invariant-exprs-loop-e : goal.invariant-exprs-loop-e
invariant-exprs-loop-e l = l.new ≡ take l.e-index l.all

abbrev pub invariant-aggregates-loop-a : goal.invariant-aggregates-loop-a
invariant-aggregates-loop-a l = l.new ≡ take l.a-index l.all
