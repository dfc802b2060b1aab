use Rattle.std.proofs.Common.{◌≡◌, map, drop}
use Rattle.sql_binder.specs.Expressions as spec
use Rattle.sql_binder.specs.Binding.{meaning, term_meaning, factor_meaning, arm_meaning}
use Rattle.sql_binder.proofs.syntax.+aggregates.Given as goal

abbrev pub invariant-any_aggregate-loop-e : goal.invariant-any_aggregate-loop-e
invariant-any_aggregate-loop-e l = spec.any_aggregate (map meaning l.all)
    ≡ spec.any_aggregate (map meaning (drop l.e-index l.all))

abbrev pub invariant-any_in_terms-loop-t : goal.invariant-any_in_terms-loop-t
invariant-any_in_terms-loop-t l = spec.any_in_chain (map term_meaning l.all)
    ≡ spec.any_in_chain (map term_meaning (drop l.t-index l.all))

abbrev pub invariant-any_in_factors-loop-f : goal.invariant-any_in_factors-loop-f
invariant-any_in_factors-loop-f l = spec.any_in_chain (map factor_meaning l.all)
    ≡ spec.any_in_chain (map factor_meaning (drop l.f-index l.all))

abbrev pub invariant-any_in_arms-loop-a : goal.invariant-any_in_arms-loop-a
invariant-any_in_arms-loop-a l = spec.any_in_arms (map arm_meaning l.all)
    ≡ spec.any_in_arms (map arm_meaning (drop l.a-index l.all))
