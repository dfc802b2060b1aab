use Rattle.std.proofs.Common.{◌≡◌, map, length}
use Rattle.base_row_laws.specs.Bags.{Each}
use Rattle.sql_binder_steps.specs.Names.{sight_of}
use Rattle.sql_binder.specs.Nests.{BindsFactor}
use Rattle.sql_binder.specs.Operands as spec
use Rattle.sql_binder.specs.Binding.{factor_meaning}
use Rattle.sql_binder.proofs.exprs.ExprBinder.factors.Given as goal

abbrev pub invariant-factors : goal.invariant-factors
invariant-factors g l = record {
  parts : Each (BindsFactor (goal.E-pre g l.self.expr) (goal.E-post g l.self.expr)) l.left;
  same : spec.chain (sight_of l.site) l.fn.first (map factor_meaning l.rest) l.fn.state
      ≡ spec.chain_from (sight_of l.site) l.done (map factor_meaning l.left) l.state;
}

abbrev pub decreases-factors : goal.decreases-factors
decreases-factors g l = length l.left
