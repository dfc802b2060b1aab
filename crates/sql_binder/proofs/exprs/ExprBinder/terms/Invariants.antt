use Rattle.std.proofs.Common.{◌≡◌, map, length}
use Rattle.base_row_laws.specs.Bags.{Each}
use Rattle.sql_binder_steps.specs.Names.{sight_of}
use Rattle.sql_binder.specs.Nests.{BindsTerm}
use Rattle.sql_binder.specs.Operands as spec
use Rattle.sql_binder.specs.Binding.{term_meaning}
use Rattle.sql_binder.proofs.exprs.ExprBinder.terms.Given as goal

abbrev pub invariant-terms : goal.invariant-terms
invariant-terms g l = record {
  parts : Each (BindsTerm (goal.E-pre g l.self.expr) (goal.E-post g l.self.expr)) l.left;
  same : spec.chain (sight_of l.site) l.fn.first (map term_meaning l.rest) l.fn.state
      ≡ spec.chain_from (sight_of l.site) l.done (map term_meaning l.left) l.state;
}

abbrev pub decreases-terms : goal.decreases-terms
decreases-terms g l = length l.left
