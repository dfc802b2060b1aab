use Rattle.std.proofs.Common.{◌≡◌, map, length}
use Rattle.sql_binder_steps.specs.Names.{sight_of}
use Rattle.sql_binder.specs.Nests.{BindsExprs}
use Rattle.sql_binder.specs.Operands as spec
use Rattle.sql_binder.specs.Binding.{meaning}
use Rattle.sql_binder.proofs.exprs.ExprBinder.conditions.Given as goal

abbrev pub invariant-operands : goal.invariant-operands
invariant-operands g l = record {
  parts : BindsExprs (goal.E-pre g l.self.expr) (goal.E-post g l.self.expr) l.left;
  same : spec.conditions (sight_of l.site) l.fn.first (map meaning l.rest) l.fn.state
      ≡ spec.conditions_from (sight_of l.site) l.done (map meaning l.left) l.state;
}

abbrev pub decreases-operands : goal.decreases-operands
decreases-operands g l = length l.left
