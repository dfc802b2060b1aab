use Rattle.std.proofs.Common.{◌≡◌, map, length}
use Rattle.base_row_laws.specs.Bags.{Each}
use Rattle.sql_binder_steps.specs.Names.{sight_of}
use Rattle.sql_binder.specs.Nests.{BindsArm}
use Rattle.sql_binder.specs.Operands as spec
use Rattle.sql_binder.specs.Binding.{arm_meaning}
use Rattle.sql_binder.proofs.exprs.ExprBinder.arm_conditions.Given as goal

abbrev pub invariant-arms : goal.invariant-arms
invariant-arms g l = record {
  parts : Each (BindsArm (goal.E-pre g l.self.expr) (goal.E-post g l.self.expr)) l.left;
  same : spec.arm_conditions (sight_of l.site) (map arm_meaning l.arms) l.fn.state
      ≡ spec.conditions_of_arms (sight_of l.site) l.done (map arm_meaning l.left) l.state;
}

abbrev pub decreases-arms : goal.decreases-arms
decreases-arms g l = length l.left
