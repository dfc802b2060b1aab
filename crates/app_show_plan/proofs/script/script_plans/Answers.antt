use Rattle.std.proofs.Common.{List, [], subst}
use Rattle.sql_ast.specs.declared.statement.Statement.{Statement}
use Rattle.app_show_plan.specs.Shown.{AreShown}
use Rattle.app_show_plan.proofs.script.script_plans.Goals as goal

pub returns : goal.returns
returns g c = (
  c.in_ok-steps.steps,
  c.in_ok-steps.ensures,
  subst (λ (steps : List Statement). AreShown c.args.form [] steps c.in_ok-all.all.text.items c.in_ok-all.all.is_clean) c.as_slice-2.ensures c.in_ok-all.ensures,
)
