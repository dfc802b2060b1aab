use Rattle.std.proofs.Common.{rules, ap, ◌∙◌}
use Rattle.plan_algebra.specs.declared.tree.DepTree.TheVariants as node
use Rattle.plan_dependent_nodes.proofs.sources.kept_rows.Goals as goal

pub returns-in_ok-tree-in-Ok : goal.returns-in_ok-tree-in-Ok
returns-in_ok-tree-in-Ok c = record {
  plan = c.in-Ok.plan;
  is_kept = c.in-Ok.ensures.0;
  is_plan = c.in-Ok.ensures.1;
  tree_is = c.in_ok-tree-in-Ok.ensures ∙ ap (node.Kept c.args.number) c.in_ok-plan-in-Ok.ensures;
  width_is = search rules;
}
