use Rattle.app_show_plan.proofs.Fronts.{front_formed}
use Rattle.app_show_plan.proofs.figures.without_last.Goals as goal

pub invariant_of-result : goal.invariant_of-result
invariant_of-result c = record {
  formed = front_formed c.args.plan.nodes c.pop-last.new.self c.pop-last.result
      c.args.plan.formed c.pop-last.ensures;
}
