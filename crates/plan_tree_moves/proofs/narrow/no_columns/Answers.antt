use Rattle.std.proofs.Common.{◌∙◌}
use Rattle.plan_predicate_sinking.proofs.Narrowing.{no_columns_list, no_columns_other}
use Rattle.plan_tree_moves.proofs.narrow.no_columns.Goals as goal
use Rattle.plan_tree_moves.proofs.narrow.no_columns.Goals.{in-Project+in_ok-copy-in-Project, in_default+in_ok-copy-in_default}

pub returns : goal.returns
returns c = λ n. elim c.match-input.branch [
  | in-Project+in_ok-copy-in-Project w ↦ no_columns_list n w.in-Project.t c.args.input.now c.match-input.copy _ c.in_ok-new.new _ c.new-none.result w.in-Project.is w.get.ensures (w.copy-is ∙ w.in_ok-copy-in-Project.ensures) c.new-none.ensures c.in_ok-new.ensures
  | in_default+in_ok-copy-in_default w ↦ no_columns_other n c.args.input.now c.match-input.copy c.in_ok-new.new c.new-none.result (w.copy-is ∙ w.in_ok-copy-in_default.ensures) c.new-none.ensures c.in_ok-new.ensures
]
