use Rattle.std.proofs.Common.{◌∙◌, ap}
use Rattle.plan_algebra.specs.declared.tree.DepTree.TheVariants as t
use Rattle.plan_predicate_sinking.proofs.Apart.{selected_none, selected_some}
use Rattle.plan_predicate_sinking.proofs.joined.selected.Goals as goal

pub returns-then-is_empty : goal.returns-then-is_empty
returns-then-is_empty c =
    selected_none c.args.input c.args.own (c.is_empty.ensures.0 c.if-is_empty.true)

pub returns : goal.returns
returns c = selected_some c.args.input c.in_ok-new.new c.args.own
    (c.in_ok-new.ensures ∙ ap (λ y. t.Select c.args.input y) c.in_ok-condition.ensures)
