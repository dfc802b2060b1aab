use Rattle.std.proofs.Common.{sym}
use Rattle.plan_predicate_sinking.proofs.SameNodes.{SameRows-refl}
use Rattle.plan_predicate_sinking.proofs.Sinking.{sunk_over}
use Rattle.plan_predicate_sinking.proofs.sink.selected_above.Goals as goal

pub returns : goal.returns
returns c =
    sunk_over c.args.n c.args.tree.now c.in_ok-new.new c.in_ok-new-2.new c.args.conditions
    (SameRows-refl c.args.n c.args.tree.now c.in_ok-new.new (sym c.in_ok-new.ensures))
    c.in_ok-new-2.ensures
