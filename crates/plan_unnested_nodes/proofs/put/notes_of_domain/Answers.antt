use Rattle.std.proofs.Common.{refl, subst}
use Rattle.plan_unnested_nodes.specs.PlanKinds.{AreOrigins}
use Rattle.plan_unnested_nodes.proofs.Sides.{none_noted}
use Rattle.plan_unnested_nodes.proofs.put.notes_of_domain.Goals as goal

pub returns-then-is_kept : goal.returns-then-is_kept
returns-then-is_kept c =
    none_noted c.args.builder.now.nodes c.args.outer c.args.columns.now c.new.result c.new.ensures

pub returns : goal.returns
returns c =
    subst (λ ns. AreOrigins ns c.args.outer c.args.columns.now c.in_ok-notes.notes)
    c.as_slice.ensures c.in_ok-notes.ensures
