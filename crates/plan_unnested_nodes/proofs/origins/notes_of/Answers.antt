use Rattle.std.proofs.Common.{sym, subst}
use Rattle.plan_unnested_nodes.specs.PlanKinds.{AreNotesOf}
use Rattle.plan_unnested_nodes.proofs.Turns.{no_notes_of}
use Rattle.plan_unnested_nodes.proofs.origins.notes_of.Goals as goal

pub loop-i-init : goal.loop-i-init
loop-i-init c = subst (AreNotesOf c.args.kinds.now c.args.columns.now) (sym c.new-notes.ensures) (no_notes_of c.args.kinds.now c.args.columns.now)
