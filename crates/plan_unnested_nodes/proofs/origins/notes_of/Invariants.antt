use Rattle.plan_unnested_nodes.specs.PlanKinds.{AreNotesOf}
use Rattle.plan_unnested_nodes.proofs.origins.notes_of.Given as goal

abbrev pub invariant-loop-i : goal.invariant-loop-i
invariant-loop-i l = AreNotesOf l.kinds l.columns l.notes
