use Rattle.std.proofs.Common.{subst, sym}
use Rattle.std.specs.Arc.{arc_value}
use Rattle.store_versions.proofs.kept.KeptVersion.another.Goals as goal

pub invariant_of-result : goal.invariant_of-result
invariant_of-result g c =
    subst (g.A.Attachment.is_right c.in_ok-attachment.attachment) (sym c.in_ok-state.ensures)
    (c.in_ok-attachment.ensures (arc_value c.self.inside.state) c.self.invariant)
