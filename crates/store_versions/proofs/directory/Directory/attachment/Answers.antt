use Rattle.std.proofs.Common.{ap, subst, ◌∙◌}
use Rattle.store_versions.specs.Trials.{tables_of}
use Rattle.store_versions.proofs.directory.Directory.attachment.Goals as goal

pub returns : goal.returns
returns g c =
    subst (g.A.Attachment.is_right c.self.inside.attachment)
    (c.self.invariant.0.last.left ∙ ap tables_of c.self.view_is) c.self.invariant.1
