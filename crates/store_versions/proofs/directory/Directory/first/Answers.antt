use Rattle.std.proofs.Common.{subst, sym}
use Rattle.store_versions.proofs.directory.Directory.first.Goals as goal

pub new-last-requires : goal.new-last-requires
new-last-requires g c =
    subst (g.A.Attachment.is_right c.in_ok-attachment.attachment) (sym c.in_ok-state.ensures)
    c.in_ok-attachment.ensures
