use Rattle.std.proofs.Common.{◌∙◌, ap, length, sym}
use Rattle.std.specs.Arc.{arc_value}
use Rattle.store_groups.specs.Entries.{Entries}
use Rattle.store_groups.proofs.BodyLists.{zip_long}
use Rattle.store_groups.proofs.body.Body.len.Goals as goal

pub returns : goal.returns
returns c = c.len.ensures ∙ sym (zip_long (arc_value c.self.inside.keys).items c.self.inside.groups c.self.invariant) ∙ ap (λ (l : Entries). length l) c.self.view_is
