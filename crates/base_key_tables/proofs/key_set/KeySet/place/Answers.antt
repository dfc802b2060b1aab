use Rattle.std.proofs.Common.{ap, ◌∙◌}
use Rattle.std.specs.List.{position}
use Rattle.base_key_tables.proofs.SetLists.{place_is_position}
use Rattle.base_key_tables.proofs.key_set.KeySet.place.Goals as goal

pub returns : goal.returns
returns g c =
    c.get_index_of.ensures.index ∙ ap (position (g.K.PartialEq.eq c.args.key.now)) c.self.view_is
    ∙ place_is_position g.K.PartialEq.eq c.requires c.args.key.now c.args.self.now
