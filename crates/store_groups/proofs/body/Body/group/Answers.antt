use Rattle.std.specs.Arc.{arc_value}
use Rattle.store_groups.proofs.BodyLists.{view_group, view_less}
use Rattle.store_groups.proofs.body.Body.group.Goals as goal

pub group-requires : goal.group-requires
group-requires c = view_less (arc_value c.self.inside.keys).items c.self.inside.groups c.args.self.now c.args.i c.self.invariant c.self.view_is c.requires

pub returns : goal.returns
returns c = view_group (arc_value c.self.inside.keys).items c.self.inside.groups c.args.self.now c.args.i c.group.result c.self.invariant c.self.view_is c.group.ensures
