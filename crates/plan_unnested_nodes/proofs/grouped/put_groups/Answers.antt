use Rattle.std.proofs.Common.{map, refl, ap, ◌∙◌, inl}
use Rattle.expr_scalar.specs.declared.expr.Expr.TheVariants.{Column}
use Rattle.plan_algebra.specs.declared.node.Node.TheVariants as node
use Rattle.plan_algebra.proofs.Fits.{group_fits, project_fits}
use Rattle.plan_unnested_nodes.proofs.Grown.{put_within}
use Rattle.plan_unnested_nodes.proofs.Regrouped.{again_put}
use Rattle.plan_unnested_nodes.proofs.grouped.put_groups.Goals as goal

pub put-requires : goal.put-requires
put-requires c = group_fits c.args.builder.now.nodes c.args.rows c.in_ok-keys.keys c.in_ok-computed.computed c.requires

pub put-requires-2 : goal.put-requires-2
put-requires-2 c =
    project_fits c.put.new.self.nodes c.in_ok-groups.groups c.in_ok-list.list
    (put_within c.args.builder.now.nodes (node.Group c.args.rows c.in_ok-keys.keys c.in_ok-computed.computed)
    c.in_ok-groups.ensures.number c.in_ok-groups.ensures.nodes)

pub returns-then-not-are_below : goal.returns-then-not-are_below
returns-then-not-are_below c = inl c.in_ok-id.ensures

pub returns : goal.returns
returns c =
    again_put c.args.by.now (c.are_below.ensures c.if-not-are_below.false) c.in_ok-keys.ensures
    c.in_ok-computed.ensures refl c.in_ok-columns.ensures
    (c.in_ok-list.ensures ∙ ap (map Column) c.deref.ensures.value)
    (record { number = c.in_ok-groups.ensures.number; nodes = c.in_ok-groups.ensures.nodes })
    (record { number = c.in_ok-id-2.ensures.number; nodes = c.in_ok-id-2.ensures.nodes })
