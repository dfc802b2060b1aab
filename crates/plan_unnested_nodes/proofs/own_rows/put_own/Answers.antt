use Rattle.std.proofs.Common.{◌∙◌, ap, map}
use Rattle.expr_scalar.specs.declared.expr.Expr.TheVariants.{Column}
use Rattle.plan_algebra.specs.declared.node.Node.TheVariants as node
use Rattle.plan_algebra.proofs.Fits.{project_fits}
use Rattle.plan_unnested_nodes.proofs.Grown.{put_within}
use Rattle.plan_unnested_nodes.proofs.OwnNodes.{own_is_put}
use Rattle.plan_unnested_nodes.proofs.own_rows.put_own.Goals as goal

pub put-requires : goal.put-requires
put-requires c = project_fits c.args.builder.now.nodes c.args.rows c.in_ok-listed.listed c.requires

pub put_conditions-requires : goal.put_conditions-requires
put_conditions-requires c = put_within c.args.builder.now.nodes (node.Project c.args.rows c.in_ok-listed.listed) c.in_ok-rows.ensures.number c.in_ok-rows.ensures.nodes

pub returns : goal.returns
returns c =
    own_is_put c.in_ok-conditions.ensures (c.in_ok-listed.ensures ∙ ap (map Column) (c.as_slice.ensures ∙ c.in_ok-columns.ensures)) c.in_ok-rows.ensures.number c.in_ok-rows.ensures.nodes
    c.in_ok-id.ensures
