use Rattle.std.proofs.Common.{rules}
use Rattle.plan_algebra.specs.declared.node.Node.TheVariants as node
use Rattle.plan_algebra.proofs.Fits.{project_fits}
use Rattle.plan_unnested_nodes.proofs.ApartNodes.{list_apart}
use Rattle.plan_unnested_nodes.proofs.Grown.{put_within}
use Rattle.plan_unnested_nodes.proofs.from_rows.put_apart_list.Goals as goal

pub put-requires-2 : goal.put-requires-2
put-requires-2 c =
    project_fits c.put.new.self.nodes c.in_ok-all.all c.args.own
    (put_within c.args.builder.now.nodes (node.Scan c.args.table) c.in_ok-all.ensures.number
    c.in_ok-all.ensures.nodes)

pub returns : goal.returns
returns c = λ n es is.
    list_apart
    (record { rows = c.in_ok-rows.rows; width = c.in_ok-width.width; conditions = c.new-conditions.result })
    n es is
    (record { number = c.in_ok-all.ensures.number; nodes = c.in_ok-all.ensures.nodes })
    (record { number = c.in_ok-rows.ensures.number; nodes = c.in_ok-rows.ensures.nodes })
    (search rules) c.new-conditions.ensures
