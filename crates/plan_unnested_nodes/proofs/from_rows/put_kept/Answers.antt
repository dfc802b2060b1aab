use Rattle.std.proofs.Common.{◌∙◌}
use Rattle.plan_unnested_nodes.proofs.ApartNodes.{kept_none, kept_some}
use Rattle.plan_unnested_nodes.proofs.from_rows.put_kept.Goals as goal

pub returns-then-is_empty : goal.returns-then-is_empty
returns-then-is_empty c = kept_none c.args.builder.now.nodes c.args.rows c.args.conditions (c.is_empty.ensures.0 c.if-is_empty.true) c.requires

pub returns : goal.returns
returns c = kept_some c.args.builder.now.nodes _ c.args.rows c.args.conditions _ _ (c.get.ensures ∙ c.in_ok-condition.ensures) c.in_ok-id.ensures
