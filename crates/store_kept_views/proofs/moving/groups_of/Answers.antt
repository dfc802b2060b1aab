use Rattle.std.proofs.Common.{[]}
use Rattle.base_columns.specs.Lists.{one_list}
use Rattle.store_kept_views.proofs.Stages.{nothing_stands, put_first}
use Rattle.store_kept_views.proofs.moving.groups_of.Goals as goal

pub put_parts-requires : goal.put_parts-requires
put_parts-requires c = record {
  anew = [];
  others = [];
  stands = nothing_stands c.args.plan.now c.in_ok-groups.groups c.in_ok-stale.stale c.in_ok-groups.ensures c.in_ok-stale.ensures;
}

pub returns : goal.returns
returns c =
    put_first c.args.plan.now c.put_parts.new.groups c.in_ok-stale.stale (one_list c.args.parts.now) c.in_ok-stale.ensures
    (c.in_ok-put_parts.ensures [] [] (nothing_stands c.args.plan.now c.in_ok-groups.groups c.in_ok-stale.stale c.in_ok-groups.ensures c.in_ok-stale.ensures))
