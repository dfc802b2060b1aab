use Rattle.base_columns.specs.Lists.{one_list}
use Rattle.std.proofs.Common.{[]}
use Rattle.plan_algebra.specs.KeptPlans.{selected}
use Rattle.store_kept_views.proofs.Stages.{settled_stands}
use Rattle.store_kept_views.proofs.moving.make_anew.Goals as goal

pub returns-then-is_empty : goal.returns-then-is_empty
returns-then-is_empty c = λ ys old. settled_stands c.args.plan.now c.args.groups.now c.args.stale.now [] (selected c.args.plan.now (one_list c.args.parts.now)) ys (c.is_empty.ensures c.if-is_empty.true) old

pub returns : goal.returns
returns c = λ ys old. c.in_ok-put_parts.ensures [] ys old
