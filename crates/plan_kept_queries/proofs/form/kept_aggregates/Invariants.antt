use Rattle.std.proofs.Common.{◌≡◌, true}
use Rattle.std.specs.Prelude.{take}
use Rattle.std.specs.List.{list_all}
use Rattle.plan_kept_queries.specs.Forms.{AreItems, is_kept_aggregate}
use Rattle.plan_kept_queries.proofs.form.kept_aggregates.Given as goal

abbrev pub invariant-loop-a : goal.invariant-loop-a
invariant-loop-a l = (list_all is_kept_aggregate (take l.a-index l.all) ≡ true)
    × AreItems (take l.a-index l.all) l.kept
