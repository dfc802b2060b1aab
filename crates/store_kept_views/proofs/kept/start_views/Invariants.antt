use Rattle.std.proofs.Common.{◌≡◌}
use Rattle.std.specs.Prelude.{take, map}
use Rattle.std.specs.Arc.{arc_value}
use Rattle.store_kept_views.specs.Kept.{AreKept, plans_of}
use Rattle.store_kept_views.proofs.kept.start_views.Given as goal

abbrev pub invariant-loop-plan : goal.invariant-loop-plan
invariant-loop-plan l = (plans_of l.views.items ≡ map (λ p. arc_value p) (take l.plan-index l.plans)) × AreKept l.tables l.views.items
