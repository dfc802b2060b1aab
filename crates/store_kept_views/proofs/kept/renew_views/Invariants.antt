use Rattle.std.proofs.Common.{◌≡◌}
use Rattle.std.specs.Prelude.{take}
use Rattle.store_kept_views.specs.Kept.{AreKept, plans_of}
use Rattle.store_kept_views.proofs.kept.renew_views.Given as goal

abbrev pub invariant-loop-view : goal.invariant-loop-view
invariant-loop-view l = (plans_of l.next.items ≡ plans_of (take l.view-index l.views)) × AreKept l.tables l.next.items
