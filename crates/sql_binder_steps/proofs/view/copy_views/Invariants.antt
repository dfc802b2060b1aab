use Rattle.std.proofs.Common.{◌≡◌, take}
use Rattle.sql_binder_steps.proofs.view.copy_views.Given as goal

abbrev pub invariant-loop-v : goal.invariant-loop-v
invariant-loop-v l = l.copies ≡ take l.v-index l.all
