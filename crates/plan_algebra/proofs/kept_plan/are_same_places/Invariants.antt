use Rattle.std.proofs.Common.{◌≡◌, take}
use Rattle.plan_algebra.proofs.kept_plan.are_same_places.Given as goal

abbrev pub invariant-loop-i : goal.invariant-loop-i
invariant-loop-i l = take l.i l.some ≡ take l.i l.others
