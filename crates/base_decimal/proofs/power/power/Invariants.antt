use Rattle.std.proofs.Common.{◌≡◌, ◌^◌}
use Rattle.base_decimal.proofs.power.power.Given as goal

abbrev pub invariant-loop-place : goal.invariant-loop-place
invariant-loop-place l = l.power ≡ 10 ^ l._place
