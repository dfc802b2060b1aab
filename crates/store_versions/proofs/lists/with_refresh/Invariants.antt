use Rattle.std.proofs.Common.{◌≡◌, take}
use Rattle.store_versions.proofs.lists.with_refresh.Given as goal

abbrev pub invariant-loop-earlier : goal.invariant-loop-earlier
invariant-loop-earlier l = l.longer.items ≡ take l.earlier-index l.list
