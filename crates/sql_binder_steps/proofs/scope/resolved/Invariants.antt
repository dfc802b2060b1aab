use Rattle.std.proofs.Common.{◌≡◌, ◌+◌, length, map}
use Rattle.sql_binder_steps.specs.Names.{resolved_from, resolved, sight_of, level_of}
use Rattle.sql_binder_steps.proofs.scope.resolved.Given as goal

abbrev pub invariant-levels : goal.invariant-levels
invariant-levels l = record {
  counted : l.out + length l.levels ≡ length l.site.levels.now;
  same : resolved (sight_of l.site) l.wanted
      ≡ resolved_from l.wanted l.seen l.out (map level_of l.levels);
}

abbrev pub decreases-levels : goal.decreases-levels
decreases-levels l = length l.levels
