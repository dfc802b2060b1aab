use Rattle.std.proofs.Common.{◌≡◌, map, length}
use Rattle.base_row_laws.specs.Bags.{Each}
use Rattle.sql_binder_steps.specs.Names.{sight_of}
use Rattle.sql_binder.specs.Nests.{BindsSetPart}
use Rattle.sql_binder.specs.Blocks as spec
use Rattle.sql_binder.specs.Binding.{block_meaning, set_part_meaning}
use Rattle.sql_binder.proofs.subqueries.QueryBinder.combined.Given as goal

abbrev pub invariant-parts : goal.invariant-parts
invariant-parts g l = record {
  parts : Each (BindsSetPart (goal.Q-pre g l.self.query) (goal.Q-post g l.self.query)) l.left;
  same : spec.combined (block_meaning l.first) (map set_part_meaning l.parts) (sight_of l.site)
      l.fn.state
      ≡ spec.combined_from (sight_of l.site) l.done (map set_part_meaning l.left) l.state;
}

abbrev pub decreases-parts : goal.decreases-parts
decreases-parts g l = length l.left
