use Rattle.std.proofs.Common.{◌≡◌, ◌+◌, ◌-◌, drop, length, take}
use Rattle.sql_templates.specs.Templates.{first_misfit}
use Rattle.sql_templates.specs.Writable.{AreWritable}
use Rattle.sql_templates.proofs.filling.misfit.Given as goal

abbrev pub invariant-places : goal.invariant-places
invariant-places l = (first_misfit 1 l.kinds l.values ≡ first_misfit (l.at + 1) (drop l.at l.kinds) (drop l.at l.values)) × AreWritable (take l.at l.values)

abbrev pub decreases-places : goal.decreases-places
decreases-places l = length l.kinds - l.at
