use Rattle.std.proofs.Common.{◌∙◌}
use Rattle.exec_hash_group.proofs.parts.part_by_threads.Goals as goal

pub returns : goal.returns
returns g c = (c.in_ok-part.ensures.0 ∙ c.in_ok-rows.ensures, c.in_ok-part.ensures.1)
