use Rattle.std.proofs.Common.{◌∙◌}
use Rattle.exec_hash_group.proofs.parts.grouped_part.Goals as goal

pub returns : goal.returns
returns c = (c.in_ok-part.ensures.0 ∙ c.in_ok-rows.ensures, c.in_ok-part.ensures.1)
