use Rattle.std.proofs.Common.{sym, ◌∙◌}
use Rattle.exec_parallel_scan.proofs.MergedParts.{as_many}
use Rattle.exec_parallel_scan.proofs.merged.merged_values.Goals as goal

pub merged_by_number-requires-clause-rows : goal.merged_by_number-requires-clause-rows
merged_by_number-requires-clause-rows g c = c.requires.long ∙ sym (as_many c.args.aggregate.now c.args.parts.now) ∙ sym c.in_ok-states.ensures.count
