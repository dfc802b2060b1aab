use Rattle.std.proofs.Common.{◌≡◌, take, map, replicate}
use Rattle.base_row_laws.specs.Ranked.{true_rank}
use Rattle.base_value.specs.Truth.{truth_rank}
use Rattle.base_columns.proofs.batch.are_all_true.Given as goal

abbrev pub invariant-loop-truth : goal.invariant-loop-truth
invariant-loop-truth l = map truth_rank (take l.truth-index l.truths) ≡ replicate l.truth-index true_rank
