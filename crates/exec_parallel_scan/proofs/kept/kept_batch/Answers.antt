use Rattle.std.proofs.Common.{sym, ap, ◌∙◌}
use Rattle.base_row_laws.specs.Operators.{select}
use Rattle.expr_conditions.specs.Ranks.{rank_of, all_rank}
use Rattle.expr_conditions.proofs.Ranks.{rank_All}
use Rattle.exec_parallel_scan.proofs.Narrowing.{select_same}
use Rattle.exec_parallel_scan.proofs.kept.kept_batch.Goals as goal

pub returns-then-not-is_empty-clause-rows : goal.returns-then-not-is_empty-clause-rows
returns-then-not-is_empty-clause-rows c =
    let rows = c.args.batch.now.rows in
    let es = c.in-All.es in
    c.in_ok-kept.ensures.rows ∙ ap (λ l. select (all_rank l) rows) c.as_slice.ensures
    ∙ select_same (all_rank es) (rank_of c.args.e.now) (λ row. sym (ap (λ x. rank_of x row) c.in-All.is ∙ rank_All es row)) rows
