use Rattle.std.proofs.Common.{sym, ap, ◌∙◌, map, subst}
use Rattle.std.specs.Prelude.{min}
use Rattle.base_value.specs.Truth.{truth_rank, lesser}
use Rattle.exec_column_operators.specs.Zips.{zip_with}
use Rattle.expr_conditions.specs.Ranks.{rank_of}
use Rattle.exec_parallel_scan.specs.Kept.{StandFor}
use Rattle.exec_parallel_scan.proofs.Narrowing.{stand_of_both, stand_of_left}
use Rattle.exec_parallel_scan.proofs.kept.asked_of_rest.Goals as goal

pub returns-then-keep_few-clause-rows : goal.returns-then-keep_few-clause-rows
returns-then-keep_few-clause-rows c = λ f all s.
    stand_of_left all f (rank_of c.args.e.now) c.args.kept.rows.rows c.in_ok-rows.rows.rows c.args.kept.truths.items c.in_ok-truths.truths.items s
    (λ g h. c.in_ok-rows.ensures.rows g (ap (map truth_rank) c.as_slice-then-keep_few.ensures.value ∙ h))
    c.in_ok-truths.ensures.ranks

pub returns-clause-rows : goal.returns-clause-rows
returns-clause-rows c = λ f all s.
    let rows = c.args.kept.rows.rows in
    let truths = c.args.kept.truths.items in
    let more = c.in_ok-more.more.items in
    let are = c.in_ok-truths-2.ensures ∙ ap (λ l. zip_with lesser l c.as_slice-3.result.now) c.as_slice-2.ensures.value ∙ ap (zip_with lesser truths) c.as_slice-3.ensures.value in
    subst (λ l. StandFor all (λ row. min (f row) (rank_of c.args.e.now row)) rows l) (sym are)
    (stand_of_both all f (rank_of c.args.e.now) rows truths more s c.in_ok-more.ensures.ranks)
