use Rattle.std.proofs.Common.{sym, subst}
use Rattle.expr_conditions.specs.Ranks.{rank_of}
use Rattle.exec_parallel_scan.specs.Kept.{StandFor}
use Rattle.exec_parallel_scan.proofs.Narrowing.{stand_at_first}
use Rattle.exec_parallel_scan.proofs.kept.asked_first.Goals as goal

pub returns-clause-rows : goal.returns-clause-rows
returns-clause-rows c =
    let all = c.args.batch.now.rows in
    let says = rank_of c.args.e.now in
    let truths = c.in_ok-truths.truths.items in
    subst (λ b. StandFor all says b.rows truths) (sym c.in_ok-rows.ensures) (stand_at_first all says truths c.in_ok-truths.ensures.ranks)
