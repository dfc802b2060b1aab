use Rattle.std.proofs.Common.{subst, sym, ◌≡◌, length, []}
use Rattle.std.specs.List.{All}
use Rattle.base_columns.specs.Lists.{gathered}
use Rattle.plan_algebra.proofs.LiveRows.{gathered_wide}
use Rattle.plan_algebra.proofs.piece.live_batch.Goals as goal

pub returns-clause-width : goal.returns-clause-width
returns-clause-width c =
    subst (λ w. All (λ row. length row ≡ w) (gathered [] c.args.segment.now c.args.places.now)) (sym c.in_ok-batch.ensures.width)
    (gathered_wide c.args.segment.now c.args.places.now c.batch.result.now.width c.batch.ensures.width c.requires)
