use Rattle.std.proofs.Common.{subst, sym}
use Rattle.store_state.specs.Moves.{AreMoved, no_rows}
use Rattle.store_state.proofs.RefreshMoves.{nothing_moved}
use Rattle.store_state.proofs.moves.no_moves.Goals as goal

pub returns : goal.returns
returns c = λ before.
    subst (λ added. AreMoved before added c.in_ok-removed.removed before) (sym c.in_ok-added.ensures)
    (subst (λ removed. AreMoved before no_rows removed before) (sym c.in_ok-removed.ensures) (nothing_moved before))
