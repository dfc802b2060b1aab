use Rattle.std.proofs.Common.{◌≡◌, ◌∙◌, Ok, ap}
use Rattle.std.specs.Arc.{arc_value}
use Rattle.store_state.specs.Refresh.{after}
use Rattle.store_kept_views.specs.Kept.{KeptRows}
use Rattle.store_kept_views.proofs.RefreshMoves.{moved_to}
use Rattle.store_kept_views.proofs.attached.KeptOfAttachment.after_refresh.Goals as goal

pub moved-requires : goal.moved-requires
moved-requires g c =
    let leaves : after c.args.before.now c.args.refresh.now ≡ Ok (arc_value c.in_ok-state.state) = rw c.in_ok-state.ensures c.requires.leaves in
    moved_to c.self.inside.kept.tables c.args.before.now c.in_ok-moves.moves.added c.in_ok-moves.moves.removed (arc_value c.in_ok-state.state) c.args.refresh.now
    (ap (λ (k : KeptRows). k.tables) (c.self.view_is ∙ c.requires.right)) leaves c.in_ok-moves.ensures
