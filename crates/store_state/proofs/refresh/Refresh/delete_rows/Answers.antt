use Rattle.std.proofs.Common.{◌∙◌, ap, subst, sym}
use Rattle.std.specs.List.{All}
use Rattle.store_state.specs.Keys.{order_keys}
use Rattle.store_state.specs.Refresh.{IsOrderKey}
use Rattle.store_state.proofs.DeleteKeys.{delete_keys}
use Rattle.store_state.proofs.refresh.Refresh.delete_rows.Goals as goal

pub delete-requires : goal.delete-requires
delete-requires c = subst (All IsOrderKey) (sym (c.in_ok-keys.ensures ∙ ap order_keys c.in_ok-of.ensures)) (delete_keys c.args.rows.now c.requires)
