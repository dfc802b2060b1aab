use Rattle.std.proofs.Common.{◌++◌, ap, sym, ◌∙◌}
use Rattle.store_state.specs.Moves.{with_keys}
use Rattle.store_state.proofs.WantedRows.{with_keys_more}
use Rattle.store_state.proofs.parts.Parts.of_orders.Goals as goal

pub loop-part-preserved : goal.loop-part-preserved
loop-part-preserved c =
    c.in_ok-push_orders.ensures
    ∙ ap (λ l. l ++ with_keys c.args.keys.now c.part-item.result) c.loop-part.invariant
    ∙ sym (with_keys_more c.args.keys.now c.as_slice-parts.result.now c.loop-part.part-index c.part-item.result c.loop-part-test.true c.part-item.is)
