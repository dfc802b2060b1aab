use Rattle.std.proofs.Common.{◌∙◌, ap}
use Rattle.std.specs.Prelude.{◌++◌, ◌∷◌, [], None, slice_index_or}
use Rattle.plan_unnested_nodes.proofs.Turns.{map_put_at}
use Rattle.plan_unnested_nodes.proofs.origins.picked_kinds.Goals as goal

pub loop-column-preserved : goal.loop-column-preserved
loop-column-preserved c =
    map_put_at (λ k. slice_index_or c.args.kinds.now k None) c.args.columns.now c.loop-column.column-index 0 c.loop-column.own c.push.new.self
    c.loop-column-test.true c.loop-column.invariant (c.in_ok-push.ensures.ok ∙ ap (λ k. c.loop-column.own ++ k ∷ []) c.known_at.ensures)
