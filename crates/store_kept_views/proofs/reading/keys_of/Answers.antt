use Rattle.std.proofs.Common.{get_or, ◌∙◌}
use Rattle.base_columns.specs.Batches.{column_at}
use Rattle.store_kept_views.proofs.ReadingLists.{column_values, map_more}
use Rattle.store_kept_views.proofs.reading.keys_of.Goals as goal

pub loop-place-preserved : goal.loop-place-preserved
loop-place-preserved c =
    map_more (λ place. column_at c.args.rows.now.rows place) c.args.places.now c.loop-place.place-index 0 c.loop-place.columns.items c.push.new.self.items c.in_ok-column.column c.loop-place-test.true
    c.loop-place.invariant (c.in_ok-column.ensures ∙ column_values (get_or c.args.places.now c.loop-place.place-index 0) c.args.rows.now.rows) c.in_ok-push.ensures.items
