use Rattle.std.proofs.Common.{◌∙◌, ◌++◌, ◌∷◌, [], ap}
use Rattle.std.specs.Prelude.{map}
use Rattle.std.proofs.lemmas.List.{map-append}
use Rattle.base_value.specs.Truth.{standing_rank}
use Rattle.store_kept_views.proofs.ShownColumns.{least_more}
use Rattle.store_kept_views.proofs.columns.put_standings.Goals as goal

pub loop-i-preserved : goal.loop-i-preserved
loop-i-preserved c =
    least_more (map standing_rank c.args.standings.now.items) (map standing_rank c.loop-i.standings.items) (map standing_rank c.push.new.self.items) c.args.page.now c.loop-i.i c.group-group.result
    c.group-group.ensures c.loop-i.invariant
    (ap (λ l. map standing_rank l) c.in_ok-push.ensures.items ∙ map-append standing_rank c.loop-i.standings.items (c.standing.result ∷ [])
    ∙ ap (λ n. map standing_rank c.loop-i.standings.items ++ n ∷ []) c.standing.ensures)
