use Rattle.std.proofs.Common.{◌++◌, ap, ◌∙◌}
use Rattle.std.proofs.lemmas.List.{map-append}
use Rattle.base_value.specs.Truth.{standing_rank}
use Rattle.exec_hash_group.specs.Standings.{ranks, row_ranks}
use Rattle.exec_hash_group.proofs.Ranks.{all_true_ranks}
use Rattle.exec_hash_group.proofs.filling.all_standings.Goals as goal

pub returns : goal.returns
returns c =
    ap ranks c.in_ok-append.ensures.items ∙ map-append standing_rank c.in_ok-standings.standings.items c.in_ok-more.more.items
    ∙ ap (λ rs. rs ++ ranks c.in_ok-more.more.items) c.in_ok-standings.ensures
    ∙ ap (λ rs. row_ranks c.args.groups.now.rows ++ rs) (ap ranks (c.in_ok-more.ensures.items_if_clones_equal (λ y h. h)) ∙ all_true_ranks c.args.n)
