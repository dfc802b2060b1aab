use Rattle.std.proofs.Common.{replicate, ap, ◌∙◌}
use Rattle.exec_hash_group.proofs.GroupRows.{one_group_is}
use Rattle.exec_hash_group.proofs.group_by.one_group.Goals as goal

pub returns : goal.returns
returns c =
    one_group_is c.args.rows.now.rows c.new-keys.result.items c.in_ok-numbers.numbers.items c.new-keys.ensures.items
    (c.in_ok-numbers.ensures.items_if_clones_equal (λ y h. h) ∙ ap (λ n. replicate n 0) c.len.ensures)
