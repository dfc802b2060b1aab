use Rattle.std.proofs.Common.{◌≡◌, length, ◌∙◌, arith}
use Rattle.exec_hash_group.proofs.KeyCells.{keys_below}
use Rattle.exec_hash_group.proofs.GroupRows.{groups_by_any}
use Rattle.exec_hash_group.proofs.group_by.groups_by.Goals as goal

pub at_places-requires : goal.at_places-requires
at_places-requires g c =
    keys_below c.args.rows.now.rows c.args.by.now c.as_slice-2.result.now c.as_slice-3.result.now
    (c.as_slice-2.ensures.value ∙ c.in_ok-columns.ensures) (c.as_slice-3.ensures.value ∙ c.in_ok-numbered.ensures.firsts)

pub returns : goal.returns
returns g c =
    let n : c.len.result ≡ length c.in_ok-numbered.numbered.firsts.items = omega arith in
    groups_by_any c.args.by.now c.args.rows.now.rows c.as_slice-2.result.now c.in_ok-keys.keys.items c.in_ok-numbered.numbered.numbers.items c.in_ok-numbered.numbered.firsts.items
    c.as_slice-3.result.now c.len.result c.requires.some c.in_ok-numbered.ensures.numbers c.in_ok-numbered.ensures.firsts
    (c.as_slice-2.ensures.value ∙ c.in_ok-columns.ensures) c.as_slice-3.ensures.value c.in_ok-keys.ensures n
