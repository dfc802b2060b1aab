use Rattle.std.proofs.Common.{ℕ, List, [], length, ap, ◌∙◌}
use Rattle.std.specs.List.{range_with_len}
use Rattle.std.proofs.lemmas.List.FromFn.{length-range_with_len}
use Rattle.base_row_laws.specs.Ranked.{ranked, true_rank}
use Rattle.base_set_rows.specs.Numbered.{numbers_taken}
use Rattle.base_columns.specs.Lists.{gathered}
use Rattle.plan_algebra.specs.Plans.{groups}
use Rattle.exec_hash_group.specs.Grouping.{group_numbers}
use Rattle.exec_set_rows.proofs.TakenRows.{taken_are}
use Rattle.exec_set_rows.proofs.classes.by_classes.Goals as goal

pub returns-clause-width : goal.returns-clause-width
returns-clause-width g c =
    c.in_ok-bag.ensures.width ∙ c.in_ok-taken.ensures.width ∙ c.in_ok-part.ensures.classes.width
    ∙ length-range_with_len 0 c.in_ok-both.both.width ∙ c.in_ok-both.ensures.width

pub returns-clause-rows : goal.returns-clause-rows
returns-clause-rows g c =
    let kind = c.args.kind in
    let all = c.args.all in
    let xs = c.args.left.now.rows in
    let both = c.in_ok-both.both.rows in
    let w = c.in_ok-both.both.width in
    let by : List ℕ = range_with_len 0 w in
    let keys = c.in_ok-part.part.keys.rows in
    let numbers = c.in_ok-part.part.numbers.items in
    c.in_ok-bag.ensures.rows
    ∙ taken_are kind all w xs c.args.right.now.rows both keys c.in_ok-taken.taken.rows numbers c.in_ok-both.ensures.rows c.row_classes.ensures.wide
    (c.in_ok-part.ensures.classes.numbers_are ∙ ap (group_numbers by) c.in_ok-part.ensures.rows)
    (c.in_ok-part.ensures.classes.keys_are ∙ ap (groups by []) c.in_ok-part.ensures.rows)
    (c.in_ok-taken.ensures.rows ∙ ap (λ s. gathered (ranked [] true_rank) keys (numbers_taken kind all s numbers (length keys))) c.len.ensures)
