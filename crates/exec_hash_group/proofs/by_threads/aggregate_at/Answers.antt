use Rattle.std.proofs.Common.{ap, ◌∙◌}
use Rattle.std.proofs.lemmas.List.{get_or_default}
use Rattle.exec_hash_group.specs.Grouping.{aggregate_column}
use Rattle.exec_hash_group.proofs.by_threads.aggregate_at.Goals as goal

pub returns : goal.returns
returns c = λ a.
    let x = c.index-aggregates-place.result in
    c.in_ok-column.ensures
    ∙ ap (aggregate_column c.args.rows.now.rows c.args.numbers.now c.args.count) (c.index-aggregates-place.is ∙ get_or_default c.args.aggregates.now c.args.place x a c.requires.place)
