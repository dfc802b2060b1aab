use Rattle.std.proofs.Common.{◌≡◌, ◌∙◌, ap, length, map, rules, arith}
use Rattle.std.proofs.lemmas.Grind.{common_steps}
use Rattle.std.proofs.lemmas.List.{length-map}
use Rattle.base_null_marks.proofs.MarkLaws.{length-marked}
use Rattle.base_value.specs.declared.value.Value.TheVariants.{Null, Number}
use Rattle.exec_hash_group.proofs.group_by.argument_aggregates.Goals as goal

pub sum_column-requires-clause-rows : goal.sum_column-requires-clause-rows
sum_column-requires-clause-rows c =
    let a = c.in-Sum-Some in
    let long : length c.args.numbers.now ≡ length a.coefficients.now =
    c.requires.rows ∙ ap length a.ensures ∙ length-marked Null a.marks.now (map (Number a.own) a.coefficients.now) ∙ length-map a.coefficients.now (Number a.own) in
    first_of (search rules, cc, grind (arith, common_steps))
