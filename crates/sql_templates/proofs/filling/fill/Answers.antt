use Rattle.std.proofs.Common.{◌≡◌, ◌∙◌, true, length, None, Ok, rules, refl, sym, ap}
use Rattle.sql_templates.specs.Templates.{filled_query, first_misfit, is_query, template_of}
use Rattle.sql_templates.proofs.Misfits.{query_is}
use Rattle.sql_templates.proofs.Scripts.{filled_is_script}
use Rattle.sql_templates.proofs.filling.fill.Goals as goal

pub returns-in-Ok-clause-script : goal.returns-in-Ok-clause-script
returns-in-Ok-clause-script c =
    let query : is_query c.args.number ≡ true = sym c.is_query.ensures ∙ c.if-not-is_query.false in
    let count : length c.args.values.now ≡ length (template_of c.args.number).kinds = search rules in
    let none : first_misfit 1 (template_of c.args.number).kinds c.args.values.now ≡ None = search rules in
    let text : filled_query c.args.number c.args.values.now ≡ Ok c.in-Ok.script.items = query_is c.args.number c.args.values.now query count none ∙ ap Ok (search rules) in
    let same : length c.kinds-kinds.result.now ≡ length c.args.values.now = search rules in
    filled_is_script c.args.number c.args.values.now c.in-Ok.script.items (c.in-None.ensures.writable refl same) text
