use Rattle.std.proofs.Common.{◌≡◌, ◌∙◌, [], ap, rules, drop, subst}
use Rattle.std.specs.Arc.{arc_value}
use Rattle.std.specs.Prelude.{OnOk}
use Rattle.left_right.specs.Sides.{view}
use Rattle.store_snapshots.proofs.Results.{of_value, on_both}
use Rattle.store_snapshots.proofs.Steps.{admitted, fits_nobody, names_it, nowhere}
use Rattle.store_snapshots.specs.Rule.{on_shelf, own_view}
use Rattle.store_snapshots.proofs.rule.start.Goals as goal

pub publish_as-writer-requires : goal.publish_as-writer-requires
publish_as-writer-requires g c next is views h at =
    let none : drop c.in_ok-writer.writer.behind c.in_ok-writer.writer.log.items ≡ [] = search rules in
    let same : on_shelf next ≡ on_shelf c.in_ok-writer.writer.desk.shown.value = simp none at is in
    names_it _ (on_shelf c.in_ok-writer.writer.desk.shown.value) (on_shelf next) views h same

pub new-requires-clause-rule : goal.new-requires-clause-rule
new-requires-clause-rule g c =
    let first = on_shelf {A = g.row.A.Denot} (record { directory = c.args.directory }) in
    admitted first _ [] (nowhere first) (fits_nobody first)

pub returns-in-Ok : goal.returns-in-Ok
returns-in-Ok g c =
    let writer = c.in_ok-writer.writer in
    let after = c.publish_as-writer.result.0.desk in
    let made = of_value _ c.new.result writer c.in_ok-writer.ensures.value c.new.ensures in
    let none : drop writer.behind writer.log.items ≡ [] = made.1 in
    let first : on_shelf writer.desk.shown.value ≡ arc_value c.args.directory = ap (λ s. on_shelf s) made.0 in
    subst (λ r. OnOk r ((on_shelf after.shown.value ≡ arc_value c.args.directory) × (view after.place ≡ own_view (arc_value c.args.directory)))) c.in-Ok.is
    (on_both _ _ c.publish_as-writer.result.1 c.publish_as-writer.ensures.values c.publish_as-writer.ensures.rule
    (λ t values rule.
    let given = values.0 in
    let same : on_shelf after.shown.value ≡ on_shelf writer.desk.shown.value = simp none at given in
    (same ∙ first, rule ∙ ap own_view (same ∙ first))))
