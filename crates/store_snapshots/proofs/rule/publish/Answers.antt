use Rattle.std.proofs.Common.{◌≡◌, ◌∙◌, [], ◌∷◌, ◌++◌, rules, drop, ap, sym, subst}
use Rattle.left_right.specs.Sides.{view}
use Rattle.std.specs.Arc.{arc_value}
use Rattle.std.proofs.lemmas.List.Sums.{fold-append}
use Rattle.store_snapshots.proofs.Results.{on_both}
use Rattle.store_snapshots.proofs.Steps.{moves}
use Rattle.store_snapshots.specs.Rule.{MayFollow, entered, on_shelf}
use Rattle.store_versions.specs.Trials.{Trials}
use Rattle.store_snapshots.proofs.rule.publish.Goals as goal

pub publish_as-requires : goal.publish_as-requires
publish_as-requires g c next is views h at =
    let pending : drop c.append.new.self.behind c.append.new.self.log.items ≡ drop c.args.writer.behind c.args.writer.log.items ++ (record { directory = c.args.next.1 }) ∷ [] = search rules in
    let same : on_shelf next ≡ arc_value c.args.next.1 = simp (pending, fold-append) at is in
    let shown : on_shelf c.append.new.self.desk.shown.value ≡ on_shelf c.args.writer.desk.shown.value = ap (λ d. on_shelf d.shown.value) c.append.ensures.desk in
    moves _ (view c.append.new.self.desk.place) (on_shelf c.append.new.self.desk.shown.value) (on_shelf next) views h at
    (subst (λ (p : Trials × Trials). MayFollow p.0 p.1) (λ i. (sym shown i, sym same i)) c.requires)

pub returns-clause-shown : goal.returns-clause-shown
returns-clause-shown g c =
    let after = c.publish_as.result.0.desk in
    let pending : drop c.append.new.self.behind c.append.new.self.log.items ≡ drop c.args.writer.behind c.args.writer.log.items ++ (record { directory = c.args.next.1 }) ∷ [] = search rules in
    let place : view c.append.new.self.desk.place ≡ view c.args.writer.desk.place = ap (λ d. view d.place) c.append.ensures.desk in
    on_both _ _ c.publish_as.result.1 c.publish_as.ensures.values c.publish_as.ensures.rule
    (λ t values rule.
    let is = values.0 in
    let same : on_shelf after.shown.value ≡ arc_value c.args.next.1 = simp (pending, fold-append) at is in
    (same, rule ∙ (λ i. entered (place i) (same i))))
