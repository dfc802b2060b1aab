use Rattle.std.proofs.Common.{◌≡◌, ◌+◌, [], ◌∷◌, ◌++◌, ap, sym, ◌∙◌, arith, take}
use Rattle.std.proofs.lemmas.List.{take_all}
use Rattle.exec_parallel_scan.specs.ExpressionGroups.{at_place, place_aggregates}
use Rattle.exec_parallel_scan.proofs.ByExpressions.{places_more}
use Rattle.exec_parallel_scan.proofs.expression_groups.place_aggregates.Goals as goal

pub loop-aggregate-preserved : goal.loop-aggregate-preserved
loop-aggregate-preserved c =
    let at = c.loop-aggregate in
    let all = c.args.aggregates.now in
    let i = at.aggregate-index in
    let place : c.in_ok-place.place ≡ c.args.first + i = c.in_ok-place.ensures ∙ at.invariant.1 in (
      c.in_ok-push.ensures.items ∙ ap (λ l. l ++ c.in_ok-aggregate.aggregate ∷ []) at.invariant.0
          ∙ ap (λ a. place_aggregates c.args.first (take i all) ++ a ∷ []) (c.in_ok-aggregate.ensures ∙ ap (λ p. at_place p c.aggregate-item.result) place)
          ∙ sym (places_more c.args.first all i c.aggregate-item.result c.loop-aggregate-test.true c.aggregate-item.is),
      omega (arith, place),
    )

pub returns : goal.returns
returns c = c.loop-aggregate.invariant.0 ∙ ap (place_aggregates c.args.first) (take_all c.loop-aggregate.aggregate-index c.args.aggregates.now (omega arith))
