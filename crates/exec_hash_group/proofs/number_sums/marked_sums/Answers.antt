use Rattle.std.proofs.Common.{◌≡◌, ◌∙◌, sym, ap, subst, arith, length, map}
use Rattle.std.proofs.lemmas.List.{length-map}
use Rattle.std.proofs.lemmas.Result.{IfOk-weaker}
use Rattle.base_null_marks.specs.Marks.{marked}
use Rattle.base_columns.specs.Lists.{AreBelow}
use Rattle.base_value.specs.declared.value.Value.TheVariants.{Null, Number}
use Rattle.exec_hash_group.specs.NumberSums.{AreSums}
use Rattle.exec_hash_group.specs.Unmarked.{unmarked}
use Rattle.exec_hash_group.proofs.MarkedSums.{marked_sums_are, map-unmarked, unmarked_long, unmarked_fewer, unmarked_below}
use Rattle.exec_hash_group.proofs.number_sums.marked_sums.Goals as goal

pub returns-then-are_none : goal.returns-then-are_none
returns-then-are_none c =
    let values = map (Number c.args._scale) c.args.coefficients.now in
    let plain : marked Null c.args.marks.now values ≡ values = ap (λ ms. marked Null ms values) (c.are_none.ensures c.if-are_none.true) in
    IfOk-weaker c.summed.result _ _
    (λ s h. subst (λ vs. AreSums c.args.numbers.now vs c.args.count s.terms.items s.ups.items s.downs.items) (sym plain) h)
    c.summed.ensures

pub summed-requires-2-clause-rows : goal.summed-requires-2-clause-rows
summed-requires-2-clause-rows c =
    ap length (c.as_slice.ensures.value ∙ c.in_ok-kept.ensures) ∙ unmarked_long c.args.marks.now c.args.numbers.now c.args.coefficients.now c.requires.rows
    ∙ sym (ap length (c.as_slice-2.ensures.value ∙ c.in_ok-present.ensures))

pub summed-requires-2-clause-small : goal.summed-requires-2-clause-small
summed-requires-2-clause-small c =
    let n = ap length (c.as_slice.ensures.value ∙ c.in_ok-kept.ensures) in
    let f = unmarked_fewer c.args.marks.now c.args.numbers.now in
    omega (arith, n, f, c.requires.small)

pub summed-requires-2-clause-numbers : goal.summed-requires-2-clause-numbers
summed-requires-2-clause-numbers c =
    subst (AreBelow c.args.count) (sym (c.as_slice.ensures.value ∙ c.in_ok-kept.ensures)) (unmarked_below c.args.count c.args.marks.now c.args.numbers.now c.requires.numbers)

pub returns : goal.returns
returns c =
    let ms = c.args.marks.now in
    let values = map (Number c.args._scale) c.args.coefficients.now in
    let long : length c.args.numbers.now ≡ length values = c.requires.rows ∙ sym (length-map c.args.coefficients.now (Number c.args._scale)) in
    let kept = c.as_slice.ensures.value ∙ c.in_ok-kept.ensures in
    let present = ap (map (Number c.args._scale)) (c.as_slice-2.ensures.value ∙ c.in_ok-present.ensures) ∙ map-unmarked (Number c.args._scale) ms c.args.coefficients.now in
    IfOk-weaker c.summed-2.result _ _
    (λ s h. marked_sums_are ms c.args.numbers.now values c.args.count s.terms.items s.ups.items s.downs.items long
    (subst (λ vs. AreSums (unmarked ms c.args.numbers.now) vs c.args.count s.terms.items s.ups.items s.downs.items) present
    (subst (λ ns. AreSums ns (map (Number c.args._scale) c.as_slice-2.result.now) c.args.count s.terms.items s.ups.items s.downs.items) kept h)))
    c.summed-2.ensures
