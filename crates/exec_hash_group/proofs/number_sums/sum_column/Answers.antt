use Rattle.std.proofs.Common.{ℕ, List, ◌++◌, ◌∷◌, [], map, get_or, arith, ap, ◌∙◌}
use Rattle.std.proofs.lemmas.List.{get_or_default}
use Rattle.base_null_marks.specs.Marks.{marked}
use Rattle.base_value.specs.declared.value.Value.TheVariants.{Null, Number}
use Rattle.base_row_laws.specs.Aggregates.{sum_of}
use Rattle.expr_aggregates.specs.Values.{reading}
use Rattle.exec_hash_group.specs.ByNumber.{values_by_number}
use Rattle.exec_hash_group.specs.NumberSums.{sum_value}
use Rattle.exec_hash_group.proofs.NumberSums.{sum_more, sums_fit}
use Rattle.exec_hash_group.proofs.number_sums.sum_column.Goals as goal

pub sum_value-requires-clause-above : goal.sum_value-requires-clause-above
sum_value-requires-clause-above c =
    let ups : List ℕ = c.in_ok-terms.field-0.ups.items in
    let number : ℕ = c.loop-number.number in
    let are = c.in_ok-terms.ensures in
    let n = are.above_long in
    let read = c.index-in-loop-number.ensures ∙ get_or_default ups number _ 0 (omega (arith, n)) in
    let fit = sums_fit c.args.numbers.now (marked Null c.args.marks.now (map (Number c.args.own) c.args.coefficients.now)) c.args.count number c.in_ok-terms.field-0.terms.items ups c.in_ok-terms.field-0.downs.items are c.requires.small (omega arith) in
    omega (arith, read, fit.0)

pub sum_value-requires-clause-below : goal.sum_value-requires-clause-below
sum_value-requires-clause-below c =
    let downs : List ℕ = c.in_ok-terms.field-0.downs.items in
    let number : ℕ = c.loop-number.number in
    let are = c.in_ok-terms.ensures in
    let n = are.below_long in
    let read = c.index-in-loop-number-2.ensures ∙ get_or_default downs number _ 0 (omega (arith, n)) in
    let fit = sums_fit c.args.numbers.now (marked Null c.args.marks.now (map (Number c.args.own) c.args.coefficients.now)) c.args.count number c.in_ok-terms.field-0.terms.items c.in_ok-terms.field-0.ups.items downs are c.requires.small (omega arith) in
    omega (arith, read, fit.1)

pub loop-number-preserved : goal.loop-number-preserved
loop-number-preserved c =
    let terms : List ℕ = c.in_ok-terms.field-0.terms.items in
    let ups : List ℕ = c.in_ok-terms.field-0.ups.items in
    let downs : List ℕ = c.in_ok-terms.field-0.downs.items in
    let number : ℕ = c.loop-number.number in
    let are = c.in_ok-terms.ensures in
    let nt = are.terms_long in
    let nu = are.above_long in
    let nd = are.below_long in
    let value =
    c.sum_value.ensures ∙ ap (λ t. sum_value c.args.scale t c.index-in-loop-number.result.now c.index-in-loop-number-2.result.now) (c.index.ensures ∙ get_or_default terms number _ 0 (omega (arith, nt)))
    ∙ ap (λ u. sum_value c.args.scale (get_or terms number 0) u c.index-in-loop-number-2.result.now) (c.index-in-loop-number.ensures ∙ get_or_default ups number _ 0 (omega (arith, nu)))
    ∙ ap (sum_value c.args.scale (get_or terms number 0) (get_or ups number 0)) (c.index-in-loop-number-2.ensures ∙ get_or_default downs number _ 0 (omega (arith, nd))) in
    sum_more c.args.scale c.args.numbers.now (marked Null c.args.marks.now (map (Number c.args.own) c.args.coefficients.now)) c.args.count number terms ups downs c.loop-number.column c.push.new.self
    are c.requires.small (omega arith) c.loop-number.invariant (c.in_ok-push.ensures.ok ∙ ap (λ v. c.loop-number.column ++ v ∷ []) value)

pub returns : goal.returns
returns c =
    c.finish.ensures ∙ c.loop-number.invariant
    ∙ ap (values_by_number (sum_of (reading c.args.scale)) c.args.numbers.now (marked Null c.args.marks.now (map (Number c.args.own) c.args.coefficients.now)) 0) (omega arith)
