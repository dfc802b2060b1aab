use Rattle.std.proofs.Common.{◌≡◌, ◌<◌, ◌+◌, ◌++◌, ◌∷◌, [], ℕ, List, cond, length, take, map, ap, refl, sym, ◌∙◌, arith, Some, to_z, w64}
use Rattle.std.specs.Prelude.{pos, slice_get}
use Rattle.std.proofs.lemmas.Int.{ints}
use Rattle.std.proofs.lemmas.List.{take_all, length-take-le, map_push}
use Rattle.std.proofs.lemmas.Option.{slice_get_read}
use Rattle.base_row_laws.specs.Numbers.{numbers_of}
use Rattle.base_key_tables.specs.Distinct.{first_places}
use Rattle.base_key_tables.proofs.NumberSteps.{number_more, number_small}
use Rattle.base_value.specs.declared.value.Value.{Value}
use Rattle.base_value.specs.contracts.value.ValuePartialEq.TheImpl.{eq-value}
use Rattle.exec_row_keys.proofs.CodeLists.{derived_identity, value_codes}
use Rattle.exec_row_keys.proofs.column_codes.value_codes.Goals as goal

pub overflow_cast-number : goal.overflow_cast-number
overflow_cast-number c =
    let values : List Value = c.args.values.now in
    let here : slice_get values c.loop-i.i ≡ Some c.new.result = slice_get_read values (length values) c.loop-i.i c.index-values-i.result refl (omega arith) c.index-values-i.is ∙ ap (λ v. Some v) (sym c.new.ensures) in
    let long : length (take c.loop-i.i values) ≡ c.loop-i.i = length-take-le c.loop-i.i values (omega arith) in
    let small : c.in_ok-number.number < c.loop-i.i + 1 = number_small eq-value.it derived_identity values c.loop-i.i c.in_ok-number.number c.new.result c.loop-i.seen c.put.new.self
    c.loop-i.invariant.0 c.in_ok-number.ensures.keys c.in_ok-number.ensures.there long in
    omega (arith, ints, small)

pub loop-i-preserved : goal.loop-i-preserved
loop-i-preserved c =
    let values : List Value = c.args.values.now in
    let here : slice_get values c.loop-i.i ≡ Some c.new.result = slice_get_read values (length values) c.loop-i.i c.index-values-i.result refl (omega arith) c.index-values-i.is ∙ ap (λ v. Some v) (sym c.new.ensures) in
    let long : length (take c.loop-i.i values) ≡ c.loop-i.i = length-take-le c.loop-i.i values (omega arith) in
    let ns : List ℕ = numbers_of eq-value.it (take c.loop-i.i values) in
    let fs : List ℕ = first_places eq-value.it (take c.loop-i.i values) in
    let m = number_more eq-value.it derived_identity values c.loop-i.i c.new.result c.loop-i.seen c.put.new.self
    ns (ns ++ c.in_ok-number.number ∷ []) fs (cond c.in_ok-number.field-0-1 (fs ++ c.loop-i.i ∷ []) fs) c.in_ok-number.number c.in_ok-number.field-0-1
    here (c.loop-i.invariant.0, refl, refl) c.in_ok-number.ensures.keys c.in_ok-number.ensures.there c.in_ok-number.ensures.is_new refl refl long in
    let small : c.in_ok-number.number < c.loop-i.i + 1 = number_small eq-value.it derived_identity values c.loop-i.i c.in_ok-number.number c.new.result c.loop-i.seen c.put.new.self
    c.loop-i.invariant.0 c.in_ok-number.ensures.keys c.in_ok-number.ensures.there long in
    let wide : to_z w64 c.in_ok-number.number ≡ pos c.in_ok-number.number = omega (arith, ints, small) in
    (m.0, c.in_ok-push.ensures.items ∙ ap (λ k. c.loop-i.codes.items ++ k ∷ []) wide ∙ ap (λ l. l ++ pos c.in_ok-number.number ∷ []) c.loop-i.invariant.1 ∙ sym (map_push pos ns c.in_ok-number.number) ∙ ap (map pos) m.1)

pub returns : goal.returns
returns c =
    let values : List Value = c.args.values.now in
    value_codes values (numbers_of eq-value.it values) c.loop-i.codes.items refl
    (c.loop-i.invariant.1 ∙ ap (λ vs. map pos (numbers_of eq-value.it vs)) (take_all c.loop-i.i values (omega arith)))
