use Rattle.std.proofs.Common.{◌≡◌, ℕ, ℤ, pos, ◌<◌, List, length, map, get_or, arith, rules, ap, ◌∙◌, Some, SFits, w64, to_z, of_z, set, ◌+◌}
use Rattle.std.specs.Prelude.{slice_get}
use Rattle.std.proofs.lemmas.Int.{ints}
use Rattle.std.proofs.lemmas.List.{length-map, get_or-map}
use Rattle.std.proofs.lemmas.Option.{slice_get-get_or}
use Rattle.base_value.specs.declared.value.Value.{Value}
use Rattle.base_value.specs.declared.value.Value.TheVariants.{Null, Number}
use Rattle.expr_aggregates.specs.Values.{above, below}
use Rattle.exec_hash_group.proofs.NumberSums.{sums_none, sums_more, sums_room, sums_all}
use Rattle.exec_hash_group.proofs.number_sums.summed.Goals as goal

pub loop-row-init : goal.loop-row-init
loop-row-init c =
    sums_none c.args.numbers.now (map (Number c.args._scale) c.args.coefficients.now) c.args.count c.in_ok-terms.terms.items c.in_ok-ups.ups.items c.in_ok-downs.downs.items
    (c.in_ok-terms.ensures.items_if_clones_equal (λ y h. h)) (c.in_ok-ups.ensures.items_if_clones_equal (λ y h. h)) (c.in_ok-downs.ensures.items_if_clones_equal (λ y h. h))

pub count_at-requires-clause-within : goal.count_at-requires-clause-within
count_at-requires-clause-within c =
    let l = c.loop-row.invariant.terms_long in
    let b = c.requires.numbers c.loop-row.row 0 (omega arith) in
    omega (arith, l, b)

pub count_at-requires-clause-fits : goal.count_at-requires-clause-fits
count_at-requires-clause-fits c =
    let lr : c.loop-row.row < length c.args.numbers.now = omega arith in
    (sums_room c.args.numbers.now (map (Number c.args._scale) c.args.coefficients.now) c.args.count c.loop-row.row (get_or c.args.numbers.now c.loop-row.row 0) c.loop-row.terms.items c.loop-row.ups.items c.loop-row.downs.items
    lr c.requires.small (c.requires.numbers c.loop-row.row 0 lr) c.loop-row.invariant).0

pub add_at-requires-clause-above_within : goal.add_at-requires-clause-above_within
add_at-requires-clause-above_within c =
    let l = c.loop-row.invariant.above_long in
    let b = c.requires.numbers c.loop-row.row 0 (omega arith) in
    omega (arith, l, b)

pub add_at-requires-clause-below_within : goal.add_at-requires-clause-below_within
add_at-requires-clause-below_within c =
    let l = c.loop-row.invariant.below_long in
    let b = c.requires.numbers c.loop-row.row 0 (omega arith) in
    omega (arith, l, b)

pub add_at-requires-clause-above_fits : goal.add_at-requires-clause-above_fits
add_at-requires-clause-above_fits c =
    let lr : c.loop-row.row < length c.args.numbers.now = omega arith in
    (sums_room c.args.numbers.now (map (Number c.args._scale) c.args.coefficients.now) c.args.count c.loop-row.row (get_or c.args.numbers.now c.loop-row.row 0) c.loop-row.terms.items c.loop-row.ups.items c.loop-row.downs.items
    lr c.requires.small (c.requires.numbers c.loop-row.row 0 lr) c.loop-row.invariant).1.0

pub add_at-requires-clause-below_fits : goal.add_at-requires-clause-below_fits
add_at-requires-clause-below_fits c =
    let lr : c.loop-row.row < length c.args.numbers.now = omega arith in
    (sums_room c.args.numbers.now (map (Number c.args._scale) c.args.coefficients.now) c.args.count c.loop-row.row (get_or c.args.numbers.now c.loop-row.row 0) c.loop-row.terms.items c.loop-row.ups.items c.loop-row.downs.items
    lr c.requires.small (c.requires.numbers c.loop-row.row 0 lr) c.loop-row.invariant).1.1

pub loop-row-preserved : goal.loop-row-preserved
loop-row-preserved c =
    let numbers : List ℕ = c.args.numbers.now in
    let coefficients : List ℤ = c.args.coefficients.now in
    let values : List Value = map (Number c.args._scale) coefficients in
    let row : ℕ = c.loop-row.row in
    let k : ℕ = get_or numbers row 0 in
    let term : ℤ = get_or coefficients row (pos 0) in
    let lr : row < length numbers = omega arith in
    let lc : row < length coefficients = omega (arith, c.requires.rows, lr) in
    let lv : row < length values = (let n = length-map coefficients (Number c.args._scale) in omega (arith, n, lc)) in
    let value : slice_get values row ≡ Some (Number c.args._scale term) =
    slice_get-get_or values row Null lv ∙ ap (λ v. Some v) (get_or-map (Number c.args._scale) coefficients row (pos 0) Null lc) in
    let fits : SFits w64 term = search rules in
    let wide : to_z w64 (of_z w64 term) ≡ term = omega (arith, ints, fits) in
    sums_more numbers values c.args.count row k c.args._scale term c.loop-row.terms.items c.count_at.new.terms.items c.loop-row.ups.items c.add_at.new.ups.items c.loop-row.downs.items c.add_at.new.downs.items
    (slice_get-get_or numbers row 0 lr) value lr c.requires.small (c.requires.numbers row 0 lr) (omega (arith, ints, fits)) (omega (arith, ints, fits)) c.loop-row.invariant c.count_at.ensures
    (c.add_at.ensures.above ∙ ap (λ z. set c.loop-row.ups.items k (get_or c.loop-row.ups.items k 0 + above (Number 0 z))) wide)
    (c.add_at.ensures.below ∙ ap (λ z. set c.loop-row.downs.items k (get_or c.loop-row.downs.items k 0 + below (Number 0 z))) wide)

pub returns : goal.returns
returns c =
    let n = length-map c.args.coefficients.now (Number c.args._scale) in
    sums_all c.args.numbers.now (map (Number c.args._scale) c.args.coefficients.now) c.args.count c.loop-row.row c.loop-row.terms.items c.loop-row.ups.items c.loop-row.downs.items
    (omega arith) (omega (arith, n, c.requires.rows)) c.loop-row.invariant
