use Rattle.std.proofs.Common.{◌<◌, ◌≤◌, ◌^◌, ℕ, length, get_or, arith, subst}
use Rattle.std.proofs.lemmas.Option.{slice_get-get_or}
use Rattle.exec_hash_group.specs.Regrouping.{lists_by_number}
use Rattle.exec_hash_group.specs.States.{HaveTaken}
use Rattle.exec_hash_group.proofs.Steps.{taken_none, taken_more}
use Rattle.exec_hash_group.proofs.Merging.{taken_lists}
use Rattle.exec_hash_group.proofs.groups.states_row_by_row.Goals as goal

pub loop-row-init : goal.loop-row-init
loop-row-init g c =
    taken_none g.A.Accumulator.has_taken g.A.Accumulator.terms c.in_ok-states.states.items c.args.numbers.now (g.L.ValueList.shown c.args.values.now) c.in_ok-states.ensures.terms

pub loop-row-preserved : goal.loop-row-preserved
loop-row-preserved g c =
    let numbers = c.args.numbers.now in
    let lt : c.loop-row.row < length numbers = omega arith in
    taken_more g.A.Accumulator.has_taken g.A.Accumulator.terms c.in_ok-states.states.items c.loop-row.states.items c.put_at.new.states.items numbers (g.L.ValueList.shown c.args.values.now)
    c.loop-row.row (get_or numbers c.loop-row.row 0) c.in_ok-value.value (slice_get-get_or numbers c.loop-row.row 0 lt) c.in_ok-value.ensures c.loop-row.invariant c.in_ok-put_at.ensures

pub returns : goal.returns
returns g c =
    let numbers = c.args.numbers.now in
    let shown = g.L.ValueList.shown c.args.values.now in
    let ln : length numbers ≤ c.loop-row.row = omega arith in
    let lv : length shown ≤ c.loop-row.row = omega (arith, c.requires.rows, ln) in
    let small : c.loop-row.row < 2 ^ 32 = omega (arith, c.requires.small) in
    let H : ℕ → Type 0 = λ n. HaveTaken g.A.Accumulator.has_taken g.A.Accumulator.terms (g.A.Accumulator.aggregate c.args.scale) (lists_by_number numbers shown 0 n) c.loop-row.states.items in
    subst H c.in_ok-states.ensures.count
    (taken_lists g.A.Accumulator.has_taken g.A.Accumulator.terms c.in_ok-states.states.items c.loop-row.states.items numbers shown c.loop-row.row (g.A.Accumulator.aggregate c.args.scale) ln lv small c.loop-row.invariant c.in_ok-states.ensures.taken)
