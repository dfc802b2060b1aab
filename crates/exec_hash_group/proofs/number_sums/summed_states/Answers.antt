use Rattle.std.proofs.Common.{ℕ, List, sym, subst, ◌∙◌, map, arith}
use Rattle.std.proofs.lemmas.List.{get_or_default}
use Rattle.base_value.specs.declared.value.Value.TheVariants.{Number}
use Rattle.exec_hash_group.specs.Regrouping.{lists_by_number}
use Rattle.exec_hash_group.specs.States.{HaveTaken}
use Rattle.exec_hash_group.proofs.Merging.{have_none}
use Rattle.exec_hash_group.proofs.NumberSums.{state_more}
use Rattle.exec_hash_group.proofs.number_sums.summed_states.Goals as goal

pub loop-number-init : goal.loop-number-init
loop-number-init g c =
    let F = g.A.Accumulator.aggregate c.args.scale in
    let H : List g.row.A.Denot → Type 0 = λ ss. HaveTaken g.A.Accumulator.has_taken g.A.Accumulator.terms F (lists_by_number c.args.numbers.now (map (Number c.args.own) c.args.coefficients.now) 0 0) ss in
    subst H (sym c.in_ok-states.ensures.items) (have_none g.A.Accumulator.has_taken g.A.Accumulator.terms F)

pub loop-number-preserved : goal.loop-number-preserved
loop-number-preserved g c =
    let terms : List ℕ = c.in_ok-terms.field-0.terms.items in
    let ups : List ℕ = c.in_ok-terms.field-0.ups.items in
    let downs : List ℕ = c.in_ok-terms.field-0.downs.items in
    let number : ℕ = c.loop-number.number in
    let are = c.in_ok-terms.ensures in
    let nt = are.terms_long in
    let nu = are.above_long in
    let nd = are.below_long in
    state_more g.A.Accumulator.has_taken g.A.Accumulator.terms (g.A.Accumulator.aggregate c.args.scale) c.args.numbers.now (map (Number c.args.own) c.args.coefficients.now) c.args.count number _ _ _ terms ups downs
    c.loop-number.states.items c.push.new.self.items c.in-Some.state are c.requires.small (omega arith) c.loop-number.invariant
    (c.index.ensures ∙ get_or_default terms number _ 0 (omega (arith, nt))) (c.index-in-loop-number.ensures ∙ get_or_default ups number _ 0 (omega (arith, nu)))
    (c.index-in-loop-number-2.ensures ∙ get_or_default downs number _ 0 (omega (arith, nd))) c.in-Some.ensures.terms c.in-Some.ensures.taken c.in_ok-push-in-Some.ensures.items

pub returns : goal.returns
returns g c =
    let H : ℕ → Type 0 = λ n.
    HaveTaken g.A.Accumulator.has_taken g.A.Accumulator.terms (g.A.Accumulator.aggregate c.args.scale) (lists_by_number c.args.numbers.now (map (Number c.args.own) c.args.coefficients.now) 0 n) c.loop-number.states.items in
    subst H (omega arith) c.loop-number.invariant
