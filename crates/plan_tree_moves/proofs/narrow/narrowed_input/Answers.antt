use Rattle.std.proofs.Common.{◌≡◌, [], refl, sym, subst, rules, length}
use Rattle.std.proofs.lemmas.List.{nil_from_length}
use Rattle.plan_predicate_sinking.specs.Narrow.{IsNarrowed}
use Rattle.plan_predicate_sinking.proofs.Narrowing.{narrowed_all, narrowed_some}
use Rattle.plan_tree_moves.proofs.narrow.narrowed_input.Goals as goal

pub returns-then-are_all : goal.returns-then-are_all
returns-then-are_all c =
    narrowed_all c.args.n c.args.input.now c.args.input.now c.in_ok-new-2.new c.args.own.now
    c.in_ok-count.count c.in_ok-new-2.ensures refl c.in_ok-count.ensures
    (c.are_all.ensures c.if-are_all.true)

pub returns : goal.returns
returns c = narrowed_some c.args.n c.args.input.now c.in_ok-new-2.new c.in_ok-new-3.new c.args.own.now
    c.in_ok-es.es c.in_ok-new-2.ensures c.in_ok-es.ensures c.in_ok-new-3.ensures

pub returns-then-is_empty : goal.returns-then-is_empty
returns-then-is_empty c =
    let count : length c.args.own.now ≡ 0 = search rules in
    let none : c.args.own.now ≡ [] = nil_from_length c.args.own.now count in
    subst (λ l. IsNarrowed c.args.n c.args.input.now l c.in_ok-new.new) (sym none)
    (c.in_ok-new.ensures c.args.n)
