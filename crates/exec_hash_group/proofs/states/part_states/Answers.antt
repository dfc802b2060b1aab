use Rattle.std.proofs.Common.{◌++◌, ◌+◌, List, sym, subst, arith, take}
use Rattle.std.proofs.lemmas.List.{take_all}
use Rattle.base_value.specs.declared.value.Value.{Value}
use Rattle.exec_hash_group.specs.PartGroups.{group_arguments, part_arguments, scale_of}
use Rattle.exec_hash_group.specs.States.{HaveTaken}
use Rattle.exec_hash_group.proofs.Merging.{have_none, have_both}
use Rattle.exec_hash_group.proofs.PartLists.{arguments_more}
use Rattle.exec_hash_group.proofs.states.part_states.Goals as goal

pub loop-part-init : goal.loop-part-init
loop-part-init g c =
    let H : List g.row.A.Denot → Type 0 = λ ss. HaveTaken g.A.Accumulator.has_taken g.A.Accumulator.terms (g.A.Accumulator.aggregate (scale_of c.args.aggregate.now)) (part_arguments c.args.aggregate.now (take 0 c.args.parts.now)) ss in
    subst H (sym c.new-states.ensures.items) (have_none g.A.Accumulator.has_taken g.A.Accumulator.terms (g.A.Accumulator.aggregate (scale_of c.args.aggregate.now)))

pub loop-part-preserved : goal.loop-part-preserved
loop-part-preserved g c =
    let a = c.args.aggregate.now in
    let parts = c.args.parts.now in
    let i = c.loop-part.part-index in
    let F = g.A.Accumulator.aggregate (scale_of a) in
    let H : List g.row.A.Denot → Type 0 = λ ss. HaveTaken g.A.Accumulator.has_taken g.A.Accumulator.terms F (part_arguments a (take (i + 1) parts)) ss in
    let L : List (List Value) → Type 0 = λ ls. HaveTaken g.A.Accumulator.has_taken g.A.Accumulator.terms F ls (c.loop-part.states.items ++ c.in_ok-more.more.items) in
    subst H (sym c.in_ok-append.ensures.items)
    (subst L (sym (arguments_more a parts i c.part-item.result c.loop-part-test.true c.part-item.is))
    (have_both g.A.Accumulator.has_taken g.A.Accumulator.terms F (part_arguments a (take i parts)) (group_arguments a c.part-item.result) c.loop-part.states.items c.in_ok-more.more.items c.loop-part.invariant c.in_ok-more.ensures))

pub returns : goal.returns
returns g c =
    let a = c.args.aggregate.now in
    let F = g.A.Accumulator.aggregate (scale_of a) in
    subst (λ ps. HaveTaken g.A.Accumulator.has_taken g.A.Accumulator.terms F (part_arguments a ps) c.loop-part.states.items)
    (take_all c.loop-part.part-index c.args.parts.now (omega arith)) c.loop-part.invariant
