use Rattle.std.proofs.Common.{List, ap, sym, subst, length}
use Rattle.base_value.specs.declared.value.Value.{Value}
use Rattle.plan_algebra.specs.declared.aggregate.Aggregate.{Aggregate}
use Rattle.exec_hash_group.specs.PartGroups.{group_arguments, scale_of}
use Rattle.exec_hash_group.specs.States.{HaveTaken}
use Rattle.exec_hash_group.proofs.PartLists.{counts_are}
use Rattle.exec_hash_group.proofs.states.group_states.Goals as goal

pub returns-in_ok-counts-in-CountRows : goal.returns-in_ok-counts-in-CountRows
returns-in_ok-counts-in-CountRows g c =
    let part = c.args.part.now in
    let ns = c.as_slice-numbers.result.now in
    let counts = c.in_ok-counts-in-CountRows.counts.items in
    let Have = HaveTaken g.A.Accumulator.has_taken g.A.Accumulator.terms in
    let P : Aggregate → Type 0 = λ a. Have (g.A.Accumulator.aggregate (scale_of a)) (group_arguments a part) counts in
    let Q : List (List Value) → Type 0 = λ ls. Have (g.A.Accumulator.aggregate 0) ls counts in
    subst P (sym c.in-CountRows.is)
    (subst Q (counts_are part ns _ (length ns) c.len.result c.as_slice-numbers.ensures.value c.new-nulls.ensures (ap length c.as_slice-numbers.ensures.value) c.len.ensures) c.in_ok-counts-in-CountRows.ensures)
