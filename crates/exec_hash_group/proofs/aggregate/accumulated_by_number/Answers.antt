use Rattle.std.proofs.Common.{subst, ◌∙◌}
use Rattle.exec_hash_group.specs.ByNumber.{AreValues}
use Rattle.exec_hash_group.specs.Regrouping.{lists_by_number}
use Rattle.exec_hash_group.proofs.Merging.{taken_values, values_lists}
use Rattle.exec_hash_group.proofs.aggregate.accumulated_by_number.Goals as goal

pub returns : goal.returns
returns g c =
    let numbers = c.args.numbers.now in
    let shown = g.L.ValueList.shown c.args.values.now in
    let aggregate = g.A.Accumulator.aggregate c.args.scale in
    let are = subst (λ l. AreValues g.A.Accumulator.has_taken l c.in_ok-values.values.items) c.as_slice.ensures.value c.in_ok-values.ensures in
    taken_values g.A.Accumulator.has_taken g.A.Accumulator.terms c.in_ok-states.states.items c.in_ok-values.values.items (lists_by_number numbers shown 0 c.args.count) aggregate are c.in_ok-states.ensures
    ∙ values_lists aggregate numbers shown 0 c.args.count
