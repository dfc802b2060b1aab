use Rattle.std.proofs.Common.{◌≡◌, ◌<◌, [], ◌∷◌, ◌++◌, refl, sym, ap, subst, ◌∙◌, append_assoc, append-nil, arith, length, get_or, Some, map}
use Rattle.std.specs.Prelude.{slice_get}
use Rattle.std.specs.Vec.Iter.{into_iter_items}
use Rattle.std.proofs.lemmas.List.{nil_from_length, length-append}
use Rattle.std.proofs.lemmas.Option.{slice_get_within, slice_get-get_or}
use Rattle.base_columns.specs.Lists.{one_list}
use Rattle.exec_hash_group.specs.ByNumber.{AreValues}
use Rattle.exec_hash_group.specs.Regrouping.{lists_by_number}
use Rattle.exec_hash_group.proofs.Merging.{Merged, get_mid, merged_none, merged_more, merged_room, merged_all}
use Rattle.exec_hash_group.proofs.groups.merged_by_number.Goals as goal

pub loop-part-init : goal.loop-part-init
loop-part-init g c =
    record {
      whole = refl;
      left = let a = c.into_iter-part-iterator.ensures.into_iter_gives.1 in let b = ap length c.into_iter-part-iterator.ensures.into_iter_gives.0 in omega arith;
      row = refl;
      merged = merged_none g.A.Accumulator.has_taken g.A.Accumulator.terms c.in_ok-states.states.items c.args.numbers.now c.in_ok-states.ensures.terms;
    }

pub merge_at-requires-clause-number : goal.merge_at-requires-clause-number
merge_at-requires-clause-number g c =
    let at = c.loop-part in
    let x = c.in-Some.part in
    let rest = into_iter_items c.next.new.self in
    let steps : into_iter_items at.part-iterator ≡ x ∷ rest = c.in-Some.ensures.steps.0 in
    let whole : at.yielded ++ x ∷ rest ≡ c.args.parts.items = ap (λ l. at.yielded ++ l) (sym steps) ∙ at.invariant.whole ∙ c.into_iter-part-iterator.ensures.into_iter_gives.0 in
    let within : length at.yielded < length c.args.parts.items = slice_get_within c.args.parts.items (length at.yielded) x (ap (λ l. slice_get l (length at.yielded)) (sym whole) ∙ get_mid at.yielded x rest) in
    let lt : at.row < length c.args.numbers.now = omega (arith, within, at.invariant.row, c.requires.rows) in
    let below = c.requires.numbers at.row 0 lt in
    omega (arith, below, at.invariant.merged.count, c.in_ok-states.ensures.count)

pub merge_at-requires-clause-terms : goal.merge_at-requires-clause-terms
merge_at-requires-clause-terms g c =
    let at = c.loop-part in
    let x = c.in-Some.part in
    let rest = into_iter_items c.next.new.self in
    let steps : into_iter_items at.part-iterator ≡ x ∷ rest = c.in-Some.ensures.steps.0 in
    let whole : at.yielded ++ x ∷ rest ≡ c.args.parts.items = ap (λ l. at.yielded ++ l) (sym steps) ∙ at.invariant.whole ∙ c.into_iter-part-iterator.ensures.into_iter_gives.0 in
    let there : slice_get c.args.parts.items (length at.yielded) ≡ Some x = ap (λ l. slice_get l (length at.yielded)) (sym whole) ∙ get_mid at.yielded x rest in
    let within : length at.yielded < length c.args.parts.items = slice_get_within c.args.parts.items (length at.yielded) x there in
    merged_room g.A.Accumulator.has_taken g.A.Accumulator.terms c.in_ok-states.states.items at.states.items c.args.numbers.now at.yielded x (omega (arith, within, c.requires.rows, c.requires.small))
    (c.requires.terms (length at.yielded) x there) at.invariant.merged

pub loop-part-preserved : goal.loop-part-preserved
loop-part-preserved g c =
    let at = c.loop-part in
    let x = c.in-Some.part in
    let rest = into_iter_items c.next.new.self in
    let numbers = c.args.numbers.now in
    let steps : into_iter_items at.part-iterator ≡ x ∷ rest = c.in-Some.ensures.steps.0 in
    let whole : at.yielded ++ x ∷ rest ≡ c.args.parts.items = ap (λ l. at.yielded ++ l) (sym steps) ∙ at.invariant.whole ∙ c.into_iter-part-iterator.ensures.into_iter_gives.0 in
    let there : slice_get c.args.parts.items (length at.yielded) ≡ Some x = ap (λ l. slice_get l (length at.yielded)) (sym whole) ∙ get_mid at.yielded x rest in
    let within : length at.yielded < length c.args.parts.items = slice_get_within c.args.parts.items (length at.yielded) x there in
    let lt : length at.yielded < length numbers = omega (arith, within, c.requires.rows) in
    let k : slice_get numbers (length at.yielded) ≡ Some (get_or numbers at.row 0) =
    slice_get-get_or numbers (length at.yielded) 0 lt ∙ ap (λ r. Some (get_or numbers r 0)) (sym at.invariant.row) in
    record {
      whole = append_assoc at.yielded (x ∷ []) _ ∙ rw (← steps) at.invariant.whole;
      left = let was = at.invariant.left in let gone = c.in-Some.ensures.steps.1 in let short = ap length steps in omega arith;
      row = let more = length-append at.yielded (x ∷ []) in omega (arith, at.invariant.row, more);
      merged = merged_more g.A.Accumulator.has_taken g.A.Accumulator.terms c.in_ok-states.states.items at.states.items c.merge_at.new.states.items numbers at.yielded x (get_or numbers at.row 0) k
          (c.requires.terms (length at.yielded) x there) at.invariant.merged c.in_ok-merge_at.ensures;
    }

pub returns : goal.returns
returns g c = λ lists have.
    let at = c.loop-part in
    let numbers = c.args.numbers.now in
    let none = c.in-None.ensures.steps in
    let empty : into_iter_items at.part-iterator ≡ [] = nil_from_length _ (sym at.invariant.left ∙ none.0) in
    let all : at.yielded ≡ c.args.parts.items = sym (append-nil at.yielded) ∙ rw empty at at.invariant.whole ∙ c.into_iter-part-iterator.ensures.into_iter_gives.0 in
    let are = subst (λ l. AreValues g.A.Accumulator.has_taken l c.in_ok-values.values.items) c.as_slice.ensures.value c.in_ok-values.ensures in
    let aggregate = g.A.Accumulator.aggregate c.args.scale in
    let M = subst (Merged g.A.Accumulator.has_taken g.A.Accumulator.terms c.in_ok-states.states.items at.states.items numbers) all at.invariant.merged in
    merged_all g.A.Accumulator.has_taken g.A.Accumulator.terms c.in_ok-states.states.items at.states.items numbers c.args.parts.items c.in_ok-values.values.items aggregate lists c.requires.rows M are
    c.in_ok-states.ensures.taken have
    ∙ ap (λ n. map (λ ls. aggregate (one_list ls)) (lists_by_number numbers lists 0 n)) c.in_ok-states.ensures.count
