use Rattle.std.proofs.Common.{◌≡◌, [], ◌∷◌, ◌++◌, sym, ap, ◌∙◌, append_assoc, append-nil, arith, length, map}
use Rattle.std.specs.Vec.Iter.{into_iter_items}
use Rattle.std.proofs.lemmas.List.{nil_from_length, map-append}
use Rattle.base_columns.specs.Lists.{one_list}
use Rattle.base_columns.proofs.RowLists.{one_list-push}
use Rattle.exec_parallel_scan.proofs.made.one_after_other.Goals as goal

pub loop-list-preserved : goal.loop-list-preserved
loop-list-preserved g c =
    let at = c.loop-list in
    let x = c.in-Some.list in
    let steps : into_iter_items at.list-iterator ≡ x ∷ into_iter_items c.next.new.self = c.in-Some.ensures.steps.0 in
    record {
      whole = append_assoc at.yielded (x ∷ []) _ ∙ rw (← steps) at.invariant.whole;
      left = let was = at.invariant.left in let gone = c.in-Some.ensures.steps.1 in let short = ap length steps in omega arith;
      all =
          c.in_ok-append.ensures.items ∙ ap (λ l. l ++ x.items) at.invariant.all
          ∙ sym (ap one_list (map-append (λ v. v.items) at.yielded (x ∷ [])) ∙ one_list-push (map (λ v. v.items) at.yielded) x.items);
    }

pub returns : goal.returns
returns g c =
    let at = c.loop-list in
    let none = c.in-None.ensures.steps in
    let empty : into_iter_items at.list-iterator ≡ [] = nil_from_length _ (sym at.invariant.left ∙ none.0) in
    let all = sym (append-nil at.yielded) ∙ rw empty at at.invariant.whole ∙ c.into_iter-list-iterator.ensures.into_iter_gives.0 in
    at.invariant.all ∙ ap (λ l. one_list (map (λ v. v.items) l)) all
