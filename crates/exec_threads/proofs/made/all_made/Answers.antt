use Rattle.std.proofs.Common.{rules, ◌≡◌, [], ◌∷◌, ◌++◌, sym, ap, ◌∙◌, append_assoc, append-nil, arith, length, map}
use Rattle.std.specs.Prelude.{Ok}
use Rattle.std.specs.Vec.Iter.{into_iter_items}
use Rattle.std.proofs.lemmas.List.{nil_from_length, map-append}
use Rattle.exec_threads.proofs.made.all_made.Goals as goal

pub loop-part-preserved : goal.loop-part-preserved
loop-part-preserved g c =
    let at = c.loop-part in
    let p = c.in-Some.part in
    let x = c.in_ok-x.x in
    let steps : into_iter_items at.part-iterator ≡ p ∷ into_iter_items c.next.new.self = c.in-Some.ensures.steps.0 in
    let is : p ≡ Ok x = search rules in
    record {
      whole = append_assoc at.yielded (p ∷ []) _ ∙ rw (← steps) at.invariant.whole;
      left = let was = at.invariant.left in let gone = c.in-Some.ensures.steps.1 in let short = ap length steps in omega arith;
      made =
          ap (λ l. l ++ p ∷ []) at.invariant.made ∙ ap (λ q. map (λ y. Ok y) at.made.items ++ q ∷ []) is ∙ sym (map-append (λ y. Ok y) at.made.items (x ∷ []))
          ∙ ap (map (λ y. Ok y)) (sym c.in_ok-push.ensures.items);
    }

pub returns : goal.returns
returns g c =
    let at = c.loop-part in
    let none = c.in-None.ensures.steps in
    let empty : into_iter_items at.part-iterator ≡ [] = nil_from_length _ (sym at.invariant.left ∙ none.0) in
    let all = sym (append-nil at.yielded) ∙ rw empty at at.invariant.whole ∙ c.into_iter-part-iterator.ensures.into_iter_gives.0 in
    sym all ∙ at.invariant.made
