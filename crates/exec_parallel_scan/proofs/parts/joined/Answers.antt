use Rattle.std.proofs.Common.{rules, ◌≡◌, [], ◌∷◌, ◌++◌, refl, sym, ap, subst, ◌∙◌, append_assoc, append-nil, arith, length}
use Rattle.std.specs.Prelude.{IsTrue, Ok}
use Rattle.std.specs.List.{All}
use Rattle.std.specs.Vec.Iter.{into_iter_items}
use Rattle.std.proofs.lemmas.List.{nil_from_length}
use Rattle.base_columns.specs.Bags.{AreWide}
use Rattle.exec_parallel_scan.specs.Parts.{ArePartsJoined, IsPartWide, is_made, rows_of_part}
use Rattle.exec_parallel_scan.proofs.PartRows.{at_mid, joined_push}
use Rattle.exec_parallel_scan.proofs.parts.joined.Goals as goal

pub put_batches-requires : goal.put_batches-requires
put_batches-requires c =
    let at = c.loop-part in
    let x = c.in-Some.part in
    let steps : into_iter_items at.part-iterator ≡ x ∷ into_iter_items c.next.new.self = c.in-Some.ensures.steps.0 in
    let whole : at.yielded ++ x ∷ into_iter_items c.next.new.self ≡ c.args.parts.items =
    ap (λ l. at.yielded ++ l) (sym steps) ∙ at.invariant.whole ∙ c.into_iter-part-iterator.ensures.into_iter_gives.0 in
    let wide : IsPartWide c.args.width x = at_mid (IsPartWide c.args.width) at.yielded x (into_iter_items c.next.new.self) (subst (All (IsPartWide c.args.width)) (sym whole) c.requires) in
    let is : x ≡ Ok c.in_ok-batches.batches = search rules in
    subst (λ w. AreWide w c.in_ok-batches.batches.items) (sym at.invariant.width) (subst (IsPartWide c.args.width) is wide)

pub loop-part-preserved : goal.loop-part-preserved
loop-part-preserved c =
    let at = c.loop-part in
    let x = c.in-Some.part in
    let steps : into_iter_items at.part-iterator ≡ x ∷ into_iter_items c.next.new.self = c.in-Some.ensures.steps.0 in
    let is : x ≡ Ok c.in_ok-batches.batches = search rules in
    record {
      whole = append_assoc at.yielded (x ∷ []) _ ∙ rw (← steps) at.invariant.whole;
      left = let was = at.invariant.left in let gone = c.in-Some.ensures.steps.1 in let short = ap length steps in omega arith;
      width = c.in_ok-put_batches.ensures.width ∙ at.invariant.width;
      joined = joined_push at.yielded x at.bag.rows c.put_batches.new.bag.rows at.invariant.joined (subst (λ p. IsTrue (is_made p)) (sym is) refl)
          (c.in_ok-put_batches.ensures.rows ∙ ap (λ p. at.bag.rows ++ rows_of_part p) (sym is));
    }

pub returns-clause-rows : goal.returns-clause-rows
returns-clause-rows c =
    let at = c.loop-part in
    let none = c.in-None.ensures.steps in
    let empty : into_iter_items at.part-iterator ≡ [] = nil_from_length _ (sym at.invariant.left ∙ none.0) in
    let all = sym (append-nil at.yielded) ∙ rw empty at at.invariant.whole ∙ c.into_iter-part-iterator.ensures.into_iter_gives.0 in
    subst (λ l. ArePartsJoined l at.bag.rows) all at.invariant.joined
