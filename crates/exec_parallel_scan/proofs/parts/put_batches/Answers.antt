use Rattle.std.proofs.Common.{◌≡◌, [], ◌∷◌, ◌++◌, sym, ap, subst, ◌∙◌, append_assoc, append-nil, arith, length}
use Rattle.std.specs.Vec.Iter.{into_iter_items}
use Rattle.std.proofs.lemmas.List.{nil_from_length}
use Rattle.base_columns.specs.Bags.{bag_rows, AreWide}
use Rattle.base_columns.proofs.BagLists.{bag_rows-push}
use Rattle.exec_parallel_scan.proofs.PartRows.{at_mid}
use Rattle.exec_parallel_scan.proofs.parts.put_batches.Goals as goal

pub push-requires : goal.push-requires
push-requires c =
    let at = c.loop-batch in
    let x = c.in-Some.batch in
    let steps : into_iter_items at.batch-iterator ≡ x ∷ into_iter_items c.next.new.self = c.in-Some.ensures.steps.0 in
    let whole : at.yielded ++ x ∷ into_iter_items c.next.new.self ≡ c.args.batches.items =
    ap (λ l. at.yielded ++ l) (sym steps) ∙ at.invariant.whole ∙ c.into_iter-batch-iterator.ensures.into_iter_gives.0 in
    at_mid (λ b. b.width ≡ c.args.bag.now.width) at.yielded x (into_iter_items c.next.new.self) (subst (AreWide c.args.bag.now.width) (sym whole) c.requires) ∙ sym at.invariant.width

pub loop-batch-preserved : goal.loop-batch-preserved
loop-batch-preserved c =
    let at = c.loop-batch in
    let x = c.in-Some.batch in
    let steps : into_iter_items at.batch-iterator ≡ x ∷ into_iter_items c.next.new.self = c.in-Some.ensures.steps.0 in
    record {
      whole = append_assoc at.yielded (x ∷ []) _ ∙ rw (← steps) at.invariant.whole;
      left = let was = at.invariant.left in let gone = c.in-Some.ensures.steps.1 in let short = ap length steps in omega arith;
      width = c.in_ok-push.ensures.width ∙ at.invariant.width;
      rows = c.in_ok-push.ensures.ok ∙ ap (λ l. l ++ x.rows) at.invariant.rows ∙ append_assoc c.args.bag.now.rows (bag_rows at.yielded) x.rows ∙ ap (λ l. c.args.bag.now.rows ++ l) (sym (bag_rows-push at.yielded x));
    }

pub returns-clause-rows : goal.returns-clause-rows
returns-clause-rows c =
    let at = c.loop-batch in
    let none = c.in-None.ensures.steps in
    let empty : into_iter_items at.batch-iterator ≡ [] = nil_from_length _ (sym at.invariant.left ∙ none.0) in
    let all = sym (append-nil at.yielded) ∙ rw empty at at.invariant.whole ∙ c.into_iter-batch-iterator.ensures.into_iter_gives.0 in
    subst (λ l. at.bag.rows ≡ c.args.bag.now.rows ++ bag_rows l) all at.invariant.rows
