use Rattle.std.proofs.Common.{◌∙◌, ◌++◌, ◌+◌, ◌<◌, map, ap, subst, sym, rules}
use Rattle.std.specs.List.{All}
use Rattle.plan_algebra.specs.declared.tree.DepTree.{DepTree}
use Rattle.plan_predicate_sinking.specs.Narrow.{IsNarrowed}
use Rattle.plan_join_order.proofs.Totals.{total_none, total_more}
use Rattle.plan_join_order.proofs.Narrowing.{narrow_none, narrow_more}
use Rattle.plan_join_order.proofs.narrow.narrowed_inputs.Goals as goal

pub loop-input-init : goal.loop-input-init
loop-input-init c = (
  narrow_none c.args.n _ _ c.new-none.ensures c.new-kept.ensures.items,
  total_none,
)

pub loop-input-preserved : goal.loop-input-preserved
loop-input-preserved c = (
  narrow_more c.args.n c.args.inputs.now c.loop-input.new.inputs _ c.loop-input.new.kept.items _
      c.in_ok-own.own.items c.loop-input.input-index c.loop-input.at c.input-item.result
      c.into_inner.result
      c.loop-input-test.true c.input-item.is c.loop-input.invariant.1 c.loop-input.invariant.0
      (subst (λ m. All (λ x. x < m) c.in_ok-own.own.items) c.in_ok-count.ensures
      c.in_ok-own.ensures)
      (subst (λ (y : DepTree). IsNarrowed c.args.n c.input-item.result c.in_ok-own.own.items y)
      (sym c.into_inner.ensures)
      (subst (λ l. IsNarrowed c.args.n c.input-item.result l c.in_ok-tree.tree)
      c.deref.ensures.value c.in_ok-tree.ensures))
      c.in_ok-push.ensures.ok (c.in_ok-put_after.ensures
      ∙ ap (λ l. c.loop-input.new.kept.items ++ map (λ x. c.loop-input.at + x) l)
      c.deref-in-loop-input.ensures.value),
  total_more c.args.inputs.now c.loop-input.input-index c.input-item.result c.loop-input.at
      c.in_ok-count.count _ c.loop-input-test.true c.input-item.is c.loop-input.invariant.1
      c.in_ok-count.ensures (search rules),
)
