use Rattle.std.proofs.Common.{inl, inr}
use Rattle.plan_predicate_sinking.proofs.Apart.{own_more, own_end}
use Rattle.plan_predicate_sinking.proofs.joined.reads_own.Goals as goal
use Rattle.plan_predicate_sinking.proofs.joined.reads_own.Goals.{then-column-m+else-column-low+else-column-high}
use Rattle.plan_predicate_sinking.proofs.joined.reads_own.Goals.{else-column-m}

pub loop-column-preserved : goal.loop-column-preserved
loop-column-preserved c = elim c.if-column-m.branch [
  | then-column-m+else-column-low+else-column-high w ↦ own_more c.args.m c.args.low c.args.high
      c.deref-column-items.result.now c.loop-column.column-index c.loop-column-test.true
      (inr (w.if-column-low.false, w.if-column-high.false)) c.loop-column.invariant
  | else-column-m w ↦ own_more c.args.m c.args.low c.args.high c.deref-column-items.result.now
      c.loop-column.column-index c.loop-column-test.true (inl w.if-column-m.false)
      c.loop-column.invariant
]

pub returns : goal.returns
returns c = λ t. own_end c.args.m c.args.low c.args.high c.deref-column-items.result.now
    c.in_ok-columns.columns.items _ c.loop-column.column-index c.loop-column-test.false
    c.deref-column-items.ensures.value c.in_ok-columns.ensures c.loop-column.invariant
