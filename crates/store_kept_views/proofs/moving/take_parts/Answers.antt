use Rattle.std.proofs.Common.{◌+◌, [], ◌++◌, subst, sym}
use lib.ListN.{drop}
use Rattle.base_columns.specs.Lists.{one_list}
use Rattle.plan_algebra.specs.KeptPlans.{selected}
use Rattle.store_kept_views.specs.Standing.{StandsBy}
use Rattle.store_kept_views.proofs.PartLists.{next_part, no_parts}
use Rattle.store_kept_views.specs.Standing.{CanTakeAll}
use Rattle.store_kept_views.proofs.moving.take_parts.Goals as goal

pub loop-part-init : goal.loop-part-init
loop-part-init c = λ zs old. old

pub take_rows-requires : goal.take_rows-requires
take_rows-requires c =
    subst (λ p. CanTakeAll p c.loop-part.groups c.loop-part.stale c.in_ok-reading.reading.rows) (sym c.in_ok-reading.ensures.plan)
    (record {
      left = selected c.args.plan.now (one_list (drop (c.loop-part.part-index + 1) c.args.parts.now)) ++ c.requires.left;
      stands =
          subst (λ l. StandsBy c.args.plan.now c.loop-part.groups c.loop-part.stale [] l)
          (next_part c.args.plan.now c.args.parts.now c.loop-part.part-index c.part-item.result c.in_ok-reading.reading.rows c.requires.left c.loop-part-test.true c.part-item.is c.in_ok-reading.ensures.rows)
          (c.loop-part.invariant c.requires.left c.requires.stands);
    })

pub loop-part-preserved : goal.loop-part-preserved
loop-part-preserved c = λ zs old.
    subst (λ p. StandsBy p c.take_rows.new.groups c.take_rows.new.stale [] (selected c.args.plan.now (one_list (drop (c.loop-part.part-index + 1) c.args.parts.now)) ++ zs))
    c.in_ok-reading.ensures.plan
    (c.in_ok-take_rows.ensures (selected c.args.plan.now (one_list (drop (c.loop-part.part-index + 1) c.args.parts.now)) ++ zs)
    (subst (λ p. StandsBy p c.loop-part.groups c.loop-part.stale [] (c.in_ok-reading.reading.rows ++ (selected c.args.plan.now (one_list (drop (c.loop-part.part-index + 1) c.args.parts.now)) ++ zs)))
    (sym c.in_ok-reading.ensures.plan)
    (subst (λ l. StandsBy c.args.plan.now c.loop-part.groups c.loop-part.stale [] l)
    (next_part c.args.plan.now c.args.parts.now c.loop-part.part-index c.part-item.result c.in_ok-reading.reading.rows zs c.loop-part-test.true c.part-item.is c.in_ok-reading.ensures.rows)
    (c.loop-part.invariant zs old))))

pub returns : goal.returns
returns c = λ zs old.
    subst (λ l. StandsBy c.args.plan.now c.loop-part.groups c.loop-part.stale [] l)
    (no_parts c.args.plan.now c.args.parts.now c.loop-part.part-index zs c.loop-part-test.false) (c.loop-part.invariant zs old)
