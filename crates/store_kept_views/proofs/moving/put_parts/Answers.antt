use Rattle.std.proofs.Common.{[], ◌++◌, cond, subst, sym}
use Rattle.std.specs.Prelude.{take}
use Rattle.base_columns.specs.Lists.{one_list}
use Rattle.plan_algebra.specs.KeptPlans.{selected}
use Rattle.store_kept_views.specs.Standing.{StandsBy}
use Rattle.store_kept_views.proofs.Passing.{begun, selected_none}
use Rattle.store_kept_views.proofs.PartLists.{more_parts}
use Rattle.store_kept_views.specs.Standing.{CanAdd}
use Rattle.store_kept_views.proofs.moving.put_parts.Goals as goal

pub loop-part-init : goal.loop-part-init
loop-part-init c = λ xs ys old. begun c.args.wanted c.args.plan.now c.args.groups.now c.args.stale.now xs ys (selected c.args.plan.now []) (selected_none c.args.plan.now) old

pub put_rows-requires : goal.put_rows-requires
put_rows-requires c =
    subst (λ p. CanAdd p c.loop-part.groups c.args.stale.now) (sym c.in_ok-reading.ensures.plan)
    (record {
      anew = cond c.args.wanted (c.requires.anew ++ selected c.args.plan.now (one_list (take c.loop-part.part-index c.args.parts.now))) c.requires.anew;
      others = cond c.args.wanted c.requires.others (c.requires.others ++ selected c.args.plan.now (one_list (take c.loop-part.part-index c.args.parts.now)));
      stands = c.loop-part.invariant c.requires.anew c.requires.others c.requires.stands;
    })

pub loop-part-preserved : goal.loop-part-preserved
loop-part-preserved c = λ xs ys old.
    let before = cond c.args.wanted (xs ++ selected c.args.plan.now (one_list (take c.loop-part.part-index c.args.parts.now))) xs in
    let others = cond c.args.wanted ys (ys ++ selected c.args.plan.now (one_list (take c.loop-part.part-index c.args.parts.now))) in
    let rows = c.in_ok-reading.reading.rows in
    more_parts c.args.wanted c.args.plan.now c.put_rows.new.groups c.args.stale.now c.args.parts.now c.loop-part.part-index c.part-item.result rows xs ys c.loop-part-test.true c.part-item.is
    c.in_ok-reading.ensures.rows
    (subst (λ p. StandsBy p c.put_rows.new.groups c.args.stale.now (cond c.args.wanted (before ++ rows) before) (cond c.args.wanted others (others ++ rows))) c.in_ok-reading.ensures.plan
    (c.in_ok-put_rows.ensures before others
    (subst (λ p. StandsBy p c.loop-part.groups c.args.stale.now before others) (sym c.in_ok-reading.ensures.plan) (c.loop-part.invariant xs ys old))))
