use Rattle.std.proofs.Common.{[], ◌++◌, subst, sym}
use Rattle.base_columns.specs.Lists.{one_list}
use Rattle.plan_algebra.specs.KeptPlans.{selected}
use Rattle.store_kept_views.specs.Standing.{StandsFor}
use Rattle.store_kept_views.proofs.Stages.{begun_stands, ended_stands}
use Rattle.store_kept_views.proofs.moving.groups_after.Goals as goal

pub take_parts-requires : goal.take_parts-requires
take_parts-requires c = record {
  left = selected c.args.plan.now c.requires.moved.rest;
  stands = begun_stands c.args.plan.now c.in_ok-next.next c.in_ok-stale.stale c.requires.old (one_list c.args.removed.now) c.requires.moved.rest c.in_ok-stale.ensures
      (subst (λ es. StandsFor c.args.plan.now es c.requires.old) (sym c.in_ok-next.ensures) c.requires.stands) c.requires.moved.before;
}

pub put_parts-requires : goal.put_parts-requires
put_parts-requires c = record {
  anew = [];
  others = selected c.args.plan.now c.requires.moved.rest;
  stands = c.in_ok-take_parts.ensures (selected c.args.plan.now c.requires.moved.rest)
      (begun_stands c.args.plan.now c.in_ok-next.next c.in_ok-stale.stale c.requires.old (one_list c.args.removed.now) c.requires.moved.rest c.in_ok-stale.ensures
      (subst (λ es. StandsFor c.args.plan.now es c.requires.old) (sym c.in_ok-next.ensures) c.requires.stands) c.requires.moved.before);
}

pub make_anew-requires : goal.make_anew-requires
make_anew-requires c = record {
  anew = [];
  others = selected c.args.plan.now c.requires.moved.rest ++ selected c.args.plan.now (one_list c.args.added.now);
  stands = c.in_ok-put_parts.ensures [] (selected c.args.plan.now c.requires.moved.rest)
      (c.in_ok-take_parts.ensures (selected c.args.plan.now c.requires.moved.rest)
      (begun_stands c.args.plan.now c.in_ok-next.next c.in_ok-stale.stale c.requires.old (one_list c.args.removed.now) c.requires.moved.rest c.in_ok-stale.ensures
      (subst (λ es. StandsFor c.args.plan.now es c.requires.old) (sym c.in_ok-next.ensures) c.requires.stands) c.requires.moved.before));
}

pub returns : goal.returns
returns c =
    ended_stands c.args.plan.now c.make_anew.new.groups c.take_parts.new.stale c.requires.moved.rest (one_list c.args.added.now) (one_list c.args.parts.now) c.requires.moved.after
    (c.in_ok-make_anew.ensures _ (c.in_ok-put_parts.ensures [] (selected c.args.plan.now c.requires.moved.rest)
    (c.in_ok-take_parts.ensures (selected c.args.plan.now c.requires.moved.rest)
    (begun_stands c.args.plan.now c.in_ok-next.next c.in_ok-stale.stale c.requires.old (one_list c.args.removed.now) c.requires.moved.rest c.in_ok-stale.ensures
    (subst (λ es. StandsFor c.args.plan.now es c.requires.old) (sym c.in_ok-next.ensures) c.requires.stands) c.requires.moved.before))))
