use Rattle.std.proofs.Common.{◌<◌, ◌≤◌, [], subst, ◌∙◌}
use Rattle.store_kept_views.specs.Standing.{StandsBy}
use Rattle.store_kept_views.proofs.Passing.{asked_row, taken_row, none_left}
use Rattle.store_kept_views.proofs.moving.take_rows.Goals as goal

pub loop-i-init : goal.loop-i-init
loop-i-init c = λ zs old. old

pub take_out-requires : goal.take_out-requires
take_out-requires c =
    asked_row c.args.reading.now.plan c.loop-i.groups c.loop-i.stale c.args.reading.now.rows c.requires.left c.loop-i.i
    (subst (λ n. c.loop-i.i < n) c.len-i-end.ensures c.loop-i-test.true) (c.loop-i.invariant c.requires.left c.requires.stands) _ _
    (c.as_slice.ensures.value ∙ c.in_ok-put_key.ensures) (c.as_slice-in-loop-i.ensures.value ∙ c.in_ok-put_arguments.ensures)

pub loop-i-preserved : goal.loop-i-preserved
loop-i-preserved c = λ zs old.
    taken_row c.args.reading.now.plan c.loop-i.groups c.loop-i.stale c.args.reading.now.rows zs c.loop-i.i
    (subst (λ n. c.loop-i.i < n) c.len-i-end.ensures c.loop-i-test.true) (c.loop-i.invariant zs old) c.take_out.new.groups c.take_out.new.stale _ _
    (c.as_slice.ensures.value ∙ c.in_ok-put_key.ensures) (c.as_slice-in-loop-i.ensures.value ∙ c.in_ok-put_arguments.ensures) c.in_ok-take_out.ensures

pub returns : goal.returns
returns c = λ zs old.
    subst (λ l. StandsBy c.args.reading.now.plan c.loop-i.groups c.loop-i.stale [] l)
    (none_left c.args.reading.now.rows zs c.loop-i.i (subst (λ n. n ≤ c.loop-i.i) c.len-i-end.ensures c.loop-i-test.false)) (c.loop-i.invariant zs old)
