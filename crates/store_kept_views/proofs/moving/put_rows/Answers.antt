use Rattle.std.proofs.Common.{◌<◌, ◌≤◌, [], subst, ◌∙◌}
use Rattle.std.proofs.Common.{refl}
use Rattle.base_columns.specs.Batches.{row_at}
use Rattle.store_kept_views.proofs.Passing.{all_put, asked_long, begun, put_row_more}
use Rattle.store_kept_views.proofs.moving.put_rows.Goals as goal

pub loop-i-init : goal.loop-i-init
loop-i-init c = λ xs ys old. begun c.args.wanted c.args.reading.now.plan c.args.groups.now c.args.stale.now xs ys [] refl old

pub put_in-requires : goal.put_in-requires
put_in-requires c =
    asked_long c.args.reading.now.plan c.loop-i.groups c.args.stale.now _ _ _ _ (row_at c.args.reading.now.rows c.loop-i.i).values
    (c.as_slice-in-loop-i.ensures.value ∙ c.in_ok-put_arguments.ensures)
    (c.loop-i.invariant c.requires.anew c.requires.others c.requires.stands)

pub loop-i-preserved : goal.loop-i-preserved
loop-i-preserved c = λ xs ys old.
    put_row_more c.args.wanted c.args.reading.now.plan c.loop-i.groups c.put_in.new.groups c.args.stale.now c.args.reading.now.rows c.loop-i.i _ _ _ xs ys
    (subst (λ n. c.loop-i.i < n) c.len-i-end.ensures c.loop-i-test.true)
    (c.as_slice.ensures.value ∙ c.in_ok-put_key.ensures) (c.as_slice-in-loop-i.ensures.value ∙ c.in_ok-put_arguments.ensures) c.standing-standing.ensures c.in_ok-put_in.ensures
    (c.loop-i.invariant xs ys old)

pub returns : goal.returns
returns c = λ xs ys old.
    all_put c.args.wanted c.args.reading.now.plan c.loop-i.groups c.args.stale.now xs ys c.args.reading.now.rows c.loop-i.i
    (subst (λ n. n ≤ c.loop-i.i) c.len-i-end.ensures c.loop-i-test.false) (c.loop-i.invariant xs ys old)
