use Rattle.std.proofs.Common.{arith}
use Rattle.base_value.specs.declared.truth.Standing.TheVariants.{AtTrue}
use Rattle.base_value.specs.declared.truth.Truth.TheVariants.{False}
use Rattle.base_columns.proofs.Kept.{is_kept_nil, is_kept_more}
use Rattle.base_columns.proofs.batch.kept_places.Goals as goal

pub loop-i-init : goal.loop-i-init
loop-i-init c = rw (c.new-places.ensures.items, c.all_true-kept.ensures) is_kept_nil

pub loop-i-preserved : goal.loop-i-preserved
loop-i-preserved c =
    is_kept_more c.args.standings.now c.args.truths.now c.loop-i.i AtTrue False c.loop-i.places.items c.put_kept.new.places.items c.loop-i.kept c.put_kept.new.kept
    (omega arith) (omega arith) c.loop-i.invariant c.in_ok-put_kept.ensures.long c.in_ok-put_kept.ensures.below (rw c.at.ensures at c.in_ok-put_kept.ensures.rows)
