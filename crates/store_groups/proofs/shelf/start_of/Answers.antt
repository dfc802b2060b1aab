use Rattle.std.proofs.Common.{arith}
use Rattle.store_groups.proofs.ShelfLists.{sum_fits, sum_more}
use Rattle.store_groups.proofs.shelf.start_of.Goals as goal

pub overflow_add-start : goal.overflow_add-start
overflow_add-start c = sum_fits c.args.heads.now c.loop-j.j c.loop-j.start _ (omega arith) c.loop-j.invariant c.requires.fits

pub loop-j-preserved : goal.loop-j-preserved
loop-j-preserved c = sum_more c.args.heads.now c.loop-j.j c.loop-j.start _ (omega arith) c.loop-j.invariant
