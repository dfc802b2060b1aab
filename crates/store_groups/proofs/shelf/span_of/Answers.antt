use Rattle.std.proofs.Common.{arith}
use Rattle.store_groups.proofs.ShelfLists.{sum_fits, sum_more, sum_within}
use Rattle.store_groups.proofs.shelf.span_of.Goals as goal

pub overflow_add-end : goal.overflow_add-end
overflow_add-end c = sum_fits c.args.heads.now c.args.i c.start_of-start.result _ c.requires.within c.start_of-start.ensures (omega arith)

pub returns-clause-end : goal.returns-clause-end
returns-clause-end c = sum_more c.args.heads.now c.args.i c.start_of-start.result _ c.requires.within c.start_of-start.ensures

pub returns-clause-within : goal.returns-clause-within
returns-clause-within c = sum_within c.args.heads.now c.args.i c.start_of-start.result _ _ c.requires.within c.start_of-start.ensures (omega arith)
