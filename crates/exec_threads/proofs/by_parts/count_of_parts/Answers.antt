use Rattle.exec_threads.proofs.Chunked.{begins_inside}
use Rattle.exec_threads.proofs.by_parts.count_of_parts.Goals as goal

pub returns-clause-inside : goal.returns-clause-inside
returns-clause-inside c = λ n h. begins_inside c.div_ceil.result c.args.len c.args.size n c.requires c.div_ceil.ensures h
