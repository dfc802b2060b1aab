use Rattle.sql_binder.specs.Sizes.{size, block_size}
use Rattle.sql_binder.proofs.knot.+knot.Given as goal

abbrev pub decreases-expr : goal.decreases-expr
decreases-expr l = size l.e.now

abbrev pub decreases-query : goal.decreases-query
decreases-query l = block_size l.q.now
