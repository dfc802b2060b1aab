use Rattle.std.proofs.Common.{◌+◌, ◌*◌}
use Rattle.sql_parser.proofs.knot.+knot.Given as goal

abbrev pub decreases-unary : goal.decreases-unary
decreases-unary l = 4 * l.room + 0

abbrev pub decreases-part : goal.decreases-part
decreases-part l = 4 * l.room + 1

abbrev pub decreases-query : goal.decreases-query
decreases-query l = 4 * l.room + 2
