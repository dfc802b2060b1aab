-- The answer of a query that is a statement: its rows in order, or the least fault.
use Rattle.std.specs.Prelude.{List, [], Result}
use Rattle.base_order_limit.specs.Answers.{finished}
use Rattle.base_value.specs.declared.value.Value.{Value}
use Rattle.base_schema.specs.State.{State}
use Rattle.sql_bound_query.specs.declared.query.BoundQuery.{BoundQuery}
use Rattle.sql_bound_query.specs.Meaning.{rows}

-- the answer of a query over a state
unfoldable pub answer : BoundQuery → State → Result (List (List Value)) Value
answer q state = finished q.order q.limit (rows q.block [] state)
