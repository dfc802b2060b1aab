use Rattle.plan_unnested_nodes.proofs.Asked.{and_asks}
use Rattle.plan_unnested_nodes.proofs.own_columns.equal_column.Goals as goal

pub returns : goal.returns
returns c = and_asks c.in-All.is c.as_slice.ensures c.in_ok-b-2.ensures
