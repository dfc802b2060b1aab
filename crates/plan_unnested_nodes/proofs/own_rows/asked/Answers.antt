use Rattle.plan_unnested_nodes.proofs.OwnRows.{one_asked, all_asked}
use Rattle.plan_unnested_nodes.proofs.own_rows.asked.Goals as goal

pub returns-in_ok-asked-in-All : goal.returns-in_ok-asked-in-All
returns-in_ok-asked-in-All c = all_asked c.in-All.is c.as_slice.ensures c.in_ok-asked-in-All.ensures

pub returns-in_ok-put_asked-in_default : goal.returns-in_ok-put_asked-in_default
returns-in_ok-put_asked-in_default c = one_asked c.new-asked.ensures c.in_ok-put_asked-in_default.ensures
