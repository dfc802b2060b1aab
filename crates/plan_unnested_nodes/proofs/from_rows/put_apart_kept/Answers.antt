use Rattle.plan_unnested_nodes.proofs.KeptArms.{kept_apart}
use Rattle.plan_unnested_nodes.proofs.from_rows.put_apart_kept.Goals as goal

pub returns : goal.returns
returns c = λ n.
    kept_apart (record { rows = c.in_ok-rows.rows; width = c.in_ok-width.width; conditions = c.new-conditions.result }) n
    c.in_ok-rows.ensures c.in_ok-width.ensures c.new-conditions.ensures
