use Rattle.std.proofs.Common.{◌≡◌, ◌+◌, rules}
use Rattle.plan_unnested_nodes.proofs.ApartArms.{closed_on}
use Rattle.plan_unnested_nodes.proofs.from_rows.own_on.Goals as goal

pub returns-in_ok-own-in-Closed : goal.returns-in_ok-own-in-Closed
returns-in_ok-own-in-Closed c =
    let sum : c.in_ok-both-in-Closed.both ≡ c.in_ok-first-in-Closed.first + c.in_ok-more-in-Closed.more = search rules in
    closed_on c.args.on.now c.in-Closed.is c.in_ok-n-in-Closed.ensures c.in_ok-first-in-Closed.ensures c.in_ok-more-in-Closed.ensures sum c.in_ok-own-in-Closed.own c.in_ok-own-in-Closed.ensures
