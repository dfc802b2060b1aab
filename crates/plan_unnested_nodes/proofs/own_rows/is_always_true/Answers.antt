use Rattle.std.proofs.Common.{◌≡◌, true, arith, rules}
use Rattle.std.proofs.lemmas.Grind.{common_steps}
use Rattle.plan_unnested_nodes.proofs.OwnRows.{always_true}
use Rattle.plan_unnested_nodes.proofs.own_rows.is_always_true.Goals as goal

pub returns-then-first-second : goal.returns-then-first-second
returns-then-first-second c =
    λ h.
    let equal : c.is_equal.result ≡ true = first_of (search rules, grind (arith, common_steps)) in
    let one : c.column_at-first.result ≡ c.column_at-second.result = first_of (search rules, grind (arith, common_steps)) in
    always_true c.args.kinds.now c.args.own.now c.in-Compare.is (c.is_equal.ensures equal) c.get.ensures c.in-Column.is c.get-2.ensures c.in-Column-get.is c.column_at-first.ensures c.column_at-second.ensures one (c.is_never_null.ensures h)
