use Rattle.std.proofs.Common.{rules}
use Rattle.plan_join_order.proofs.LateralSteps.{project_made, select_made}
use Rattle.plan_join_order.proofs.lateral.+total_joined.Goals as goal

pub returns-in_ok-new-in-Project : goal.returns-in_ok-new-in-Project
returns-in_ok-new-in-Project t c =
    project_made c.args.n c.args.left c.args.right c.in-Project.input c.in_ok-rows-in-Project.rows
    c.in_ok-new-in-Project.new c.args.columns.now c.in_ok-places-in-Project.places.items _
    c.in-Project.es _ c.in_ok-list-in-Project.list c.in_ok-first-in-Project.first
    c.in_ok-more-in-Project.more c.requires (search rules) (search rules) (search rules)
    c.in_ok-places-in-Project.ensures c.deref.ensures.value c.as_slice.ensures
    c.in_ok-list-in-Project.ensures c.in_ok-rows-in-Project.ensures c.in_ok-new-in-Project.ensures

pub returns-in_ok-new-in-Select : goal.returns-in_ok-new-in-Select
returns-in_ok-new-in-Select t c =
    select_made c.args.n c.args.left c.args.right c.in-Select.input c.in_ok-rows-in-Select.rows
    c.in_ok-new-in-Select.new c.args.columns.now c.in_ok-places-in-Select.places.items _
    c.in-Select.c _ c.in_ok-above-in-Select.above c.in_ok-above-in-Select-2.above
    c.in_ok-first-in-Select.first c.in_ok-more-in-Select.more c.requires (search rules)
    (search rules) (search rules) c.in_ok-places-in-Select.ensures c.deref-in-Select.ensures.value
    c.get-in-Select-3.ensures c.in_ok-above-in-Select.ensures.meaning
    c.in_ok-above-in-Select-2.ensures c.in_ok-rows-in-Select.ensures c.in_ok-new-in-Select.ensures
