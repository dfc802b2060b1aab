use Rattle.std.proofs.Common.{refl, ◌∙◌, sym, ap}
use Rattle.plan_algebra.specs.declared.tree.DepTree.TheVariants as tree
use Rattle.plan_unnested_nodes.proofs.Kept.{settled_in_plan}
use Rattle.plan_unnesting.proofs.Groups.{total_in_plan}
use Rattle.plan_unnested_nodes.proofs.Sides.{none_of, some_of}
use Rattle.plan_unnested_nodes.proofs.ApartArms.{read_whole, scan_part, kept_part, list_part, select_part, join_part, whole_part, part_footing, part_last, part_within, part_wide, later_within, later_wide, right_long, outer_part, closed_long, found_own, found_closed}
use Rattle.plan_unnesting.proofs.Steps.{scan_arm, kept_arm, selection_arm, select_arm, project_arm, distinct_arm, group_arm, total_arm, join_arm, outer_arm, mark_arm, single_arm, outer_wide, right_wide, shared_arm, closed_arm, own_arm, set_arm, set_put, set_even, set_left}
use Rattle.plan_unnesting.proofs.lowering.+lower.Goals as goal

pub lowered_node-put_total-requires-clause-domain : goal.lowered_node-put_total-requires-clause-domain
lowered_node-put_total-requires-clause-domain t c = total_in_plan c.in_ok-domain-in-Group.domain (settled_in_plan c.in_ok-domain-in-Group.ensures) c.in_ok-rows-in-Group.ensures

pub lowered_node-put_join-requires-clause-width : goal.lowered_node-put_join-requires-clause-width
lowered_node-put_join-requires-clause-width t c = right_wide c.in_ok-width-in-Join.ensures c.in_ok-outer-in-Join.ensures c.in_ok-rows-in-Join.ensures

pub lowered_node-put_mark-requires-clause-width : goal.lowered_node-put_mark-requires-clause-width
lowered_node-put_mark-requires-clause-width t c = right_wide c.in_ok-width-in-Mark.ensures c.in_ok-outer-in-Mark.ensures c.in_ok-rows-in-Mark.ensures

pub lowered_node-put_single-requires-clause-width : goal.lowered_node-put_single-requires-clause-width
lowered_node-put_single-requires-clause-width t c = right_wide c.in_ok-width-in-Single.ensures c.in_ok-outer-in-Single.ensures c.in_ok-rows-in-Single.ensures

pub lowered_node-put_outer-requires-clause-width : goal.lowered_node-put_outer-requires-clause-width
lowered_node-put_outer-requires-clause-width t c =
    outer_wide c.in_ok-own-in-Outer.ensures c.in_ok-outer-in-Outer.ensures refl c.in_ok-rows-in-Outer.ensures c.get-in-Outer-2.ensures c.in_ok-nulls-in-Outer.ensures

pub lowered_node-returns-in_ok-id-in-Scan : goal.lowered_node-returns-in_ok-id-in-Scan
lowered_node-returns-in_ok-id-in-Scan t c = scan_arm c.in-Scan.is c.in_ok-id-in-Scan.ensures

pub lowered_node-returns-in_ok-id-in-Kept : goal.lowered_node-returns-in_ok-id-in-Kept
lowered_node-returns-in_ok-id-in-Kept t c = kept_arm c.in-Kept.is c.in_ok-id-in-Kept.ensures

pub lowered_node-returns-in-Scan-get : goal.lowered_node-returns-in-Scan-get
lowered_node-returns-in-Scan-get t c = selection_arm c.in-Select.is c.get.ensures c.in-Scan-get.is c.get-in-Scan-get.ensures c.in_ok-id-in-Select.ensures

pub lowered_node-returns-in_ok-id-in-Select-2 : goal.lowered_node-returns-in_ok-id-in-Select-2
lowered_node-returns-in_ok-id-in-Select-2 t c =
    select_arm c.in-Select.is c.get-in-Select.ensures c.in_ok-rows-in-Select.ensures c.get-in-Select-2.ensures c.in_ok-id-in-Select-2.ensures

pub lowered_node-returns-in_ok-id-in-Project : goal.lowered_node-returns-in_ok-id-in-Project
lowered_node-returns-in_ok-id-in-Project t c =
    project_arm c.in-Project.is c.get-in-Project.ensures c.in_ok-rows-in-Project.ensures c.in_ok-width-in-Project.ensures c.as_slice.ensures c.in_ok-id-in-Project.ensures

pub lowered_node-returns-in_ok-id-in-Join : goal.lowered_node-returns-in_ok-id-in-Join
lowered_node-returns-in_ok-id-in-Join t c =
    join_arm c.in-Join.is c.in_ok-width-in-Join.ensures c.get-in-Join.ensures c.in_ok-outer-in-Join.ensures refl c.in_ok-rows-in-Join.ensures c.get-in-Join-2.ensures
    c.in_ok-id-in-Join.ensures

pub lowered_node-returns-in_ok-id-in-Outer : goal.lowered_node-returns-in_ok-id-in-Outer
lowered_node-returns-in_ok-id-in-Outer t c =
    outer_arm c.in-Outer.is c.in_ok-own-in-Outer.ensures c.get-in-Outer.ensures c.in_ok-outer-in-Outer.ensures refl c.in_ok-rows-in-Outer.ensures c.get-in-Outer-2.ensures
    c.in_ok-nulls-in-Outer.ensures c.get-in-Outer-3.ensures c.in_ok-id-in-Outer.ensures

pub lowered_node-returns-in_ok-id-in-Mark : goal.lowered_node-returns-in_ok-id-in-Mark
lowered_node-returns-in_ok-id-in-Mark t c =
    mark_arm c.in-Mark.is c.in_ok-width-in-Mark.ensures c.get-in-Mark.ensures c.in_ok-outer-in-Mark.ensures refl c.in_ok-rows-in-Mark.ensures c.get-in-Mark-2.ensures
    c.in_ok-id-in-Mark.ensures

pub lowered_node-returns-in_ok-id-in-Single : goal.lowered_node-returns-in_ok-id-in-Single
lowered_node-returns-in_ok-id-in-Single t c =
    single_arm c.in-Single.is c.in_ok-width-in-Single.ensures c.get-in-Single.ensures c.in_ok-outer-in-Single.ensures refl c.in_ok-rows-in-Single.ensures
    c.in_ok-id-in-Single.ensures

pub lowered_node-returns-then-is_empty : goal.lowered_node-returns-then-is_empty
lowered_node-returns-then-is_empty t c =
    total_arm (none_of c.as_slice-by.result.now (sym c.is_empty.ensures ∙ c.if-is_empty.true)) c.in-Group.is c.in_ok-domain-in-Group.ensures c.get-then-is_empty.ensures c.in_ok-rows-in-Group.ensures c.as_slice-by.ensures
    c.as_slice-then-is_empty.ensures c.in_ok-id-in-Group.ensures

pub lowered_node-returns-in_ok-id-in-Group-2 : goal.lowered_node-returns-in_ok-id-in-Group-2
lowered_node-returns-in_ok-id-in-Group-2 t c =
    group_arm (some_of c.as_slice-by.result.now (sym c.is_empty.ensures ∙ c.if-is_empty.false)) c.in-Group.is c.in_ok-width-in-Group.ensures c.get-in-Group.ensures c.in_ok-rows-in-Group-2.ensures
    c.as_slice-by.ensures c.as_slice-in-Group.ensures c.in_ok-id-in-Group-2.ensures

pub lowered_node-returns-in_ok-id-in-Distinct : goal.lowered_node-returns-in_ok-id-in-Distinct
lowered_node-returns-in_ok-id-in-Distinct t c =
    distinct_arm c.in-Distinct.is c.get-in-Distinct.ensures c.in_ok-rows-in-Distinct.ensures c.in_ok-id-in-Distinct.ensures

pub lowered_right-returns-in_ok-id-in-Shared : goal.lowered_right-returns-in_ok-id-in-Shared
lowered_right-returns-in_ok-id-in-Shared t c = shared_arm c.args.outer c.in-Shared.is c.get.ensures c.in_ok-id-in-Shared.ensures

pub lowered_right-returns-in_ok-id-in-Closed : goal.lowered_right-returns-in_ok-id-in-Closed
lowered_right-returns-in_ok-id-in-Closed t c =
    closed_arm c.args.footing.now c.args.outer c.requires.footing c.in-Closed.is c.get-in-Closed.ensures c.one-none.ensures.rows c.one-none.ensures.unchanged c.in_ok-id-in-Closed.ensures

pub lowered_right-returns-in_ok-id-in-Dependent : goal.lowered_right-returns-in_ok-id-in-Dependent
lowered_right-returns-in_ok-id-in-Dependent t c =
    own_arm c.args.footing.now c.args.outer c.requires.footing c.in-Dependent.is c.as_slice.ensures c.get-in-Dependent.ensures c.in_ok-own-in-Dependent.ensures c.in_ok-id-in-Dependent.ensures

pub lowered-put_whole-requires-clause-footing : goal.lowered-put_whole-requires-clause-footing
lowered-put_whole-requires-clause-footing t c = part_footing c.args.builder.now.nodes c.lowered_part.new.builder.nodes _ c.args.footing.now c.lowered_part.new.footing c.in_ok-part.part c.in-Apart.part c.in_ok-part.ensures c.in-Apart.is c.requires

pub lowered-put_whole-requires-clause-rows : goal.lowered-put_whole-requires-clause-rows
lowered-put_whole-requires-clause-rows t c = part_within c.args.builder.now.nodes c.lowered_part.new.builder.nodes _ c.args.footing.now c.lowered_part.new.footing c.in_ok-part.part c.in-Apart.part c.in_ok-part.ensures c.in-Apart.is

pub lowered-put_whole-requires-clause-width : goal.lowered-put_whole-requires-clause-width
lowered-put_whole-requires-clause-width t c = part_wide c.args.builder.now.nodes c.lowered_part.new.builder.nodes _ c.args.footing.now c.lowered_part.new.footing c.in_ok-part.part c.in-Apart.part c.in_ok-part.ensures c.in-Apart.is

pub lowered-returns-in-Whole : goal.lowered-returns-in-Whole
lowered-returns-in-Whole t c = read_whole c.in_ok-part.ensures c.in-Whole.is

pub lowered-returns-in_ok-id-in-Apart : goal.lowered-returns-in_ok-id-in-Apart
lowered-returns-in_ok-id-in-Apart t c = whole_part c.requires c.in_ok-part.ensures c.in-Apart.is c.in_ok-id-in-Apart.ensures

pub lowered_part-put_apart_select-requires-clause-last : goal.lowered_part-put_apart_select-requires-clause-last
lowered_part-put_apart_select-requires-clause-last t c = part_last c.args.builder.now.nodes c.lowered_part.new.builder.nodes _ c.args.footing.now c.lowered_part.new.footing c.in_ok-part-in-Select.part c.in-Apart.part c.in_ok-part-in-Select.ensures c.in-Apart.is

pub lowered_part-put_apart_select-requires-clause-width : goal.lowered_part-put_apart_select-requires-clause-width
lowered_part-put_apart_select-requires-clause-width t c = part_wide c.args.builder.now.nodes c.lowered_part.new.builder.nodes _ c.args.footing.now c.lowered_part.new.footing c.in_ok-part-in-Select.part c.in-Apart.part c.in_ok-part-in-Select.ensures c.in-Apart.is

pub lowered_part-put_apart_join-requires-clause-left : goal.lowered_part-put_apart_join-requires-clause-left
lowered_part-put_apart_join-requires-clause-left t c =
    later_within c.args.builder.now.nodes c.lowered_part-in-Closed.new.builder.nodes _ c.args.footing.now c.lowered_part-in-Closed.new.footing c.in_ok-outer-in-Closed.outer c.in-Apart-outer.part c.in_ok-outer-in-Closed.ensures c.in-Apart-outer.is c.in_ok-rows-in-Closed.ensures

pub lowered_part-put_apart_join-requires-clause-width : goal.lowered_part-put_apart_join-requires-clause-width
lowered_part-put_apart_join-requires-clause-width t c =
    later_wide c.args.builder.now.nodes c.lowered_part-in-Closed.new.builder.nodes _ c.args.footing.now c.lowered_part-in-Closed.new.footing c.in_ok-outer-in-Closed.outer c.in-Apart-outer.part c.in_ok-outer-in-Closed.ensures c.in-Apart-outer.is c.in_ok-rows-in-Closed.ensures

pub lowered_part-put_apart_join-requires-clause-more : goal.lowered_part-put_apart_join-requires-clause-more
lowered_part-put_apart_join-requires-clause-more t c =
    right_long c.one-none.ensures.rows c.get-in-Closed-2.ensures c.in_ok-rows-in-Closed.ensures c.get-in-Apart-outer.ensures c.in_ok-more-in-Apart-outer.ensures

pub lowered_part-returns-in-Scan : goal.lowered_part-returns-in-Scan
lowered_part-returns-in-Scan t c = scan_part c.args.footing.now c.in-Scan.is c.in_ok-part-in-Scan.ensures

pub lowered_part-returns-in-Kept : goal.lowered_part-returns-in-Kept
lowered_part-returns-in-Kept t c = kept_part c.args.footing.now c.in-Kept.is c.in_ok-part-in-Kept.ensures

pub lowered_part-returns-in-Whole : goal.lowered_part-returns-in-Whole
lowered_part-returns-in-Whole t c =
    select_arm c.in-Select.is c.get.ensures (read_whole c.in_ok-part-in-Select.ensures c.in-Whole.is) c.get-in-Whole.ensures c.in_ok-id-in-Whole.ensures

pub lowered_part-returns-in-Select : goal.lowered_part-returns-in-Select
lowered_part-returns-in-Select t c =
    select_part c.in-Select.is c.get.ensures c.in_ok-part-in-Select.ensures c.in-Apart.is c.in_ok-n-in-Select.ensures c.get-in-Apart.ensures c.in_ok-part-in-Apart.ensures

pub lowered_part-returns-in-Whole-outer : goal.lowered_part-returns-in-Whole-outer
lowered_part-returns-in-Whole-outer t c =
    let left = read_whole c.in_ok-outer-in-Closed.ensures c.in-Whole-outer.is in
    join_arm c.in-Join.is c.in_ok-n-in-Closed.ensures c.get-in-Closed.ensures left refl
    (closed_arm c.lowered_part-in-Closed.new.footing c.in-Whole-outer.outer left.same.in_plan c.in-Closed.is c.get-in-Closed-2.ensures c.one-none.ensures.rows c.one-none.ensures.unchanged c.in_ok-rows-in-Closed.ensures)
    c.get-in-Whole-outer.ensures c.in_ok-id-in-Whole-outer.ensures

pub lowered_part-returns-in-Closed : goal.lowered_part-returns-in-Closed
lowered_part-returns-in-Closed t c =
    join_part (c.in-Join.is ∙ ap (λ s. tree.Join c.in-Join.left c.in-Join.right s c.in-Join.on) c.in-Closed.is) c.in_ok-n-in-Closed.ensures c.get-in-Closed.ensures c.in_ok-outer-in-Closed.ensures c.in-Apart-outer.is
    c.one-none.ensures.rows c.one-none.ensures.unchanged c.get-in-Closed-2.ensures c.in_ok-rows-in-Closed.ensures c.get-in-Apart-outer.ensures c.in_ok-more-in-Apart-outer.ensures c.get-in-Apart-outer-2.ensures
    c.in_ok-part-in-Apart-outer.ensures

pub lowered_list-returns-in-Some : goal.lowered_list-returns-in-Some
lowered_list-returns-in-Some t c =
    list_part c.args.footing.now c.in_ok-own.field-0 c.in-Project.is c.get.ensures c.in-Scan.is
    c.in_ok-n.ensures c.as_slice.ensures c.in_ok-own.ensures c.in-Some.is c.in_ok-part.ensures

pub lowered_outer-put_outer-requires-clause-width : goal.lowered_outer-put_outer-requires-clause-width
lowered_outer-put_outer-requires-clause-width t c =
    closed_long c.in-Outer.side c.in_ok-n.n c.in_ok-more.more _ (found_closed _ _ c.in-Outer.side _ c.in_ok-found.found c.in-Some.own c.in_ok-found.ensures c.in-Some.is)
    (right_long c.one-none.ensures.rows c.get-6.ensures c.in_ok-rows.ensures c.get-4.ensures c.in_ok-more.ensures)

pub lowered_outer-put_apart_outer-requires-clause-width : goal.lowered_outer-put_apart_outer-requires-clause-width
lowered_outer-put_apart_outer-requires-clause-width t c =
    later_wide c.args.builder.now.nodes c.lowered_part.new.builder.nodes _ c.args.footing.now c.lowered_part.new.footing c.in_ok-outer.outer c.in-Apart.part c.in_ok-outer.ensures c.in-Apart.is c.in_ok-rows.ensures

pub lowered_outer-put_apart_outer-requires-clause-more : goal.lowered_outer-put_apart_outer-requires-clause-more
lowered_outer-put_apart_outer-requires-clause-more t c = right_long c.one-none.ensures.rows c.get-6.ensures c.in_ok-rows.ensures c.get-4.ensures c.in_ok-more.ensures

pub lowered_outer-returns-in_ok-id-in-Whole : goal.lowered_outer-returns-in_ok-id-in-Whole
lowered_outer-returns-in_ok-id-in-Whole t c =
    let left = read_whole c.in_ok-outer.ensures c.in-Whole.is in
    outer_arm c.in-Outer.is c.in_ok-n.ensures c.get-5.ensures left refl
    (closed_arm c.lowered_part.new.footing c.in-Whole.outer left.same.in_plan (found_closed _ _ c.in-Outer.side _ c.in_ok-found.found c.in-Some.own c.in_ok-found.ensures c.in-Some.is) c.get-6.ensures c.one-none.ensures.rows c.one-none.ensures.unchanged c.in_ok-rows.ensures)
    c.get-4.ensures c.in_ok-more.ensures c.get-in-Whole.ensures c.in_ok-id-in-Whole.ensures

pub lowered_outer-returns-in_ok-part-in-Apart : goal.lowered_outer-returns-in_ok-part-in-Apart
lowered_outer-returns-in_ok-part-in-Apart t c =
    outer_part c.in-Outer.is c.in_ok-n.ensures c.get-5.ensures c.in_ok-outer.ensures c.in-Apart.is c.one-none.ensures.rows c.one-none.ensures.unchanged c.get-6.ensures c.in_ok-rows.ensures c.get-4.ensures
    c.in_ok-more.ensures c.get.ensures c.get-2.ensures c.get-3.ensures (found_own c.in_ok-found.ensures c.in-Some.is) c.in_ok-part-in-Apart.ensures

pub lowered_node-put_set-requires-clause-width : goal.lowered_node-put_set-requires-clause-width
lowered_node-put_set-requires-clause-width t c =
    set_even c.get-in-Set-2.ensures c.in_ok-own-in-Set.ensures c.get-in-Set-3.ensures c.in_ok-other-in-Set.ensures c.if-own-other.false c.get-in-Set.ensures c.in_ok-outer-in-Set.ensures
    c.get-in-Set-4.ensures c.in_ok-rows-in-Set.ensures

pub lowered_node-returns-in_ok-id-in-Set : goal.lowered_node-returns-in_ok-id-in-Set
lowered_node-returns-in_ok-id-in-Set t c =
    set_arm c.in-Set.left c.in-Set.right c.in-Set.operation c.in-Set.is
    (set_put c.get-in-Set-2.ensures c.in_ok-own-in-Set.ensures c.get-in-Set-3.ensures c.in_ok-other-in-Set.ensures c.if-own-other.false c.get-in-Set.ensures c.in_ok-outer-in-Set.ensures
    c.get-in-Set-4.ensures c.in_ok-rows-in-Set.ensures c.in_ok-id-in-Set.ensures)

pub lowered_node-returns-then-own-other : goal.lowered_node-returns-then-own-other
lowered_node-returns-then-own-other t c =
    set_arm c.in-Set.left c.in-Set.right c.in-Set.operation c.in-Set.is
    (set_left c.in-Set.operation c.get-in-Set-2.ensures c.in_ok-own-in-Set.ensures c.get-in-Set-3.ensures c.in_ok-other-in-Set.ensures c.if-own-other.true c.get-in-Set.ensures
    c.in_ok-outer-in-Set.ensures)
