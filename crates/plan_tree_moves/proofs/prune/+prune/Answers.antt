use Rattle.std.proofs.Common.{◌<◌, ◌∙◌, sym, ap, subst}
use Rattle.std.specs.List.{All}
use Rattle.plan_algebra.specs.Trees.{width_of}
use Rattle.plan_predicate_sinking.proofs.SameNodes.{select_made, project_made, distinct_made, group_made}
use Rattle.plan_predicate_sinking.proofs.SameNodes.{join_made, outer_made, single_made, set_made}
use Rattle.plan_tree_moves.proofs.OuterColumns.{outer_slimmed}
use Rattle.plan_tree_moves.proofs.RightColumns.{mark_shrunk}
use Rattle.plan_tree_moves.proofs.Pruning.{read_slimmed, select_slimmed, mark_slimmed, single_slimmed}
use Rattle.plan_tree_moves.proofs.Pruning.{list_slimmed, groups_slimmed, same_as_seen}
use Rattle.plan_tree_moves.proofs.SlimJoins.{join_slimmed}
use Rattle.plan_tree_moves.proofs.prune.+prune.Goals as goal

pub slimmed-returns-then-not-is_slimmed : goal.slimmed-returns-then-not-is_slimmed
slimmed-returns-then-not-is_slimmed t c =
    read_slimmed c.args.n c.args.tree.now c.in_ok-whole-in-Select.whole _
    c.in_ok-new-in-Select.new.tree c.in_ok-new-in-Select.new.kept.items
    c.get-then-not-is_slimmed.ensures
    c.in_ok-whole-in-Select.ensures c.in_ok-new-in-Select.ensures

pub slimmed-returns-in-Some : goal.slimmed-returns-in-Some
slimmed-returns-in-Some t c =
    select_slimmed c.args.n c.args.tree.now c.in-Select.t _ c.in_ok-input-in-Select.input.tree
    c.in-Some.slim.tree c.in-Select.c _ c.in_ok-input-in-Select.input.kept.items
    c.in-Some.slim.kept.items c.in-Select.is c.get-in-Select-2.ensures
    c.in_ok-input-in-Select.ensures c.get-in-Select-3.ensures
    (rw c.in-Some.is at c.in_ok-slim-in-Select.ensures)

pub slimmed-returns-in-Some-2 : goal.slimmed-returns-in-Some-2
slimmed-returns-in-Some-2 t c =
    mark_slimmed c.args.n c.in_ok-m-in-Mark.m c.args.tree.now c.in-Mark.l _ _ c.in-Mark.r
    c.in_ok-left-in-Mark.left.tree c.in_ok-right-in-Mark.right c.in-Some-2.slim.tree
    c.in_ok-left-in-Mark.left.kept.items c.in-Some-2.slim.kept.items c.in_ok-w-in-Mark.w
    c.in-Mark.side c.get-in-Mark.ensures c.get-in-Mark-3.ensures c.in_ok-w-in-Mark.ensures
    c.in_ok-left-in-Mark.ensures c.in_ok-m-in-Mark.ensures c.in_ok-right-in-Mark.ensures
    c.in-Mark.c _ c.in-Mark.is c.get-in-Mark-4.ensures
    (rw c.in-Some-2.is at c.in_ok-slim-in-Mark.ensures)

pub slimmed-returns-in-Some-3 : goal.slimmed-returns-in-Some-3
slimmed-returns-in-Some-3 t c =
    single_slimmed c.args.n c.in_ok-m-in-Single.m c.args.tree.now c.in-Single.l _ _ c.in-Single.r
    c.in_ok-left-in-Single.left.tree c.in_ok-right-in-Single.right c.in-Some-3.slim.tree
    c.in_ok-left-in-Single.left.kept.items c.in-Some-3.slim.kept.items
    c.in_ok-w-in-Single.w c.in-Single.side c.get-in-Single.ensures c.get-in-Single-2.ensures
    c.in_ok-w-in-Single.ensures c.in_ok-left-in-Single.ensures c.in_ok-m-in-Single.ensures
    c.in_ok-right-in-Single.ensures c.in-Single.column c.in-Single.is
    (rw c.in-Some-3.is at c.in_ok-slim-in-Single.ensures)

pub slimmed_join-returns-in-Some : goal.slimmed_join-returns-in-Some
slimmed_join-returns-in-Some t c =
    join_slimmed c.args.n c.in_ok-m.m c.args.tree.now c.in-Join.l _ _ c.in-Join.r
    c.in_ok-left.left.tree c.in_ok-right.right c.in-Some.slim.tree c.in_ok-left.left.kept.items
    c.in-Some.slim.kept.items c.in_ok-w.w c.in-Join.side c.get.ensures c.get-3.ensures
    c.in_ok-w.ensures c.in_ok-left.ensures c.in_ok-m.ensures c.in_ok-right.ensures
    c.in-Join.c _ c.in-Join.is c.get-4.ensures (rw c.in-Some.is at c.in_ok-slim.ensures)

pub slimmed_outer-slim_outer-requires : goal.slimmed_outer-slim_outer-requires
slimmed_outer-slim_outer-requires t c =
    subst (λ l. All (λ e. e < width_of c.in_ok-right.right) l) (sym c.deref-4.ensures.value)
    (subst (λ m. All (λ e. e < m) c.in_ok-own.own.items)
    (c.in_ok-k.ensures ∙ ap width_of c.get-4.ensures) c.in_ok-own.ensures)

pub slimmed_outer-returns-in-Some : goal.slimmed_outer-returns-in-Some
slimmed_outer-returns-in-Some t c =
    outer_slimmed c.args.n c.in_ok-m.m c.args.tree.now c.in-Outer.l _ _ c.in-Outer.r
    c.in_ok-left.left.tree c.in_ok-right.right c.in-Some.slim.tree c.in_ok-left.left.kept.items
    c.in-Some.slim.kept.items c.in_ok-w.w c.in-Outer.side c.get.ensures c.get-3.ensures
    c.in_ok-w.ensures c.in_ok-left.ensures c.in_ok-m.ensures c.in_ok-right.ensures
    c.in-Outer.c _ c.in-Outer.is c.get-5.ensures (rw c.in-Some.is at c.in_ok-slim.ensures)

pub pruned-returns-in_ok-new-in-Select : goal.pruned-returns-in_ok-new-in-Select
pruned-returns-in_ok-new-in-Select t c =
    select_made c.args.n c.args.tree.now c.in-Select.t c.in_ok-child-in-Select.child
    c.in_ok-new-in-Select.new c.in-Select.c _ c.in-Select.is c.in_ok-child-in-Select.ensures
    c.get.ensures c.in_ok-new-in-Select.ensures

pub pruned-returns-in-Some : goal.pruned-returns-in-Some
pruned-returns-in-Some t c =
    list_slimmed c.args.n c.args.tree.now c.in-Project.t _ c.in_ok-input-in-Project.input.tree
    c.in-Some.slim c.in-Project.es _ c.in_ok-input-in-Project.input.kept.items c.in-Project.is
    c.get-then-is_slimmed.ensures c.in_ok-input-in-Project.ensures c.as_slice-then-is_slimmed.ensures
    (rw c.in-Some.is at c.in_ok-slim-in-Project.ensures)

pub pruned-returns-in_ok-new-in-Project : goal.pruned-returns-in_ok-new-in-Project
pruned-returns-in_ok-new-in-Project t c =
    project_made c.args.n c.args.tree.now c.in-Project.t c.in_ok-child-in-Project.child
    c.in_ok-new-in-Project.new c.in-Project.es _ c.in-Project.is c.in_ok-child-in-Project.ensures
    c.as_slice-in-Project.ensures c.in_ok-new-in-Project.ensures

pub pruned-returns-in_ok-new-in-Join : goal.pruned-returns-in_ok-new-in-Join
pruned-returns-in_ok-new-in-Join t c =
    join_made c.args.n c.in_ok-m-in-Join.m c.args.tree.now c.in-Join.l c.in-Join.r
    c.in_ok-left-in-Join.left c.in_ok-right-in-Join.right c.in_ok-new-in-Join.new c.in-Join.side
    c.in-Join.c _ c.in-Join.is c.in_ok-left-in-Join.ensures c.in_ok-m-in-Join.ensures
    c.in_ok-right-in-Join.ensures c.get-in-Join.ensures c.in_ok-new-in-Join.ensures

pub pruned-returns-in_ok-new-in-Outer : goal.pruned-returns-in_ok-new-in-Outer
pruned-returns-in_ok-new-in-Outer t c =
    outer_made c.args.n c.in_ok-m-in-Outer.m c.args.tree.now c.in-Outer.l c.in-Outer.r
    c.in_ok-left-in-Outer.left c.in_ok-right-in-Outer.right c.in_ok-new-in-Outer.new
    c.in-Outer.side c.in-Outer.c _ c.in-Outer.is c.in_ok-left-in-Outer.ensures
    c.in_ok-m-in-Outer.ensures c.in_ok-right-in-Outer.ensures c.get-in-Outer.ensures
    c.in_ok-new-in-Outer.ensures

pub pruned-returns-in_ok-new-in-Mark : goal.pruned-returns-in_ok-new-in-Mark
pruned-returns-in_ok-new-in-Mark t c =
    mark_shrunk c.args.n c.in_ok-m-in-Mark.m c.args.tree.now c.in-Mark.l c.in-Mark.r
    c.in_ok-left-in-Mark.left c.in_ok-right-in-Mark.right c.in_ok-new-in-Mark.new c.in-Mark.side
    c.in-Mark.c _ c.in-Mark.is c.in_ok-left-in-Mark.ensures c.in_ok-m-in-Mark.ensures
    c.in_ok-right-in-Mark.ensures c.get-in-Mark.ensures c.in_ok-new-in-Mark.ensures

pub pruned-returns-in_ok-new-in-Single : goal.pruned-returns-in_ok-new-in-Single
pruned-returns-in_ok-new-in-Single t c =
    single_made c.args.n c.in_ok-m-in-Single.m c.args.tree.now c.in-Single.l c.in-Single.r
    c.in_ok-left-in-Single.left c.in_ok-right-in-Single.right c.in_ok-new-in-Single.new
    c.in-Single.side c.in-Single.column c.in-Single.is c.in_ok-left-in-Single.ensures
    c.in_ok-m-in-Single.ensures c.in_ok-right-in-Single.ensures c.in_ok-new-in-Single.ensures

pub pruned-returns-in-Some-2 : goal.pruned-returns-in-Some-2
pruned-returns-in-Some-2 t c =
    groups_slimmed c.args.n c.args.tree.now c.in-Group.t _ c.in_ok-input-in-Group.input.tree
    c.in-Some-2.slim c.in-Group.by _ c.in-Group.aggregates _
    c.in_ok-input-in-Group.input.kept.items c.in-Group.is c.get-then-is_slimmed-2.ensures
    c.in_ok-input-in-Group.ensures c.as_slice-keys.ensures c.as_slice-then-is_slimmed-2-3.ensures
    (rw c.in-Some-2.is at c.in_ok-slim-in-Group.ensures)

pub pruned-returns-in_ok-new-in-Group : goal.pruned-returns-in_ok-new-in-Group
pruned-returns-in_ok-new-in-Group t c =
    group_made c.args.n c.args.tree.now c.in-Group.t c.in_ok-child-in-Group.child
    c.in_ok-new-in-Group.new c.in-Group.by _ c.in-Group.aggregates _ c.in-Group.is
    c.in_ok-child-in-Group.ensures c.as_slice-in-Group.ensures c.as_slice-in-Group-2.ensures
    c.in_ok-new-in-Group.ensures

pub pruned-returns-in_ok-new-in-Distinct : goal.pruned-returns-in_ok-new-in-Distinct
pruned-returns-in_ok-new-in-Distinct t c =
    distinct_made c.args.n c.args.tree.now c.in-Distinct.t c.in_ok-child-in-Distinct.child
    c.in_ok-new-in-Distinct.new c.in-Distinct.is c.in_ok-child-in-Distinct.ensures
    c.in_ok-new-in-Distinct.ensures

pub pruned-returns-in_ok-new-in-Set : goal.pruned-returns-in_ok-new-in-Set
pruned-returns-in_ok-new-in-Set t c =
    set_made c.args.n c.args.tree.now c.in-Set.l c.in_ok-left-in-Set.left c.in-Set.r
    c.in_ok-right-in-Set.right c.in_ok-new-in-Set.new c.in-Set.operation c.in-Set.is
    c.in_ok-left-in-Set.ensures c.in_ok-right-in-Set.ensures c.in_ok-new-in-Set.ensures

pub pruned_input-returns : goal.pruned_input-returns
pruned_input-returns t c =
    same_as_seen c.args.n _ c.args.tree.now c.in_ok-new.new c.get.ensures c.in_ok-new.ensures
