use Rattle.std.proofs.Common.{◌∙◌, ap}
use Rattle.plan_algebra.specs.declared.tree.DepTree.TheVariants as t
use Rattle.expr_scalar.specs.declared.expr.Expr.{Expr}
use Rattle.plan_predicate_sinking.proofs.Sinking.{sunk_none, sunk_select, sunk_mark, sunk_single}
use Rattle.plan_predicate_sinking.proofs.OnParts.{sunk_outer}
use Rattle.plan_predicate_sinking.proofs.BelowLists.{sunk_list, sunk_distinct, sunk_set}
use Rattle.plan_predicate_sinking.proofs.BelowGroups.{sunk_groups}
use Rattle.plan_predicate_sinking.proofs.BelowJoins.{sunk_join}
use Rattle.plan_predicate_sinking.proofs.sink.+sink.Goals as goal

pub sunk_alone-returns : goal.sunk_alone-returns
sunk_alone-returns t c =
    sunk_none c.args.n c.args.tree.now _ c.in_ok-new.new _ c.new-none.ensures c.get.ensures
    c.in_ok-new.ensures

pub sunk-returns-in_ok-new-in-Select : goal.sunk-returns-in_ok-new-in-Select
sunk-returns-in_ok-new-in-Select t c =
    sunk_select c.args.n c.in-Select.t _ _ c.in_ok-new-in-Select.new c.args.tree.now c.in-Select.c _
    c.args.conditions _ c.in_ok-wide-in-Select.wide
    c.in-Select.is c.get.ensures c.in_ok-wide-in-Select.ensures c.get-in-Select.ensures
    c.in_ok-put_at-in-Select.ensures c.get-in-Select-2.ensures c.in_ok-new-in-Select.ensures

pub sunk-returns-in_ok-new-in-Project-2 : goal.sunk-returns-in_ok-new-in-Project-2
sunk-returns-in_ok-new-in-Project-2 u c =
    sunk_list c.args.n c.args.tree.now c.in-Project.t _ c.in_ok-child-in-Project.child
    c.in_ok-new-in-Project.new c.in_ok-new-in-Project-2.new c.in-Project.es _ _ c.args.conditions _
    c.in_ok-parts-in-Project.parts.covered c.in_ok-parts-in-Project.parts.rest
    c.in-Project.is c.as_slice.ensures c.as_slice-in-Project.ensures
    c.in_ok-parts-in-Project.ensures c.get-in-Project.ensures c.in_ok-child-in-Project.ensures
    c.as_slice-in-Project-2.ensures c.in_ok-new-in-Project.ensures c.in_ok-new-in-Project-2.ensures

pub sunk-returns-in_ok-new-in-Group-2 : goal.sunk-returns-in_ok-new-in-Group-2
sunk-returns-in_ok-new-in-Group-2 u c =
    sunk_groups c.args.n c.args.tree.now c.in-Group.t _ c.in_ok-child-in-Group.child
    c.in_ok-new-in-Group.new c.in_ok-new-in-Group-2.new c.in-Group.by _ _ c.in-Group.aggregates _
    c.args.conditions
    c.in_ok-parts-in-Group.parts.covered c.in_ok-parts-in-Group.parts.rest
    c.in-Group.is c.as_slice-in-Group.ensures c.in_ok-parts-in-Group.ensures c.get-in-Group.ensures
    c.in_ok-child-in-Group.ensures
    c.as_slice-in-Group-2.ensures c.as_slice-in-Group-3.ensures c.in_ok-new-in-Group.ensures
    c.in_ok-new-in-Group-2.ensures

pub sunk-returns-in_ok-new-in-Distinct : goal.sunk-returns-in_ok-new-in-Distinct
sunk-returns-in_ok-new-in-Distinct u c =
    sunk_distinct c.args.n c.args.tree.now c.in-Distinct.t _ c.in_ok-child-in-Distinct.child
    c.in_ok-new-in-Distinct.new c.args.conditions
    c.in-Distinct.is c.get-in-Distinct.ensures c.in_ok-child-in-Distinct.ensures
    c.in_ok-new-in-Distinct.ensures

pub sunk-returns-in_ok-new-in-Set : goal.sunk-returns-in_ok-new-in-Set
sunk-returns-in_ok-new-in-Set u c =
    sunk_set c.args.n c.args.tree.now c.in-Set.l _ c.in-Set.r _ c.in_ok-left-in-Set.left
    c.in_ok-right-in-Set.right c.in_ok-new-in-Set.new c.in-Set.operation c.args.conditions _
    c.in-Set.is c.get-in-Set.ensures c.in_ok-left-in-Set.ensures c.get-in-Set-2.ensures
    (c.in_ok-same-in-Set.ensures ∙ c.as_slice-in-Set.ensures) c.in_ok-right-in-Set.ensures
    c.in_ok-new-in-Set.ensures

pub sunk_sides-returns-in_ok-new-in-Outer-2 : goal.sunk_sides-returns-in_ok-new-in-Outer-2
sunk_sides-returns-in_ok-new-in-Outer-2 u c =
    sunk_outer c.args.n c.in_ok-m-in-Outer.m c.args.tree.now c.in-Outer.l _ _ _
    c.in_ok-left-in-Outer.left c.in-Outer.r _ _ c.in_ok-right-in-Outer.right
    c.in_ok-new-in-Outer.new c.in_ok-new-in-Outer-2.new c.in-Outer.side c.in-Outer.c _
    c.args.conditions _ c.in_ok-parts-in-Outer.parts.covered c.in_ok-parts-in-Outer.parts.rest
    c.in_ok-on-in-Outer.on.covered c.in_ok-on-in-Outer.on.rest
    c.in-Outer.is c.get.ensures c.as_slice.ensures c.in_ok-parts-in-Outer.ensures
    c.get-in-Outer.ensures c.in_ok-left-in-Outer.ensures
    c.get-in-Outer-2.ensures c.get-in-Outer-3.ensures c.get-in-Outer-4.ensures
    c.in_ok-on-in-Outer.ensures c.in_ok-m-in-Outer.ensures c.get-in-Outer-5.ensures
    c.in_ok-right-in-Outer.ensures
    c.in_ok-new-in-Outer.ensures c.in_ok-new-in-Outer-2.ensures

pub sunk_sides-returns-in_ok-new-in-Mark-2 : goal.sunk_sides-returns-in_ok-new-in-Mark-2
sunk_sides-returns-in_ok-new-in-Mark-2 u c =
    sunk_mark c.args.n c.in_ok-m-in-Mark.m c.args.tree.now c.in-Mark.l _ _ c.in_ok-left-in-Mark.left
    c.in-Mark.r c.in_ok-right-in-Mark.right c.in_ok-new-in-Mark.new c.in_ok-new-in-Mark-2.new
    c.in-Mark.side
    c.args.conditions _ c.in_ok-parts-in-Mark.parts.covered c.in_ok-parts-in-Mark.parts.rest
    c.in-Mark.c
    c.in-Mark.is c.get-in-Mark.ensures c.as_slice-in-Mark.ensures c.in_ok-parts-in-Mark.ensures
    c.get-in-Mark-2.ensures c.in_ok-left-in-Mark.ensures c.in_ok-m-in-Mark.ensures
    c.in_ok-right-in-Mark.ensures
    (c.in_ok-new-in-Mark.ensures
    ∙ ap (λ (y : Expr). t.Mark c.in_ok-left-in-Mark.left c.in_ok-right-in-Mark.right c.in-Mark.side
    y) c.get-in-Mark-3.ensures) c.in_ok-new-in-Mark-2.ensures

pub sunk_sides-returns-in_ok-new-in-Single-2 : goal.sunk_sides-returns-in_ok-new-in-Single-2
sunk_sides-returns-in_ok-new-in-Single-2 u c =
    sunk_single c.args.n c.in_ok-m-in-Single.m c.args.tree.now c.in-Single.l _ _
    c.in_ok-left-in-Single.left c.in-Single.r c.in_ok-right-in-Single.right
    c.in_ok-new-in-Single.new c.in_ok-new-in-Single-2.new c.in-Single.side
    c.args.conditions _ c.in_ok-parts-in-Single.parts.covered c.in_ok-parts-in-Single.parts.rest
    c.in-Single.column
    c.in-Single.is c.get-in-Single.ensures c.as_slice-in-Single.ensures
    c.in_ok-parts-in-Single.ensures c.get-in-Single-2.ensures c.in_ok-left-in-Single.ensures
    c.in_ok-m-in-Single.ensures c.in_ok-right-in-Single.ensures
    c.in_ok-new-in-Single.ensures c.in_ok-new-in-Single-2.ensures

pub sunk_sides-returns-in_ok-new-in-Join-2 : goal.sunk_sides-returns-in_ok-new-in-Join-2
sunk_sides-returns-in_ok-new-in-Join-2 u c =
    sunk_join c.args.n c.in_ok-m-in-Join.m c.args.tree.now c.in-Join.l _ _ _
    c.in_ok-left-in-Join.left c.in-Join.r _ _ c.in_ok-right-in-Join.right
    c.in_ok-new-in-Join.new c.in_ok-new-in-Join-2.new c.in-Join.side c.in-Join.c _
    c.args.conditions _ c.in_ok-parts-in-Join.parts.covered c.in_ok-parts-in-Join.parts.rest
    c.in_ok-own-in-Join.own.covered c.in_ok-own-in-Join.own.rest
    c.in-Join.is c.get-in-Join.ensures c.as_slice-in-Join.ensures c.in_ok-parts-in-Join.ensures
    c.get-in-Join-2.ensures c.in_ok-left-in-Join.ensures
    c.get-in-Join-3.ensures c.get-in-Join-4.ensures c.in_ok-own-in-Join.ensures
    c.in_ok-m-in-Join.ensures c.get-in-Join-5.ensures c.in_ok-right-in-Join.ensures
    c.get-in-Join-6.ensures c.in_ok-new-in-Join.ensures c.in_ok-new-in-Join-2.ensures
