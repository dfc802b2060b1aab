-- The trees of the items of FROM, as the code makes them.
use Rattle.std.proofs.Common.{refl, sym, ◌∙◌, ◌+◌, subst}
use Rattle.plan_dependent_nodes.specs.Growth.{IsPlain}
use Rattle.plan_dependent_tree.proofs.SeenSources.{table_seen, derived_seen, lateral_seen}
use Rattle.plan_dependent_tree.proofs.SeenSources.{cross_seen}
use Rattle.plan_dependent_tree.proofs.SeenSources.{inner_seen, outer_read, source_as}
use Rattle.plan_dependent_tree.proofs.SeenSources.{plain_outer_seen, kept_outer_seen}
use Rattle.plan_dependent_tree.proofs.SuppliedSources.{derived_supplied}
use Rattle.plan_dependent_tree.proofs.SuppliedSources.{lateral_supplied, cross_left_supplied}
use Rattle.plan_dependent_tree.proofs.SuppliedSources.{cross_right_supplied}
use Rattle.plan_dependent_tree.proofs.SuppliedJoins.{inner_left_supplied, inner_right_supplied}
use Rattle.plan_dependent_tree.proofs.SuppliedJoins.{inner_on_supplied}
use Rattle.plan_dependent_tree.proofs.SuppliedJoins.{outer_left_supplied, outer_right_supplied}
use Rattle.plan_dependent_tree.proofs.SuppliedJoins.{outer_on_supplied, outer_nulls}
use Rattle.plan_dependent_tree.proofs.SuppliedJoins.{outer_join_supplied}
use Rattle.plan_dependent_tree.proofs.SuppliedRights.{kept_supplied}
use Rattle.plan_dependent_tree.proofs.SuppliedRights.{kept_on_supplied, kept_there, kept_stands}
use Rattle.plan_dependent_tree.proofs.SuppliedRights.{kept_nulls, read_width}
use Rattle.plan_dependent_tree.proofs.SuppliedRights.{read_supplied}
use Rattle.plan_dependent_tree.proofs.tree.+depend.Goals as goal

pub table : goal.source-returns-in_ok-rows-in-Table-clause-tree
table t c =
    let s = c.args.sight.now in
    λ p.
    table_seen s.outer.now s.so_far.now s.before s.start c.in-Table.is
    c.in_ok-rows-in-Table.ensures

pub derived : goal.source-returns-in_ok-rows-in-Derived-clause-tree
derived t c =
    let s = c.args.sight.now in
    λ p.
    derived_seen s.outer.now s.so_far.now s.before s.start c.in-Derived.is c.get.ensures
    (c.in_ok-rows-in-Derived.ensures.tree
    (derived_supplied s.outer.now s.so_far.now s.before p c.in-Derived.is c.get.ensures))

pub lateral : goal.source-returns-in_ok-rows-in-Lateral-clause-tree
lateral t c =
    let s = c.args.sight.now in
    let all = c.as_slice.ensures ∙ c.in_ok-outer-in-Lateral.ensures in
    λ p.
    lateral_seen s.outer.now s.so_far.now s.before s.start c.in-Lateral.is
    c.get-in-Lateral.ensures all
    (c.in_ok-rows-in-Lateral.ensures.tree
    (lateral_supplied s.outer.now s.so_far.now s.before p c.in-Lateral.is c.get-in-Lateral.ensures
    all))

pub cross : goal.source-returns-in_ok-rows-in-Cross-clause-tree
cross t c =
    let s = c.args.sight.now in
    let left = c.in_ok-left-in-Cross.ensures in
    λ p.
    cross_seen s.outer.now s.so_far.now s.before s.start c.in-Cross.is c.get-in-Cross.ensures
    (left.tree
    (cross_left_supplied s.outer.now s.so_far.now s.before c.in-Cross.a c.in-Cross.b p c.in-Cross.is
    c.get-in-Cross.ensures))
    c.get-in-Cross-2.ensures
    (c.in_ok-right-in-Cross.ensures.tree
    (cross_right_supplied s.outer.now s.so_far.now s.before c.in-Cross.a c.in-Cross.b p
    c.in-Cross.is c.get-in-Cross.ensures left.width c.get-in-Cross-2.ensures))
    c.in_ok-rows-in-Cross.ensures

pub inner : goal.source-returns-in_ok-rows-in-Inner-2-clause-tree
inner t c =
    let s = c.args.sight.now in
    let left = c.in_ok-left-in-Inner.ensures in
    let right = c.in_ok-right-in-Inner.ensures in
    let made = c.in_ok-rows-in-Inner.ensures in
    let kept = c.in_ok-rows-in-Inner-2.ensures in
    λ p.
    inner_seen s.outer.now s.so_far.now s.before s.start c.in-Inner.on c.in-Inner.is
    c.get-in-Inner.ensures
    (left.tree
    (inner_left_supplied s.outer.now s.so_far.now s.before c.in-Inner.a c.in-Inner.b c.in-Inner.on p
    c.in-Inner.is c.get-in-Inner.ensures))
    c.get-in-Inner-2.ensures
    (right.tree
    (inner_right_supplied s.outer.now s.so_far.now s.before c.in-Inner.a c.in-Inner.b c.in-Inner.on
    p c.in-Inner.is c.get-in-Inner.ensures left.width c.get-in-Inner-2.ensures))
    made
    (kept.tree
    (inner_on_supplied s.outer.now s.so_far.now s.before c.in-Inner.a c.in-Inner.b c.in-Inner.on p
    c.in-Inner.is c.get-in-Inner.ensures left.width c.get-in-Inner-2.ensures right.width made.1))
    kept.width

pub plain_outer : goal.source-returns-in_ok-rows-in-Some-clause-tree
plain_outer t c =
    let s = c.args.sight.now in
    let on = c.in-Outer.on in
    let nulls = c.in-Outer.nulls in
    let left = c.in_ok-left-in-Outer.ensures in
    let right = c.in_ok-right-in-Some.ensures in
    let is = outer_read nulls on c.in-Outer.is c.get-in-Outer.ensures c.get-in-Some.ensures in
    λ p.
    plain_outer_seen s.outer.now s.so_far.now s.before s.start _ _ on c.in-Some.condition is
    (left.tree (outer_left_supplied s.outer.now s.so_far.now s.before _ _ nulls on p is refl))
    (right.tree
    (outer_right_supplied s.outer.now s.so_far.now s.before _ _ nulls on p is left.width))
    (outer_nulls s.outer.now s.so_far.now s.before _ _ nulls on p is right.width)
    (subst (IsPlain s.outer.now s.start (c.in_ok-left-in-Outer.left.width + nulls) on) c.in-Some.is
    (c.in_ok-condition-in-Outer.ensures
    (outer_on_supplied s.outer.now s.so_far.now s.before _ _ nulls on p is left.width refl)))
    c.in_ok-rows-in-Some.ensures

pub kept_outer : goal.source-returns-in_ok-rows-in-None-2-clause-tree
kept_outer t c =
    let s = c.args.sight.now in
    let on = c.in-Outer.on in
    let nulls = c.in-Outer.nulls in
    let left = c.in_ok-left-in-Outer.ensures in
    let a = c.in_ok-left-in-Outer.left.width in
    let it = c.in_ok-domain-in-None.domain in
    let d = c.in_ok-domain-in-None.ensures in
    let seen = c.sight.ensures in
    let rows = c.in_ok-rows-in-None in
    let is = outer_read nulls on c.in-Outer.is c.get-in-Outer.ensures c.get-in-None.ensures in
    let again = c.get-in-None-2.ensures ∙ sym c.get-in-None.ensures in
    λ p.
    let join = outer_join_supplied s.outer.now s.so_far.now s.before _ _ nulls on p is left.width in
    let supplied = kept_supplied _ on nulls s.outer.now s.so_far.now s.before a join it.outer
    it.so_far
    d.reads d.near seen.outer seen.so_far (seen.before ∙ d.behind) in
    let same = kept_nulls _ on nulls s.outer.now s.so_far.now s.before a join
    (read_width again rows.ensures.width) in
    kept_outer_seen s.outer.now s.so_far.now s.before s.start _ _ on is
    (left.tree (outer_left_supplied s.outer.now s.so_far.now s.before _ _ nulls on p is refl))
    (c.in_ok-right-in-None.ensures
    (kept_on_supplied _ on nulls s.outer.now s.so_far.now s.before a join it.outer it.so_far d.reads
    d.near refl refl)
    same _ s.outer.now s.so_far.now s.before s.start d.first
    (d.at
    (kept_there _ on nulls s.outer.now s.so_far.now s.before a join it.outer it.so_far d.reads
    d.near
    refl)
    (kept_stands _ on nulls s.outer.now s.so_far.now s.before a join it.outer it.so_far d.reads
    d.near refl))
    d.begins d.sum d.all
    (source_as rows.rows.tree again seen.outer seen.so_far (seen.before ∙ d.behind) seen.start same
    (rows.ensures.tree (read_supplied (sym again) supplied))))
    c.in_ok-condition-in-None.ensures c.in_ok-rows-in-None-2.ensures
