use Rattle.std.proofs.Common.{◌≡◌, length, refl, rules, sym, ap, ◌∙◌, arith, ◌+◌, subst, ◌++◌, ◌∷◌}
use Rattle.std.proofs.Common.{[], map, take}
use Rattle.std.proofs.lemmas.List.{take_all}
use Rattle.plan_kept_queries.specs.Scans.{tables_of_input, tables_of_expr, tables_of_aggregate}
use Rattle.plan_kept_queries.specs.Scans.{joined_tables}
use Rattle.plan_dependent_nodes.specs.Growth.{Attaches, InputsAt, ListAt, AggregatesAt}
use Rattle.plan_dependent_nodes.proofs.PlaceLists.{length_put}
use Rattle.plan_dependent_nodes.specs.FromGrowth.{IsSourceTree}
use Rattle.plan_dependent_nodes.proofs.InputTrees.{inputs_none, inputs_more, list_none, list_more}
use Rattle.plan_dependent_nodes.proofs.InputTrees.{aggregates_none, aggregates_more, functions_none}
use Rattle.plan_dependent_nodes.proofs.InputTrees.{functions_more, count_arm, of_arm, same_count}
use Rattle.plan_dependent_nodes.proofs.InputTrees.{same_of}
use Rattle.plan_dependent_tree.proofs.SeenArms.{column_seen, exists_seen, scalar_seen, any_seen}
use Rattle.plan_dependent_tree.proofs.SeenArms.{expr_seen, subquery_seen}
use Rattle.plan_dependent_tree.proofs.SeenSources.{kept_seen}
use Rattle.plan_dependent_tree.proofs.SeenSources.{dependent_seen}
use Rattle.plan_dependent_tree.proofs.SeenSources.{keeps_right_seen}
use Rattle.plan_dependent_tree.proofs.FromTrees.{from_arm, right_shared, right_closed}
use Rattle.plan_dependent_tree.proofs.FromTrees.{derived_alone, derived_kept, derived_unkept}
use Rattle.plan_dependent_tree.proofs.FromTrees.{leaf_found, leaf_missed}
use Rattle.plan_dependent_tree.proofs.SuppliedClauses.{plain_width, grouped_width, distinct_width}
use Rattle.plan_dependent_tree.proofs.SuppliedClauses.{kept_width}
use Rattle.plan_dependent_tree.proofs.SuppliedClauses.{set_width}
use Rattle.plan_dependent_tree.proofs.SuppliedSources.{from_supplied, from_width}
use Rattle.plan_dependent_tree.proofs.SuppliedSources.{table_width}
use Rattle.plan_dependent_tree.proofs.SuppliedSources.{derived_width, lateral_width, cross_width}
use Rattle.plan_dependent_tree.proofs.SuppliedJoins.{inner_width}
use Rattle.plan_dependent_tree.proofs.SuppliedJoins.{outer_width}
use Rattle.plan_dependent_tree.proofs.SuppliedRights.{dependent_supplied, dependent_there}
use Rattle.plan_dependent_tree.proofs.SuppliedRights.{dependent_stands, shared_supplied}
use Rattle.plan_dependent_tree.proofs.SuppliedRights.{closed_supplied}
use Rattle.plan_dependent_tree.proofs.SuppliedRights.{no_items}
use Rattle.plan_dependent_tree.proofs.SuppliedRights.{resupplied}
use Rattle.plan_dependent_nodes.proofs.Supplies.{column_is_seen, exists_supplied, scalar_supplied}
use Rattle.plan_dependent_nodes.proofs.Supplies.{any_supplied, left_supplied, argument_supplied}
use Rattle.plan_dependent_nodes.proofs.Supplies.{found_seen, found_supplied, item_supplied}
use Rattle.plan_dependent_nodes.specs.Supplied.{AggregateIsSupplied, ExprIsSupplied, InputIsSupplied}
use Rattle.plan_dependent_nodes.specs.Supplied.{InputsAreSupplied}
use Rattle.plan_dependent_tree.proofs.tree.+depend.Answers.Blocks as blocks
use Rattle.plan_dependent_tree.proofs.tree.+depend.Answers.Sources as sources
use Rattle.plan_dependent_tree.proofs.tree.+depend.Goals as goal
mod Blocks
mod Sources

pub attach_aggregate-returns-in-CountRows-clause-attaches :
    goal.attach_aggregate-returns-in-CountRows-clause-attaches
attach_aggregate-returns-in-CountRows-clause-attaches t c =
    let s = c.args.sight.now in
    rw c.in-CountRows.is
    (λ p. count_arm s.outer.now s.start s.width c.args.grown.tree c.args.grown.end)

pub attach_aggregate-returns-in-CountRows-clause-function :
    goal.attach_aggregate-returns-in-CountRows-clause-function
attach_aggregate-returns-in-CountRows-clause-function t c = rw c.in-CountRows.is same_count

pub attach_aggregate-returns-in_ok-argument-in-Of-clause-attaches :
    goal.attach_aggregate-returns-in_ok-argument-in-Of-clause-attaches
attach_aggregate-returns-in_ok-argument-in-Of-clause-attaches t c =
    let s = c.args.sight.now in
    λ p.
    let argument = argument_supplied s.outer.now s.width c.in-Of.argument p c.in-Of.is in
    rw (
      c.in-Of.is,
      c.applied-counted.ensures.tree,
      c.applied-counted.ensures.end,
      c.applied-counted.ensures.aggregate,
    )
    (of_arm s.outer.now s.start s.width c.in-Of.function c.in-Of.scale _ _ _ _ _ _
    (c.in_ok-argument-in-Of.ensures argument))

pub attach_aggregate-returns-in_ok-argument-in-Of-clause-function :
    goal.attach_aggregate-returns-in_ok-argument-in-Of-clause-function
attach_aggregate-returns-in_ok-argument-in-Of-clause-function t c =
    rw (c.in-Of.is, c.applied-counted.ensures.aggregate)
    (same_of c.in-Of.function c.in-Of.scale _ _)

pub attach_expr-returns : goal.attach_expr-returns
attach_expr-returns t c =
    let s = c.args.sight.now in
    λ p.
    expr_seen s.outer.now s.start s.width c.args.grown.tree c.args.grown.end c.as_slice.ensures
    (c.in_ok-placed.ensures
    (subst (λ z. InputsAreSupplied z s.outer.now s.width) (sym c.as_slice.ensures) p))
    c.get.ensures c.in_ok-read.ensures

pub attach_input-returns-in_ok-column-in-Column : goal.attach_input-returns-in_ok-column-in-Column
attach_input-returns-in_ok-column-in-Column t c =
    let s = c.args.sight.now in
    λ p.
    column_seen s.outer.now s.start s.width c.args.grown.tree c.args.grown.end c.in-Column.is
    (c.in_ok-column-in-Column.ensures (column_is_seen s.outer.now s.width p c.in-Column.is))

pub attach_input-returns-in_ok-attached-in-Exists :
    goal.attach_input-returns-in_ok-attached-in-Exists
attach_input-returns-in_ok-attached-in-Exists t c =
    let s = c.args.sight.now in
    λ p.
    exists_seen s.outer.now s.start s.width c.args.grown.tree c.args.grown.end c.in-Exists.is
    (c.in_ok-right-in-Exists.ensures
    (exists_supplied s.outer.now s.width c.in-Exists.q p c.in-Exists.is))
    c.in_ok-attached-in-Exists.ensures

pub attach_input-returns-in_ok-attached-in-Any : goal.attach_input-returns-in_ok-attached-in-Any
attach_input-returns-in_ok-attached-in-Any t c =
    let s = c.args.sight.now in
    let any = c.in-Any in
    λ p.
    any_seen s.outer.now s.start s.width c.args.grown.tree c.args.grown.end any.comparison
    c.in_ok-left-in-Any.left.expr any.is c.get.ensures
    (c.in_ok-left-in-Any.ensures
    (left_supplied s.outer.now s.width any.q p any.is c.get.ensures))
    (c.in_ok-right-in-Any.ensures
    (any_supplied s.outer.now s.width any.comparison any.left any.q p any.is))
    c.in_ok-attached-in-Any.ensures

pub attach_input-returns-in_ok-attached-in-Scalar :
    goal.attach_input-returns-in_ok-attached-in-Scalar
attach_input-returns-in_ok-attached-in-Scalar t c =
    let s = c.args.sight.now in
    λ p.
    scalar_seen s.outer.now s.start s.width c.args.grown.tree c.args.grown.end c.in-Scalar.is
    (c.in_ok-right-in-Scalar.ensures
    (scalar_supplied s.outer.now s.width c.in-Scalar.q p c.in-Scalar.is))
    c.in_ok-attached-in-Scalar.ensures

pub attach_inputs-loop-input-init : goal.attach_inputs-loop-input-init
attach_inputs-loop-input-init t c =
    let s = c.args.sight.now in
    rw c.new-columns.ensures
    (λ p. inputs_none s.outer.now s.start s.width c.args.grown.tree c.args.grown.end)

pub attach_inputs-loop-input-preserved : goal.attach_inputs-loop-input-preserved
attach_inputs-loop-input-preserved t c =
    let s = c.args.sight.now in
    λ p.
    inputs_more s.outer.now s.start s.width c.args.inputs.now c.loop-input.input-index _
    c.loop-input.columns _ _ _ _ _ _ _ _ c.loop-input-test.true c.input-item.is
    c.in_ok-push.ensures.ok (c.loop-input.invariant p)
    (c.in_ok-attached.ensures
    (item_supplied (λ i. InputIsSupplied i s.outer.now s.width) c.args.inputs.now
    c.loop-input.input-index c.loop-input-test.true c.input-item.is p))

pub attach_list-loop-e-init : goal.attach_list-loop-e-init
attach_list-loop-e-init t c =
    let s = c.args.sight.now in
    rw c.new-exprs.ensures (
      λ p. list_none s.outer.now s.start s.width c.args.grown.tree c.args.grown.end,
      refl,
    )

pub attach_list-loop-e-preserved : goal.attach_list-loop-e-preserved
attach_list-loop-e-preserved t c =
    let s = c.args.sight.now in let inv = c.loop-e.invariant in (
      λ p.
          list_more s.outer.now s.start s.width c.args.list.now c.loop-e.e-index _ c.loop-e.exprs _
          c.in_ok-read.read.expr _ _ _ _ _ _ c.loop-e-test.true c.e-item.is
          (c.in_ok-push.ensures.ok ∙ ap (λ y. c.loop-e.exprs ++ y ∷ []) c.into_inner.ensures)
          (inv.0 p)
          (c.in_ok-read.ensures
          (item_supplied (λ e. ExprIsSupplied e s.outer.now s.width) c.args.list.now
          c.loop-e.e-index c.loop-e-test.true c.e-item.is p)),
      length_put c.loop-e.exprs c.push.new.self _ c.loop-e.e-index inv.1 c.in_ok-push.ensures.ok,
    )

pub attach_aggregates-loop-a-init : goal.attach_aggregates-loop-a-init
attach_aggregates-loop-a-init t c =
    let s = c.args.sight.now in
    rw c.new-aggregates.ensures (
      λ p. aggregates_none s.outer.now s.start s.width c.args.grown.tree c.args.grown.end,
      functions_none,
      refl,
    )

pub attach_aggregates-loop-a-preserved : goal.attach_aggregates-loop-a-preserved
attach_aggregates-loop-a-preserved t c =
    let s = c.args.sight.now in let inv = c.loop-a.invariant in (
      λ p.
          aggregates_more s.outer.now s.start s.width c.args.all.now c.loop-a.a-index _
          c.loop-a.aggregates _ _ _ _ _ _ _ _ c.loop-a-test.true c.a-item.is
          c.in_ok-push.ensures.ok (inv.0 p)
          (c.in_ok-counted.ensures.attaches
          (item_supplied (λ a. AggregateIsSupplied a s.outer.now s.width) c.args.all.now
          c.loop-a.a-index c.loop-a-test.true c.a-item.is p)),
      functions_more c.args.all.now c.loop-a.a-index _ c.loop-a.aggregates _ _ c.loop-a-test.true
          c.a-item.is c.in_ok-push.ensures.ok inv.1 c.in_ok-counted.ensures.function,
      length_put c.loop-a.aggregates c.push.new.self _ c.loop-a.a-index inv.2
          c.in_ok-push.ensures.ok,
    )

pub block-returns-in_ok-rows-in-Plain-2-clause-tree :
    goal.block-returns-in_ok-rows-in-Plain-2-clause-tree
block-returns-in_ok-rows-in-Plain-2-clause-tree = blocks.plain

pub block-returns-in_ok-rows-in-Grouped-2-clause-tree :
    goal.block-returns-in_ok-rows-in-Grouped-2-clause-tree
block-returns-in_ok-rows-in-Grouped-2-clause-tree = blocks.grouped

pub block-returns-in_ok-rows-in-Distinct-2-clause-tree :
    goal.block-returns-in_ok-rows-in-Distinct-2-clause-tree
block-returns-in_ok-rows-in-Distinct-2-clause-tree = blocks.distinct

pub block-returns-in_ok-rows-in-Set-clause-tree :
    goal.block-returns-in_ok-rows-in-Set-clause-tree
block-returns-in_ok-rows-in-Set-clause-tree = blocks.set

pub block-returns-in_ok-rows-in-Set-clause-width :
    goal.block-returns-in_ok-rows-in-Set-clause-width
block-returns-in_ok-rows-in-Set-clause-width t c =
    let set = c.in-Set in
    set_width set.a set.b set.operation set.is c.as_slice-in-Set.ensures
    c.in_ok-rows-in-Set.ensures.count

pub from_rows-returns-clause-tree : goal.from_rows-returns-clause-tree
from_rows-returns-clause-tree t c =
    λ p.
    from_arm c.args.s.now c.args.outer.now c.args.start c.in_ok-rows.rows.width
    c.in_ok-rows.rows.tree
    (c.in_ok-rows.ensures.tree (from_supplied c.args.s.now c.args.outer.now p))

pub from_rows-returns-clause-width : goal.from_rows-returns-clause-width
from_rows-returns-clause-width t c = from_width c.args.s.now c.in_ok-rows.ensures.width

-- no number; a number and a leaf; a number of what can't be kept
pub derived-returns-in_ok-rows-in-None-clause-tree :
    goal.derived-returns-in_ok-rows-in-None-clause-tree
derived-returns-in_ok-rows-in-None-clause-tree t c =
    λ p. derived_alone c.args.q.now c.in-None.is (c.in_ok-rows-in-None.ensures.tree p)

pub derived-returns-in-Some-2-clause-tree : goal.derived-returns-in-Some-2-clause-tree
derived-returns-in-Some-2-clause-tree t c =
    λ p. derived_kept c.args.q.now c.in-Some.is
    (leaf_found c.in-Some-2.is c.in_ok-rows-in-Some.ensures)

pub derived-returns-in-Some-2-clause-width : goal.derived-returns-in-Some-2-clause-width
derived-returns-in-Some-2-clause-width t c =
    kept_width (leaf_found c.in-Some-2.is c.in_ok-rows-in-Some.ensures)

pub derived-returns-in_ok-rows-in-None-2-clause-tree :
    goal.derived-returns-in_ok-rows-in-None-2-clause-tree
derived-returns-in_ok-rows-in-None-2-clause-tree t c =
    λ p. derived_unkept c.args.q.now c.in-Some.is
    (leaf_missed c.in-Some.number c.args.q.now c.in-None-2.is c.in_ok-rows-in-Some.ensures)
    (c.in_ok-rows-in-None-2.ensures.tree p)

pub source-returns-in_ok-rows-in-Table-clause-tree :
    goal.source-returns-in_ok-rows-in-Table-clause-tree
source-returns-in_ok-rows-in-Table-clause-tree = sources.table

pub source-returns-in_ok-rows-in-Derived-clause-tree :
    goal.source-returns-in_ok-rows-in-Derived-clause-tree
source-returns-in_ok-rows-in-Derived-clause-tree = sources.derived

pub source-returns-in_ok-rows-in-Lateral-clause-tree :
    goal.source-returns-in_ok-rows-in-Lateral-clause-tree
source-returns-in_ok-rows-in-Lateral-clause-tree = sources.lateral

pub source-returns-in_ok-rows-in-Cross-clause-tree :
    goal.source-returns-in_ok-rows-in-Cross-clause-tree
source-returns-in_ok-rows-in-Cross-clause-tree = sources.cross

pub source-returns-in_ok-rows-in-Inner-2-clause-tree :
    goal.source-returns-in_ok-rows-in-Inner-2-clause-tree
source-returns-in_ok-rows-in-Inner-2-clause-tree = sources.inner

pub source-returns-in_ok-rows-in-Some-clause-tree :
    goal.source-returns-in_ok-rows-in-Some-clause-tree
source-returns-in_ok-rows-in-Some-clause-tree = sources.plain_outer

pub source-returns-in_ok-rows-in-None-2-clause-tree :
    goal.source-returns-in_ok-rows-in-None-2-clause-tree
source-returns-in_ok-rows-in-None-2-clause-tree = sources.kept_outer

pub kept-returns-clause-tree : goal.kept-returns-clause-tree
kept-returns-clause-tree t c =
    let s = c.args.sight.now in
    λ p.
    kept_seen s.outer.now s.so_far.now s.before s.start c.args.on.now c.in_ok-on.on.expr
    c.in_ok-grown.ensures (c.in_ok-on.ensures p) c.in_ok-grown-2.ensures c.in_ok-rows.ensures.0

pub right_source-returns-then-not-is_empty-clause-tree :
    goal.right_source-returns-then-not-is_empty-clause-tree
right_source-returns-then-not-is_empty-clause-tree t c =
    let s = c.args.sight.now in
    let source = c.args.s.now in
    let more : c.in_ok-before.before ≡ s.before + c.args.width = search rules in
    let size : c.in_ok-start.start ≡ length c.in_ok-columns.columns = search rules in
    let around = c.in_ok-around.around in
    let nearest = c.in_ok-nearest.nearest in
    let reads = c.in_ok-around.ensures in
    let near = c.in_ok-nearest.ensures in
    let outer = c.as_slice-outer.ensures in
    let so_far = c.as_slice-so_far.ensures in
    λ p.
    dependent_seen s.outer.now s.so_far.now s.before s.start source c.in_ok-columns.columns more
    (c.in_ok-rows.ensures.tree
    (dependent_supplied s.outer.now s.so_far.now s.before (s.before + c.args.width)
    c.in_ok-before.before source p more around nearest reads near outer so_far))
    size
    (c.in_ok-columns.ensures
    (dependent_there s.outer.now s.so_far.now s.before (s.before + c.args.width)
    c.in_ok-before.before source p more around nearest reads near outer)
    (dependent_stands s.outer.now s.so_far.now s.before (s.before + c.args.width)
    c.in_ok-before.before source p more around nearest reads near so_far))
    refl refl

pub right_source-returns-then-not-is_empty-2-clause-tree :
    goal.right_source-returns-then-not-is_empty-2-clause-tree
right_source-returns-then-not-is_empty-2-clause-tree t c =
    let s = c.args.sight.now in
    let more : c.in_ok-before.before ≡ s.before + c.args.width = search rules in
    let none = sym c.as_slice-so_far.ensures ∙ no_items _ _ c.is_empty.ensures
    c.if-not-is_empty.false in
    λ p.
    right_shared c.args.s.now s.outer.now s.so_far.now s.before s.start c.args.width
    c.in_ok-rows-2.rows.width c.in_ok-rows-2.rows.tree
    (subst (λ k. IsSourceTree c.args.s.now s.outer.now [] k s.start c.in_ok-rows-2.rows.tree
    c.in_ok-rows-2.rows.width) more
    (c.in_ok-rows-2.ensures.tree
    (shared_supplied s.outer.now s.so_far.now s.before (s.before + c.args.width)
    c.in_ok-before.before c.args.s.now p more c.in_ok-around.around c.in_ok-nearest.nearest
    c.in_ok-around.ensures c.in_ok-nearest.ensures none)))

pub right_source-returns-clause-tree :
    goal.right_source-returns-clause-tree
right_source-returns-clause-tree t c =
    let s = c.args.sight.now in
    let more : c.in_ok-before.before ≡ s.before + c.args.width = search rules in
    let none = sym c.as_slice-so_far.ensures ∙ no_items _ _ c.is_empty.ensures
    c.if-not-is_empty.false in
    let empty = sym c.as_slice-outer.ensures ∙ no_items _ _ c.is_empty-else-not-is_empty.ensures
    c.if-not-is_empty-2.false in
    λ p.
    right_closed c.args.s.now s.outer.now s.so_far.now s.before s.start c.args.width
    c.in_ok-rows-3.rows.width c.in_ok-rows-3.rows.tree
    (subst (λ k. IsSourceTree c.args.s.now [] [] k 0 c.in_ok-rows-3.rows.tree
    c.in_ok-rows-3.rows.width) more
    (c.in_ok-rows-3.ensures.tree
    (closed_supplied s.outer.now s.so_far.now s.before (s.before + c.args.width)
    c.in_ok-before.before c.args.s.now p more c.in_ok-around.around c.in_ok-nearest.nearest
    c.in_ok-around.ensures c.in_ok-nearest.ensures none
    empty)))

pub kept_right-returns : goal.kept_right-returns
kept_right-returns t c =
    let d = c.args.domain in
    let wide : c.in_ok-joined.joined ≡ c.args.width + c.args.nulls = search rules in
    λ p same.
    keeps_right_seen c.args.on.now c.in_ok-on.on.expr d.outer _ d.so_far d.columns d.begin d.start
    c.args.width c.as_slice.ensures same wide c.in_ok-grown.ensures
    (c.in_ok-on.ensures (resupplied c.args.on.now c.as_slice.ensures wide p))
    c.in_ok-grown-2.ensures c.in_ok-rows.ensures.0

pub subquery-returns : goal.subquery-returns
subquery-returns t c =
    let s = c.args.sight.now in
    let same : c.in_ok-start.start ≡ length c.in_ok-outer.outer = search rules in
    λ p.
    let wanted = found_seen s.outer.now s.width p c.get.ensures c.as_slice.ensures
    c.in_ok-outer.ensures in
    let q = found_supplied s.outer.now s.width p c.get-2.ensures c.get.ensures
    c.as_slice-2.ensures c.in_ok-outer.ensures in
    subquery_seen c.in_ok-columns.columns c.get-2.ensures (c.in_ok-rows.ensures.tree q)
    c.as_slice-2.ensures
    same c.as_slice.ensures (c.in_ok-columns.ensures wanted) c.depending-right.ensures.tree
    c.depending-right.ensures.side

pub block-returns-in_ok-rows-in-Plain-2-clause-width :
    goal.block-returns-in_ok-rows-in-Plain-2-clause-width
block-returns-in_ok-rows-in-Plain-2-clause-width t c =
    plain_width c.in-Plain.from c.in-Plain.condition c.in_ok-listed-in-Plain.listed.exprs
    c.in-Plain.is c.as_slice.ensures c.in_ok-listed-in-Plain.ensures.count
    c.in_ok-rows-in-Plain-2.ensures.1

pub block-returns-in_ok-rows-in-Grouped-2-clause-width :
    goal.block-returns-in_ok-rows-in-Grouped-2-clause-width
block-returns-in_ok-rows-in-Grouped-2-clause-width t c =
    grouped_width c.in-Grouped.from c.in-Grouped.condition c.in-Grouped.keys
    c.in-Grouped.aggregates c.in-Grouped.having c.in_ok-listed-in-Grouped.listed.exprs
    c.in-Grouped.is c.as_slice-in-Grouped-3.ensures
    c.in_ok-listed-in-Grouped.ensures.count c.in_ok-rows-in-Grouped-2.ensures.1

pub block-returns-in_ok-rows-in-Distinct-2-clause-width :
    goal.block-returns-in_ok-rows-in-Distinct-2-clause-width
block-returns-in_ok-rows-in-Distinct-2-clause-width t c =
    distinct_width c.in-Distinct.is c.get-in-Distinct.ensures c.in_ok-rows-in-Distinct.ensures.width
    c.in_ok-rows-in-Distinct-2.ensures.1

pub source-returns-in_ok-rows-in-Table-clause-width :
    goal.source-returns-in_ok-rows-in-Table-clause-width
source-returns-in_ok-rows-in-Table-clause-width t c =
    table_width c.in-Table.is c.in_ok-rows-in-Table.ensures.1

pub source-returns-in_ok-rows-in-Derived-clause-width :
    goal.source-returns-in_ok-rows-in-Derived-clause-width
source-returns-in_ok-rows-in-Derived-clause-width t c =
    derived_width c.in-Derived.is c.get.ensures c.in_ok-rows-in-Derived.ensures.width

pub source-returns-in_ok-rows-in-Lateral-clause-width :
    goal.source-returns-in_ok-rows-in-Lateral-clause-width
source-returns-in_ok-rows-in-Lateral-clause-width t c =
    lateral_width c.in-Lateral.is c.get-in-Lateral.ensures c.in_ok-rows-in-Lateral.ensures.width

pub source-returns-in_ok-rows-in-Cross-clause-width :
    goal.source-returns-in_ok-rows-in-Cross-clause-width
source-returns-in_ok-rows-in-Cross-clause-width t c =
    cross_width c.in-Cross.is c.get-in-Cross.ensures c.in_ok-left-in-Cross.ensures.width
    c.get-in-Cross-2.ensures c.in_ok-right-in-Cross.ensures.width c.in_ok-rows-in-Cross.ensures.1

pub source-returns-in_ok-rows-in-Inner-2-clause-width :
    goal.source-returns-in_ok-rows-in-Inner-2-clause-width
source-returns-in_ok-rows-in-Inner-2-clause-width t c =
    inner_width c.in-Inner.on c.in-Inner.is c.get-in-Inner.ensures
    c.in_ok-left-in-Inner.ensures.width c.get-in-Inner-2.ensures
    c.in_ok-right-in-Inner.ensures.width c.in_ok-rows-in-Inner.ensures.1
    c.in_ok-rows-in-Inner-2.ensures.width

pub source-returns-in_ok-rows-in-Some-clause-width :
    goal.source-returns-in_ok-rows-in-Some-clause-width
source-returns-in_ok-rows-in-Some-clause-width t c =
    outer_width c.in-Outer.b c.in-Outer.on c.in-Outer.is c.get-in-Outer.ensures
    c.in_ok-left-in-Outer.ensures.width c.in_ok-rows-in-Some.ensures.1

pub source-returns-in_ok-rows-in-None-2-clause-width :
    goal.source-returns-in_ok-rows-in-None-2-clause-width
source-returns-in_ok-rows-in-None-2-clause-width t c =
    outer_width c.in-Outer.b c.in-Outer.on c.in-Outer.is c.get-in-Outer.ensures
    c.in_ok-left-in-Outer.ensures.width c.in_ok-rows-in-None-2.ensures.1

-- ---- the ends of loops

pub attach_inputs-returns : goal.attach_inputs-returns
attach_inputs-returns t c =
    let s = c.args.sight.now in
    let l = c.loop-input in
    let all : take l.input-index c.args.inputs.now ≡ c.args.inputs.now =
    take_all l.input-index c.args.inputs.now (omega (arith, c.loop-input-test.false)) in
    λ p.
    subst (λ xs. Attaches s.outer.now s.start s.width (joined_tables (map tables_of_input xs))
    (InputsAt xs l.columns) c.args.grown.tree c.args.grown.end l.grown.tree l.grown.end) all
    (l.invariant p)

pub attach_list-returns-clause-attaches : goal.attach_list-returns-clause-attaches
attach_list-returns-clause-attaches t c =
    let s = c.args.sight.now in
    let l = c.loop-e in
    let all : take l.e-index c.args.list.now ≡ c.args.list.now =
    take_all l.e-index c.args.list.now (omega (arith, c.loop-e-test.false)) in
    λ p.
    subst (λ xs. Attaches s.outer.now s.start s.width (joined_tables (map tables_of_expr xs))
    (ListAt xs l.exprs) c.args.grown.tree c.args.grown.end l.grown.tree l.grown.end) all
    (l.invariant.0 p)

pub attach_aggregates-returns-clause-attaches : goal.attach_aggregates-returns-clause-attaches
attach_aggregates-returns-clause-attaches t c =
    let s = c.args.sight.now in
    let l = c.loop-a in
    let all : take l.a-index c.args.all.now ≡ c.args.all.now =
    take_all l.a-index c.args.all.now (omega (arith, c.loop-a-test.false)) in
    λ p.
    subst (λ xs. Attaches s.outer.now s.start s.width (joined_tables (map tables_of_aggregate xs))
    (AggregatesAt xs l.aggregates) c.args.grown.tree c.args.grown.end l.grown.tree l.grown.end) all
    (l.invariant.0 p)
