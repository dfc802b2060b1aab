-- The trees of queries, as the code makes them.
use Rattle.plan_dependent_tree.proofs.SeenArms.{plain_seen, grouped_seen}
use Rattle.plan_dependent_tree.proofs.SeenArms.{distinct_seen, set_seen}
use Rattle.plan_dependent_tree.proofs.SuppliedClauses.{plain_from_supplied, plain_where_supplied}
use Rattle.plan_dependent_tree.proofs.SuppliedClauses.{plain_list_supplied, grouped_from_supplied}
use Rattle.plan_dependent_tree.proofs.SuppliedClauses.{grouped_where_supplied, grouped_keys_within}
use Rattle.plan_dependent_tree.proofs.SuppliedClauses.{grouped_aggregates_supplied}
use Rattle.plan_dependent_tree.proofs.SuppliedClauses.{grouped_having_supplied}
use Rattle.plan_dependent_tree.proofs.SuppliedClauses.{grouped_list_supplied}
use Rattle.plan_dependent_tree.proofs.SuppliedClauses.{distinct_supplied, set_left_supplied}
use Rattle.plan_dependent_tree.proofs.SuppliedClauses.{set_right_supplied}
use Rattle.plan_dependent_tree.proofs.tree.+depend.Goals as goal

pub plain : goal.block-returns-in_ok-rows-in-Plain-2-clause-tree
plain t c =
    λ p.
    let from = plain_from_supplied c.args.outer.now c.in-Plain.condition c.in-Plain.list p
    c.in-Plain.is c.get.ensures in
    let wide = c.in_ok-rows-in-Plain.ensures.width in
    let where_clause = plain_where_supplied c.args.outer.now c.in-Plain.condition c.in-Plain.list p
    c.in-Plain.is c.get.ensures wide in
    let list = plain_list_supplied c.args.outer.now c.in-Plain.condition c.in-Plain.list p
    c.in-Plain.is c.get.ensures wide c.as_slice.ensures in
    plain_seen c.args.outer.now c.args.start c.in-Plain.condition
    c.in_ok-condition-in-Plain.condition.expr c.in_ok-listed-in-Plain.listed.exprs c.in-Plain.is
    c.get.ensures (c.in_ok-rows-in-Plain.ensures.tree from) c.in_ok-grown-in-Plain.ensures
    (c.in_ok-condition-in-Plain.ensures where_clause)
    c.in_ok-grown-in-Plain-2.ensures c.as_slice.ensures
    (c.in_ok-listed-in-Plain.ensures.attaches list)
    c.in_ok-listed-in-Plain.ensures.count c.in_ok-rows-in-Plain-2.ensures

pub grouped : goal.block-returns-in_ok-rows-in-Grouped-2-clause-tree
grouped t c =
    λ p.
    let summed = c.in_ok-summed-in-Grouped.ensures in
    let summed_aggregates = c.in_ok-summed-in-Grouped.summed.aggregates in
    let wide = c.in_ok-rows-in-Grouped.ensures.width in
    let from = grouped_from_supplied c.args.outer.now c.in-Grouped.condition c.in-Grouped.keys
    c.in-Grouped.aggregates c.in-Grouped.having c.in-Grouped.list p c.in-Grouped.is
    c.get-in-Grouped.ensures in
    let where_clause = grouped_where_supplied c.args.outer.now c.in-Grouped.condition
    c.in-Grouped.keys
    c.in-Grouped.aggregates c.in-Grouped.having c.in-Grouped.list p c.in-Grouped.is
    c.get-in-Grouped.ensures wide in
    let within = grouped_keys_within c.args.outer.now c.in-Grouped.condition c.in-Grouped.keys
    c.in-Grouped.aggregates c.in-Grouped.having c.in-Grouped.list p c.in-Grouped.is
    c.get-in-Grouped.ensures wide c.as_slice-in-Grouped.ensures in
    let keys_at = c.in_ok-by-in-Grouped.ensures within in
    let aggregates = grouped_aggregates_supplied c.args.outer.now c.in-Grouped.condition
    c.in-Grouped.keys
    c.in-Grouped.aggregates c.in-Grouped.having c.in-Grouped.list p c.in-Grouped.is
    c.get-in-Grouped.ensures wide c.as_slice-in-Grouped-2.ensures in
    let having = grouped_having_supplied c.args.outer.now c.in-Grouped.condition c.in-Grouped.keys
    c.in-Grouped.aggregates c.in-Grouped.having c.in-Grouped.list p c.in-Grouped.is
    c.get-in-Grouped.ensures
    c.in_ok-by-in-Grouped.by summed_aggregates c.as_slice-in-Grouped.ensures keys_at.count
    c.as_slice-in-Grouped-2.ensures summed.count c.in_ok-groups-in-Grouped.ensures.1 in
    let list = grouped_list_supplied c.args.outer.now c.in-Grouped.condition c.in-Grouped.keys
    c.in-Grouped.aggregates c.in-Grouped.having c.in-Grouped.list p c.in-Grouped.is
    c.get-in-Grouped.ensures
    c.in_ok-by-in-Grouped.by summed_aggregates c.as_slice-in-Grouped.ensures keys_at.count
    c.as_slice-in-Grouped-2.ensures summed.count c.in_ok-groups-in-Grouped.ensures.1
    c.as_slice-in-Grouped-3.ensures in
    grouped_seen c.args.outer.now c.args.start c.in-Grouped.condition c.in-Grouped.having
    c.in_ok-condition-in-Grouped.condition.expr c.in_ok-having-in-Grouped.having.expr
    c.in_ok-summed-in-Grouped.summed.aggregates c.in_ok-listed-in-Grouped.listed.exprs
    c.in-Grouped.is c.get-in-Grouped.ensures (c.in_ok-rows-in-Grouped.ensures.tree from)
    c.in_ok-grown-in-Grouped.ensures
    (c.in_ok-condition-in-Grouped.ensures where_clause) c.in_ok-grown-in-Grouped-2.ensures
    c.as_slice-in-Grouped.ensures keys_at c.as_slice-in-Grouped-2.ensures
    (summed.attaches aggregates) summed.functions
    summed.count c.in_ok-groups-in-Grouped.ensures
    c.in_ok-grown-in-Grouped-3.ensures (c.in_ok-having-in-Grouped.ensures having)
    c.in_ok-grown-in-Grouped-4.ensures c.as_slice-in-Grouped-3.ensures
    (c.in_ok-listed-in-Grouped.ensures.attaches list) c.in_ok-listed-in-Grouped.ensures.count
    c.in_ok-rows-in-Grouped-2.ensures

pub distinct : goal.block-returns-in_ok-rows-in-Distinct-2-clause-tree
distinct t c =
    λ p.
    distinct_seen c.args.outer.now c.args.start c.in-Distinct.is c.get-in-Distinct.ensures
    (c.in_ok-rows-in-Distinct.ensures.tree
    (distinct_supplied c.args.outer.now p c.in-Distinct.is c.get-in-Distinct.ensures))
    c.in_ok-rows-in-Distinct-2.ensures

pub set : goal.block-returns-in_ok-rows-in-Set-clause-tree
set t c =
    let set = c.in-Set in
    λ p.
    set_seen c.args.outer.now c.args.start set.is c.get-in-Set.ensures
    (c.in_ok-left-in-Set.ensures.tree
    (set_left_supplied c.args.outer.now set.a set.b set.columns set.operation p set.is
    c.get-in-Set.ensures))
    c.get-in-Set-2.ensures
    (c.in_ok-right-in-Set.ensures.tree
    (set_right_supplied c.args.outer.now set.a set.b set.columns set.operation p set.is
    c.get-in-Set-2.ensures))
    c.as_slice-in-Set.ensures c.in_ok-rows-in-Set.ensures
