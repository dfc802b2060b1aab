-- A plan from the tree that was arranged and lowered.
use Rattle.std.proofs.Common.{◌≡◌, ℕ, ◌+◌, ◌-◌, List, [], ◌++◌, refl, sym, ap, ◌∙◌, subst, arith}
use Rattle.std.proofs.Common.{length}
use Rattle.base_row_laws.specs.Bags.{SameBag}
use Rattle.base_row_laws.proofs.Bags.{SameBag-refl, SameBag-sym, SameBag-trans}
use Rattle.base_schema.specs.State.{table_rows}
use Rattle.sql_bound_query.specs.declared.query.BoundQuery.{BoundQuery}
use Rattle.sql_bound_query.specs.Meaning.{rows}
use Rattle.plan_algebra.specs.declared.node.Node.{Node}
use Rattle.plan_algebra.specs.declared.plan.FlatPlan.{FlatPlan}
use Rattle.plan_algebra.specs.declared.tree.DepTree.{DepTree}
use Rattle.plan_algebra.specs.Plans.{plan_rows, plan_scans}
use Rattle.plan_algebra.specs.Trees.{tree_rows, scans_of}
use Rattle.plan_dependent_nodes.specs.Dependence.{IsTreeOf}
use Rattle.plan_predicate_sinking.specs.Arranged.{SameRows}
use Rattle.plan_unnested_nodes.specs.declared.domain.Domain.{Domain}
use Rattle.plan_unnested_nodes.specs.declared.domain.DomainRows.TheVariants.{One}
use Rattle.plan_unnested_nodes.specs.Lowerings.{Answered, KeepsNodes}
use Rattle.plan_planner.specs.Planned.{IsPlanOf}

same_from : {X : Type 0} {xs ys : List X} → xs ≡ ys → SameBag xs ys
same_from {X} {xs} {ys} e = subst (SameBag xs) e (SameBag-refl xs)

pub planned : {q : BoundQuery} {plan : FlatPlan} {first seen second lowered : DepTree}
    {before nodes : List Node} {domain : Domain} {id : ℕ} → IsTreeOf q.block [] first → seen ≡ first
    → SameRows 0 seen second → lowered ≡ second → before ≡ [] → domain.rows ≡ One
    → Answered nodes lowered domain id → KeepsNodes before nodes id
    → plan_scans nodes ≡ plan_scans before ++ scans_of lowered → plan.nodes ≡ nodes
    → plan.order ≡ q.order → plan.limit ≡ q.limit → IsPlanOf q plan
planned {q} {plan} {first} {seen} {second} {lowered} {before} {nodes} {domain} {id} tree e same f
    none one answered kept scans is order limit = record {
      rows = λ state ok.
          let db = table_rows state in
          let last : length nodes ≡ id + 1 = kept.last in
          let at : length plan.nodes - 1 ≡ id = ap (λ ns. length ns - 1) is ∙ omega (arith, last) in
          let flat : SameBag (plan_rows db nodes id) (tree_rows second db []) =
          subst (λ t. SameBag (plan_rows db nodes id) (tree_rows t db [])) f
          (answered.rows one db ok.tables) in
          let moved : SameBag (tree_rows first db []) (tree_rows second db []) =
          subst (λ t. SameBag (tree_rows t db []) (tree_rows second db [])) e
          (same.rows db [] ok.tables refl) in
          subst (λ ns. SameBag (plan_rows db ns (length plan.nodes - 1)) (rows q.block [] state))
          (sym is)
          (subst (λ i. SameBag (plan_rows db nodes i) (rows q.block [] state)) (sym at)
          (SameBag-trans flat (SameBag-trans (SameBag-sym moved)
          (same_from (tree.rows state ok [])))));
      scans =
          let all : plan_scans plan.nodes ≡ scans_of second =
          ap plan_scans is ∙ scans ∙ ap (λ ns. plan_scans ns ++ scans_of lowered) none
          ∙ ap scans_of f in
          let moved : SameBag (scans_of first) (scans_of second) =
          subst (λ t. SameBag (scans_of t) (scans_of second)) e same.scans in
          SameBag-trans (same_from all) (SameBag-trans (SameBag-sym moved) (same_from tree.scans));
      order = order;
      limit = limit;
    }
