-- A kept view under each row of a domain, and without one.
use Rattle.std.proofs.Common.{◌≡◌, ℕ, ◌+◌, List, [], ◌∷◌, ◌++◌, refl, sym, ◌∙◌, ap, subst, arith, inr, length}
use Rattle.std.proofs.Math.Path.{fun_ext}
use Rattle.base_row_laws.specs.Bags.{Each}
use Rattle.base_row_laws.specs.Domains.{IsDomain, Answers}
use Rattle.base_row_laws.specs.Matched.{inner_matched}
use Rattle.base_row_laws.specs.Operators.{select}
use Rattle.base_row_laws.specs.Ranked.{Ranked, true_rank}
use Rattle.base_row_laws.specs.StandingLaws.{Stands}
use Rattle.base_row_laws.proofs.Standings.{select_true}
use Rattle.base_row_laws.proofs.Trees.{closed_meets}
use Rattle.base_value.specs.declared.value.Value.{Value}
use Rattle.base_value.specs.declared.value.Value.TheVariants.{Null}
use Rattle.base_value.specs.Value.{same_value}
use Rattle.base_value.proofs.Identity.{value_identity}
use Rattle.expr_scalar.specs.declared.expr.Expr.{Expr}
use Rattle.expr_scalar.specs.declared.expr.Expr.TheVariants.{All}
use Rattle.expr_conditions.specs.Ranks.{all_rank, rank_of}
use Rattle.plan_algebra.specs.declared.kept_plan.KeptPlan.{KeptPlan}
use Rattle.plan_algebra.specs.declared.node.Node.{Node}
use Rattle.plan_algebra.specs.declared.node.Node.TheVariants as node
use Rattle.plan_algebra.specs.declared.tree.DepTree.TheOpen as t
use Rattle.plan_algebra.specs.KeptPlans.{query_rows}
use Rattle.plan_algebra.specs.Plans.{plan_rows, plan_width}
use Rattle.plan_algebra.specs.Trees.{Database, TreeMeaning, kept_count, tree_step}
use Rattle.plan_algebra.proofs.KeptPlans.{query_stands}
use Rattle.plan_unnested_nodes.specs.declared.domain.DomainRows.{DomainRows}
use Rattle.plan_unnested_nodes.specs.declared.domain.DomainRows.TheVariants as domain
use Rattle.plan_unnested_nodes.specs.declared.footing.Footing.{Footing}
use Rattle.plan_unnested_nodes.specs.declared.footing.FootingRows.TheVariants.{One, Node as AtNode}
use Rattle.plan_unnested_nodes.specs.declared.from_rows.Apart.{Apart}
use Rattle.plan_unnested_nodes.specs.Footings.{footing_width, footing_rows, as_footing, IsFooting, Settles}
use Rattle.plan_unnested_nodes.specs.FromRows.{GivesApart}
use Rattle.plan_unnested_nodes.specs.Growth.{IsPut}
use Rattle.plan_unnested_nodes.specs.Lowerings.{Lowers, IsKeptScanned}
use Rattle.plan_unnested_nodes.proofs.ApartNodes.{same_list}
use Rattle.plan_unnested_nodes.proofs.Arms.{always, puts, selection_over}
use Rattle.plan_unnested_nodes.proofs.Grown.{same_plan, put_more, kept_rows, kept_width, put_rows, put_width, put_last}
use Rattle.plan_unnested_nodes.proofs.Kept.{same_footing, settled_first}

-- rows that stand, under each row of a domain
kept_over : (n : ℕ) (ds xs : List (Ranked Value)) → Each Stands xs → IsDomain same_value n ds
    → Answers same_value ds (inner_matched same_value Null [] (rank_of (All [])) ds xs) (λ d. xs)
kept_over n ds xs stand dom =
    let asked : List Value → List Value → ℕ = λ d t. rank_of (All []) (d ++ t) in
    let holds : (d : List Value) → asked d ≡ (λ t. true_rank) = λ d. fun_ext (λ t. always (d ++ t)) in
    let same : ◌≡◌ {A = List Value → List (Ranked Value)} (λ d. select (asked d) xs) (λ d. xs) =
    fun_ext (λ d. ap (λ h. select h xs) (holds d) ∙ select_true xs stand) in
    subst (λ (M : List Value → List (Ranked Value)). Answers same_value ds (inner_matched same_value Null [] (rank_of (All [])) ds xs) M) same
    (selection_over n ds xs (All []) dom)

kept_alone : (before new : List Node) (number : ℕ) (plan : KeptPlan) (f : Footing) (id : ℕ) → f.rows ≡ One → IsFooting before f.rows
    → IsPut before new (node.Kept number plan) id → Lowers before new (tree_step (t.Kept number plan)) f f id
unfolding plan_rows plan_width
kept_alone before new number plan f id e within p =
    puts before before new [] 0 (tree_step (t.Kept number plan)) f f id (node.Kept number plan) (same_plan before) (same_footing f (same_plan before) within) p refl (omega arith)
    (let z = ap footing_width e in omega arith)
    (λ db h. subst (λ r. Answers same_value (footing_rows db before r) (query_rows plan (db plan.table)) (λ d. query_rows plan (db plan.table))) (sym e)
    (closed_meets same_value value_identity (query_rows plan (db plan.table)), tt))

-- a kept view joined with a domain under a condition, where its rows are those of a meaning
joined_kept : (before new : List Node) (number : ℕ) (plan : KeptPlan) (c : Expr) (k : TreeMeaning) (f : Footing) (d width id : ℕ) → f.rows ≡ AtNode d width → IsFooting before f.rows
    → IsPut (before ++ node.Kept number plan ∷ []) new (node.Join d (length before) [] c) id → inr (kept_count plan) ∷ [] ≡ k.scans → k.width ≡ length plan.list
    → ((db : Database) (ds : List (Ranked Value)) → IsDomain same_value width ds
    → Answers same_value ds (inner_matched same_value Null [] (rank_of c) ds (query_rows plan (db plan.table))) (k.rows db))
    → Lowers before new k f f id
unfolding plan_rows plan_width
joined_kept before new number plan c k f d width id e within p scans wide over =
    let mid = before ++ node.Kept number plan ∷ [] in
    let q : IsPut before mid (node.Kept number plan) (length before) = record { number = refl; nodes = refl } in
    let g = put_more (same_plan before) q in
    let there : IsFooting before (AtNode d width) = subst (IsFooting before) e within in
    let dw : plan_width mid d ≡ width = kept_width d g there.0 ∙ there.1 in
    let sw = put_width q in
    puts before mid new (inr (kept_count plan) ∷ []) 0 k f f id (node.Join d (length before) [] c) g (same_footing f g within) p scans (omega arith)
    (let z = ap footing_width e in omega (arith, dw, sw, z, wide))
    (λ db h.
    let kept : plan_rows db mid d ≡ plan_rows db before d = kept_rows db d g there.0 in
    let here : plan_rows db mid (length before) ≡ query_rows plan (db plan.table) = put_rows db q in
    let ds = plan_rows db before d in
    let dom : IsDomain same_value width ds = subst (λ r. IsDomain same_value (footing_width r) (footing_rows db before r)) e h.is_domain in
    let xs : (List (Ranked Value) × List (Ranked Value)) → List (Ranked Value) = λ p. inner_matched same_value Null [] (rank_of c) p.0 p.1 in
    subst (λ r. Answers same_value (footing_rows db before r) (xs (plan_rows db mid d, plan_rows db mid (length before))) (k.rows db)) (sym e)
    (subst (λ l. Answers same_value ds (xs (l, plan_rows db mid (length before))) (k.rows db)) (sym kept)
    (subst (λ l. Answers same_value ds (xs (ds, l)) (k.rows db)) (sym here) (over db ds dom))))

kept_joined : (before new : List Node) (number : ℕ) (plan : KeptPlan) (f : Footing) (d width id : ℕ) → f.rows ≡ AtNode d width → IsFooting before f.rows
    → IsPut (before ++ node.Kept number plan ∷ []) new (node.Join d (length before) [] (All [])) id → Lowers before new (tree_step (t.Kept number plan)) f f id
kept_joined before new number plan f d width id e within p =
    joined_kept before new number plan (All []) (tree_step (t.Kept number plan)) f d width id e within p refl refl
    (λ db ds dom. kept_over width ds (query_rows plan (db plan.table)) (query_stands plan (db plan.table)) dom)

kept_lowers : (before new : List Node) (number : ℕ) (plan : KeptPlan) (f : Footing) (r : DomainRows) (id : ℕ) → f.rows ≡ as_footing r → IsFooting before f.rows
    → IsKeptScanned before new number plan r id → Lowers before new (tree_step (t.Kept number plan)) f f id
kept_lowers before new number plan f domain.One id e w q = kept_alone before new number plan f id e w q
kept_lowers before new number plan f (domain.Node d width) id e w q = kept_joined before new number plan f d width id e w q

-- a kept view under each row that was settled
pub kept_put : {before mid new : List Node} (number : ℕ) (plan : KeptPlan) {f g : Footing} {r : DomainRows} {id : ℕ} → Settles before mid f g r → IsKeptScanned mid new number plan r id
    → Lowers before new (tree_step (t.Kept number plan)) f g id
kept_put {mid = mid} {new = new} number plan {g = g} {r = r} {id = id} s p = settled_first s (kept_lowers mid new number plan g r id s.settled s.same.in_plan p)

-- a kept view without a domain
pub kept_apart : {before new : List Node} {number : ℕ} {plan : KeptPlan} (part : Apart) (n : ℕ) → IsPut before new (node.Kept number plan) part.rows → part.width ≡ length plan.list
    → part.conditions ≡ [] → GivesApart before new (tree_step (t.Kept number plan)) n part
unfolding plan_width plan_rows
kept_apart {before = before} {new = new} {number = number} {plan = plan} part n p w none = record {
  most = 0;
  plan = put_more (same_plan before) p;
  few = omega arith;
  last = put_last p;
  wide = put_width p ∙ sym w;
  width = w;
  rows = λ db k d ld.
      let own = query_rows plan (db plan.table) in
      let trues : ◌≡◌ {A = List Value → ℕ} (λ t. all_rank part.conditions (d ++ t)) (λ t. true_rank) =
      fun_ext (λ t. ap (λ es. all_rank es (d ++ t)) none) in
      same_list (ap (select (λ t. all_rank part.conditions (d ++ t))) (put_rows db p)
      ∙ ap (λ h. select h own) trues ∙ select_true own (query_stands plan (db plan.table)));
}
