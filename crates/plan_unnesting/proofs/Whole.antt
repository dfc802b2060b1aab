-- From each row of a domain to the whole domain.
use Rattle.std.proofs.Common.{◌≡◌, ℕ, ◌+◌, ◌≤◌, List, [], ◌++◌, refl, sym, ◌∙◌, ap, subst, arith, length}
use Rattle.std.proofs.lemmas.Grind.{flat_map-append}
use Rattle.std.proofs.lemmas.List.Sums.{sum_by-append}
use Rattle.base_row_laws.specs.Domains.{values_of, Meets, Answers, IsDomain}
use Rattle.base_row_laws.proofs.Lists.{Each-map, Each-all}
use Rattle.base_row_laws.proofs.Domains.{under_meets}
use Rattle.base_row_laws.proofs.Trees.{unit_is, root_bag}
use Rattle.base_value.specs.declared.value.Value.TheVariants.{Null}
use Rattle.base_value.specs.Value.{same_value}
use Rattle.base_value.proofs.Identity.{value_identity}
use Rattle.std.specs.Prelude.{IsTrue, slice_index_or}
use Rattle.plan_algebra.specs.declared.node.Node.{Node}
use Rattle.plan_algebra.specs.declared.tree.DepTree.{DepTree}
use Rattle.plan_algebra.specs.Trees.{Database, HasKinds, tree_meaning, tree_rows, scans_of, domains_of}
use Rattle.plan_algebra.specs.Plans.{plan_rows, plan_scans, scan_of, plan_domains, is_domain}
use Rattle.plan_unnested_nodes.specs.declared.domain.Domain.{Domain as DomainData}
use Rattle.plan_unnested_nodes.specs.declared.domain.DomainRows.{DomainRows}
use Rattle.plan_unnested_nodes.specs.declared.domain.DomainRows.TheVariants as domain
use Rattle.plan_unnested_nodes.specs.declared.domain.Origin.{Origin}
use Rattle.plan_unnested_nodes.specs.Domains.{domain_width, domain_rows, IsInPlan, is_unchanged, KeepsNotes, DomainHolds}
use Rattle.expr_scalar.specs.declared.kind.Kind.{Kind}
use Rattle.expr_scalar.specs.declared.kind.Kind.TheVariants as kind
use Rattle.plan_unnested_nodes.specs.declared.footing.Footing.{Footing}
use Rattle.plan_unnested_nodes.specs.Footings.{footing_width, footing_rows, footing_of, as_footing, is_due, IsFooting, FootingHolds}
use Rattle.plan_unnested_nodes.specs.Lowerings.{Unnests, Answered, KeepsNodes, Lowers}

-- the rows of a domain are those of its footing
footing_is : (db : Database) (nodes : List Node) (r : DomainRows) → footing_rows db nodes (as_footing r) ≡ domain_rows db nodes r
footing_is db nodes domain.One = refl
footing_is db nodes (domain.Node d width) = refl

width_is : (r : DomainRows) → footing_width (as_footing r) ≡ domain_width r
width_is domain.One = refl
width_is (domain.Node d width) = refl

none_due : (r : DomainRows) → is_due (as_footing r) ≡ 0
none_due domain.One = refl
none_due (domain.Node i width) = refl

-- a domain that is in the plan
pub domain_in_plan : (nodes : List Node) (d : DomainData) (f : Footing) → f ≡ footing_of d → IsInPlan nodes d.rows → IsFooting nodes f.rows
domain_in_plan nodes d f e w = subst (λ o. IsFooting nodes o.rows) (sym e) (go d.rows w)
  where
    go : (r : DomainRows) → IsInPlan nodes r → IsFooting nodes (as_footing r)
    go domain.One w = tt
    go (domain.Node i width) w = w

domain_holds : (db : Database) (nodes : List Node) (d : DomainData) → DomainHolds db nodes d → FootingHolds db nodes (footing_of d)
domain_holds db nodes d h = record {
  kinds = h.kinds;
  is_domain =
      subst (λ xs. IsDomain same_value (footing_width (as_footing d.rows)) xs) (sym (footing_is db nodes d.rows))
      (subst (λ n. IsDomain same_value n (domain_rows db nodes d.rows)) (sym (width_is d.rows)) h.is_domain);
  noted = subst (KeepsNotes d.unchanged) (sym (footing_is db nodes d.rows)) h.noted;
}

null_unchanged : (k : Kind) → IsTrue (is_unchanged k Null)
null_unchanged (kind.Number s) = refl
null_unchanged kind.Text = refl
null_unchanged kind.Date = refl

-- the one row of no columns is a domain, whatever is noted of its columns
one_row : (db : Database) (nodes : List Node) (d : DomainData) → d.rows ≡ domain.One → HasKinds db → DomainHolds db nodes d
one_row db nodes d e kinds = record {
  kinds = kinds;
  is_domain = subst (λ r. IsDomain same_value (domain_width r) (domain_rows db nodes r)) (sym e) (unit_is same_value value_identity);
  noted = subst (λ r. KeepsNotes d.unchanged (domain_rows db nodes r)) (sym e)
      (Each-all (λ (n : Origin). IsTrue (is_unchanged n.kind (slice_index_or [] n.column Null))) d.unchanged (λ n. null_unchanged n.kind), tt);
}

module _ (before after : List Node) (T : DepTree) (d : DomainData) (f g : Footing) (id : ℕ) (is : f ≡ footing_of d) (l : Lowers before after (tree_meaning T) f g id) where
  -- what is lowered, of the domain
  of_domain : Lowers before after (tree_meaning T) (footing_of d) g id
  of_domain = subst (λ o. Lowers before after (tree_meaning T) o g id) is l

  pub unnested : Unnests before after T d id
  unfolding tree_rows
  unnested = record {
    rows = λ db h.
        let ds = domain_rows db before d.rows in let n = domain_width d.rows in let xs = plan_rows db after id in
        let a : Answers same_value ds xs (tree_rows T db) =
        subst (λ e. Answers same_value e xs (tree_rows T db)) (footing_is db before d.rows) (of_domain.answers db (domain_holds db before d h)) in
        under_meets same_value value_identity n (values_of ds) xs (tree_rows T db) (Each-map (λ e. length e ≡ n) (λ e. e.values) ds h.is_domain.widths) h.is_domain.apart
        (Each-map (λ e. Meets same_value e xs (tree_rows T db e)) (λ e. e.values) ds a);
  }

  pub nodes_kept : KeepsNodes before after id
  nodes_kept = record { more = l.plan.more; grows = l.plan.grows; last = l.last }

  pub scans_added : plan_scans after ≡ plan_scans before ++ scans_of T
  unfolding scans_of
  scans_added = ap plan_scans l.plan.grows ∙ flat_map-append scan_of before l.plan.more ∙ ap (λ t. plan_scans before ++ t) l.plan.scans

  pub domains_added : plan_domains after ≤ plan_domains before + domains_of T
  unfolding domains_of
  domains_added =
      let e = ap plan_domains l.plan.grows in let s = sum_by-append is_domain before l.plan.more in let m = l.plan.domains in
      let q = l.few in
      let o : is_due f.rows ≡ 0 = ap (λ (x : Footing). is_due x.rows) is ∙ none_due d.rows in
      omega (arith, e, s, m, q, o)

  pub answered : Answered after T d id
  unfolding tree_rows
  answered = record {
    rows = λ e db kinds.
        root_bag same_value value_identity (plan_rows db after id) (tree_rows T db)
        (subst (λ r. Answers same_value (domain_rows db before r) (plan_rows db after id) (tree_rows T db)) e
        (subst (λ xs. Answers same_value xs (plan_rows db after id) (tree_rows T db)) (footing_is db before d.rows)
        (of_domain.answers db (domain_holds db before d (one_row db before d e kinds)))));
  }
