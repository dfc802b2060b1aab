-- The right side of each kind of side.
use Rattle.std.proofs.Common.{◌≡◌, ℕ, ◌+◌, ◌<◌, List, [], ◌∷◌, refl, sym, ap, ◌∙◌, subst, arith, length}
use Rattle.std.specs.Prelude.{true, false, ◌==◌}
use Rattle.std.proofs.lemmas.Bool.{true≢false, eqb-true}
use Rattle.base_row_laws.specs.Ranked.{Ranked}
use Rattle.base_row_laws.specs.Operators.{domain_node}
use Rattle.base_row_laws.specs.Rows.{columns}
use Rattle.base_row_laws.specs.Domains.{IsDomain, Answers}
use Rattle.base_row_laws.specs.Trees.{side_width, side_domain}
use Rattle.base_row_laws.proofs.Lists.{Each-all}
use Rattle.base_row_laws.proofs.Trees.{unit_is, side_is}
use Rattle.base_value.specs.declared.value.Value.{Value}
use Rattle.base_value.specs.declared.value.Value.TheVariants.{Null}
use Rattle.base_value.specs.Value.{same_value}
use Rattle.base_value.proofs.Identity.{value_identity}
use Rattle.plan_algebra.specs.declared.node.Node.{Node}
use Rattle.plan_algebra.specs.declared.tree.Side.TheVariants.{Closed, Shared, Dependent}
use Rattle.plan_algebra.specs.Trees.{Database, HasKinds, TreeMeaning, side_of}
use Rattle.plan_algebra.specs.Plans.{plan_rows}
use Rattle.plan_unnested_nodes.specs.declared.domain.Origin.{Origin}
use Rattle.plan_unnested_nodes.specs.declared.footing.Footing.{Footing}
use Rattle.plan_unnested_nodes.specs.declared.footing.FootingRows.TheVariants.{One, Due}
use Rattle.plan_unnested_nodes.specs.Domains.{KeepsNotes}
use Rattle.plan_unnested_nodes.specs.Footings.{footing_width, footing_rows, is_due, IsFooting, FootingHolds}
use Rattle.plan_unnested_nodes.specs.Lowerings.{Lowers, LowersRight, IsOwnFooting}
use Rattle.plan_unnested_nodes.specs.PlanKinds.{AreOrigins}
use Rattle.plan_unnested_nodes.proofs.Kept.{same_footing}

pub no_notes : (notes : List Origin) (rows : List (Ranked Value)) → notes ≡ [] → KeepsNotes notes rows
no_notes notes rows e = subst (λ n. KeepsNotes n rows) (sym e) (Each-all (λ r. Unit {0}) rows (λ r. tt))

-- the one row of no columns
pub one_holds : (db : Database) (nodes : List Node) (f : Footing) → f.rows ≡ One → f.unchanged ≡ [] → HasKinds db → FootingHolds db nodes f
one_holds db nodes f e n kinds = record {
  kinds = kinds;
  is_domain = subst (λ r. IsDomain same_value (footing_width r) (footing_rows db nodes r)) (sym e) (unit_is same_value value_identity);
  noted = no_notes f.unchanged (footing_rows db nodes f.rows) n;
}

-- a shared side is lowered over the same rows
pub shared_right : {before after : List Node} {m : TreeMeaning} {f g : Footing} {id : ℕ} (outer : ℕ) → Lowers before after m f g id → LowersRight before after m Shared f g outer id
shared_right outer l = record {
  most = l.most;
  plan = l.plan;
  few = let d = l.few in omega arith;
  same = l.same;
  last = l.last;
  width = l.width;
  answers = λ db h. l.answers db h;
}

-- a closed one over the one row of no columns
pub closed_right : {before after : List Node} {m : TreeMeaning} {o p : Footing} {id : ℕ} (f : Footing) (outer : ℕ) → IsFooting before f.rows → o.rows ≡ One → o.unchanged ≡ []
    → Lowers before after m o p id → LowersRight before after m Closed f f outer id
closed_right {before} {after} {m} {o} {p} {id} f outer within e n l = record {
  most = l.most;
  plan = l.plan;
  few = let d = l.few in let z = ap is_due e in omega (arith, d, z);
  same = same_footing f l.plan within;
  last = l.last;
  width = l.width ∙ ap (λ r. footing_width r + m.width) e;
  answers = λ db h.
      subst (λ r. Answers same_value (footing_rows db before r) (plan_rows db after id) (m.rows db)) e (l.answers db (one_holds db before o e n h.kinds));
}

dependent_width : (cs : List ℕ) (n : ℕ) → length cs ≡ side_width (side_of (Dependent cs)) n
dependent_width [] n = refl
dependent_width (c ∷ cs) n = refl

-- one that depends on some columns over the values at these
pub own_right : {before after : List Node} {m : TreeMeaning} {o p : Footing} {cs : List ℕ} {id : ℕ} (f : Footing) (outer : ℕ) → IsFooting before f.rows
    → IsOwnFooting before outer cs o → Lowers before after m o p id → LowersRight before after m (Dependent cs) f f outer id
own_right {before} {after} {m} {o} {p} {cs} {id} f outer within own l =
    let side = side_of (Dependent cs) in
    let n = footing_width f.rows in
    let wide : footing_width o.rows ≡ side_width side n = own.width ∙ dependent_width cs n in
    record {
      most = l.most;
      plan = l.plan;
      few = let d = l.few in let z = own.few in omega (arith, d, z);
      same = same_footing f l.plan within;
      last = l.last;
      width = l.width ∙ ap (λ k. k + m.width) wide;
      answers = λ db h.
          let ds = footing_rows db before f.rows in
          let xs = plan_rows db before outer in
          let is : footing_rows db before o.rows ≡ side_domain same_value Null side ds xs = own.rows db ds in
          let dom : IsDomain same_value (footing_width o.rows) (footing_rows db before o.rows) =
          subst (λ e. IsDomain same_value (footing_width o.rows) e) (sym is)
          (subst (λ k. IsDomain same_value k (side_domain same_value Null side ds xs)) (sym wide)
          (side_is same_value value_identity Null side n ds xs h.is_domain)) in
          subst (λ e. Answers same_value e (plan_rows db after id) (m.rows db)) is
          (l.answers db (record { kinds = h.kinds; is_domain = dom; noted = own.noted db h.kinds }));
    }

-- a list that is tested for having no element
pub none_of : (cs : List ℕ) → (length cs == 0) ≡ true → cs ≡ []
none_of [] h = refl
none_of (c ∷ cs) h = let l = eqb-true (length (c ∷ cs)) 0 h in absurd (omega (arith, l))

pub some_of : (cs : List ℕ) → (length cs == 0) ≡ false → cs ≡ [] → ⊥
some_of [] h e = true≢false h
some_of (c ∷ cs) h e = let l = ap length e in omega (arith, l)

-- no notes of a domain
pub none_noted : (nodes : List Node) (outer : ℕ) (cs : List ℕ) (notes : List Origin) → notes ≡ []
    → AreOrigins nodes outer cs notes
none_noted nodes outer cs notes e = record {
  noted = λ db k.
      no_notes notes (domain_node same_value (columns Null cs) (plan_rows db nodes outer)) e;
}

-- the rows of a side that depends on no columns
pub own_none : (nodes : List Node) (outer : ℕ) (cs : List ℕ) (o : Footing) → cs ≡ [] → o.rows ≡ One → o.unchanged ≡ [] → IsOwnFooting nodes outer cs o
own_none nodes outer cs o none e n = subst (λ l. IsOwnFooting nodes outer l o) (sym none) (record {
  in_plan = subst (IsFooting nodes) (sym e) tt;
  few = let z = ap is_due e in omega (arith, z);
  width = ap footing_width e;
  rows = λ db ds. ap (footing_rows db nodes) e;
  noted = λ db k. no_notes o.unchanged (footing_rows db nodes o.rows) n;
})

-- those of one that depends on some
pub own_due : (nodes : List Node) (outer : ℕ) (cs : List ℕ) (o : Footing) → (cs ≡ [] → ⊥) → outer < length nodes → o.rows ≡ Due outer cs → AreOrigins nodes outer cs o.unchanged
    → IsOwnFooting nodes outer cs o
own_due nodes outer [] o some h e a = absurd (some refl)
own_due nodes outer (c ∷ cs) o some h e a = record {
  in_plan = subst (IsFooting nodes) (sym e) h;
  few = let z = ap is_due e in omega (arith, z);
  width = ap footing_width e;
  rows = λ db ds. ap (footing_rows db nodes) e;
  noted = λ db k. subst (λ r. KeepsNotes o.unchanged (footing_rows db nodes r)) (sym e) (a.noted db k);
}
