-- Footings while a plan grows.
use Rattle.std.proofs.Common.{◌≡◌, ℕ, ◌+◌, List, refl, sym, ap, ◌∙◌, subst, arith, length}
use Rattle.base_row_laws.specs.Rows.{columns}
use Rattle.base_row_laws.specs.Operators.{domain_node}
use Rattle.base_row_laws.specs.Domains.{IsDomain, Answers}
use Rattle.base_value.specs.declared.value.Value.TheVariants.{Null}
use Rattle.base_value.specs.Value.{same_value}
use Rattle.plan_algebra.specs.Trees.{Occurrence}
use Rattle.plan_algebra.specs.declared.node.Node.{Node}
use Rattle.plan_algebra.specs.declared.node.Node.TheVariants as node
use Rattle.plan_algebra.specs.Trees.{Database, TreeMeaning}
use Rattle.plan_algebra.specs.Plans.{plan_rows, plan_width}
use Rattle.plan_unnested_nodes.specs.declared.domain.DomainRows.{DomainRows}
use Rattle.plan_unnested_nodes.specs.declared.domain.DomainRows.TheVariants as domain
use Rattle.plan_unnested_nodes.specs.declared.footing.Footing.{Footing}
use Rattle.plan_unnested_nodes.specs.declared.footing.FootingRows.{FootingRows}
use Rattle.plan_unnested_nodes.specs.declared.footing.FootingRows.TheVariants.{One, Node as AtNode, Due}
use Rattle.plan_unnested_nodes.specs.Domains.{IsInPlan, KeepsNotes}
use Rattle.plan_unnested_nodes.specs.Footings.{footing_width, footing_rows, is_due, as_footing, IsFooting, FootingHolds, SameFooting, Settles}
use Rattle.plan_unnested_nodes.specs.Growth.{Grows, IsPut}
use Rattle.plan_unnested_nodes.specs.Lowerings.{Lowers}
use Rattle.plan_unnested_nodes.proofs.Grown.{kept_rows, kept_width, grown_length, same_plan, put_more, put_rows, put_width, put_last, both_more}

-- the rows of a footing stay as the plan grows
pub kept_footing : {before after : List Node} {tables : List Occurrence} {most : ℕ} (db : Database) (r : FootingRows) → Grows before after tables most → IsFooting before r
    → footing_rows db after r ≡ footing_rows db before r
kept_footing db One g w = refl
kept_footing db (AtNode d width) g w = kept_rows db d g w.0
kept_footing db (Due outer cs) g w = ap (domain_node same_value (columns Null cs)) (kept_rows db outer g w)

pub kept_in_plan : {before after : List Node} {tables : List Occurrence} {most : ℕ} (r : FootingRows) → Grows before after tables most → IsFooting before r → IsFooting after r
kept_in_plan One g w = tt
kept_in_plan (AtNode d width) g w = (let l = grown_length g in let h = w.0 in omega arith, kept_width d g w.0 ∙ w.1)
kept_in_plan (Due outer cs) g w = let l = grown_length g in omega (arith, w, l)

-- a footing that was not touched
pub same_footing : {before after : List Node} {tables : List Occurrence} {most : ℕ} (f : Footing) → Grows before after tables most → IsFooting before f.rows → SameFooting before after f f
same_footing f g w = record {
  in_plan = kept_in_plan f.rows g w;
  width = refl;
  rows = λ db. kept_footing db f.rows g w;
  unchanged = refl;
}

-- one that stayed the same twice
pub both_same : {a b c : List Node} {f g h : Footing} → SameFooting a b f g → SameFooting b c g h → SameFooting a c f h
both_same s t = record {
  in_plan = t.in_plan;
  width = t.width ∙ s.width;
  rows = λ db. t.rows db ∙ s.rows db;
  unchanged = t.unchanged ∙ s.unchanged;
}

-- and while the plan grew on
pub same_later : {a b c : List Node} {f g : Footing} {tables : List Occurrence} {most : ℕ} → SameFooting a b f g → Grows b c tables most → SameFooting a c f g
same_later {g = g} s more = both_same s (same_footing g more s.in_plan)

-- what holds of a footing holds of it later
pub holds_later : {a b : List Node} {f g : Footing} (db : Database) → SameFooting a b f g → FootingHolds db a f → FootingHolds db b g
holds_later {a} {b} {f} {g} db s h = record {
  kinds = h.kinds;
  is_domain =
      subst (λ xs. IsDomain same_value (footing_width g.rows) xs) (sym (s.rows db))
      (subst (λ n. IsDomain same_value n (footing_rows db a f.rows)) (sym s.width) h.is_domain);
  noted =
      subst (λ xs. KeepsNotes g.unchanged xs) (sym (s.rows db))
      (subst (λ ns. KeepsNotes ns (footing_rows db a f.rows)) (sym s.unchanged) h.noted);
}

-- rows that are settled are in the plan
pub settled_in_plan : {before after : List Node} {old new : Footing} {r : DomainRows} → Settles before after old new r → IsInPlan after r
settled_in_plan {after = after} {r = r} s = go r (subst (IsFooting after) s.settled s.same.in_plan)
  where
    go : (r : DomainRows) → IsFooting after (as_footing r) → IsInPlan after r
    go domain.One w = tt
    go (domain.Node d width) w = w

pub settled_one : (nodes : List Node) (f : Footing) → f.rows ≡ One → Settles nodes nodes f f domain.One
settled_one nodes f e = record {
  most = 0;
  plan = same_plan nodes;
  few = omega arith;
  same = same_footing f (same_plan nodes) (subst (IsFooting nodes) (sym e) tt);
  settled = e;
}

pub settled_node : (nodes : List Node) (f : Footing) (d width : ℕ) → f.rows ≡ AtNode d width → IsFooting nodes f.rows → Settles nodes nodes f f (domain.Node d width)
settled_node nodes f d width e w = record {
  most = 0;
  plan = same_plan nodes;
  few = omega arith;
  same = same_footing f (same_plan nodes) w;
  settled = e;
}

-- the node that was due is put
pub settled_due : (before after : List Node) (old new : Footing) (outer : ℕ) (cs : List ℕ) (id width : ℕ) → old.rows ≡ Due outer cs → width ≡ length cs
    → new.rows ≡ AtNode id width → new.unchanged ≡ old.unchanged → IsPut before after (node.Domain outer cs) id → Settles before after old new (domain.Node id width)
unfolding plan_rows plan_width
settled_due before after old new outer cs id width due w is notes p = record {
  most = 1;
  plan = put_more (same_plan before) p;
  few = let a = ap is_due is in let b = ap is_due due in omega (arith, a, b);
  same = record {
    in_plan = subst (IsFooting after) (sym is) (let l = put_last p in omega arith, put_width p ∙ sym w);
    width = ap footing_width is ∙ w ∙ sym (ap footing_width due);
    rows = λ db. ap (footing_rows db after) is ∙ put_rows db p ∙ sym (ap (footing_rows db before) due);
    unchanged = notes;
  };
  settled = is;
}

-- a tree that is lowered once the rows are settled
pub settled_first : {before mid after : List Node} {m : TreeMeaning} {f g h : Footing} {r : DomainRows} {id : ℕ} → Settles before mid f g r → Lowers mid after m g h id → Lowers before after m f h id
settled_first {before} {mid} {after} {m} {f} {g} {h} {r} {id} s l = record {
  most = s.most + l.most;
  plan = both_more s.plan l.plan;
  few = let a = s.few in let b = l.few in omega (arith, a, b);
  same = both_same s.same l.same;
  last = l.last;
  width = l.width ∙ ap (λ n. n + m.width) s.same.width;
  answers = λ db holds.
      subst (λ xs. Answers same_value xs (plan_rows db after id) (m.rows db)) (s.same.rows db) (l.answers db (holds_later db s.same holds));
}
