-- The columns that a lateral item's query sees, and those that FROM's items read of the row so far.
use Rattle.std.proofs.Common.{◌≡◌, ℕ, suc, ◌+◌, ◌<◌, ◌≤◌, List, [], ◌∷◌, Bool, true, false, ◌&&◌}
use Rattle.std.proofs.Common.{Option, ◌||◌}
use Rattle.std.proofs.Common.{◌==◌, map, take, get_or, length, refl, sym, ap, ◌∙◌, subst}
use Rattle.std.specs.Cmp.{first_so, second_so}
use Rattle.std.proofs.Math.Bool.{or_assoc, or-false}
use Rattle.std.proofs.lemmas.Bool.Decides.{Decides-eqb}
use Rattle.std.proofs.lemmas.List.{take_all}
use Rattle.std.proofs.lemmas.List.Folds.{list_any-append, list_any_more}
use Rattle.base_schema.specs.declared.table.TableName.{TableName}
use Rattle.sql_bound_query.specs.declared.query.BoundBlock.{BoundBlock}
use Rattle.sql_bound_query.specs.declared.query.BoundExpr.{BoundExpr}
use Rattle.sql_bound_query.specs.declared.query.BoundSource.{BoundSource}
use Rattle.sql_bound_query.specs.declared.query.BoundSource.TheVariants as source
use Rattle.sql_bound_query.proofs.Keeps.{both_so}
use Rattle.plan_dependent_nodes.specs.declared.sight.OuterColumn.{OuterColumn}
use Rattle.plan_dependent_nodes.specs.FromGrowth.{lateral_columns}
use Rattle.plan_dependent_nodes.specs.Seeks.{has, has_place, seeks_of, seeks_so_far}
use Rattle.plan_dependent_nodes.proofs.SeeksOpened.{so_far_Table, so_far_Derived, so_far_Lateral}
use Rattle.plan_dependent_nodes.proofs.SeeksOpened.{so_far_Cross, so_far_Inner, so_far_Outer}
use Rattle.plan_dependent_nodes.proofs.Supplies.{or_left, or_right}
use Rattle.plan_dependent_nodes.proofs.Within.{either}

-- ---- a lateral item's query

-- a column one row further out
abbrev pub up : OuterColumn → OuterColumn
up c = record { level = suc c.level; place = c.place }

-- a column of the nearest row
abbrev pub near : ℕ → OuterColumn
near i = record { level = 0; place = i }

suc_same : (a b : ℕ) → (a == b) ≡ true → (suc a == suc b) ≡ true
suc_same a b e = (Decides-eqb (suc a) (suc b)).1 (ap suc ((Decides-eqb a b).0 e))

further_has : (outer : List OuterColumn) (level place : ℕ) → has outer level place ≡ true
    → has (map up outer) (suc level) place ≡ true
further_has [] level place e = cc
further_has (c ∷ cs) level place e =
    either ((c.level == level) && (c.place == place)) (has cs level place) e
    (λ h. or_left ((suc c.level == suc level) && (c.place == place))
    (has (map up cs) (suc level) place)
    (both_so (suc c.level == suc level) (c.place == place)
    (suc_same c.level level (first_so (c.level == level) (c.place == place) h))
    (second_so (c.level == level) (c.place == place) h)))
    (λ h. or_right ((suc c.level == suc level) && (c.place == place))
    (has (map up cs) (suc level) place) (further_has cs level place h))

near_has : (so_far : List ℕ) (place : ℕ) → has_place so_far place ≡ true
    → has (map near so_far) 0 place ≡ true
near_has [] place e = cc
near_has (i ∷ is) place e =
    either (i == place) (has_place is place) e
    (λ h. or_left ((0 == 0) && (i == place)) (has (map near is) 0 place)
    (both_so (0 == 0) (i == place) ((Decides-eqb 0 0).1 refl) h))
    (λ h. or_right ((0 == 0) && (i == place)) (has (map near is) 0 place) (near_has is place h))

pub has_further : (outer : List OuterColumn) (so_far : List ℕ) (level place : ℕ)
    → has outer level place ≡ true → has (lateral_columns outer so_far) (suc level) place ≡ true
has_further outer so_far level place e =
    list_any-append (λ (c : OuterColumn). (c.level == suc level) && (c.place == place))
    (map up outer) (map near so_far)
    ∙ or_left (has (map up outer) (suc level) place) (has (map near so_far) (suc level) place)
    (further_has outer level place e)

pub has_nearest : (outer : List OuterColumn) (so_far : List ℕ) (place : ℕ)
    → has_place so_far place ≡ true → has (lateral_columns outer so_far) 0 place ≡ true
has_nearest outer so_far place e =
    list_any-append (λ (c : OuterColumn). (c.level == 0) && (c.place == place))
    (map up outer) (map near so_far)
    ∙ or_right (has (map up outer) 0 place) (has (map near so_far) 0 place)
    (near_has so_far place e)

-- ---- what is read of the row so far

-- places grew by just these
pub record Gathers (reads : ℕ → Bool) (old new : List ℕ) : Type 0 where
  pub grows : (place : ℕ) → has_place new place ≡ (has_place old place || reads place)

pub gathers_none : (reads : ℕ → Bool) (old : List ℕ) → ((place : ℕ) → reads place ≡ false)
    → Gathers reads old old
gathers_none reads old none = record {
  grows = λ place.
      sym (ap (λ z. has_place old place || z) (none place) ∙ or-false (has_place old place));
}

pub gathers_then : (a b : ℕ → Bool) (old mid new : List ℕ) → Gathers a old mid → Gathers b mid new
    → Gathers (λ place. a place || b place) old new
gathers_then a b old mid new f g = record {
  grows = λ place.
      g.grows place ∙ ap (λ z. z || b place) (f.grows place)
      ∙ or_assoc (has_place old place) (a place) (b place);
}

pub gathers_as : (s x : BoundSource) (reads : ℕ → Bool) (old new : List ℕ) → s ≡ x
    → seeks_so_far x ≡ reads → Gathers reads old new → Gathers (seeks_so_far s) old new
gathers_as s x reads old new e f g =
    subst (λ (z : ℕ → Bool). Gathers z old new) (sym f ∙ ap seeks_so_far (sym e)) g

-- none of no columns
pub nearest_none : (found : List ℕ) → Gathers (λ place. has [] 0 place) found found
nearest_none found = gathers_none (λ place. has [] 0 place) found (λ place. refl)

-- whether a column is one of the nearest row
abbrev is_near : OuterColumn → ℕ → Bool
is_near x place = (x.level == 0) && (x.place == place)

near_more : (columns : List OuterColumn) (i : ℕ) (d : OuterColumn) (place : ℕ) → i < length columns
    → has (take (i + 1) columns) 0 place
    ≡ (has (take i columns) 0 place || is_near (get_or columns i d) place)
near_more columns i d place below = list_any_more (λ (x : OuterColumn). is_near x place) columns i d
    below

-- a column of the nearest row
pub nearest_more : (columns : List OuterColumn) (i : ℕ) (d : OuterColumn) (first old new : List ℕ)
    → i < length columns → (get_or columns i d).level ≡ 0
    → Gathers (λ place. has (take i columns) 0 place) first old
    → ((place : ℕ) → has_place new place
    ≡ (has_place old place || ((get_or columns i d).place == place)))
    → Gathers (λ place. has (take (i + 1) columns) 0 place) first new
nearest_more columns i d first old new below zero f put =
    let c : OuterColumn = get_or columns i d in
    let is : (c.level == 0) ≡ true = (Decides-eqb c.level 0).1 zero in
    record {
      grows = λ place.
          put place ∙ ap (λ z. z || (c.place == place)) (f.grows place)
          ∙ or_assoc (has_place first place) (has (take i columns) 0 place) (c.place == place)
          ∙ ap (λ z. has_place first place || z)
          (ap (λ z. has (take i columns) 0 place || (z && (c.place == place))) (sym is)
          ∙ sym (near_more columns i d place below));
    }

-- a column of a row further out
pub nearest_past : (columns : List OuterColumn) (i : ℕ) (d : OuterColumn) (first old : List ℕ)
    → i < length columns → ((get_or columns i d).level == 0) ≡ false
    → Gathers (λ place. has (take i columns) 0 place) first old
    → Gathers (λ place. has (take (i + 1) columns) 0 place) first old
nearest_past columns i d first old below far f =
    let c : OuterColumn = get_or columns i d in
    record {
      grows = λ place.
          f.grows place
          ∙ ap (λ z. has_place first place || z)
          (sym (or-false (has (take i columns) 0 place))
          ∙ ap (λ z. has (take i columns) 0 place || (z && (c.place == place))) (sym far)
          ∙ sym (near_more columns i d place below));
    }

-- all of them
pub nearest_all : (q : BoundBlock) (columns items found : List OuterColumn) (i : ℕ)
    (first new : List ℕ) → length items ≤ i → items ≡ columns → columns ≡ found
    → ((level place : ℕ) → has found level place ≡ seeks_of q level place)
    → Gathers (λ place. has (take i items) 0 place) first new
    → (place : ℕ) → has_place new place ≡ (has_place first place || seeks_of q 0 place)
nearest_all q columns items found i first new past same listed reads f place =
    f.grows place
    ∙ ap (λ z. has_place first place || z)
    (ap (λ xs. has xs 0 place) (take_all i items past ∙ same ∙ listed) ∙ reads 0 place)

-- ---- by the sort of source

pub table_gathers : {s : BoundSource} {t : TableName} (old : List ℕ) → s ≡ source.Table t
    → Gathers (seeks_so_far s) old old
table_gathers {s} {t} old is =
    gathers_as s (source.Table t) (λ place. false) old old is (so_far_Table t)
    (gathers_none (λ place. false) old (λ place. refl))

pub derived_gathers : {s : BoundSource} (kept : Option ℕ) (q : BoundBlock) (old : List ℕ)
    → s ≡ source.Derived kept q → Gathers (seeks_so_far s) old old
derived_gathers {s} kept q old is =
    gathers_as s (source.Derived kept q) (λ place. false) old old is (so_far_Derived kept q)
    (gathers_none (λ place. false) old (λ place. refl))

pub lateral_gathers : {s : BoundSource} {q seen : BoundBlock} (old new : List ℕ)
    → s ≡ source.Lateral q → seen ≡ q
    → ((place : ℕ) → has_place new place ≡ (has_place old place || seeks_of seen 0 place))
    → Gathers (seeks_so_far s) old new
lateral_gathers {s} {q} {seen} old new is get f =
    gathers_as s (source.Lateral q) (λ place. seeks_of q 0 place) old new is (so_far_Lateral q)
    (subst (λ z. Gathers (λ place. seeks_of z 0 place) old new) get (record { grows = f }))

-- what the code says of one side
abbrev pub Gathered : BoundSource → List ℕ → List ℕ → Type 0
Gathered s old new =
    (place : ℕ) → has_place new place ≡ (has_place old place || seeks_so_far s place)

sides_gather : {a b read other : BoundSource} (old mid new : List ℕ) → read ≡ a
    → Gathered read old mid → other ≡ b → Gathered other mid new
    → Gathers (λ place. seeks_so_far a place || seeks_so_far b place) old new
sides_gather {a} {b} {read} {other} old mid new get f also g =
    gathers_then (seeks_so_far a) (seeks_so_far b) old mid new
    (subst (λ z. Gathers (seeks_so_far z) old mid) get (record { grows = f }))
    (subst (λ z. Gathers (seeks_so_far z) mid new) also (record { grows = g }))

pub cross_gathers : {s a b read other : BoundSource} (old mid new : List ℕ) → s ≡ source.Cross a b
    → read ≡ a → Gathered read old mid → other ≡ b → Gathered other mid new
    → Gathers (seeks_so_far s) old new
cross_gathers {s} {a} {b} {read} {other} old mid new is get f also g =
    gathers_as s (source.Cross a b) (λ place. seeks_so_far a place || seeks_so_far b place) old new
    is (so_far_Cross a b) (sides_gather old mid new get f also g)

pub inner_gathers : {s a b read other : BoundSource} (on : BoundExpr) (old mid new : List ℕ)
    → s ≡ source.Inner a b on → read ≡ a → Gathered read old mid → other ≡ b
    → Gathered other mid new → Gathers (seeks_so_far s) old new
inner_gathers {s} {a} {b} {read} {other} on old mid new is get f also g =
    gathers_as s (source.Inner a b on) (λ place. seeks_so_far a place || seeks_so_far b place) old
    new is (so_far_Inner a b on) (sides_gather old mid new get f also g)

pub outer_gathers : {s a b read other : BoundSource} (nulls : ℕ) (on : BoundExpr)
    (old mid new : List ℕ) → s ≡ source.Outer a b nulls on → read ≡ a → Gathered read old mid
    → other ≡ b → Gathered other mid new → Gathers (seeks_so_far s) old new
outer_gathers {s} {a} {b} {read} {other} nulls on old mid new is get f also g =
    gathers_as s (source.Outer a b nulls on) (λ place. seeks_so_far a place || seeks_so_far b place)
    old new is (so_far_Outer a b nulls on) (sides_gather old mid new get f also g)
