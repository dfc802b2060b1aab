-- Every row of a tree's node begins with a row of the domain.
use Rattle.std.proofs.Common.{◌≡◌, ℕ, List, [], ◌∷◌, ◌++◌, Bool, true, refl, sym, ◌∙◌, ap, subst, inl, inr, length, take, drop}
use Rattle.std.specs.Prelude.{map, min}
use Rattle.std.specs.List.{filter, flat_map}
use Rattle.std.proofs.lemmas.Bool.{cases_Bool, true≢false}
use Rattle.std.proofs.lemmas.List.{append-nil}
use Rattle.base_row_laws.specs.Ranked.{Ranked, ranked, true_rank}
use Rattle.base_row_laws.specs.Bags.{SameBag, IsIdentity, Each, each_once}
use Rattle.base_row_laws.specs.Rows.{same_row, starts, starts_any, strip, keep, scanned}
use Rattle.base_row_laws.specs.Operators.{select, project, pair, or_else, glue_at, least, greatest, mark_of, scalar_of, partners, join_node, outer_node, attach_node, group_by, distinct, fill}
use Rattle.base_row_laws.specs.Domains.{values_of, under, IsDomain}
use Rattle.base_row_laws.specs.Trees.{Tree, side_pick, side_width, side_domain, tree_rows, node_rows}
use Rattle.base_row_laws.specs.Trees.Tree.{OneRow, Scan, Select, Project, Join, Outer, Mark, Single, Group, Total, Distinct}
use Rattle.base_row_laws.proofs.Lists.{Each-map, Each-filter, Each-weaker, Each-flat_map, Each-all, Each-each_once}
use Rattle.base_row_laws.proofs.Nodes.{Each-or_else}
use Rattle.base_row_laws.proofs.Rows.{Each-keep, starts-wide, starts-take, starts_long}
use Rattle.base_row_laws.proofs.Trees.{unnesting}

filter_all : {X : Type 0} (p : X → Bool) (xs : List X) → Each (λ x. p x ≡ true) xs → filter p xs ≡ xs
filter_all p [] all = refl
filter_all p (x ∷ xs) all = let h = all.0 in rw h (ap (λ l. x ∷ l) (filter_all p xs all.1))

module _ {V : Type 0} (same : V → V → Bool) (is : IsIdentity same) where
  starts_self : (d : List V) → starts same d d ≡ true
  starts_self [] = refl
  starts_self (x ∷ d) = rw (is.meets x, starts_self d)

  begins_append : (D : List (List V)) (r s : List V) → starts_any same D r ≡ true → starts_any same D (r ++ s) ≡ true
  begins_append [] r s t = absurd (true≢false (sym t))
  begins_append (d ∷ D) r s t = elim (cases_Bool (starts same d r)) [
    | inl u ↦ let w = starts-wide same is d r s (starts_long same is d r u) ∙ u in rw w
    | inr f ↦
        let q : starts_any same D r ≡ true = rw f at t in
        elim (cases_Bool (starts same d (r ++ s))) [ inl v ↦ rw v | inr g ↦ rw g (begins_append D r s q) ]
  ]

  begins_take : (n : ℕ) (D : List (List V)) (r s : List V) → Each (λ d. length d ≡ n) D → starts_any same D r ≡ true → starts_any same D (take n r ++ s) ≡ true
  begins_take n [] r s w t = absurd (true≢false (sym t))
  begins_take n (d ∷ D) r s w t = elim (cases_Bool (starts same d r)) [
    | inl u ↦
        let e = starts-take same is d r s (starts_long same is d r u) ∙ u in
        let v : starts same d (take n r ++ s) ≡ true = subst (λ k. starts same d (take k r ++ s) ≡ true) w.0 e in rw v
    | inr f ↦
        let q : starts_any same D r ≡ true = rw f at t in
        elim (cases_Bool (starts same d (take n r ++ s))) [ inl v ↦ rw v | inr g ↦ rw g (begins_take n D r s w.1 q) ]
  ]

  -- the domain's own rows
  own : (ds : List (Ranked V)) → Each (λ e. starts_any same (values_of ds) e.values ≡ true) ds
  own [] = tt
  own (e ∷ ds) = (
    rw (starts_self e.values),
    Each-weaker (λ x. starts_any same (values_of ds) x.values ≡ true) (λ x. starts_any same (values_of (e ∷ ds)) x.values ≡ true) ds
        (λ x t. elim (cases_Bool (starts same e.values x.values)) [ inl u ↦ rw u | inr f ↦ rw f t ]) (own ds),
  )

  module _ (D : List (List V)) where
    abbrev Begins : Ranked V → Type 0
    Begins x = starts_any same D x.values ≡ true

    select_begins : (c : List V → ℕ) (xs : List (Ranked V)) → Each Begins xs → Each Begins (select c xs)
    select_begins c xs all =
        Each-flat_map Begins Begins (λ x. keep x.values (min x.standing (c x.values))) xs all (λ x p. Each-keep Begins x.values (min x.standing (c x.values)) p)

    project_begins : (n : ℕ) (f : List V → List V) (xs : List (Ranked V)) → Each (λ d. length d ≡ n) D → Each Begins xs → Each Begins (project (λ x. take n x ++ f x) xs)
    project_begins n f xs w all =
        Each-map Begins (λ x. ranked (take n x.values ++ f x.values) x.standing) xs
        (Each-weaker Begins (λ x. Begins (ranked (take n x.values ++ f x.values) x.standing)) xs (λ x p. begins_take n D x.values (f x.values) w p) all)

    pairs_begin : (pick : List V → List V) (c : List V → ℕ) (x : Ranked V) (ys : List (Ranked V)) → Begins x → Each Begins (flat_map (λ y. pair c (glue_at pick) x y) ys)
    pairs_begin pick c x ys p =
        Each-flat_map (λ y. Unit {0}) Begins (λ y. pair c (glue_at pick) x y) ys (Each-all (λ y. Unit {0}) ys (λ y. tt))
        (λ y q. Each-keep Begins (glue_at pick x.values y.values) (min (min x.standing y.standing) (c (glue_at pick x.values y.values)))
        (begins_append D x.values (drop (length (pick x.values)) y.values) p))

    join_begins : (pick : List V → List V) (c : List V → ℕ) (xs ys : List (Ranked V)) → Each Begins xs → Each Begins (join_node same pick c xs ys)
    join_begins pick c xs ys all =
        Each-flat_map Begins Begins (λ x. flat_map (λ y. pair c (glue_at pick) x y) (partners same (pick x.values) ys)) xs all (λ x p. pairs_begin pick c x (partners same (pick x.values) ys) p)

    outer_begins : (pick : List V → List V) (nulls : List V) (c : List V → ℕ) (xs ys : List (Ranked V)) → Each Begins xs → Each Begins (outer_node same pick nulls c xs ys)
    outer_begins pick nulls c xs ys all =
        let M : Ranked V → List (Ranked V) = λ x. flat_map (λ y. pair c (glue_at pick) x y) (partners same (pick x.values) ys) in
        Each-flat_map Begins Begins (λ x. or_else (M x) (ranked (x.values ++ nulls) x.standing)) xs all
        (λ x p. Each-or_else Begins (M x) (ranked (x.values ++ nulls) x.standing) (pairs_begin pick c x (partners same (pick x.values) ys) p) (begins_append D x.values nulls p))

    attach_begins : (pick : List V → List V) (value : List V → List (Ranked V) → V) (xs ys : List (Ranked V)) → Each Begins xs → Each Begins (attach_node same pick value xs ys)
    attach_begins pick value xs ys all =
        let one : Ranked V → List V = λ x. value x.values (map (strip (length (pick x.values))) (partners same (pick x.values) ys)) ∷ [] in
        Each-flat_map Begins Begins (λ x. ranked (x.values ++ one x) x.standing ∷ []) xs all (λ x p. (begins_append D x.values (one x) p, tt))

    group_begins : (key : List V → List V) (aggregates : List (Ranked V) → List V) (xs : List (Ranked V)) → Each (λ x. starts_any same D (key x.values) ≡ true) xs → Each Begins (group_by same key aggregates xs)
    group_begins key aggregates xs all =
        let part : List V → List (Ranked V) = λ k. filter (λ x. same_row same (key x.values) k) xs in
        let made : List V → Ranked V = λ k. ranked (k ++ aggregates (part k)) (least (part k)) in
        let keys = map (λ x. key x.values) xs in
        let P : List V → Type 0 = λ k. starts_any same D k ≡ true in
        Each-map Begins made (each_once (same_row same) keys)
        (Each-weaker P (λ k. Begins (made k)) (each_once (same_row same) keys) (λ k p. begins_append D k (aggregates (part k)) p)
        (Each-each_once P (same_row same) keys (Each-map P (λ x. key x.values) xs all)))

    distinct_begins : (xs : List (Ranked V)) → Each Begins xs → Each Begins (distinct same xs)
    distinct_begins xs all =
        let made : List V → Ranked V = λ k. ranked k (greatest (filter (λ x. same_row same x.values k) xs)) in
        let keys = map (λ x. x.values) xs in
        let P : List V → Type 0 = λ k. starts_any same D k ≡ true in
        Each-map Begins made (each_once (same_row same) keys) (Each-each_once P (same_row same) keys (Each-map P (λ x. x.values) xs all))

    fill_begins : (empty : List V) (ds gs : List (Ranked V)) → Each Begins ds → Each Begins gs → Each Begins (fill same empty ds gs)
    fill_begins empty ds gs here all =
        Each-flat_map Begins Begins (λ e. or_else (partners same e.values gs) (ranked (e.values ++ empty) true_rank)) ds here
        (λ e p. Each-or_else Begins (partners same e.values gs) (ranked (e.values ++ empty) true_rank) (Each-filter Begins (λ y. starts same e.values y.values) gs all) (begins_append D e.values empty p))

  module _ (null : V) (tables : ℕ → List (List V)) (n : ℕ) (ds : List (Ranked V)) (dom : IsDomain same n ds) where
    widths : Each (λ d. length d ≡ n) (values_of ds)
    widths = Each-map (λ d. length d ≡ n) (λ e. e.values) ds dom.widths

    pub node_rows_begin : (T : Tree V) → Each (λ x. starts_any same (values_of ds) x.values ≡ true) (node_rows same null tables T n ds)
    node_rows_begin OneRow = own ds
    node_rows_begin (Scan table) = join_begins (values_of ds) (λ x. []) (λ t. true_rank) ds (scanned (tables table)) (own ds)
    node_rows_begin (Select c T) = select_begins (values_of ds) c (node_rows same null tables T n ds) (node_rows_begin T)
    node_rows_begin (Project f T) = project_begins (values_of ds) n f (node_rows same null tables T n ds) widths (node_rows_begin T)
    node_rows_begin (Join side c L R) =
        let xs = node_rows same null tables L n ds in
        join_begins (values_of ds) (side_pick null side n) c xs (node_rows same null tables R (side_width side n) (side_domain same null side ds xs)) (node_rows_begin L)
    node_rows_begin (Outer side nulls c L R) =
        let xs = node_rows same null tables L n ds in
        outer_begins (values_of ds) (side_pick null side n) nulls c xs (node_rows same null tables R (side_width side n) (side_domain same null side ds xs)) (node_rows_begin L)
    node_rows_begin (Mark side write c L R) =
        let xs = node_rows same null tables L n ds in
        attach_begins (values_of ds) (side_pick null side n) (mark_of write c) xs (node_rows same null tables R (side_width side n) (side_domain same null side ds xs)) (node_rows_begin L)
    node_rows_begin (Single side write fault_rank i L R) =
        let xs = node_rows same null tables L n ds in
        attach_begins (values_of ds) (side_pick null side n) (λ x us. scalar_of write fault_rank i us) xs (node_rows same null tables R (side_width side n) (side_domain same null side ds xs)) (node_rows_begin L)
    node_rows_begin (Group grouping aggregates bag T) =
        let xs = node_rows same null tables T n ds in
        group_begins (values_of ds) (λ x. take n x ++ grouping x) aggregates xs
        (Each-weaker (λ x. starts_any same (values_of ds) x.values ≡ true) (λ x. starts_any same (values_of ds) (take n x.values ++ grouping x.values) ≡ true) xs
        (λ x p. begins_take n (values_of ds) x.values (grouping x.values) widths p) (node_rows_begin T))
    node_rows_begin (Total aggregates bag T) =
        let xs = node_rows same null tables T n ds in
        fill_begins (values_of ds) (aggregates []) ds (group_by same (λ x. take n x) aggregates xs) (own ds)
        (group_begins (values_of ds) (λ x. take n x) aggregates xs
        (Each-weaker (λ x. starts_any same (values_of ds) x.values ≡ true) (λ x. starts_any same (values_of ds) (take n x.values) ≡ true) xs
        (λ x p. subst (λ r. starts_any same (values_of ds) r ≡ true) (append-nil (take n x.values)) (begins_take n (values_of ds) x.values [] widths p)) (node_rows_begin T)))
    node_rows_begin (Distinct T) = distinct_begins (values_of ds) (node_rows same null tables T n ds) (node_rows_begin T)

    pub whole_node : (T : Tree V) → SameBag (node_rows same null tables T n ds) (under (values_of ds) (tree_rows same null tables T))
    whole_node T =
        subst (λ xs. SameBag xs (under (values_of ds) (tree_rows same null tables T)))
        (filter_all (λ x. starts_any same (values_of ds) x.values) (node_rows same null tables T n ds) (node_rows_begin T))
        (unnesting same is null tables T n ds dom)
