-- Every operator leaves rows at True or at a fault.
use Rattle.std.proofs.Common.{◌≡◌, ℕ, ◌≤◌, List, [], ◌∷◌, ◌++◌, Bool, true, refl, sym, ◌∙◌, arith, inl, inr, length, take}
use Rattle.std.specs.Prelude.{map, min, nat_lt}
use Rattle.std.specs.List.{filter, flat_map}
use Rattle.std.proofs.lemmas.Bool.{cases_Bool, lt-ltb, ltb-true, true≢false}
use Rattle.base_row_laws.specs.Ranked.{Ranked, ranked, unknown_rank, true_rank}
use Rattle.base_row_laws.specs.Bags.{IsIdentity, Each, has, each_once, top, bottom}
use Rattle.base_row_laws.specs.Rows.{same_row, starts, strip, after, keep, scanned}
use Rattle.base_row_laws.specs.Operators.{select, project, cross, join, pair, or_else, glue_at, least, greatest, mark_of, scalar_of, join_loop, outer_loop, attach_loop, partners, join_node, outer_node, attach_node, group_by, total, distinct, domain_node, fill}
use Rattle.base_row_laws.specs.StandingLaws.{Stands}
use Rattle.base_row_laws.specs.Matched.{right_places, without, glue_matched, matches_of, inner_matched, outer_matched, attach_matched}
use Rattle.base_row_laws.specs.Trees.{Tree, side_row, side_pick, side_width, side_domain, tree_rows, node_rows}
use Rattle.base_row_laws.specs.Trees.Tree.{OneRow, Scan, Select, Project, Join, Outer, Mark, Single, Group, Total, Distinct}
use Rattle.base_row_laws.proofs.Lists.{Each-map, Each-filter, Each-weaker, Each-flat_map, Each-all, Each-each_once, flat_map-ext_each, flat_map-single}
use Rattle.base_row_laws.proofs.Nodes.{Each-or_else}
use Rattle.base_row_laws.proofs.OfBags.{bottom_most}
use Rattle.base_row_laws.proofs.Classes.{same-sym}
use Rattle.base_row_laws.proofs.Rows.{same_row_is}

-- the least and the greatest of measures within bounds
bottom_above : {X : Type 0} (m n : ℕ) (f : X → ℕ) (xs : List X) → m ≤ n → Each (λ x. m ≤ f x) xs → m ≤ bottom n f xs
bottom_above m n f [] h all = h
bottom_above m n f (x ∷ xs) h all = let ih = bottom_above m n f xs h all.1 in let a = all.0 in omega arith

top_below : {X : Type 0} (m : ℕ) (f : X → ℕ) (xs : List X) → Each (λ x. f x ≤ m) xs → top f xs ≤ m
top_below m f [] all = omega arith
top_below m f (x ∷ xs) all = let ih = top_below m f xs all.1 in let a = all.0 in omega arith

-- each element of a list stands there
pub each_has : {X : Type 0} (same : X → X → Bool) → IsIdentity same → (xs : List X) → Each (λ x. has same x xs ≡ true) xs
each_has same is [] = tt
each_has same is (x ∷ xs) = (
  rw (is.meets x),
  Each-weaker (λ y. has same y xs ≡ true) (λ y. has same y (x ∷ xs) ≡ true) xs
      (λ y t. elim (cases_Bool (same y x)) [ inl u ↦ rw u | inr f ↦ rw f t ]) (each_has same is xs),
)

module _ {V : Type 0} where
  keep_stands : (r : List V) (s : ℕ) → s ≤ true_rank → Each Stands (keep r s)
  keep_stands r s h = elim (cases_Bool (nat_lt unknown_rank s)) [
    | inl t ↦ let k = ltb-true 1 s t in rw t (record { not_dropped = omega arith; within = h }, tt)
    | inr f ↦ rw f tt
  ]

  -- one combination
  pair_stands : (c : List V → ℕ) (glue : List V → List V → List V) (x y : Ranked V) → Stands x → Each Stands (pair c glue x y)
  pair_stands c glue x y p =
      let w = p.within in
      keep_stands (glue x.values y.values) (min (min x.standing y.standing) (c (glue x.values y.values))) (omega arith)

  pairs_stand : (c : List V → ℕ) (glue : List V → List V → List V) (x : Ranked V) (ys : List (Ranked V)) → Stands x → Each Stands (flat_map (λ y. pair c glue x y) ys)
  pairs_stand c glue x ys p = Each-flat_map (λ y. Unit {0}) Stands (λ y. pair c glue x y) ys (Each-all (λ y. Unit {0}) ys (λ y. tt)) (λ y q. pair_stands c glue x y p)

  -- the same standing, with other values
  stands_alike : (x : Ranked V) (r : List V) → Stands x → Stands (ranked r x.standing)
  stands_alike x r p = record { not_dropped = p.not_dropped; within = p.within }

  true_stands : (r : List V) → Stands (ranked r true_rank)
  true_stands r = record { not_dropped = omega arith; within = omega arith }

  pub select_stands : (c : List V → ℕ) (xs : List (Ranked V)) → Each Stands xs → Each Stands (select c xs)
  select_stands c xs all =
      Each-flat_map Stands Stands (λ x. keep x.values (min x.standing (c x.values))) xs all
      (λ x p. let w = p.within in keep_stands x.values (min x.standing (c x.values)) (omega arith))

  pub project_stands : (f : List V → List V) (xs : List (Ranked V)) → Each Stands xs → Each Stands (project f xs)
  project_stands f xs all = Each-map Stands (λ x. ranked (f x.values) x.standing) xs (Each-weaker Stands (λ x. Stands (ranked (f x.values) x.standing)) xs (λ x p. stands_alike x (f x.values) p) all)

  pub cross_stands : (xs ys : List (Ranked V)) → Each Stands xs → Each Stands ys → Each Stands (cross xs ys)
  cross_stands xs ys left right =
      Each-flat_map Stands Stands (λ x. map (λ y. ranked (x.values ++ y.values) (min x.standing y.standing)) ys) xs left
      (λ x p. Each-map Stands (λ y. ranked (x.values ++ y.values) (min x.standing y.standing)) ys
      (Each-weaker Stands (λ y. Stands (ranked (x.values ++ y.values) (min x.standing y.standing))) ys
      (λ y q. let a = p.not_dropped in let b = p.within in let c = q.not_dropped in record { not_dropped = omega arith; within = omega arith }) right))

  pub join_stands : (c : List V → ℕ) (ls : List (Ranked V)) (R : List V → List (Ranked V)) → Each Stands ls → Each Stands (join_loop c ls R)
  join_stands c ls R all =
      Each-flat_map Stands Stands (λ l. flat_map (λ r. pair c (λ a b. a ++ b) l r) (R l.values)) ls all (λ l p. pairs_stand c (λ a b. a ++ b) l (R l.values) p)

  pub outer_stands : (nulls : List V) (c : List V → ℕ) (ls : List (Ranked V)) (R : List V → List (Ranked V)) → Each Stands ls → Each Stands (outer_loop nulls c ls R)
  outer_stands nulls c ls R all =
      let M : Ranked V → List (Ranked V) = λ l. flat_map (λ r. pair c (λ a b. a ++ b) l r) (R l.values) in
      Each-flat_map Stands Stands (λ l. or_else (M l) (ranked (l.values ++ nulls) l.standing)) ls all
      (λ l p. Each-or_else Stands (M l) (ranked (l.values ++ nulls) l.standing) (pairs_stand c (λ a b. a ++ b) l (R l.values) p) (stands_alike l (l.values ++ nulls) p))

  pub attach_stands : (value : List V → List (Ranked V) → V) (ls : List (Ranked V)) (R : List V → List (Ranked V)) → Each Stands ls → Each Stands (attach_loop value ls R)
  attach_stands value ls R all =
      Each-flat_map Stands Stands (λ l. ranked (l.values ++ value l.values (R l.values) ∷ []) l.standing ∷ []) ls all (λ l p. (stands_alike l (l.values ++ value l.values (R l.values) ∷ []) p, tt))

  -- the least standing of rows
  least_stands : (r : List V) (ys : List (Ranked V)) → Each Stands ys → Stands (ranked r (least ys))
  least_stands r ys all = record {
    not_dropped = bottom_above 2 true_rank (λ y. y.standing) ys (omega arith) (Each-weaker Stands (λ y. 2 ≤ y.standing) ys (λ y p. p.not_dropped) all);
    within = bottom_most true_rank (λ y. y.standing) ys;
  }

  pub total_stands : (aggregates : List (Ranked V) → List V) (xs : List (Ranked V)) → Each Stands xs → Each Stands (total aggregates xs)
  total_stands aggregates xs all = (least_stands (aggregates xs) xs all, tt)

  scanned_stands : (rows : List (List V)) → Each Stands (scanned rows)
  scanned_stands rows = Each-map Stands (λ r. ranked r true_rank) rows (Each-all (λ r. Stands (ranked r true_rank)) rows (λ r. true_stands r))

  -- under True
  pub select_true : (xs : List (Ranked V)) → Each Stands xs → select (λ r. true_rank) xs ≡ xs
  select_true [] all = refl
  select_true (x ∷ xs) all =
      let ih = select_true xs all.1 in let a = all.0.not_dropped in let b = all.0.within in
      let e : min x.standing true_rank ≡ x.standing = omega arith in
      let t : nat_lt unknown_rank x.standing ≡ true = lt-ltb 1 x.standing (omega arith) in
      rw (e, t, ih)

  combination : (x y : Ranked V) → Stands x → Stands y → pair (λ r. true_rank) (λ a b. a ++ b) x y ≡ ranked (x.values ++ y.values) (min x.standing y.standing) ∷ []
  combination x y p q =
      let a = p.not_dropped in let b = p.within in let c = q.not_dropped in
      let e : min (min x.standing y.standing) true_rank ≡ min x.standing y.standing = omega arith in
      let t : nat_lt unknown_rank (min x.standing y.standing) ≡ true = lt-ltb 1 (min x.standing y.standing) (omega arith) in
      rw (e, t)

  pub join_true : (xs ys : List (Ranked V)) → Each Stands xs → Each Stands ys → join (λ r. true_rank) xs ys ≡ cross xs ys
  join_true xs ys left right =
      flat_map-ext_each Stands (λ x. flat_map (λ y. pair (λ r. true_rank) (λ a b. a ++ b) x y) ys) (λ x. map (λ y. ranked (x.values ++ y.values) (min x.standing y.standing)) ys) xs left
      (λ x p.
      flat_map-ext_each Stands (λ y. pair (λ r. true_rank) (λ a b. a ++ b) x y) (λ y. ranked (x.values ++ y.values) (min x.standing y.standing) ∷ []) ys right (λ y q. combination x y p q)
      ∙ flat_map-single (λ y. ranked (x.values ++ y.values) (min x.standing y.standing)) ys)

module _ {V : Type 0} (same : V → V → Bool) where
  pub group_stands : (key : List V → List V) (aggregates : List (Ranked V) → List V) (xs : List (Ranked V)) → Each Stands xs → Each Stands (group_by same key aggregates xs)
  group_stands key aggregates xs all =
      let part : List V → List (Ranked V) = λ k. filter (λ x. same_row same (key x.values) k) xs in
      let made : List V → Ranked V = λ k. ranked (k ++ aggregates (part k)) (least (part k)) in
      let ks = each_once (same_row same) (map (λ x. key x.values) xs) in
      Each-map Stands made ks (Each-all (λ k. Stands (made k)) ks
      (λ k. least_stands (k ++ aggregates (part k)) (part k) (Each-filter Stands (λ x. same_row same (key x.values) k) xs all)))

  -- nodes
  join_node_stands : (pick : List V → List V) (c : List V → ℕ) (xs ys : List (Ranked V)) → Each Stands xs → Each Stands (join_node same pick c xs ys)
  join_node_stands pick c xs ys all =
      Each-flat_map Stands Stands (λ x. flat_map (λ y. pair c (glue_at pick) x y) (partners same (pick x.values) ys)) xs all (λ x p. pairs_stand c (glue_at pick) x (partners same (pick x.values) ys) p)

  outer_node_stands : (pick : List V → List V) (nulls : List V) (c : List V → ℕ) (xs ys : List (Ranked V)) → Each Stands xs → Each Stands (outer_node same pick nulls c xs ys)
  outer_node_stands pick nulls c xs ys all =
      let M : Ranked V → List (Ranked V) = λ x. flat_map (λ y. pair c (glue_at pick) x y) (partners same (pick x.values) ys) in
      Each-flat_map Stands Stands (λ x. or_else (M x) (ranked (x.values ++ nulls) x.standing)) xs all
      (λ x p. Each-or_else Stands (M x) (ranked (x.values ++ nulls) x.standing) (pairs_stand c (glue_at pick) x (partners same (pick x.values) ys) p) (stands_alike x (x.values ++ nulls) p))

  attach_node_stands : (pick : List V → List V) (value : List V → List (Ranked V) → V) (xs ys : List (Ranked V)) → Each Stands xs → Each Stands (attach_node same pick value xs ys)
  attach_node_stands pick value xs ys all =
      let row : Ranked V → List V = λ x. x.values ++ value x.values (map (strip (length (pick x.values))) (partners same (pick x.values) ys)) ∷ [] in
      Each-flat_map Stands Stands (λ x. ranked (row x) x.standing ∷ []) xs all (λ x p. (stands_alike x (row x) p, tt))

  -- by matched columns
  module _ (null : V) (matched : List (ℕ × ℕ)) where
    pub inner_matched_stands : (c : List V → ℕ) (xs ys : List (Ranked V)) → Each Stands xs → Each Stands (inner_matched same null matched c xs ys)
    inner_matched_stands c xs ys all =
        Each-flat_map Stands Stands (λ x. flat_map (λ y. pair c (glue_matched matched) x y) (matches_of same null matched x.values ys)) xs all
        (λ x p. pairs_stand c (glue_matched matched) x (matches_of same null matched x.values ys) p)

    pub outer_matched_stands : (nulls : List V) (c : List V → ℕ) (xs ys : List (Ranked V)) → Each Stands xs → Each Stands (outer_matched same null matched nulls c xs ys)
    outer_matched_stands nulls c xs ys all =
        let M : Ranked V → List (Ranked V) = λ x. flat_map (λ y. pair c (glue_matched matched) x y) (matches_of same null matched x.values ys) in
        Each-flat_map Stands Stands (λ x. or_else (M x) (ranked (x.values ++ nulls) x.standing)) xs all
        (λ x p. Each-or_else Stands (M x) (ranked (x.values ++ nulls) x.standing)
        (pairs_stand c (glue_matched matched) x (matches_of same null matched x.values ys) p) (stands_alike x (x.values ++ nulls) p))

    pub attach_matched_stands : (value : List V → List (Ranked V) → V) (xs ys : List (Ranked V)) → Each Stands xs → Each Stands (attach_matched same null matched value xs ys)
    attach_matched_stands value xs ys all =
        let rest : Ranked V → Ranked V = λ y. ranked (without (right_places matched) y.values) y.standing in
        let row : Ranked V → List V = λ x. x.values ++ value x.values (map rest (matches_of same null matched x.values ys)) ∷ [] in
        Each-flat_map Stands Stands (λ x. ranked (row x) x.standing ∷ []) xs all (λ x p. (stands_alike x (row x) p, tt))

  pub fill_stands : (empty : List V) (ds gs : List (Ranked V)) → Each Stands gs → Each Stands (fill same empty ds gs)
  fill_stands empty ds gs all =
      Each-flat_map (λ e. Unit {0}) Stands (λ e. or_else (partners same e.values gs) (ranked (e.values ++ empty) true_rank)) ds (Each-all (λ e. Unit {0}) ds (λ e. tt))
      (λ e q. Each-or_else Stands (partners same e.values gs) (ranked (e.values ++ empty) true_rank) (Each-filter Stands (λ y. starts same e.values y.values) gs all) (true_stands (e.values ++ empty)))

  pub domain_node_stands : (pick : List V → List V) (xs : List (Ranked V)) → Each Stands (domain_node same pick xs)
  domain_node_stands pick xs =
      let ks = each_once (same_row same) (map (λ x. pick x.values) xs) in
      Each-map Stands (λ k. ranked k true_rank) ks (Each-all (λ k. Stands (ranked k true_rank)) ks (λ k. true_stands k))

  module _ (is : IsIdentity same) where
    -- the greatest standing of the rows that are identical to one that is there
    greatest_there : (k : List V) (xs : List (Ranked V)) → Each Stands xs → has (same_row same) k (map (λ x. x.values) xs) ≡ true
        → 2 ≤ greatest (filter (λ x. same_row same x.values k) xs)
    greatest_there k [] all t = absurd (true≢false (sym t))
    greatest_there k (x ∷ xs) all t =
        let turned = same-sym (same_row same) (same_row_is same is) k x.values in
        elim (cases_Bool (same_row same x.values k)) [
          | inl u ↦ let a = all.0.not_dropped in rw u (omega arith)
          | inr f ↦ let g = turned ∙ f in rw f (greatest_there k xs all.1 (rw g at t))
        ]

    pub distinct_stands : (xs : List (Ranked V)) → Each Stands xs → Each Stands (distinct same xs)
    distinct_stands xs all =
        let part : List V → List (Ranked V) = λ k. filter (λ x. same_row same x.values k) xs in
        let keys = map (λ x. x.values) xs in
        let There : List V → Type 0 = λ k. has (same_row same) k keys ≡ true in
        let ks = each_once (same_row same) keys in
        Each-map Stands (λ k. ranked k (greatest (part k))) ks
        (Each-weaker There (λ k. Stands (ranked k (greatest (part k)))) ks
        (λ k t. record {
          not_dropped = greatest_there k xs all t;
          within = top_below true_rank (λ y. y.standing) (part k) (Each-weaker Stands (λ y. y.standing ≤ true_rank) (part k) (λ y p. p.within) (Each-filter Stands (λ x. same_row same x.values k) xs all));
        })
        (Each-each_once There (same_row same) keys (each_has (same_row same) (same_row_is same is) keys)))

    module _ (null : V) (tables : ℕ → List (List V)) where
      pub tree_stands : (T : Tree V) (d : List V) → Each Stands (tree_rows same null tables T d)
      tree_stands OneRow d = (true_stands [], tt)
      tree_stands (Scan table) d = scanned_stands (tables table)
      tree_stands (Select c T) d = select_stands (λ t. c (d ++ t)) (tree_rows same null tables T d) (tree_stands T d)
      tree_stands (Project f T) d = project_stands (λ t. f (d ++ t)) (tree_rows same null tables T d) (tree_stands T d)
      tree_stands (Join side c L R) d =
          join_stands (λ t. c (d ++ t)) (tree_rows same null tables L d) (λ l. tree_rows same null tables R (side_row null side d l)) (tree_stands L d)
      tree_stands (Outer side nulls c L R) d =
          outer_stands nulls (λ t. c (d ++ t)) (tree_rows same null tables L d) (λ l. tree_rows same null tables R (side_row null side d l)) (tree_stands L d)
      tree_stands (Mark side write c L R) d =
          attach_stands (λ l. mark_of write c (d ++ l)) (tree_rows same null tables L d) (λ l. tree_rows same null tables R (side_row null side d l)) (tree_stands L d)
      tree_stands (Single side write fault_rank i L R) d =
          attach_stands (λ l us. scalar_of write fault_rank i us) (tree_rows same null tables L d) (λ l. tree_rows same null tables R (side_row null side d l)) (tree_stands L d)
      tree_stands (Group grouping aggregates bag T) d =
          group_stands (λ t. grouping (d ++ t)) (λ ys. aggregates (map (after d) ys)) (tree_rows same null tables T d) (tree_stands T d)
      tree_stands (Total aggregates bag T) d = total_stands (λ ys. aggregates (map (after d) ys)) (tree_rows same null tables T d) (tree_stands T d)
      tree_stands (Distinct T) d = distinct_stands (tree_rows same null tables T d) (tree_stands T d)

      pub node_stands : (T : Tree V) (n : ℕ) (ds : List (Ranked V)) → Each Stands ds → Each Stands (node_rows same null tables T n ds)
      node_stands OneRow n ds all = all
      node_stands (Scan table) n ds all = join_node_stands (λ x. []) (λ t. true_rank) ds (scanned (tables table)) all
      node_stands (Select c T) n ds all = select_stands c (node_rows same null tables T n ds) (node_stands T n ds all)
      node_stands (Project f T) n ds all = project_stands (λ x. take n x ++ f x) (node_rows same null tables T n ds) (node_stands T n ds all)
      node_stands (Join side c L R) n ds all =
          let xs = node_rows same null tables L n ds in
          join_node_stands (side_pick null side n) c xs (node_rows same null tables R (side_width side n) (side_domain same null side ds xs)) (node_stands L n ds all)
      node_stands (Outer side nulls c L R) n ds all =
          let xs = node_rows same null tables L n ds in
          outer_node_stands (side_pick null side n) nulls c xs (node_rows same null tables R (side_width side n) (side_domain same null side ds xs)) (node_stands L n ds all)
      node_stands (Mark side write c L R) n ds all =
          let xs = node_rows same null tables L n ds in
          attach_node_stands (side_pick null side n) (mark_of write c) xs (node_rows same null tables R (side_width side n) (side_domain same null side ds xs)) (node_stands L n ds all)
      node_stands (Single side write fault_rank i L R) n ds all =
          let xs = node_rows same null tables L n ds in
          attach_node_stands (side_pick null side n) (λ x us. scalar_of write fault_rank i us) xs (node_rows same null tables R (side_width side n) (side_domain same null side ds xs)) (node_stands L n ds all)
      node_stands (Group grouping aggregates bag T) n ds all = group_stands (λ x. take n x ++ grouping x) aggregates (node_rows same null tables T n ds) (node_stands T n ds all)
      node_stands (Total aggregates bag T) n ds all =
          fill_stands (aggregates []) ds (group_by same (λ x. take n x) aggregates (node_rows same null tables T n ds))
          (group_stands (λ x. take n x) aggregates (node_rows same null tables T n ds) (node_stands T n ds all))
      node_stands (Distinct T) n ds all = distinct_stands (node_rows same null tables T n ds) (node_stands T n ds all)
