-- The node laws at all rows of a domain at once, and the theorem on unnesting by induction over the
-- tree.
use Rattle.std.proofs.Common.{◌≡◌, ℕ, ◌≤◌, List, [], ◌∷◌, ◌++◌, Bool, true, refl, sym, ◌∙◌, ap, subst, arith, length, take, drop}
use Rattle.std.specs.Prelude.{not, map, slice_index_or}
use Rattle.std.specs.List.{filter, flat_map}
use Rattle.std.proofs.lemmas.List.{append-nil, length-map}
use Rattle.base_row_laws.specs.Ranked.{Ranked, ranked, true_rank}
use Rattle.base_row_laws.specs.Bags.{SameBag, IsIdentity, OfBag, each_once, Each}
use Rattle.base_row_laws.specs.Rows.{same_row, starts, after, columns, scanned, unit_row}
use Rattle.base_row_laws.specs.Operators.{select, project, pair, join_node, outer_node, attach_node, mark_of, scalar_of, join_loop, outer_loop, attach_loop, or_else, group_by, least, distinct, fill, total}
use Rattle.base_row_laws.specs.Domains.{values_of, under, meeting, IsDomain, Meets, Answers}
use Rattle.base_row_laws.specs.Trees.{Side, Tree, side_row, side_pick, side_width, side_domain, tree_rows, node_rows}
use Rattle.base_row_laws.specs.Trees.Side.{Closed, Shared, Dependent}
use Rattle.base_row_laws.specs.Trees.Tree.{OneRow, Scan, Select, Project, Join, Outer, Mark, Single, Group, Total, Distinct}
use Rattle.base_row_laws.proofs.Lists.{Each-weaker, Each-map, Each-all, Each-both}
use Rattle.base_row_laws.proofs.Rows.{starts_is, take-append, select_meets, map-after_nil, Meets-from, Meets-weighs}
use Rattle.base_row_laws.proofs.Alike.{total_alike}
use Rattle.base_row_laws.proofs.Nodes.{join_meets, outer_meets, attach_meets, project_meets}
use Rattle.base_row_laws.proofs.Groups.{group_meets, key_meets, distinct_meets}
use Rattle.base_row_laws.proofs.Values.{mark_bag, scalar_bag}
use Rattle.base_row_laws.proofs.Domains.{domain_is, domain_alone, under_meets, domain_meets, fill_meets}

scan_each : {V : Type 0} (rows : List (List V)) → flat_map (λ r. pair (λ t. true_rank) (λ x y. x ++ y) (ranked [] true_rank) r) (scanned rows) ≡ scanned rows
scan_each [] = refl
scan_each (r ∷ rows) = ap (λ l. ranked r true_rank ∷ l) (scan_each rows)

scan_loop : {V : Type 0} (rows : List (List V)) → join_loop (λ t. true_rank) unit_row (λ l. scanned rows) ≡ scanned rows
scan_loop rows = append-nil (flat_map (λ r. pair (λ t. true_rank) (λ x y. x ++ y) (ranked [] true_rank) r) (scanned rows)) ∙ scan_each rows

keeps_all : {X : Type 0} (xs : List X) → filter (λ x. true) xs ≡ xs
keeps_all [] = refl
keeps_all (x ∷ xs) = ap (λ l. x ∷ l) (keeps_all xs)

pub columns_width : {V : Type 0} (null : V) (cs : List ℕ) (xs : List (Ranked V)) → Each (λ x. length (columns null cs x.values) ≡ length cs) xs
columns_width null cs xs = Each-all (λ x. length (columns null cs x.values) ≡ length cs) xs (λ x. length-map cs (λ c. slice_index_or x.values c null))

module _ {V : Type 0} (same : V → V → Bool) (is : IsIdentity same) where
  pub unit_is : IsDomain same 0 unit_row
  unit_is = record { widths = (refl, tt); standings = (refl, tt); apart = refl }

  pub starts_head : (d r : List V) → starts same d r ≡ true → take (length d) r ≡ d
  starts_head d r t = ap (λ l. take (length d) l) (starts_is same is d r t) ∙ take-append d (drop (length d) r)

  -- over the domain of one row without columns the node's rows are the rows themselves
  pub closed_meets : (ys : List (Ranked V)) → Meets same [] ys ys
  closed_meets ys = Meets-from same is [] ys ys (Each-all (λ y. 0 ≤ length y.values) ys (λ y. omega arith)) (λ h. refl)

  each_once_const : {X : Type 0} (t : X) (ts : List X) → each_once (same_row same) (map (λ x. []) (t ∷ ts)) ≡ [] ∷ []
  each_once_const t [] = refl
  each_once_const t (u ∷ us) = ap (λ l. [] ∷ filter (λ y. not (same_row same [] y)) l) (each_once_const u us)

  -- one group by no columns, or the empty one, is the group of all rows
  pub total_is : (A : List (Ranked V) → List V) (ts : List (Ranked V)) → or_else (group_by same (λ t. []) A ts) (ranked (A []) true_rank) ≡ total A ts
  total_is A [] = refl
  total_is A (t ∷ ts) =
      ap (λ l. or_else (map (λ k. ranked (k ++ A (filter (λ x. same_row same [] k) (t ∷ ts))) (least (filter (λ x. same_row same [] k) (t ∷ ts)))) l) (ranked (A []) true_rank)) (each_once_const t ts)
      ∙ ap (λ l. ranked (A l) (least l) ∷ []) (keeps_all (t ∷ ts))

  -- over the one row the fill gives the one group, or the empty one
  pub without_fill : (A : List (Ranked V) → List V) (xs : List (Ranked V)) → fill same (A []) unit_row (group_by same (λ t. []) A xs) ≡ total A xs
  without_fill A xs =
      let gs = group_by same (λ t. []) A xs in
      append-nil (or_else (filter (λ g. true) gs) (ranked (A []) true_rank))
      ∙ ap (λ l. or_else l (ranked (A []) true_rank)) (keeps_all gs)
      ∙ total_is A xs

  -- the root of a plan, both ways
  pub root_bag : (xs : List (Ranked V)) (L : List V → List (Ranked V)) → Answers same unit_row xs L → SameBag xs (L [])
  root_bag xs L all = record { weighs = λ h. Meets-weighs same is all.0 h }

  pub bag_root : (xs : List (Ranked V)) (L : List V → List (Ranked V)) → SameBag xs (L []) → Answers same unit_row xs L
  bag_root xs L e = (Meets-from same is [] xs (L []) (Each-all (λ x. 0 ≤ length x.values) xs (λ x. omega arith)) (λ h. e.weighs h), tt)

  -- aggregates without GROUP BY over the one row
  pub total_alone : (A : List (Ranked V) → List V) (xs : List (Ranked V)) (L : List V → List (Ranked V)) → OfBag A → Answers same unit_row xs L
      → Answers same unit_row (total A xs) (λ d. total (λ ys. A (map (after d) ys)) (L d))
  total_alone A xs L bag all =
      bag_root (total A xs) (λ d. total (λ ys. A (map (after d) ys)) (L d))
      (subst (λ ys. SameBag (total A xs) (ranked (A ys) (least (L [])) ∷ [])) (sym (map-after_nil (L [])))
      (total_alike A xs (L []) bag (root_bag xs L all)))

  pub scan_step : (n : ℕ) (ds : List (Ranked V)) (rows : List (List V)) → IsDomain same n ds
      → Answers same ds (join_node same (λ x. []) (λ t. true_rank) ds (scanned rows)) (λ d. scanned rows)
  scan_step n ds rows dom =
      let xs = join_node same (λ x. []) (λ t. true_rank) ds (scanned rows) in
      Each-weaker (λ e. Meets same e.values ds unit_row) (λ e. Meets same e.values xs (scanned rows)) ds
      (λ e m. subst (λ us. Meets same e.values xs us) (scan_loop rows)
      (join_meets same is (λ x. []) (λ t. true_rank) e.values ds (scanned rows) unit_row (λ k. scanned rows) m
      (Each-all (λ x. starts same e.values x.values ≡ true → Meets same [] (scanned rows) (scanned rows)) ds (λ x t. closed_meets (scanned rows)))))
      (domain_alone same is n ds dom)

  pub select_step : (c : List V → ℕ) (ds xs : List (Ranked V)) (L : List V → List (Ranked V)) → Answers same ds xs L → Answers same ds (select c xs) (λ d. select (λ t. c (d ++ t)) (L d))
  select_step c ds xs L all =
      Each-weaker (λ e. Meets same e.values xs (L e.values)) (λ e. Meets same e.values (select c xs) (select (λ t. c (e.values ++ t)) (L e.values))) ds
      (λ e m. select_meets same is c e.values xs (L e.values) m) all

  pub distinct_step : (ds xs : List (Ranked V)) (L : List V → List (Ranked V)) → Answers same ds xs L → Answers same ds (distinct same xs) (λ d. distinct same (L d))
  distinct_step ds xs L all =
      Each-weaker (λ e. Meets same e.values xs (L e.values)) (λ e. Meets same e.values (distinct same xs) (distinct same (L e.values))) ds
      (λ e m. distinct_meets same is e.values xs (L e.values) m) all

  -- what holds of each row of the domain, whose width is n, in place of its own width
  widened : (n : ℕ) (ds xs : List (Ranked V)) (L : List V → List (Ranked V)) (Q : ℕ → Ranked V → Type 0) → IsDomain same n ds → Answers same ds xs L
      → ((e : Ranked V) → Meets same e.values xs (L e.values) → Q (length e.values) e) → Each (Q n) ds
  widened n ds xs L Q dom all f =
      Each-weaker (λ e. (length e.values ≡ n) × Meets same e.values xs (L e.values)) (Q n) ds
      (λ e p. subst (λ k. Q k e) p.0 (f e p.1))
      (Each-both (λ e. length e.values ≡ n) (λ e. Meets same e.values xs (L e.values)) ds dom.widths all)

  pub project_step : (f : List V → List V) (n : ℕ) (ds xs : List (Ranked V)) (L : List V → List (Ranked V)) → IsDomain same n ds → Answers same ds xs L
      → Answers same ds (project (λ x. take n x ++ f x) xs) (λ d. project (λ t. f (d ++ t)) (L d))
  project_step f n ds xs L dom all =
      widened n ds xs L (λ k e. Meets same e.values (project (λ x. take k x ++ f x) xs) (project (λ t. f (e.values ++ t)) (L e.values))) dom all
      (λ e m. project_meets same is f e.values xs (L e.values) m)

  pub group_step : (grouping : List V → List V) (aggregates : List (Ranked V) → List V) → OfBag aggregates → (n : ℕ) (ds xs : List (Ranked V)) (L : List V → List (Ranked V)) → IsDomain same n ds → Answers same ds xs L
      → Answers same ds (group_by same (λ x. take n x ++ grouping x) aggregates xs) (λ d. group_by same (λ t. grouping (d ++ t)) (λ ys. aggregates (map (after d) ys)) (L d))
  group_step grouping aggregates bag n ds xs L dom all =
      widened n ds xs L (λ k e. Meets same e.values (group_by same (λ x. take k x ++ grouping x) aggregates xs) (group_by same (λ t. grouping (e.values ++ t)) (λ ys. aggregates (map (after e.values) ys)) (L e.values))) dom all
      (λ e m. group_meets same is grouping aggregates e.values xs (L e.values) bag m)

  pub total_step : (aggregates : List (Ranked V) → List V) → OfBag aggregates → (n : ℕ) (ds xs : List (Ranked V)) (L : List V → List (Ranked V)) → IsDomain same n ds → Answers same ds xs L
      → Answers same ds (fill same (aggregates []) ds (group_by same (λ x. take n x) aggregates xs)) (λ d. total (λ ys. aggregates (map (after d) ys)) (L d))
  total_step aggregates bag n ds xs L dom all =
      let gs = group_by same (λ x. take n x) aggregates xs in
      let G : List V → List (Ranked V) = λ d. group_by same (λ t. []) (λ ys. aggregates (map (after d) ys)) (L d) in
      let groups : Answers same ds gs G = widened n ds xs L (λ k e. Meets same e.values (group_by same (λ x. take k x) aggregates xs) (G e.values)) dom all
      (λ e m. key_meets same is aggregates e.values xs (L e.values) bag m) in
      Each-weaker (λ e. Meets same e.values (fill same (aggregates []) ds gs) (or_else (G e.values) (ranked (aggregates []) true_rank))) (λ e. Meets same e.values (fill same (aggregates []) ds gs) (total (λ ys. aggregates (map (after e.values) ys)) (L e.values))) ds
      (λ e m. subst (λ us. Meets same e.values (fill same (aggregates []) ds gs) us) (total_is (λ ys. aggregates (map (after e.values) ys)) (L e.values)) m)
      (fill_meets same is (aggregates []) n ds gs G dom groups)

  -- The right side: for the left rows that meet a domain row, what their partners meet.
  module _ (null : V) where
    -- the right side's rows under the domain row d and a left row that begins with k
    abbrev side_under : Side → (List V → List (Ranked V)) → List V → List V → List (Ranked V)
    side_under Closed R d k = R k
    side_under Shared R d k = R d
    side_under (Dependent cs) R d k = R k

    -- the loops' right side is that one
    under_is : (side : Side) (n : ℕ) (R : List V → List (Ranked V)) (d : List V) → ◌≡◌ {A = List V → List (Ranked V)} (λ l. side_under side R d (side_pick null side n (d ++ l))) (λ l. R (side_row null side d l))
    under_is Closed n R d = refl
    under_is Shared n R d = refl
    under_is (Dependent cs) n R d = refl

    pub side_is : (side : Side) (n : ℕ) (ds xs : List (Ranked V)) → IsDomain same n ds → IsDomain same (side_width side n) (side_domain same null side ds xs)
    side_is Closed n ds xs dom = unit_is
    side_is Shared n ds xs dom = dom
    side_is (Dependent cs) n ds xs dom = domain_is same is (columns null cs) (length cs) xs (columns_width null cs xs)

    side_meets : (side : Side) (n : ℕ) (ds xs ys : List (Ranked V)) (R : List V → List (Ranked V)) → IsDomain same n ds → Answers same (side_domain same null side ds xs) ys R
        → Each (λ e. Each (λ x. starts same e.values x.values ≡ true → Meets same (side_pick null side n x.values) ys (side_under side R e.values (side_pick null side n x.values))) xs) ds
    side_meets Closed n ds xs ys R dom all =
        Each-all (λ e. Each (λ x. starts same e.values x.values ≡ true → Meets same [] ys (R [])) xs) ds
        (λ e. Each-all (λ x. starts same e.values x.values ≡ true → Meets same [] ys (R [])) xs (λ x t. all.0))
    side_meets Shared n ds xs ys R dom all =
        widened n ds ys R (λ k e. Each (λ x. starts same e.values x.values ≡ true → Meets same (take k x.values) ys (R e.values)) xs) dom all
        (λ e m. Each-all (λ x. starts same e.values x.values ≡ true → Meets same (take (length e.values) x.values) ys (R e.values)) xs
        (λ x t. subst (λ k. Meets same k ys (R e.values)) (sym (starts_head e.values x.values t)) m))
    side_meets (Dependent cs) n ds xs ys R dom all =
        let right = domain_meets same is (columns null cs) xs ys R all in
        Each-all (λ e. Each (λ x. starts same e.values x.values ≡ true → Meets same (columns null cs x.values) ys (R (columns null cs x.values))) xs) ds
        (λ e. Each-weaker (λ x. Meets same (columns null cs x.values) ys (R (columns null cs x.values))) (λ x. starts same e.values x.values ≡ true → Meets same (columns null cs x.values) ys (R (columns null cs x.values))) xs (λ x r t. r) right)

    pub join_step : (side : Side) (c : List V → ℕ) (n : ℕ) (ds xs ys : List (Ranked V)) (L R : List V → List (Ranked V)) → IsDomain same n ds → Answers same ds xs L → Answers same (side_domain same null side ds xs) ys R
        → Answers same ds (join_node same (side_pick null side n) c xs ys) (λ d. join_loop (λ t. c (d ++ t)) (L d) (λ l. R (side_row null side d l)))
    join_step side c n ds xs ys L R dom left right =
        let W : Ranked V → Type 0 = λ e. Each (λ x. starts same e.values x.values ≡ true → Meets same (side_pick null side n x.values) ys (side_under side R e.values (side_pick null side n x.values))) xs in
        let xs' = join_node same (side_pick null side n) c xs ys in
        Each-weaker (λ e. Meets same e.values xs (L e.values) × W e) (λ e. Meets same e.values xs' (join_loop (λ t. c (e.values ++ t)) (L e.values) (λ l. R (side_row null side e.values l)))) ds
        (λ e p. subst (λ (Q : List V → List (Ranked V)). Meets same e.values xs' (join_loop (λ t. c (e.values ++ t)) (L e.values) Q)) (under_is side n R e.values)
        (join_meets same is (side_pick null side n) c e.values xs ys (L e.values) (side_under side R e.values) p.0 p.1))
        (Each-both (λ e. Meets same e.values xs (L e.values)) W ds left (side_meets side n ds xs ys R dom right))

    pub outer_step : (side : Side) (nulls : List V) (c : List V → ℕ) (n : ℕ) (ds xs ys : List (Ranked V)) (L R : List V → List (Ranked V)) → IsDomain same n ds → Answers same ds xs L → Answers same (side_domain same null side ds xs) ys R
        → Answers same ds (outer_node same (side_pick null side n) nulls c xs ys) (λ d. outer_loop nulls (λ t. c (d ++ t)) (L d) (λ l. R (side_row null side d l)))
    outer_step side nulls c n ds xs ys L R dom left right =
        let W : Ranked V → Type 0 = λ e. Each (λ x. starts same e.values x.values ≡ true → Meets same (side_pick null side n x.values) ys (side_under side R e.values (side_pick null side n x.values))) xs in
        let xs' = outer_node same (side_pick null side n) nulls c xs ys in
        Each-weaker (λ e. Meets same e.values xs (L e.values) × W e) (λ e. Meets same e.values xs' (outer_loop nulls (λ t. c (e.values ++ t)) (L e.values) (λ l. R (side_row null side e.values l)))) ds
        (λ e p. subst (λ (Q : List V → List (Ranked V)). Meets same e.values xs' (outer_loop nulls (λ t. c (e.values ++ t)) (L e.values) Q)) (under_is side n R e.values)
        (outer_meets same is (side_pick null side n) c e.values nulls xs ys (L e.values) (side_under side R e.values) p.0 p.1))
        (Each-both (λ e. Meets same e.values xs (L e.values)) W ds left (side_meets side n ds xs ys R dom right))

    pub attach_step : (side : Side) (value : List V → List (Ranked V) → V) (bag : (x : List V) → OfBag (value x)) (n : ℕ) (ds xs ys : List (Ranked V)) (L R : List V → List (Ranked V)) → IsDomain same n ds → Answers same ds xs L → Answers same (side_domain same null side ds xs) ys R
        → Answers same ds (attach_node same (side_pick null side n) value xs ys) (λ d. attach_loop (λ l. value (d ++ l)) (L d) (λ l. R (side_row null side d l)))
    attach_step side value bag n ds xs ys L R dom left right =
        let W : Ranked V → Type 0 = λ e. Each (λ x. starts same e.values x.values ≡ true → Meets same (side_pick null side n x.values) ys (side_under side R e.values (side_pick null side n x.values))) xs in
        let xs' = attach_node same (side_pick null side n) value xs ys in
        Each-weaker (λ e. Meets same e.values xs (L e.values) × W e) (λ e. Meets same e.values xs' (attach_loop (λ l. value (e.values ++ l)) (L e.values) (λ l. R (side_row null side e.values l)))) ds
        (λ e p. subst (λ (Q : List V → List (Ranked V)). Meets same e.values xs' (attach_loop (λ l. value (e.values ++ l)) (L e.values) Q)) (under_is side n R e.values)
        (attach_meets same is (side_pick null side n) value e.values xs ys (L e.values) (side_under side R e.values) bag p.0 p.1))
        (Each-both (λ e. Meets same e.values xs (L e.values)) W ds left (side_meets side n ds xs ys R dom right))

module _ {V : Type 0} (same : V → V → Bool) (is : IsIdentity same) (null : V) (tables : ℕ → List (List V)) where
  -- the theorem for each domain row, by induction over the tree
  pub unnests : (T : Tree V) (n : ℕ) (ds : List (Ranked V)) → IsDomain same n ds → Answers same ds (node_rows same null tables T n ds) (tree_rows same null tables T)
  unnests OneRow n ds dom = domain_alone same is n ds dom
  unnests (Scan table) n ds dom = scan_step same is n ds (tables table) dom
  unnests (Select c T) n ds dom = select_step same is c ds (node_rows same null tables T n ds) (tree_rows same null tables T) (unnests T n ds dom)
  unnests (Project f T) n ds dom = project_step same is f n ds (node_rows same null tables T n ds) (tree_rows same null tables T) dom (unnests T n ds dom)
  unnests (Join side c L R) n ds dom =
      let xs = node_rows same null tables L n ds in let es = side_domain same null side ds xs in
      join_step same is null side c n ds xs (node_rows same null tables R (side_width side n) es) (tree_rows same null tables L) (tree_rows same null tables R) dom
      (unnests L n ds dom) (unnests R (side_width side n) es (side_is same is null side n ds xs dom))
  unnests (Outer side nulls c L R) n ds dom =
      let xs = node_rows same null tables L n ds in let es = side_domain same null side ds xs in
      outer_step same is null side nulls c n ds xs (node_rows same null tables R (side_width side n) es) (tree_rows same null tables L) (tree_rows same null tables R) dom
      (unnests L n ds dom) (unnests R (side_width side n) es (side_is same is null side n ds xs dom))
  unnests (Mark side write c L R) n ds dom =
      let xs = node_rows same null tables L n ds in let es = side_domain same null side ds xs in
      attach_step same is null side (mark_of write c) (mark_bag write c) n ds xs (node_rows same null tables R (side_width side n) es) (tree_rows same null tables L) (tree_rows same null tables R) dom
      (unnests L n ds dom) (unnests R (side_width side n) es (side_is same is null side n ds xs dom))
  unnests (Single side write fault_rank i L R) n ds dom =
      let xs = node_rows same null tables L n ds in let es = side_domain same null side ds xs in
      attach_step same is null side (λ x us. scalar_of write fault_rank i us) (λ x. scalar_bag same is write fault_rank i) n ds xs (node_rows same null tables R (side_width side n) es) (tree_rows same null tables L) (tree_rows same null tables R) dom
      (unnests L n ds dom) (unnests R (side_width side n) es (side_is same is null side n ds xs dom))
  unnests (Group grouping aggregates bag T) n ds dom = group_step same is grouping aggregates bag n ds (node_rows same null tables T n ds) (tree_rows same null tables T) dom (unnests T n ds dom)
  unnests (Total aggregates bag T) n ds dom = total_step same is aggregates bag n ds (node_rows same null tables T n ds) (tree_rows same null tables T) dom (unnests T n ds dom)
  unnests (Distinct T) n ds dom = distinct_step same is ds (node_rows same null tables T n ds) (tree_rows same null tables T) (unnests T n ds dom)

  -- the theorem
  pub unnesting : (T : Tree V) (n : ℕ) (ds : List (Ranked V)) → IsDomain same n ds
      → SameBag (meeting same (values_of ds) (node_rows same null tables T n ds)) (under (values_of ds) (tree_rows same null tables T))
  unnesting T n ds dom =
      under_meets same is n (values_of ds) (node_rows same null tables T n ds) (tree_rows same null tables T) (Each-map (λ d. length d ≡ n) (λ e. e.values) ds dom.widths) dom.apart
      (Each-map (λ d. Meets same d (node_rows same null tables T n ds) (tree_rows same null tables T d)) (λ e. e.values) ds (unnests T n ds dom))

  -- without outer columns
  pub closed : (T : Tree V) → SameBag (node_rows same null tables T 0 unit_row) (tree_rows same null tables T [])
  closed T = record { weighs = λ h. Meets-weighs same is (unnests T 0 unit_row (unit_is same is)).0 h }
