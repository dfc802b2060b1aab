-- Each row of a node has as many values as the node has columns.
use Rattle.std.proofs.Common.{◌≡◌, ℕ, zero, suc, ◌+◌, ◌-◌, ◌≤◌, List, [], ◌∷◌, ◌++◌, Bool, true, false, cond, refl, sym, ap, ◌∙◌, subst, arith, inl, inr, length}
use Rattle.std.proofs.Math.Dec.{ltb}
use Rattle.std.specs.Prelude.{map, min, nat_lt, nat_le, replicate, IsTrue, ◌==◌, Option, Some, None, slice_get, slice_index_or}
use Rattle.std.specs.List.{All, filter, flat_map, range_with_len, list_all}
use Rattle.std.specs.Cmp.Lexicographic.{pointwise, bytes_decides}
use Rattle.std.proofs.lemmas.Bool.{cases_Bool, cases_lt, lt-ltb, le-ltb, eqb-true, eqb-false}
use Rattle.std.proofs.lemmas.List.{length-map, length-append, length-replicate, append_assoc, append-nil, get_or_past}
use Rattle.std.proofs.lemmas.List.FromFn.{length-range_with_len}
use Rattle.base_row_laws.specs.Ranked.{Ranked, ranked, unknown_rank, true_rank}
use Rattle.base_row_laws.specs.Bags.{Each, has, each_once}
use Rattle.base_row_laws.specs.Rows.{columns, keep, scanned, starts}
use Rattle.base_row_laws.specs.Rows.{same_row as identical}
use Rattle.base_row_laws.specs.Operators.{select, project, pair, or_else, least, greatest, partners, group_by, distinct, domain_node, fill, mark_of, scalar_of}
use Rattle.base_row_laws.specs.Matched.{right_places, without_from, without, glue_matched, matches_of, inner_matched, outer_matched, attach_matched}
use Rattle.base_row_laws.proofs.Lists.{Each-map, Each-filter, Each-weaker, Each-flat_map, Each-all, Each-each_once}
use Rattle.base_row_laws.proofs.Nodes.{Each-or_else}
use Rattle.base_set_rows.proofs.Operations.{set_rows_each}
use Rattle.base_value.specs.declared.value.Value.{Value}
use Rattle.base_value.specs.declared.value.Value.TheVariants.{Null}
use Rattle.base_value.specs.Value.{same_value, same_row}
use Rattle.base_value.proofs.Identity.{value_identity, row_identity}
use Rattle.expr_scalar.specs.declared.expr.Expr.{Expr}
use Rattle.expr_scalar.specs.Meaning.{value, values}
use Rattle.base_schema.specs.declared.table.TableName.{TableName}
use Rattle.base_schema.specs.Tables.{kinds_of}
use Rattle.base_schema.specs.Kinds.{RowIsOf, RowsAreOf}
use Rattle.base_schema.proofs.Columns.{row_long}
use Rattle.expr_aggregates.specs.Values.{written, value_rank}
use Rattle.expr_conditions.specs.Ranks.{rank_of}
use Rattle.plan_algebra.specs.declared.aggregate.Aggregate.{Aggregate}
use Rattle.plan_algebra.specs.declared.kept_plan.KeptPlan.{KeptPlan}
use Rattle.plan_algebra.specs.KeptPlans.{item_of, kept_groups, query_rows, selected}
use Rattle.base_row_laws.specs.Aggregates.{aggregated}
use Rattle.plan_algebra.specs.declared.node.Node.{Node}
use Rattle.plan_algebra.specs.declared.node.Node.TheVariants.{Scan, Kept, Domain, Select, Project, Join, Outer, Mark, Single, Group, Fill, Distinct, Set}
use Rattle.plan_algebra.specs.Aggregates.{aggregates_of}
use Rattle.plan_algebra.specs.Trees.{Database, HasKinds}
use Rattle.plan_algebra.specs.NodeLaws.{RowsAreWide}
use Rattle.plan_algebra.specs.Plans.{groups, node_rows, node_width, made_from, plan_rows, plan_width, matches_first, groups_by_domain, suits, fits, all_fit, is_formed}
use Rattle.plan_algebra.proofs.Fits.{first_of_both, second_of_both}
use Rattle.plan_algebra.proofs.Made.{kept_at, put_at, made_at, made-length}
use Rattle.plan_algebra.proofs.NoRows.{length-aggregates_of}

-- the row has n values
abbrev Has : ℕ → Ranked Value → Type 0
Has n x = length x.values ≡ n

abbrev eq_test : ℕ → ℕ → Bool
eq_test a b = a == b

has_range : (a n j : ℕ) → a ≤ j → has eq_test j (range_with_len a n) ≡ ltb j (a + n)
has_range a zero j h = sym (le-ltb j (a + 0) (omega arith))
has_range a (suc n) j h = elim (cases_Bool (j == a)) [
  | inl t ↦ let e = eqb-true j a t in rw t (sym (lt-ltb j (a + suc n) (omega arith)))
  | inr f ↦ let ne = eqb-false j a f in let r : a + 1 + n ≡ a + suc n = omega arith in rw f (has_range (a + 1) n j (omega arith) ∙ ap (λ k. ltb j k) r)
]

rest_long : (k : ℕ) (places : List ℕ) (i : ℕ) (y : List Value) → ((j : ℕ) → i ≤ j → has eq_test j places ≡ ltb j k) → length (without_from places i y) ≡ length y - (k - i)
rest_long k places i [] at = omega arith
rest_long k places i (v ∷ vs) at =
    let ih = rest_long k places (i + 1) vs (λ j h. at j (omega arith)) in
    let here = at i (omega arith) in
    elim (cases_lt i k) [
      | inl l ↦ let t = lt-ltb i k l in rw (here, t) (omega (arith, ih, l))
      | inr l ↦ let f = le-ltb i k l in rw (here, f) (omega (arith, ih, l))
    ]

-- a right row without its first columns
rest_length : (matched : List (ℕ × ℕ)) (w : ℕ) (y : List Value) → IsTrue (matches_first w matched) → length (without (right_places matched) y) ≡ length y - length matched
rest_length matched w y m =
    let n = length matched in
    let e : right_places matched ≡ range_with_len 0 n = (bytes_decides (right_places matched) (range_with_len 0 n)).0 (first_of_both (pointwise ◌==◌ (right_places matched) (range_with_len 0 n)) (nat_le n w) m) in
    ap (λ places. length (without places y)) e ∙ rest_long n (range_with_len 0 n) 0 y (λ j h. has_range 0 n j h ∙ ap (λ k. ltb j k) (omega arith)) ∙ omega arith

keep_wide : (n : ℕ) (r : List Value) (s : ℕ) → length r ≡ n → Each (Has n) (keep r s)
keep_wide n r s h = elim (nat_lt unknown_rank s) as (λ b. Each (Has n) (cond b (ranked r s ∷ []) [])) [ true ↦ (h, tt) | false ↦ tt ]

select_wide : (n : ℕ) (c : List Value → ℕ) (xs : List (Ranked Value)) → Each (Has n) xs → Each (Has n) (select c xs)
select_wide n c xs all = Each-flat_map (Has n) (Has n) (λ x. keep x.values (min x.standing (c x.values))) xs all (λ x h. keep_wide n x.values (min x.standing (c x.values)) h)

project_wide : (n : ℕ) (f : List Value → List Value) (xs : List (Ranked Value)) → ((r : List Value) → length (f r) ≡ n) → Each (Has n) (project f xs)
project_wide n f xs e = Each-map (Has n) (λ x. ranked (f x.values) x.standing) xs (Each-all (λ x. length (f x.values) ≡ n) xs (λ x. e x.values))

module _ (matched : List (ℕ × ℕ)) (a b w : ℕ) (m : IsTrue (matches_first w matched)) where
  pairs_wide : (c : List Value → ℕ) (x : Ranked Value) (ys : List (Ranked Value)) → Has a x → Each (Has b) ys
      → Each (Has (a + (b - length matched))) (flat_map (λ y. pair c (glue_matched matched) x y) ys)
  pairs_wide c x ys h all =
      let n = a + (b - length matched) in
      Each-flat_map (Has b) (Has n) (λ y. pair c (glue_matched matched) x y) ys all
      (λ y k. keep_wide n (glue_matched matched x.values y.values) (min (min x.standing y.standing) (c (glue_matched matched x.values y.values)))
      (length-append x.values (without (right_places matched) y.values) ∙ omega (arith, rest_length matched w y.values m, h, k)))

  matches_wide : (x : List Value) (ys : List (Ranked Value)) → Each (Has b) ys → Each (Has b) (matches_of same_value Null matched x ys)
  matches_wide x ys all =
      Each-filter (Has b) (λ y. identical same_value (columns Null (map (λ m. m.0) matched) x) (columns Null (right_places matched) y.values)) ys all

  inner_wide : (c : List Value → ℕ) (xs ys : List (Ranked Value)) → Each (Has a) xs → Each (Has b) ys → Each (Has (a + (b - length matched))) (inner_matched same_value Null matched c xs ys)
  inner_wide c xs ys left right =
      Each-flat_map (Has a) (Has (a + (b - length matched))) (λ x. flat_map (λ y. pair c (glue_matched matched) x y) (matches_of same_value Null matched x.values ys)) xs left
      (λ x h. pairs_wide c x (matches_of same_value Null matched x.values ys) h (matches_wide x.values ys right))

  outer_wide : (nulls : ℕ) (c : List Value → ℕ) (xs ys : List (Ranked Value)) → b ≡ length matched + nulls → Each (Has a) xs → Each (Has b) ys
      → Each (Has (a + nulls)) (outer_matched same_value Null matched (replicate nulls Null) c xs ys)
  outer_wide nulls c xs ys e left right =
      let n : a + (b - length matched) ≡ a + nulls = omega (arith, e) in
      let M : Ranked Value → List (Ranked Value) = λ x. flat_map (λ y. pair c (glue_matched matched) x y) (matches_of same_value Null matched x.values ys) in
      Each-flat_map (Has a) (Has (a + nulls)) (λ x. or_else (M x) (ranked (x.values ++ replicate nulls Null) x.standing)) xs left
      (λ x h. Each-or_else (Has (a + nulls)) (M x) (ranked (x.values ++ replicate nulls Null) x.standing)
      (subst (λ k. Each (Has k) (M x)) n (pairs_wide c x (matches_of same_value Null matched x.values ys) h (matches_wide x.values ys right)))
      (length-append x.values (replicate nulls Null) ∙ omega (arith, length-replicate {A = Value} nulls Null, h)))

attach_wide : (a : ℕ) (matched : List (ℕ × ℕ)) (v : List Value → List (Ranked Value) → Value) (xs ys : List (Ranked Value)) → Each (Has a) xs
    → Each (Has (a + 1)) (attach_matched same_value Null matched v xs ys)
attach_wide a matched v xs ys left =
    let rest : Ranked Value → Ranked Value = λ y. ranked (without (right_places matched) y.values) y.standing in
    let row : Ranked Value → List Value = λ x. x.values ++ v x.values (map rest (matches_of same_value Null matched x.values ys)) ∷ [] in
    Each-flat_map (Has a) (Has (a + 1)) (λ x. ranked (row x) x.standing ∷ []) xs left
    (λ x h. (length-append x.values (v x.values (map rest (matches_of same_value Null matched x.values ys)) ∷ []) ∙ ap (λ k. k + 1) h, tt))

abbrev Long : ℕ → List Value → Type 0
Long n k = length k ≡ n

-- the keys of classes are as long as those of the rows
keys_long : (n : ℕ) (key : Ranked Value → List Value) (xs : List (Ranked Value)) → Each (λ x. Long n (key x)) xs → Each (Long n) (each_once (identical same_value) (map key xs))
keys_long n key xs all = Each-each_once (Long n) (identical same_value) (map key xs) (Each-map (Long n) key xs all)

columns_long : (cs : List ℕ) (r : List Value) → length (columns Null cs r) ≡ length cs
columns_long cs r = length-map cs (λ c. slice_index_or r c Null)

group_wide : (by : List ℕ) (aggregates : List Aggregate) (xs : List (Ranked Value))
    → Each (Has (length by + length aggregates)) (group_by same_value (columns Null by) (aggregates_of aggregates) xs)
group_wide by aggregates xs =
    let n = length by + length aggregates in
    let part : List Value → List (Ranked Value) = λ k. filter (λ x. identical same_value (columns Null by x.values) k) xs in
    let ks = each_once (identical same_value) (map (λ x. columns Null by x.values) xs) in
    Each-map (Has n) (λ k. ranked (k ++ aggregates_of aggregates (part k)) (least (part k))) ks
    (Each-weaker (Long (length by)) (λ k. length (k ++ aggregates_of aggregates (part k)) ≡ n) ks
    (λ k h. length-append k (aggregates_of aggregates (part k)) ∙ omega (arith, h, length-aggregates_of aggregates (part k)))
    (keys_long (length by) (λ x. columns Null by x.values) xs (Each-all (λ x. Long (length by) (columns Null by x.values)) xs (λ x. columns_long by x.values))))

groups_wide : (by : List ℕ) (aggregates : List Aggregate) (xs : List (Ranked Value)) → Each (Has (length by + length aggregates)) (groups by aggregates xs)
groups_wide [] aggregates xs = (length-aggregates_of aggregates xs ∙ omega arith, tt)
groups_wide (c ∷ cs) aggregates xs = group_wide (c ∷ cs) aggregates xs

distinct_wide : (n : ℕ) (xs : List (Ranked Value)) → Each (Has n) xs → Each (Has n) (distinct same_value xs)
distinct_wide n xs all =
    let part : List Value → List (Ranked Value) = λ k. filter (λ x. identical same_value x.values k) xs in
    Each-map (Has n) (λ k. ranked k (greatest (part k))) (each_once (identical same_value) (map (λ x. x.values) xs)) (keys_long n (λ x. x.values) xs all)

domain_wide : (cs : List ℕ) (xs : List (Ranked Value)) → Each (Has (length cs)) (domain_node same_value (columns Null cs) xs)
domain_wide cs xs =
    Each-map (Has (length cs)) (λ k. ranked k true_rank) (each_once (identical same_value) (map (λ x. columns Null cs x.values) xs))
    (keys_long (length cs) (λ x. columns Null cs x.values) xs (Each-all (λ x. Long (length cs) (columns Null cs x.values)) xs (λ x. columns_long cs x.values)))

fill_wide : (n g : ℕ) (empty : List Value) (ds gs : List (Ranked Value)) → g ≡ n + length empty → Each (Has n) ds → Each (Has g) gs → Each (Has (n + length empty)) (fill same_value empty ds gs)
fill_wide n g empty ds gs e left right =
    let all : Each (Has (n + length empty)) gs = subst (λ k. Each (Has k) gs) e right in
    Each-flat_map (Has n) (Has (n + length empty)) (λ d. or_else (partners same_value d.values gs) (ranked (d.values ++ empty) true_rank)) ds left
    (λ d h. Each-or_else (Has (n + length empty)) (partners same_value d.values gs) (ranked (d.values ++ empty) true_rank)
    (partners_wide d.values all) (length-append d.values empty ∙ ap (λ k. k + length empty) h))
  where
    partners_wide : (p : List Value) → Each (Has (n + length empty)) gs → Each (Has (n + length empty)) (partners same_value p gs)
    partners_wide p all = Each-filter (Has (n + length empty)) (λ y. starts same_value p y.values) gs all

-- rows of a table
each_of_all : {X : Type 0} (P : X → Type 0) (xs : List X) → All P xs → Each P xs
each_of_all P [] h = tt
each_of_all P (x ∷ xs) h = (h 0 x (omega arith), each_of_all P xs (λ k d p. h (suc k) d (omega (arith, p))))

scan_wide : (table : TableName) (rows : List (List Value)) → RowsAreOf table rows → Each (Has (length (kinds_of table))) (scanned rows)
scan_wide table rows h =
    Each-map (Has (length (kinds_of table))) (λ r. ranked r true_rank) rows
    (Each-weaker (RowIsOf table) (λ r. length r ≡ length (kinds_of table)) rows (λ r k. row_long table r k) (each_of_all (RowIsOf table) rows h))

-- rows of a kept plan
pub query_wide : (plan : KeptPlan) (rows : List (List Value)) → Each (Has (length plan.list)) (query_rows plan rows)
unfolding query_rows
query_wide plan rows =
    project_wide (length plan.list) (columns Null plan.list)
    (kept_groups plan.by (aggregated (map item_of plan.aggregates)) (selected plan rows)) (columns_long plan.list)

-- the group that a fill reads
pub record IsGroup (n : ℕ) (empty : List Value) (node : Option Node) : Type 0 where
  pub rows : ℕ
  pub by : List ℕ
  pub aggregates : List Aggregate
  pub is : node ≡ Some (Group rows by aggregates)
  pub columns : length by ≡ n
  pub values : length aggregates ≡ length empty

pub group_there : (n : ℕ) (empty : List Value) (node : Option Node) → IsTrue (groups_by_domain n empty node) → IsGroup n empty node
group_there n empty None h = cc
group_there n empty (Some (Group i by aggregates)) h =
    let first = first_of_both (pointwise ◌==◌ by (range_with_len 0 n)) (same_row (aggregates_of aggregates []) empty) h in
    let second = second_of_both (pointwise ◌==◌ by (range_with_len 0 n)) (same_row (aggregates_of aggregates []) empty) h in
    record {
      rows = i;
      by = by;
      aggregates = aggregates;
      is = refl;
      columns = ap length ((bytes_decides by (range_with_len 0 n)).0 first) ∙ length-range_with_len 0 n;
      values = sym (length-aggregates_of aggregates []) ∙ ap length (row_identity.tells (aggregates_of aggregates []) empty second);
    }
group_there n empty (Some other) h = cc

record Split (ns : List Node) (i : ℕ) (n : Node) : Type 0 where
  before : List Node
  more : List Node
  is : ns ≡ before ++ n ∷ more
  place : i ≡ length before

split_at : (ns : List Node) (i : ℕ) (n : Node) → slice_get ns i ≡ Some n → Split ns i n
split_at [] i n e = cc
split_at (m ∷ ns) zero n e = record { before = []; more = ns; is = (let k : m ≡ n = cc in ap (λ x. x ∷ ns) k); place = refl }
split_at (m ∷ ns) (suc i) n e =
    let s = split_at ns i n e in record { before = m ∷ s.before; more = s.more; is = ap (λ l. m ∷ l) s.is; place = ap suc s.place }

-- the width of a node within a plan
pub width_there : (ns : List Node) (i : ℕ) (n : Node) (w : ℕ) → slice_get ns i ≡ Some n → ((widths : List ℕ) → node_width widths n ≡ w) → plan_width ns i ≡ w
unfolding plan_width
width_there ns i n w e k =
    let s = split_at ns i n e in made_at node_width 0 s.before n s.more ns i s.is s.place ∙ k (made_from node_width [] s.before)

-- of the group that a fill reads
pub group_width : (ns : List Node) (i n : ℕ) (empty : List Value) → IsTrue (groups_by_domain n empty (slice_get ns i)) → plan_width ns i ≡ n + length empty
group_width ns i n empty h =
    let g = group_there n empty (slice_get ns i) h in
    width_there ns i (Group g.rows g.by g.aggregates) (length g.by + length g.aggregates) g.is (λ widths. refl) ∙ omega (arith, g.columns, g.values)

-- the rows of each node so far are wide
abbrev EachWide : Database → List Node → Type 0
EachWide db nodes = (i : ℕ) → Each (Has (plan_width nodes i)) (plan_rows db nodes i)

values_long : (es : List Expr) (r : List Value) → length (values es r) ≡ length es
unfolding values
values_long es r = length-map es (λ e. value e r)

-- the right side of a set operation is as wide as the left one
as_wide : (db : Database) (before : List Node) (i j : ℕ) → IsTrue (plan_width before i == plan_width before j) → Each (Has (plan_width before j)) (plan_rows db before j)
    → Each (Has (plan_width before i)) (plan_rows db before j)
as_wide db before i j s wide = subst (λ k. Each (Has k) (plan_rows db before j)) (sym (eqb-true (plan_width before i) (plan_width before j) s)) wide

node_wide : (db : Database) (before : List Node) (node : Node) → HasKinds db → IsTrue (suits before node) → EachWide db before
    → Each (Has (node_width (made_from node_width [] before) node)) (node_rows db (made_from (node_rows db) [] before) node)
unfolding plan_rows plan_width
node_wide db before (Scan table) kinds s wide = scan_wide table (db table) (kinds table)
node_wide db before (Kept number plan) kinds s wide = query_wide plan (db plan.table)
node_wide db before (Domain i cs) kinds s wide = domain_wide cs (plan_rows db before i)
node_wide db before (Select i e) kinds s wide = select_wide (plan_width before i) (rank_of e) (plan_rows db before i) (wide i)
node_wide db before (Project i es) kinds s wide = project_wide (length es) (values es) (plan_rows db before i) (values_long es)
node_wide db before (Join i j matched e) kinds s wide =
    inner_wide matched (plan_width before i) (plan_width before j) (plan_width before j) s (rank_of e) (plan_rows db before i) (plan_rows db before j) (wide i) (wide j)
node_wide db before (Outer i j matched nulls e) kinds s wide =
    let first = first_of_both (matches_first (plan_width before j) matched) (plan_width before j == length matched + nulls) s in
    let second = second_of_both (matches_first (plan_width before j) matched) (plan_width before j == length matched + nulls) s in
    outer_wide matched (plan_width before i) (plan_width before j) (plan_width before j) first nulls (rank_of e) (plan_rows db before i) (plan_rows db before j)
    (eqb-true (plan_width before j) (length matched + nulls) second) (wide i) (wide j)
node_wide db before (Mark i j matched e) kinds s wide =
    attach_wide (plan_width before i) matched (mark_of written (rank_of e)) (plan_rows db before i) (plan_rows db before j) (wide i)
node_wide db before (Single i j matched c) kinds s wide =
    attach_wide (plan_width before i) matched (λ x us. scalar_of written value_rank c us) (plan_rows db before i) (plan_rows db before j) (wide i)
node_wide db before (Group i by aggregates) kinds s wide = groups_wide by aggregates (plan_rows db before i)
node_wide db before (Fill i j empty) kinds s wide =
    fill_wide (plan_width before j) (plan_width before i) empty (plan_rows db before j) (plan_rows db before i) (group_width before i (plan_width before j) empty s) (wide j) (wide i)
node_wide db before (Distinct i) kinds s wide = distinct_wide (plan_width before i) (plan_rows db before i) (wide i)
node_wide db before (Set i j operation) kinds s wide =
    set_rows_each same_value value_identity (Long (plan_width before i)) operation (plan_rows db before i) (plan_rows db before j) (wide i) (as_wide db before i j s (wide j))

one_more : (db : Database) (before : List Node) (node : Node) → HasKinds db → IsTrue (fits before node) → EachWide db before → EachWide db (before ++ node ∷ [])
unfolding plan_rows plan_width fits
one_more db before node kinds f wide i =
    let after = before ++ node ∷ [] in
    let whole = length-append before (node ∷ []) in
    elim (cases_lt i (length before)) [
      | inl l ↦
          let w : plan_width after i ≡ plan_width before i = kept_at node_width 0 before after (node ∷ []) i refl l in
          let r : plan_rows db after i ≡ plan_rows db before i = kept_at (node_rows db) [] before after (node ∷ []) i refl l in
          subst (λ n. Each (Has n) (plan_rows db after i)) (sym w) (subst (Each (Has (plan_width before i))) (sym r) (wide i))
      | inr l ↦ elim (cases_lt (length before) i) [
        | inl k ↦
            let r : plan_rows db after i ≡ [] = get_or_past (made_from (node_rows db) [] after) i [] (let m = made-length (node_rows db) [] after in omega (arith, m, whole)) in
            subst (Each (Has (plan_width after i))) (sym r) tt
        | inr k ↦
            let e : i ≡ length before = omega arith in
            let w : plan_width after i ≡ node_width (made_from node_width [] before) node = put_at node_width 0 before after node i refl e in
            let r : plan_rows db after i ≡ node_rows db (made_from (node_rows db) [] before) node = put_at (node_rows db) [] before after node i refl e in
            subst (λ n. Each (Has n) (plan_rows db after i)) (sym w)
            (subst (Each (Has (node_width (made_from node_width [] before) node))) (sym r)
            (node_wide db before node kinds (second_of_both (list_all (λ i. nat_lt i (length before)) _) (suits before node) f) wide))
      ]
    ]

all_more : (db : Database) (before nodes : List Node) → HasKinds db → IsTrue (all_fit before nodes) → EachWide db before → EachWide db (before ++ nodes)
all_more db before [] kinds f wide = subst (EachWide db) (sym (append-nil before)) wide
all_more db before (n ∷ nodes) kinds f wide =
    let first = first_of_both (fits before n) (all_fit (before ++ n ∷ []) nodes) f in
    let second = second_of_both (fits before n) (all_fit (before ++ n ∷ []) nodes) f in
    subst (EachWide db) (append_assoc before (n ∷ []) nodes) (all_more db (before ++ n ∷ []) nodes kinds second (one_more db before n kinds first wide))

none_wide : (db : Database) → EachWide db []
unfolding plan_rows
none_wide db i = tt

pub rows_are_wide : RowsAreWide
unfolding is_formed
rows_are_wide db nodes i kinds formed = all_more db [] nodes kinds formed (none_wide db) i
