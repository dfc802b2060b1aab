-- The kinds of the columns of a plan's nodes, node by node.
use Rattle.std.proofs.Common.{◌≡◌, ℕ, zero, suc, ◌+◌, ◌<◌, ◌≤◌, List, [], ◌∷◌, ◌++◌, refl, sym, ◌∙◌, ap, subst, arith, length, take, drop, get_or}
use Rattle.std.specs.Prelude.{map, replicate, IsTrue, Option, None, slice_index_or, nat_lt, nat_le, ◌==◌}
use Rattle.std.specs.List.{list_all, range_with_len}
use Rattle.std.specs.Cmp.Lexicographic.{pointwise, bytes_decides}
use Rattle.std.proofs.lemmas.Bool.{ltb-true, leb-true, le-leb, eqb-true}
use Rattle.std.proofs.lemmas.List.{append_assoc, append-nil, take-append-drop, drop_more, length-take-le, length-append, length-map, length-replicate, length-drop}
use Rattle.base_row_laws.specs.Ranked.{Ranked, ranked}
use Rattle.base_row_laws.specs.Bags.{Each}
use Rattle.base_row_laws.specs.Operators.{total, mark_of, scalar_of}
use Rattle.base_row_laws.specs.Matched.{numbered, left_places, right_places, without}
use Rattle.base_row_laws.proofs.Lists.{Each-map, Each-weaker, Each-both}
use Rattle.base_row_laws.proofs.Pairs.{rest_is}
use Rattle.base_value.specs.declared.value.Value.{Value}
use Rattle.expr_scalar.specs.declared.expr.Expr.{Expr}
use Rattle.expr_conditions.specs.Ranks.{rank_of}
use Rattle.expr_aggregates.specs.Values.{written, value_rank}
use Rattle.base_schema.specs.declared.table.TableName.{TableName}
use Rattle.plan_algebra.specs.declared.kept_plan.KeptPlan.{KeptPlan}
use Rattle.plan_algebra.specs.KeptPlans.{query_rows}
use Rattle.base_schema.specs.Kinds.{RowIsOf}
use Rattle.base_schema.proofs.Columns.{columns_count}
use Rattle.base_schema.specs.Tables.{columns_of}
use Rattle.plan_algebra.specs.declared.aggregate.Aggregate.{Aggregate}
use Rattle.base_set_rows.specs.declared.kind.SetOperation.{SetOperation}
use Rattle.plan_algebra.specs.declared.node.Node.{Node}
use Rattle.plan_algebra.specs.declared.node.Node.TheVariants as node
use Rattle.plan_algebra.specs.Aggregates.{aggregates_of}
use Rattle.plan_algebra.specs.Trees.{Database, HasKinds}
use Rattle.plan_algebra.specs.Plans.{groups, node_rows, node_width, made_from, plan_rows, plan_width, inputs_of, matches_first, suits, fits, all_fit, is_formed}
use Rattle.plan_algebra.proofs.Fits.{first_of_both, second_of_both}
use Rattle.plan_algebra.proofs.Made.{kept_at, made_at}
use Rattle.plan_algebra.proofs.Widths.{rows_are_wide}
use Rattle.plan_unnested_nodes.specs.declared.domain.Origin.{Origin}
use Rattle.plan_unnested_nodes.specs.declared.origins.Known.{Known}
use Rattle.plan_unnested_nodes.specs.PlanKinds.{ColumnKinds, known_as, nullable, kinds_at, picked, FitsKinds, AreListed, has_matched, AreMade, AreKindsOf, AreKindsOfFirst, AreNotesOf, AreOrigins}
use Rattle.plan_unnested_nodes.proofs.Asked.{kinds_fit}
use Rattle.plan_unnested_nodes.proofs.Columns.{right-numbered_from}
use Rattle.plan_unnested_nodes.proofs.FitKinds.{Fit, select_fits, project_fits, domain_fits, noted_domain, distinct_fits, group_fits, all_unknown, unknown_rows, inner_fits, outer_fits, attach_fits}
use Rattle.plan_unnested_nodes.proofs.OwnNodes.{each_of_all}

all_fit_at : (before ns : List Node) (i : ℕ) (d : Node) → IsTrue (all_fit before ns) → i < length ns → IsTrue (fits (before ++ take i ns) (get_or ns i d))
all_fit_at before [] i d h l = absurd (omega (arith, l))
all_fit_at before (n ∷ ns) zero d h l = subst (λ b. IsTrue (fits b n)) (sym (append-nil before)) (first_of_both (fits before n) (all_fit (before ++ n ∷ []) ns) h)
all_fit_at before (n ∷ ns) (suc i) d h l =
    subst (λ b. IsTrue (fits b (get_or ns i d))) (append_assoc before (n ∷ []) (take i ns))
    (all_fit_at (before ++ n ∷ []) ns i d (second_of_both (fits before n) (all_fit (before ++ n ∷ []) ns) h) (omega (arith, l)))

each_below : (n : ℕ) (xs : List ℕ) → IsTrue (list_all (λ k. nat_lt k n) xs) → Each (λ k. k < n) xs
each_below n [] h = tt
each_below n (x ∷ xs) h = (
  ltb-true x n (first_of_both (nat_lt x n) (list_all (λ k. nat_lt k n) xs) h),
  each_below n xs (second_of_both (nat_lt x n) (list_all (λ k. nat_lt k n) xs) h),
)

-- the i-th node of a plan that is well formed
module _ (nodes : List Node) (i : ℕ) (n : Node) (formed : IsTrue (is_formed nodes)) (within : i < length nodes) (is : n ≡ get_or nodes i n) where
  abbrev first : List Node
  first = take i nodes

  first_long : length first ≡ i
  first_long = length-take-le i nodes (omega arith)

  parts : nodes ≡ first ++ n ∷ drop (i + 1) nodes
  parts = sym (take-append-drop i nodes) ∙ ap (λ l. first ++ l) (drop_more nodes i n within) ∙ ap (λ m. first ++ m ∷ drop (i + 1) nodes) (sym is)

  n_fits : IsTrue (fits first n)
  unfolding is_formed
  n_fits = subst (λ m. IsTrue (fits first m)) (sym is) (all_fit_at [] nodes i n formed within)

  -- the nodes that it reads stand before it
  pub inputs_are : IsTrue (list_all (λ k. nat_lt k i) (inputs_of n))
  unfolding fits
  inputs_are = subst (λ m. IsTrue (list_all (λ k. nat_lt k m) (inputs_of n))) first_long (first_of_both (list_all (λ k. nat_lt k (length first)) (inputs_of n)) (suits first n) n_fits)

  pub inputs_before : Each (λ k. k < i) (inputs_of n)
  inputs_before = each_below i (inputs_of n) inputs_are

  -- and it suits them
  pub n_suits : IsTrue (suits first n)
  unfolding fits
  n_suits = second_of_both (list_all (λ k. nat_lt k (length first)) (inputs_of n)) (suits first n) n_fits

  pub rows_here : (db : Database) → plan_rows db nodes i ≡ node_rows db (made_from (node_rows db) [] first) n
  unfolding plan_rows
  rows_here db = made_at (node_rows db) [] first n (drop (i + 1) nodes) nodes i parts (sym first_long)

  pub width_here : plan_width nodes i ≡ node_width (made_from node_width [] first) n
  unfolding plan_width
  width_here = made_at node_width 0 first n (drop (i + 1) nodes) nodes i parts (sym first_long)

  pub rows_before : (db : Database) (j : ℕ) → j < i → plan_rows db first j ≡ plan_rows db nodes j
  unfolding plan_rows
  rows_before db j h = sym (kept_at (node_rows db) [] first nodes (n ∷ drop (i + 1) nodes) j parts (omega (arith, first_long, h)))

  pub width_before : (j : ℕ) → j < i → plan_width first j ≡ plan_width nodes j
  unfolding plan_width
  width_before j h = sym (kept_at node_width 0 first nodes (n ∷ drop (i + 1) nodes) j parts (omega (arith, first_long, h)))

  -- what the rows of the nodes that it reads give
  pub gives : (new : ColumnKinds) → length new ≡ node_width (made_from node_width [] first) n
      → ((db : Database) → HasKinds db → Each (Fit new) (node_rows db (made_from (node_rows db) [] first) n)) → AreKindsOf nodes i new
  gives new w f = record {
    long = w ∙ sym width_here;
    kept = λ db k. subst (Each (Fit new)) (sym (rows_here db)) (f db k);
  }

  -- rows that keep their kinds, and have as many columns
  pub whole_before : (db : Database) (j : ℕ) (ks : ColumnKinds) → j < i → HasKinds db → AreKindsOf nodes j ks
      → Each (λ x. FitsKinds ks x.values × (length x.values ≡ length ks)) (plan_rows db first j)
  whole_before db j ks h k a =
      subst (Each (λ x. FitsKinds ks x.values × (length x.values ≡ length ks))) (sym (rows_before db j h))
      (Each-both (λ x. FitsKinds ks x.values) (λ x. length x.values ≡ length ks) (plan_rows db nodes j) (a.kept db k)
      (Each-weaker (λ x. length x.values ≡ plan_width nodes j) (λ x. length x.values ≡ length ks) (plan_rows db nodes j) (λ x e. e ∙ sym a.long) (rows_are_wide db nodes j k formed)))

  pub kept_before : (db : Database) (j : ℕ) (ks : ColumnKinds) → j < i → HasKinds db → AreKindsOf nodes j ks → Each (Fit ks) (plan_rows db first j)
  kept_before db j ks h k a = subst (Each (Fit ks)) (sym (rows_before db j h)) (a.kept db k)

  pub long_before : (j : ℕ) (ks : ColumnKinds) → j < i → AreKindsOf nodes j ks → length ks ≡ plan_width first j
  long_before j ks h a = a.long ∙ sym (width_before j h)

length-picked : (ks : ColumnKinds) (cs : List ℕ) → length (picked ks cs) ≡ length cs
length-picked ks cs = length-map cs (λ c. slice_index_or ks c None)

length-unknown : (n : ℕ) → length (replicate {A = Option Known} n None) ≡ n
length-unknown n = length-replicate {A = Option Known} n None

listed_long : (ks : ColumnKinds) (es : List Expr) (new : ColumnKinds) → AreListed ks es new → length new ≡ length es
listed_long ks [] [] a = refl
listed_long ks [] (k ∷ new) a = elim a [ ]
listed_long ks (e ∷ es) [] a = elim a [ ]
listed_long ks (e ∷ es) (k ∷ new) a = ap suc (listed_long ks es new a.1)

-- the right row without its matched columns, which are its first
rest_drops : (matched : List (ℕ × ℕ)) (w : ℕ) → IsTrue (matches_first w matched) → (y : List Value) → without (right_places matched) y ≡ drop (length matched) y
rest_drops matched w h y =
    let m = length matched in
    let e : right_places matched ≡ range_with_len 0 m = (bytes_decides (right_places matched) (range_with_len 0 m)).0 (first_of_both (pointwise ◌==◌ (right_places matched) (range_with_len 0 m)) (nat_le m w) h) in
    let l : length (left_places matched) ≡ m = length-map matched (λ p. p.0) in
    let f : right_places (numbered (left_places matched)) ≡ range_with_len 0 m = right-numbered_from 0 (left_places matched) ∙ ap (range_with_len 0) l in
    ap (λ places. without places y) (e ∙ sym f) ∙ rest_is (left_places matched) y ∙ ap (λ k. drop k y) l

module _ (nodes : List Node) (i : ℕ) (formed : IsTrue (is_formed nodes)) (within : i < length nodes) where
  pub scan_kinds : (table : TableName) → node.Scan table ≡ get_or nodes i (node.Scan table) → AreKindsOf nodes i (map known_as (columns_of table))
  scan_kinds table at =
      gives nodes i (node.Scan table) formed within at (map known_as (columns_of table)) (length-map (columns_of table) known_as ∙ columns_count table)
      (λ db k.
      Each-map (Fit (map known_as (columns_of table))) (λ r. ranked r 5) (db table)
      (Each-weaker (RowIsOf table) (λ r. FitsKinds (map known_as (columns_of table)) r) (db table) (λ r h. kinds_fit (columns_of table) r h) (each_of_all (RowIsOf table) (db table) (k table))))

  -- of a kept view no kind is known
  pub kept_kinds : (number : ℕ) (plan : KeptPlan) → node.Kept number plan ≡ get_or nodes i (node.Kept number plan) → AreKindsOf nodes i (replicate (length plan.list) None)
  kept_kinds number plan at =
      gives nodes i (node.Kept number plan) formed within at (replicate (length plan.list) None) (length-unknown (length plan.list))
      (λ db k. all_unknown (length plan.list) (query_rows plan (db plan.table)))

  module _ (j : ℕ) (ks : ColumnKinds) (a : AreKindsOf nodes j ks) where
    pub select_kinds : (e : Expr) → node.Select j e ≡ get_or nodes i (node.Select j e) → AreKindsOf nodes i ks
    unfolding plan_rows plan_width
    select_kinds e at =
        let n = node.Select j e in let h = (inputs_before nodes i n formed within at).0 in
        gives nodes i n formed within at ks (long_before nodes i n formed within at j ks h a)
        (λ db k. select_fits ks (rank_of e) (plan_rows db (take i nodes) j) (kept_before nodes i n formed within at db j ks h k a))

    pub distinct_kinds : node.Distinct j ≡ get_or nodes i (node.Distinct j) → AreKindsOf nodes i ks
    unfolding plan_rows plan_width
    distinct_kinds at =
        let n = node.Distinct j in let h = (inputs_before nodes i n formed within at).0 in
        gives nodes i n formed within at ks (long_before nodes i n formed within at j ks h a)
        (λ db k. distinct_fits ks (plan_rows db (take i nodes) j) (kept_before nodes i n formed within at db j ks h k a))

    pub project_kinds : (es : List Expr) (new : ColumnKinds) → AreListed ks es new → node.Project j es ≡ get_or nodes i (node.Project j es) → AreKindsOf nodes i new
    unfolding plan_rows plan_width
    project_kinds es new listed at =
        let n = node.Project j es in let h = (inputs_before nodes i n formed within at).0 in
        gives nodes i n formed within at new (listed_long ks es new listed)
        (λ db k. project_fits ks new es (plan_rows db (take i nodes) j) listed (kept_before nodes i n formed within at db j ks h k a))

    pub domain_kinds : (cs : List ℕ) → node.Domain j cs ≡ get_or nodes i (node.Domain j cs) → AreKindsOf nodes i (picked ks cs)
    unfolding plan_rows plan_width
    domain_kinds cs at =
        let n = node.Domain j cs in let h = (inputs_before nodes i n formed within at).0 in
        gives nodes i n formed within at (picked ks cs) (length-picked ks cs)
        (λ db k. domain_fits ks cs (plan_rows db (take i nodes) j) (kept_before nodes i n formed within at db j ks h k a))

    pub group_kinds : (cs : List ℕ) (aggregates : List Aggregate) → node.Group j cs aggregates ≡ get_or nodes i (node.Group j cs aggregates)
        → AreKindsOf nodes i (picked ks cs ++ replicate (length aggregates) None)
    unfolding plan_rows plan_width
    group_kinds cs aggregates at =
        let n = node.Group j cs aggregates in let h = (inputs_before nodes i n formed within at).0 in
        gives nodes i n formed within at (picked ks cs ++ replicate (length aggregates) None)
        (length-append (picked ks cs) (replicate (length aggregates) None) ∙ (let x = length-picked ks cs in let y = length-unknown (length aggregates) in omega (arith, x, y)))
        (λ db k. go cs (plan_rows db (take i nodes) j) (kept_before nodes i n formed within at db j ks h k a))
      where
        go : (cs : List ℕ) (xs : List (Ranked Value)) → Each (Fit ks) xs → Each (Fit (picked ks cs ++ replicate (length aggregates) None)) (groups cs aggregates xs)
        go [] xs all = unknown_rows 0 (length aggregates) (total (aggregates_of aggregates) xs)
        go (c ∷ cs) xs all = group_fits ks (length aggregates) (c ∷ cs) (aggregates_of aggregates) xs all

    pub mark_kinds : (right : ℕ) (matched : List (ℕ × ℕ)) (e : Expr) → node.Mark j right matched e ≡ get_or nodes i (node.Mark j right matched e) → AreKindsOf nodes i (ks ++ replicate 1 None)
    unfolding plan_rows plan_width
    mark_kinds right matched e at =
        let n = node.Mark j right matched e in let h = (inputs_before nodes i n formed within at).0 in
        let w = long_before nodes i n formed within at j ks h a in
        gives nodes i n formed within at (ks ++ replicate 1 None) (length-append ks (replicate 1 None) ∙ omega (arith, w))
        (λ db k. attach_fits ks 1 matched (mark_of written (rank_of e)) (plan_rows db (take i nodes) j) (plan_rows db (take i nodes) right) (whole_before nodes i n formed within at db j ks h k a))

    pub single_kinds : (right : ℕ) (matched : List (ℕ × ℕ)) (c : ℕ) → node.Single j right matched c ≡ get_or nodes i (node.Single j right matched c) → AreKindsOf nodes i (ks ++ replicate 1 None)
    unfolding plan_rows plan_width
    single_kinds right matched c at =
        let n = node.Single j right matched c in let h = (inputs_before nodes i n formed within at).0 in
        let w = long_before nodes i n formed within at j ks h a in
        gives nodes i n formed within at (ks ++ replicate 1 None) (length-append ks (replicate 1 None) ∙ omega (arith, w))
        (λ db k. attach_fits ks 1 matched (λ x us. scalar_of written value_rank c us) (plan_rows db (take i nodes) j) (plan_rows db (take i nodes) right) (whole_before nodes i n formed within at db j ks h k a))

    -- as many columns as the rows that are filled, and those of the aggregates
    pub fill_kinds : (grouped : ℕ) (empty : List Value) → node.Fill grouped j empty ≡ get_or nodes i (node.Fill grouped j empty)
        → AreKindsOf nodes i (replicate (length ks) None ++ replicate (length empty) None)
    unfolding plan_rows plan_width
    fill_kinds grouped empty at =
        let n = node.Fill grouped j empty in let h = (inputs_before nodes i n formed within at).1.0 in
        let w = long_before nodes i n formed within at j ks h a in
        gives nodes i n formed within at (replicate (length ks) None ++ replicate (length empty) None)
        (length-append (replicate (length ks) None) (replicate (length empty) None)
        ∙ (let x = length-unknown (length ks) in let y = length-unknown (length empty) in omega (arith, w, x, y)))
        (λ db k. unknown_rows (length ks) (length empty) _)

    -- unknown ones, as many as the left side has
    pub set_kinds : (right : ℕ) (operation : SetOperation) → node.Set j right operation ≡ get_or nodes i (node.Set j right operation)
        → AreKindsOf nodes i (replicate (length ks) None)
    unfolding plan_rows plan_width
    set_kinds right operation at =
        let n = node.Set j right operation in let h = (inputs_before nodes i n formed within at).0 in
        let w = long_before nodes i n formed within at j ks h a in
        gives nodes i n formed within at (replicate (length ks) None) (length-unknown (length ks) ∙ w)
        (λ db k. all_unknown (length ks) _)

    module _ (right : ℕ) (ms : ColumnKinds) (b : AreKindsOf nodes right ms) where
      pub join_kinds : (matched : List (ℕ × ℕ)) (e : Expr) → node.Join j right matched e ≡ get_or nodes i (node.Join j right matched e)
          → AreKindsOf nodes i (ks ++ drop (length matched) ms)
      unfolding plan_rows plan_width
      join_kinds matched e at =
          let n = node.Join j right matched e in let hs = inputs_before nodes i n formed within at in
          let h = hs.0 in let g = hs.1.0 in
          let w = long_before nodes i n formed within at j ks h a in
          let v = long_before nodes i n formed within at right ms g b in
          let s = n_suits nodes i n formed within at in
          gives nodes i n formed within at (ks ++ drop (length matched) ms)
          (length-append ks (drop (length matched) ms) ∙ (let d = length-drop (length matched) ms in omega (arith, w, v, d)))
          (λ db k.
          inner_fits matched ks ms (rest_drops matched (plan_width (take i nodes) right) s) (rank_of e) (plan_rows db (take i nodes) j) (plan_rows db (take i nodes) right)
          (whole_before nodes i n formed within at db j ks h k a) (kept_before nodes i n formed within at db right ms g k b))

      -- the right side has the matched columns
      pub matched_within : (matched : List (ℕ × ℕ)) (e : Expr) → node.Join j right matched e ≡ get_or nodes i (node.Join j right matched e) → length matched ≤ length ms
      matched_within matched e at =
          let n = node.Join j right matched e in let g = (inputs_before nodes i n formed within at).1.0 in
          let v = long_before nodes i n formed within at right ms g b in
          let s = n_suits nodes i n formed within at in
          let w = plan_width (take i nodes) right in
          let l = leb-true (length matched) w (second_of_both (pointwise ◌==◌ (right_places matched) (range_with_len 0 (length matched))) (nat_le (length matched) w) s) in
          omega (arith, l, v)

      pub outer_kinds : (nulls : ℕ) (matched : List (ℕ × ℕ)) (e : Expr) → node.Outer j right matched nulls e ≡ get_or nodes i (node.Outer j right matched nulls e)
          → AreKindsOf nodes i (ks ++ map nullable (drop (length matched) ms))
      unfolding plan_rows plan_width
      outer_kinds nulls matched e at =
          let n = node.Outer j right matched nulls e in let hs = inputs_before nodes i n formed within at in
          let h = hs.0 in let g = hs.1.0 in
          let w = long_before nodes i n formed within at j ks h a in
          let v = long_before nodes i n formed within at right ms g b in
          let s = n_suits nodes i n formed within at in
          let wide = plan_width (take i nodes) right in
          let first = first_of_both (matches_first wide matched) (wide == length matched + nulls) s in
          let second = eqb-true wide (length matched + nulls) (second_of_both (matches_first wide matched) (wide == length matched + nulls) s) in
          let rest : ColumnKinds = drop (length matched) ms in
          gives nodes i n formed within at (ks ++ map nullable rest)
          (length-append ks (map nullable rest) ∙ (let d = length-drop (length matched) ms in let m = length-map rest nullable in omega (arith, w, v, d, m, second)))
          (λ db k.
          outer_fits matched ks ms (rest_drops matched wide first) nulls (rank_of e) (plan_rows db (take i nodes) j) (plan_rows db (take i nodes) right)
          (whole_before nodes i n formed within at db j ks h k a) (kept_before nodes i n formed within at db right ms g k b))

      pub outer_within : (nulls : ℕ) (matched : List (ℕ × ℕ)) (e : Expr) → node.Outer j right matched nulls e ≡ get_or nodes i (node.Outer j right matched nulls e) → length matched ≤ length ms
      outer_within nulls matched e at =
          let n = node.Outer j right matched nulls e in let g = (inputs_before nodes i n formed within at).1.0 in
          let v = long_before nodes i n formed within at right ms g b in
          let s = n_suits nodes i n formed within at in
          let w = plan_width (take i nodes) right in
          let first = first_of_both (matches_first w matched) (w == length matched + nulls) s in
          let l = leb-true (length matched) w (second_of_both (pointwise ◌==◌ (right_places matched) (range_with_len 0 (length matched))) (nat_le (length matched) w) first) in
          omega (arith, l, v)

-- the nodes that a node reads have their kinds
pub inputs_there : (nodes : List Node) (i : ℕ) (n : Node) (kinds : List ColumnKinds) → IsTrue (is_formed nodes) → i < length nodes → n ≡ get_or nodes i n → AreKindsOfFirst nodes i kinds
    → IsTrue (list_all (λ k. nat_lt k (length kinds)) (inputs_of n))
inputs_there nodes i n kinds formed within at a = subst (λ m. IsTrue (list_all (λ k. nat_lt k m) (inputs_of n))) (sym a.long) (inputs_are nodes i n formed within at)

module _ (nodes : List Node) (i : ℕ) (kinds : List ColumnKinds) (formed : IsTrue (is_formed nodes)) (within : i < length nodes) (a : AreKindsOfFirst nodes i kinds) where
  before_at : (n : Node) → n ≡ get_or nodes i n → Each (λ k. k < i) (inputs_of n)
  before_at n at = inputs_before nodes i n formed within at

  -- and the right one the columns that are matched
  pub matched_there : (n : Node) → n ≡ get_or nodes i n → IsTrue (has_matched kinds n)
  matched_there (node.Scan table) at = refl
  matched_there (node.Kept number plan) at = refl
  matched_there (node.Domain j cs) at = refl
  matched_there (node.Select j e) at = refl
  matched_there (node.Project j es) at = refl
  matched_there (node.Join j k matched e) at =
      let h = before_at (node.Join j k matched e) at in
      le-leb (length matched) (length (kinds_at kinds k))
      (matched_within nodes i formed within j (kinds_at kinds j) (a.each j h.0) k (kinds_at kinds k) (a.each k h.1.0) matched e at)
  matched_there (node.Outer j k matched nulls e) at =
      let h = before_at (node.Outer j k matched nulls e) at in
      le-leb (length matched) (length (kinds_at kinds k))
      (outer_within nodes i formed within j (kinds_at kinds j) (a.each j h.0) k (kinds_at kinds k) (a.each k h.1.0) nulls matched e at)
  matched_there (node.Mark j k matched e) at = refl
  matched_there (node.Single j k matched c) at = refl
  matched_there (node.Group j by aggregates) at = refl
  matched_there (node.Fill j k empty) at = refl
  matched_there (node.Distinct j) at = refl
  matched_there (node.Set j k operation) at = refl

  -- the kinds of a node, as they are made
  pub made_kinds : (n : Node) (new : ColumnKinds) → n ≡ get_or nodes i n → AreMade kinds n new → AreKindsOf nodes i new
  made_kinds (node.Scan table) new at m = subst (AreKindsOf nodes i) (sym m) (scan_kinds nodes i formed within table at)
  made_kinds (node.Kept number plan) new at m = subst (AreKindsOf nodes i) (sym m) (kept_kinds nodes i formed within number plan at)
  made_kinds (node.Domain j cs) new at m =
      let h = (before_at (node.Domain j cs) at).0 in
      subst (AreKindsOf nodes i) (sym m) (domain_kinds nodes i formed within j (kinds_at kinds j) (a.each j h) cs at)
  made_kinds (node.Select j e) new at m =
      let h = (before_at (node.Select j e) at).0 in
      subst (AreKindsOf nodes i) (sym m) (select_kinds nodes i formed within j (kinds_at kinds j) (a.each j h) e at)
  made_kinds (node.Project j es) new at m =
      let h = (before_at (node.Project j es) at).0 in
      project_kinds nodes i formed within j (kinds_at kinds j) (a.each j h) es new m at
  made_kinds (node.Join j k matched e) new at m =
      let h = before_at (node.Join j k matched e) at in
      subst (AreKindsOf nodes i) (sym m)
      (join_kinds nodes i formed within j (kinds_at kinds j) (a.each j h.0) k (kinds_at kinds k) (a.each k h.1.0) matched e at)
  made_kinds (node.Outer j k matched nulls e) new at m =
      let h = before_at (node.Outer j k matched nulls e) at in
      subst (AreKindsOf nodes i) (sym m)
      (outer_kinds nodes i formed within j (kinds_at kinds j) (a.each j h.0) k (kinds_at kinds k) (a.each k h.1.0) nulls matched e at)
  made_kinds (node.Mark j k matched e) new at m =
      let h = (before_at (node.Mark j k matched e) at).0 in
      subst (AreKindsOf nodes i) (sym m) (mark_kinds nodes i formed within j (kinds_at kinds j) (a.each j h) k matched e at)
  made_kinds (node.Single j k matched c) new at m =
      let h = (before_at (node.Single j k matched c) at).0 in
      subst (AreKindsOf nodes i) (sym m) (single_kinds nodes i formed within j (kinds_at kinds j) (a.each j h) k matched c at)
  made_kinds (node.Group j by aggregates) new at m =
      let h = (before_at (node.Group j by aggregates) at).0 in
      subst (AreKindsOf nodes i) (sym m) (group_kinds nodes i formed within j (kinds_at kinds j) (a.each j h) by aggregates at)
  made_kinds (node.Fill k j empty) new at m =
      let h = (before_at (node.Fill k j empty) at).1.0 in
      subst (AreKindsOf nodes i) (sym m) (fill_kinds nodes i formed within j (kinds_at kinds j) (a.each j h) k empty at)
  made_kinds (node.Distinct j) new at m =
      let h = (before_at (node.Distinct j) at).0 in
      subst (AreKindsOf nodes i) (sym m) (distinct_kinds nodes i formed within j (kinds_at kinds j) (a.each j h) at)
  made_kinds (node.Set j k operation) new at m =
      let h = (before_at (node.Set j k operation) at).0 in
      subst (AreKindsOf nodes i) (sym m) (set_kinds nodes i formed within j (kinds_at kinds j) (a.each j h) k operation at)

-- notes of some columns of a node
pub origins_are : {nodes : List Node} {i : ℕ} {kinds read : List ColumnKinds} {seen : ColumnKinds} {cs : List ℕ} {notes : List Origin} → AreKindsOfFirst nodes (length nodes) kinds
    → i < length nodes → read ≡ kinds → seen ≡ kinds_at read i → AreNotesOf seen cs notes → AreOrigins nodes i cs notes
origins_are {nodes = nodes} {i = i} {kinds = kinds} {seen = seen} {cs = cs} {notes = notes} a h same is made = record {
  noted = λ db k.
      noted_domain (kinds_at kinds i) cs notes (plan_rows db nodes i) (subst (λ ks. AreNotesOf ks cs notes) (is ∙ ap (λ ks. kinds_at ks i) same) made) ((a.each i h).kept db k);
}

-- the kinds of one node
pub column_kinds_are : {nodes : List Node} {i : ℕ} {kinds read : List ColumnKinds} {seen own : ColumnKinds} → AreKindsOfFirst nodes (length nodes) kinds → i < length nodes
    → read ≡ kinds → seen ≡ kinds_at read i → own ≡ seen → AreKindsOf nodes i own
column_kinds_are {nodes = nodes} {i = i} a h same is copied = subst (AreKindsOf nodes i) (sym (copied ∙ is ∙ ap (λ ks. kinds_at ks i) same)) (a.each i h)
