-- Groups by a domain's columns, some of them twice.
use Rattle.std.proofs.Common.{◌≡◌, ℕ, ◌+◌, ◌<◌, ◌≤◌, List, [], ◌∷◌, ◌++◌, map, refl, sym, ◌∙◌, ap, subst}
use Rattle.std.proofs.Common.{arith, length, take, drop, Bool, false, inl, inr, slice_index_or}
use Rattle.std.specs.List.{All, filter, range_with_len}
use Rattle.std.proofs.Math.Seq.{take-append_seam}
use Rattle.std.proofs.lemmas.Bool.{cases_Bool, true≢false}
use Rattle.std.proofs.lemmas.List.{append-nil, length-append, length-map, length-take-le}
use Rattle.std.proofs.lemmas.List.{get_or_append_left, take-append-drop}
use Rattle.std.proofs.lemmas.List.Elements.{All-head, All-tail}
use Rattle.base_row_laws.specs.Ranked.{Ranked, ranked}
use Rattle.base_row_laws.specs.Bags.{Each, each_once}
use Rattle.base_row_laws.specs.Rows.{columns, same_row}
use Rattle.base_row_laws.specs.Operators.{project, group_by, least}
use Rattle.base_row_laws.specs.Domains.{Wide}
use Rattle.base_row_laws.proofs.AtHand.{group_at_hand}
use Rattle.base_row_laws.proofs.Classes.{each_once-map}
use Rattle.base_row_laws.proofs.Lists.{map-map, map-ext_each, filter-agree, Each-map, Each-each_once}
use Rattle.base_row_laws.proofs.Lists.{Each-weaker}
use Rattle.base_row_laws.proofs.Rows.{same_row_is}
use Rattle.base_value.specs.declared.value.Value.{Value}
use Rattle.base_value.specs.declared.value.Value.TheVariants.{Null}
use Rattle.base_value.specs.Value.{same_value}
use Rattle.base_value.proofs.Identity.{value_identity}
use Rattle.expr_scalar.specs.declared.expr.Expr.{Expr}
use Rattle.expr_scalar.specs.declared.expr.Expr.TheVariants.{Column}
use Rattle.expr_scalar.specs.Meaning.{values}
use Rattle.expr_scalar.specs.Rename.{gathered}
use Rattle.expr_conditions.specs.Ranks.{columns_from}
use Rattle.expr_conditions.proofs.Gather.{gather_append, gather_at}
use Rattle.plan_algebra.specs.declared.aggregate.Aggregate.{Aggregate}
use Rattle.plan_algebra.specs.declared.node.Node.{Node}
use Rattle.plan_algebra.specs.declared.node.Node.TheVariants.{Group, Project}
use Rattle.plan_algebra.specs.Aggregates.{aggregates_of}
use Rattle.plan_algebra.proofs.NoRows.{length-aggregates_of}
use Rattle.plan_unnested_nodes.specs.Growth.{IsPut}
use Rattle.plan_unnested_nodes.specs.Lowerings.{IsGrouped, with_again}
use Rattle.plan_unnested_nodes.proofs.Wide.{column_values, keyed_wide}

-- a key, and after it some of its columns
abbrev pub again : List ℕ → List Value → List Value
again by key = key ++ columns Null by key

abbrev identical : List Value → List Value → Bool
identical a b = same_row same_value a b

again_wide : (by : List ℕ) (key : List Value) → length (again by key) ≡ length key + length by
again_wide by key =
    length-append key (columns Null by key)
    ∙ ap (λ n. length key + n) (length-map by _)

first_same : (by : List ℕ) (a b : List Value) → again by a ≡ again by b → a ≡ b
first_same by a b e =
    let same : length a ≡ length b =
    let l = ap length e in let la = again_wide by a in let lb = again_wide by b in omega (arith, l, la, lb) in
    sym (take-append_seam a (columns Null by a)) ∙ ap (take (length a)) e
    ∙ ap (λ n. take n (again by b)) same ∙ take-append_seam b (columns Null by b)

-- such keys are identical where the keys are
pub keyed : (by : List ℕ) (a b : List Value)
    → identical (again by a) (again by b) ≡ identical a b
keyed by a b =
    let is = same_row_is same_value value_identity in
    elim (cases_Bool (identical a b)) [
      | inl t ↦ subst (λ x. identical (again by a) (again by x) ≡ identical a x) (is.tells a b t)
          (is.meets (again by a) ∙ sym (is.meets a))
      | inr f ↦ elim (cases_Bool (identical (again by a) (again by b))) [
        | inl t ↦ absurd (true≢false (sym (is.meets a) ∙ subst (λ x. identical a x ≡ false)
            (sym (first_same by a b (is.tells (again by a) (again by b) t))) f))
        | inr g ↦ g ∙ sym f
      ]
    ]

module _ (n : ℕ) (by : List ℕ) (key list : List Value → List Value)
    (A : List (Ranked Value) → List Value)
    (reads : (k : List Value) (ys : List (Ranked Value)) → length k ≡ n
    → list (k ++ A ys) ≡ again by k ++ A ys) where
  -- Groups by a key and some of its columns are the groups by the key, each with these columns.
  pub grouped_again : (xs : List (Ranked Value)) → Each (λ x. length (key x.values) ≡ n) xs
      → project list (group_by same_value key A xs) ≡ group_by same_value (λ x. again by (key x)) A xs
  grouped_again xs wide =
      let K : Ranked Value → List Value = λ x. key x.values in
      let ks = each_once identical (map K xs) in
      let part : List Value → List (Ranked Value) = λ k. filter (λ x. identical (K x) k) xs in
      let those : List Value → List (Ranked Value) = λ k. filter (λ x. identical (again by (K x)) k) xs in
      let made : List Value → Ranked Value = λ k. ranked (k ++ A (those k)) (least (those k)) in
      let keys_wide : Each (λ k. length k ≡ n) ks =
      Each-each_once (λ k. length k ≡ n) identical (map K xs) (Each-map (λ k. length k ≡ n) K xs wide) in
      map-map (λ y. ranked (list y.values) y.standing) (λ k. ranked (k ++ A (part k)) (least (part k))) ks
      ∙ map-ext_each (λ k. length k ≡ n) (λ k. ranked (list (k ++ A (part k))) (least (part k)))
      (λ k. made (again by k)) ks keys_wide
      (λ k wk. ap (λ v. ranked v (least (part k))) (reads k (part k) wk)
      ∙ ap (λ ys. ranked (again by k ++ A ys) (least ys))
      (filter-agree (λ x. identical (K x) k) (λ x. identical (again by (K x)) (again by k)) xs
      (λ x. sym (keyed by (K x) k))))
      ∙ sym (map-map made (again by) ks)
      ∙ ap (map made) (sym (each_once-map identical identical (again by) (keyed by) (map K xs))
      ∙ ap (each_once identical) (map-map (again by) K xs))

-- columns of a row that stands before others
first_columns : (by : List ℕ) (x t : List Value) → All (λ c. c < length x) by
    → columns Null by (x ++ t) ≡ columns Null by x
first_columns [] x t below = refl
first_columns (c ∷ by) x t below =
    ap (λ v. v ∷ columns Null by (x ++ t))
    (get_or_append_left x t Null c (All-head (λ c. c < length x) c by below))
    ∙ ap (λ l. slice_index_or x c Null ∷ l)
    (first_columns by x t (All-tail (λ c. c < length x) c by below))

taken_columns : (n : ℕ) (by : List ℕ) (x : List Value) → n ≤ length x → All (λ c. c < n) by
    → columns Null by (take n x) ≡ columns Null by x
taken_columns n by x long below =
    let wide : n ≡ length (take n x) = sym (length-take-le n x long) in
    sym (first_columns by (take n x) (drop n x) (subst (λ m. All (λ c. c < m) by) wide below))
    ∙ ap (columns Null by) (take-append-drop n x)

-- the select list over the groups
listed_again : (n : ℕ) (by : List ℕ) (k a : List Value) (m : ℕ) → length k ≡ n → length a ≡ m
    → All (λ c. c < n) by → columns Null (with_again n by m) (k ++ a) ≡ again by k ++ a
unfolding gathered
listed_again n by k a m lk la below =
    let row = k ++ a in
    gather_append (columns_from 0 n ++ by) (columns_from n m) row
    ∙ ap (λ l. l ++ gathered (columns_from n m) row)
    (gather_append (columns_from 0 n) by row
    ∙ ap (λ l. l ++ gathered by row) (gather_at 0 n row [] k a refl refl lk)
    ∙ ap (λ l. k ++ l) (first_columns by k a (subst (λ j. All (λ c. c < j) by) (sym lk) below)))
    ∙ ap (λ l. again by k ++ l)
    (gather_at n m row k a [] (ap (λ l. k ++ l) (sym (append-nil a))) lk la)

pub regrouped_wide : (n : ℕ) (by : List ℕ) (aggregates : List Aggregate)
    (xs : List (Ranked Value)) → All (λ c. c < n) by → Wide n xs
    → project (values (map Column (with_again n by (length aggregates))))
    (group_by same_value (columns Null (range_with_len 0 n)) (aggregates_of aggregates) xs)
    ≡ group_by same_value (λ x. take n x ++ columns Null by x) (aggregates_of aggregates) xs
regrouped_wide n by aggregates xs below wide =
    let A = aggregates_of aggregates in
    let list = with_again n by (length aggregates) in
    ap (project (values (map Column list))) (keyed_wide n A xs wide)
    ∙ grouped_again n by (λ x. take n x) (values (map Column list)) A
    (λ k ys lk. column_values list (k ++ A ys)
    ∙ listed_again n by k (A ys) (length aggregates) lk (length-aggregates_of aggregates ys) below)
    xs
    (Each-weaker (λ x. n ≤ length x.values) (λ x. length (take n x.values) ≡ n) xs
    (λ x h. length-take-le n x.values h) wide)
    ∙ group_at_hand same_value (λ x. again by (take n x)) (λ x. take n x ++ columns Null by x) A A xs
    (Each-weaker (λ x. n ≤ length x.values)
    (λ x. again by (take n x.values) ≡ take n x.values ++ columns Null by x.values) xs
    (λ x h. ap (λ l. take n x.values ++ l) (taken_columns n by x.values h below)) wide)
    (λ p. refl)

-- the nodes as the code puts them
pub again_put : {old mid new : List Node} {rows width n groups id : ℕ} {keys places : List ℕ}
    {aggregates computed : List Aggregate} {list : List Expr} (by : List ℕ)
    → All (λ c. c < width) by
    → keys ≡ range_with_len 0 width → computed ≡ aggregates → n ≡ length aggregates
    → places ≡ with_again width by n → list ≡ map Column places
    → IsPut old mid (Group rows keys computed) groups → IsPut mid new (Project groups list) id
    → IsGrouped old new rows width by aggregates id
again_put {old = old} {mid = mid} {new = new} {rows = rows} {width = width} {id = id} {aggregates = aggregates} by below k a m cs l p q =
    let node : Node = Project (length old) (map Column (with_again width by (length aggregates))) in
    let here : mid ≡ old ++ Group rows (range_with_len 0 width) aggregates ∷ [] =
    p.nodes ∙ (λ i. old ++ Group rows (k i) (a i) ∷ []) in
    let there = l ∙ ap (map Column) (cs ∙ ap (with_again width by) m) in
    inr (
      below,
      subst (λ z. IsPut z new node id) here
          (subst (λ y. IsPut mid new y id) (λ i. Project (p.number i) (there i)) q),
    )
