-- Groups by expressions are groups by the columns of a select list.
use Rattle.std.proofs.Common.{◌≡◌, ℕ, zero, suc, ◌+◌, ◌<◌, List, [], ◌∷◌, ◌++◌, Bool, map, length, get_or, refl, sym, ◌∙◌, ap, subst, arith, append_assoc, take}
use Rattle.std.specs.List.{range_with_len, filter}
use Rattle.std.proofs.lemmas.List.{length-map, map-append, get_or-map, same_lists, length-append, get_or_default, take_more, length-take}
use Rattle.std.proofs.lemmas.List.FromFn.{length-range_with_len, get_or-range_with_len}
use Rattle.base_row_laws.specs.Ranked.{Ranked, ranked, true_rank}
use Rattle.base_row_laws.specs.Bags.{each_once, classes}
use Rattle.base_row_laws.specs.Rows.{same_row, columns}
use Rattle.base_row_laws.specs.Operators.{project, least, group_by, total}
use Rattle.base_row_laws.proofs.Groups.{bottom-map}
use Rattle.base_row_laws.proofs.Lists.{map-map, map-ext, filter-map, filter-agree}
use Rattle.base_value.specs.declared.value.Value.{Value}
use Rattle.base_value.specs.declared.value.Value.TheVariants.{Null}
use Rattle.base_value.specs.Value.{same_value}
use Rattle.expr_scalar.specs.declared.expr.Expr.{Expr}
use Rattle.expr_scalar.specs.declared.expr.Expr.TheVariants.{Column}
use Rattle.expr_scalar.specs.Meaning.{value, values}
use Rattle.expr_scalar.proofs.Opened.{value_Column}
use Rattle.plan_algebra.specs.declared.aggregate.Aggregate.{Aggregate}
use Rattle.plan_algebra.specs.declared.aggregate.Aggregate.TheVariants.{CountRows, Of}
use Rattle.plan_algebra.specs.Aggregates.{argument_and_function, aggregates_of}
use Rattle.plan_algebra.specs.Plans.{groups}
use Rattle.exec_parallel_scan.specs.ExpressionGroups.{expression_groups, argument_of, at_place, place_aggregates}

-- the values of a select list
values-map : (es : List Expr) (row : List Value) → values es row ≡ map (λ e. value e row) es
unfolding values
values-map es row = refl

get_mid : {X : Type 0} (xs ys : List X) (x d : X) → get_or (xs ++ x ∷ ys) (length xs) d ≡ x
get_mid [] ys x d = refl
get_mid (z ∷ xs) ys x d = get_mid xs ys x d

get_first : {X : Type 0} (xs ys : List X) (i : ℕ) (d : X) → i < length xs → get_or (xs ++ ys) i d ≡ get_or xs i d
get_first [] ys i d l = absurd (omega (arith, l))
get_first (x ∷ xs) ys zero d l = refl
get_first (x ∷ xs) ys (suc i) d l = get_first xs ys i d (omega (arith, l))

-- the first columns of a row
first_columns : (us vs : List Value) → columns Null (range_with_len 0 (length us)) (us ++ vs) ≡ us
first_columns us vs =
    let w : ℕ = length us in
    let lr : length (range_with_len 0 w) ≡ w = length-range_with_len 0 w in
    let lm : length (columns Null (range_with_len 0 w) (us ++ vs)) ≡ w = length-map (range_with_len 0 w) (λ c. get_or (us ++ vs) c Null) ∙ lr in
    same_lists (columns Null (range_with_len 0 w) (us ++ vs)) us lm
    (λ k d l. let lk : k < w = omega (arith, l, lm) in
    let z : 0 + k ≡ k = omega arith in
    get_or-map (λ c. get_or (us ++ vs) c Null) (range_with_len 0 w) k 0 d (omega (arith, lk, lr)) ∙ ap (λ c. get_or (us ++ vs) c Null) (get_or-range_with_len 0 w k 0 lk ∙ z)
    ∙ get_first us vs k Null lk ∙ get_or_default us k Null d lk)

module _ (es : List Expr) (aggregates : List Aggregate) where
  abbrev items : List Expr
  items = es ++ map argument_of aggregates

  abbrev listed : Ranked Value → Ranked Value
  listed x = ranked (values items x.values) x.standing

  key_listed : (x : Ranked Value) → columns Null (range_with_len 0 (length es)) (listed x).values ≡ values es x.values
  key_listed x =
      let us : List Value = map (λ e. value e x.values) es in
      let vs : List Value = map (λ e. value e x.values) (map argument_of aggregates) in
      let n : length us ≡ length es = length-map es (λ e. value e x.values) in
      ap (columns Null (range_with_len 0 (length es))) (values-map items x.values ∙ map-append (λ e. value e x.values) es (map argument_of aggregates))
      ∙ ap (λ m. columns Null (range_with_len 0 m) (us ++ vs)) (sym n) ∙ first_columns us vs ∙ sym (values-map es x.values)

  -- each aggregate reads its argument at its place
  argument_listed : (a : Aggregate) (before after : List Aggregate) (n : ℕ) → before ++ a ∷ after ≡ aggregates → n ≡ length es + length before → (x : Ranked Value)
      → (argument_and_function (at_place n a)).0 (listed x).values ≡ (argument_and_function a).0 x.values
  argument_listed CountRows before after n is place x = refl
  argument_listed (Of function scale e) before after n is place x =
      let f : Expr → Value = λ y. value y x.values in
      let A : Aggregate = Of function scale e in
      let us : List Value = map f (es ++ map argument_of before) in
      let vs : List Value = map f (map argument_of after) in
      let lu : length us ≡ n = (let a = length-map (es ++ map argument_of before) f in let b = length-append es (map argument_of before) in let d = length-map before argument_of in omega (arith, a, b, d, place)) in
      let parts : items ≡ (es ++ map argument_of before) ++ e ∷ map argument_of after =
      ap (λ l. es ++ map argument_of l) (sym is) ∙ ap (λ l. es ++ l) (map-append argument_of before (A ∷ after)) ∙ sym (append_assoc es (map argument_of before) (e ∷ map argument_of after)) in
      let row : values items x.values ≡ us ++ f e ∷ vs =
      values-map items x.values ∙ ap (map f) parts ∙ map-append f (es ++ map argument_of before) (e ∷ map argument_of after) in
      value_Column n (values items x.values) ∙ ap (λ r. get_or r n Null) row ∙ ap (λ m. get_or (us ++ f e ∷ vs) m Null) (sym lu) ∙ get_mid us vs (f e) Null

  function_kept : (a : Aggregate) (n : ℕ) → (argument_and_function (at_place n a)).1 ≡ (argument_and_function a).1
  function_kept CountRows n = refl
  function_kept (Of function scale e) n = refl

  abbrev made : List (Ranked Value) → Aggregate → Value
  made xs a = (argument_and_function a).1 (map (λ y. (argument_and_function a).0 y.values) xs)

  aggregates_listed : (before after : List Aggregate) (n : ℕ) → before ++ after ≡ aggregates → n ≡ length es + length before → (xs : List (Ranked Value))
      → map (made (map listed xs)) (place_aggregates n after) ≡ map (made xs) after
  aggregates_listed before [] n is place xs = refl
  aggregates_listed before (a ∷ after) n is place xs =
      let arguments : map (λ y. (argument_and_function (at_place n a)).0 y.values) (map listed xs) ≡ map (λ y. (argument_and_function a).0 y.values) xs =
      map-map (λ y. (argument_and_function (at_place n a)).0 y.values) listed xs
      ∙ map-ext (λ x. (argument_and_function (at_place n a)).0 (listed x).values) (λ x. (argument_and_function a).0 x.values) xs (argument_listed a before after n is place) in
      let first : made (map listed xs) (at_place n a) ≡ made xs a =
      ap (argument_and_function (at_place n a)).1 arguments ∙ ap (λ f. f (map (λ y. (argument_and_function a).0 y.values) xs)) (function_kept a n) in
      let long : suc n ≡ length es + length (before ++ a ∷ []) = (let b = length-append before (a ∷ []) in omega (arith, place, b)) in
      ap (λ v. v ∷ map (made (map listed xs)) (place_aggregates (suc n) after)) first
      ∙ ap (λ l. made xs a ∷ l) (aggregates_listed (before ++ a ∷ []) after (suc n) (append_assoc before (a ∷ []) after ∙ is) long xs)

  aggregates-map : (all : List Aggregate) (xs : List (Ranked Value)) → aggregates_of all xs ≡ map (made xs) all
  unfolding aggregates_of
  aggregates-map all xs = map-map (λ a. a.1 (map (λ y. a.0 y.values) xs)) argument_and_function all

  all_listed : (xs : List (Ranked Value)) → aggregates_of (place_aggregates (length es) aggregates) (map listed xs) ≡ aggregates_of aggregates xs
  all_listed xs =
      let z : length es ≡ length es + 0 = omega arith in
      aggregates-map (place_aggregates (length es) aggregates) (map listed xs) ∙ aggregates_listed [] aggregates (length es) refl z xs ∙ sym (aggregates-map aggregates xs)

  least_listed : (xs : List (Ranked Value)) → least (map listed xs) ≡ least xs
  least_listed xs = bottom-map true_rank (λ (r : Ranked Value). r.standing) listed xs

-- groups by the first columns of a select list
pub by_expressions : (es : List Expr) (aggregates : List Aggregate) (xs : List (Ranked Value))
    → groups (range_with_len 0 (length es)) (place_aggregates (length es) aggregates) (project (values (es ++ map argument_of aggregates)) xs) ≡ expression_groups es aggregates xs
by_expressions [] aggregates xs =
    ap (λ vs. ranked vs (least (map (listed [] aggregates) xs)) ∷ []) (all_listed [] aggregates xs) ∙ ap (λ s. ranked (aggregates_of aggregates xs) s ∷ []) (least_listed [] aggregates xs)
by_expressions (e ∷ more) aggregates xs =
    let es : List Expr = e ∷ more in
    let S : List Value → List Value → Bool = same_row same_value in
    let p : Ranked Value → Ranked Value = listed es aggregates in
    let by : List ℕ = range_with_len 0 (length es) in
    let key : Ranked Value → List Value = λ x. values es x.values in
    let listed_key : Ranked Value → List Value = λ x. columns Null by x.values in
    let F : List Value → List (Ranked Value) → Ranked Value = λ k ys. ranked (k ++ aggregates_of aggregates ys) (least ys) in
    let G : List Value → List (Ranked Value) → Ranked Value = λ k ys. ranked (k ++ aggregates_of (place_aggregates (length es) aggregates) ys) (least ys) in
    let keys : map listed_key (map p xs) ≡ map key xs = map-map listed_key p xs ∙ map-ext (λ x. listed_key (p x)) key xs (key_listed es aggregates) in
    let each : (k : List Value) → G k (filter (λ x. S (listed_key x) k) (map p xs)) ≡ F k (filter (λ x. S (key x) k) xs) =
    λ k. let rows : filter (λ x. S (listed_key x) k) (map p xs) ≡ map p (filter (λ x. S (key x) k) xs) =
    filter-map (λ x. S (listed_key x) k) p xs
    ∙ ap (map p) (filter-agree (λ x. S (listed_key (p x)) k) (λ x. S (key x) k) xs (λ x. ap (λ l. S l k) (key_listed es aggregates x))) in
    let ys : List (Ranked Value) = filter (λ x. S (key x) k) xs in
    ap (G k) rows ∙ ap (λ vs. ranked (k ++ vs) (least (map p ys))) (all_listed es aggregates ys) ∙ ap (λ s. ranked (k ++ aggregates_of aggregates ys) s) (least_listed es aggregates ys) in
    map-ext (λ k. G k (filter (λ x. S (listed_key x) k) (map p xs))) (λ k. F k (filter (λ x. S (key x) k) xs)) (each_once S (map listed_key (map p xs))) each
    ∙ ap (λ ks. map (λ k. F k (filter (λ x. S (key x) k) xs)) (each_once S ks)) keys

-- an aggregate more
places-push : (first : ℕ) (all : List Aggregate) (a : Aggregate) → place_aggregates first (all ++ a ∷ []) ≡ place_aggregates first all ++ at_place (first + length all) a ∷ []
places-push first [] a = let z : first ≡ first + 0 = omega arith in ap (λ n. at_place n a ∷ []) z
places-push first (b ∷ all) a =
    let m : suc first + length all ≡ first + suc (length all) = omega arith in
    ap (λ l. at_place first b ∷ l) (places-push (suc first) all a ∙ ap (λ n. place_aggregates (suc first) all ++ at_place n a ∷ []) m)

pub places_more : (first : ℕ) (all : List Aggregate) (i : ℕ) (a : Aggregate) → i < length all → a ≡ get_or all i a → place_aggregates first (take (i + 1) all) ≡ place_aggregates first (take i all) ++ at_place (first + i) a ∷ []
places_more first all i a l is =
    let n : length (take i all) ≡ i = (let t = length-take i all in omega (arith, t, l)) in
    ap (place_aggregates first) (take_more all i a l ∙ ap (λ x. take i all ++ x ∷ []) (sym is)) ∙ places-push first (take i all) a
    ∙ ap (λ m. place_aggregates first (take i all) ++ at_place (first + m) a ∷ []) n

places-length : (first : ℕ) (all : List Aggregate) → length (place_aggregates first all) ≡ length all
places-length first [] = refl
places-length first (a ∷ all) = ap suc (places-length (suc first) all)

-- in the words of the code
pub grouped_width : (es : List Expr) (aggregates moved : List Aggregate) (by : List ℕ) → by ≡ range_with_len 0 (length es) → moved ≡ place_aggregates (length es) aggregates
    → length by + length moved ≡ length es + length aggregates
grouped_width es aggregates moved by is_b is_m =
    let b : length by ≡ length es = ap length is_b ∙ length-range_with_len 0 (length es) in
    let m : length moved ≡ length aggregates = ap length is_m ∙ places-length (length es) aggregates in
    omega (arith, b, m)

pub grouped_rows : (es list : List Expr) (aggregates moved : List Aggregate) (by : List ℕ) (xs rows : List (Ranked Value)) → by ≡ range_with_len 0 (length es) → moved ≡ place_aggregates (length es) aggregates
    → list ≡ es ++ map argument_of aggregates → rows ≡ project (values list) xs → groups by moved rows ≡ expression_groups es aggregates xs
grouped_rows es list aggregates moved by xs rows is_b is_m is_i is_r =
    ap (λ b. groups b moved rows) is_b ∙ ap (λ m. groups (range_with_len 0 (length es)) m rows) is_m
    ∙ ap (groups (range_with_len 0 (length es)) (place_aggregates (length es) aggregates)) (is_r ∙ ap (λ l. project (values l) xs) is_i) ∙ by_expressions es aggregates xs
