-- The columns that rows are grouped by, and their values at the first places.
use Rattle.std.proofs.Common.{◌≡◌, ℕ, ℤ, ◌<◌, ◌≤◌, List, [], ◌∷◌, Bool, true, map, length, get_or, replicate, refl, sym, ◌∙◌, ap, subst, arith, inl, inr}
use Rattle.std.specs.Prelude.{false, ◌&&◌}
use Rattle.std.specs.Ordering.{int_eq}
use Rattle.std.specs.List.{All}
use Rattle.std.proofs.lemmas.Bool.{cases_Bool, true≢false}
use Rattle.std.proofs.lemmas.List.{length-map, get_or-map, get_or_past, same_lists, length-replicate, get_or-replicate}
use Rattle.std.proofs.lemmas.Option.{slice_get-get_or}
use Rattle.base_row_laws.specs.Ranked.{Ranked, ranked, true_rank}
use Rattle.base_row_laws.specs.Bags.{IsIdentity, has, each_once}
use Rattle.base_row_laws.specs.Rows.{same_row, columns}
use Rattle.base_row_laws.specs.Numbers.{place_in, numbers_of}
use Rattle.base_row_laws.specs.Operators.{domain_node}
use Rattle.base_row_laws.proofs.Rows.{same_row_is}
use Rattle.base_row_laws.proofs.NumberLists.{has_there, place_found, distinct_each_once}
use Rattle.base_key_tables.specs.Distinct.{first_places}
use Rattle.base_key_tables.proofs.NumberSteps.{has_each_once}
use Rattle.base_value.specs.declared.truth.Standing.{Standing}
use Rattle.base_value.specs.declared.truth.Standing.TheVariants.{AtTrue}
use Rattle.base_value.specs.declared.value.Value.{Value}
use Rattle.base_value.specs.declared.value.Value.TheVariants.{Null, Number}
use Rattle.base_value.specs.Truth.{standing_rank}
use Rattle.base_value.specs.Value.{same_value}
use Rattle.base_value.proofs.Identity.{value_identity}
use Rattle.base_columns.specs.Lists.{gathered, AreBelow}
use Rattle.base_columns.specs.Batches.{cells, AreLong, column_at, column_relation, row_at}
use Rattle.base_columns.proofs.BatchRows.{cells_gathered, long_below, relation-at, relation-length, relation-width, long_gathered}
use Rattle.exec_row_keys.specs.Keys.{Tells, same_at, AreCodes, AreKeys}
use Rattle.exec_row_keys.proofs.CodeLists.{number_codes}
use Rattle.exec_row_keys.proofs.Told.{numbers_told, firsts_told}
use Rattle.base_key_tables.specs.Keys.{same_two}
use Rattle.exec_hash_group.specs.Keys.{key_rows, key_columns}
use Rattle.exec_hash_group.proofs.Grouped.{keys_at_first_places}

pub long_keys : (rows : List (Ranked Value)) (by : List ℕ) → AreLong (length rows) (key_columns rows by)
unfolding AreLong
long_keys rows [] = tt
long_keys rows (c ∷ by) = (length-map rows (λ r. get_or r.values c Null), long_keys rows by)

cells_at : (rows : List (Ranked Value)) (by : List ℕ) (i : ℕ) → i < length rows → cells (key_columns rows by) i ≡ columns Null by (row_at rows i).values
cells_at rows [] i l = refl
cells_at rows (c ∷ by) i l = rw (get_or-map (λ (r : Ranked Value). get_or r.values c Null) rows i (ranked [] true_rank) Null l, cells_at rows by i l) refl

pub cells_of_keys : (rows : List (Ranked Value)) (by : List ℕ) (i : ℕ) (none : List Value) → i < length rows → cells (key_columns rows by) i ≡ get_or (key_rows by rows) i none
cells_of_keys rows by i none l = cells_at rows by i l ∙ sym (get_or-map (λ (r : Ranked Value). columns Null by r.values) rows i (ranked [] true_rank) none l)

-- a column that isn't there is null
pub no_column : (rows : List (Ranked Value)) (w j : ℕ) → All (λ r. length r.values ≡ w) rows → w ≤ j → column_at rows j ≡ replicate (length rows) Null
no_column rows w j wide le =
    same_lists (column_at rows j) (replicate (length rows) Null) (length-map rows (λ r. get_or r.values j Null) ∙ sym (length-replicate (length rows) Null))
    (λ k d l. let n : k < length rows = (let m = length-map rows (λ (r : Ranked Value). get_or r.values j Null) in omega (arith, l, m)) in
    let e = wide k (ranked [] true_rank) n in
    get_or-map (λ (r : Ranked Value). get_or r.values j Null) rows k (ranked [] true_rank) d n
    ∙ get_or_past (row_at rows k).values j Null (omega (arith, e, le))
    ∙ sym (get_or-replicate (length rows) k Null d n))

-- keys of the columns are those of the rows
pub keys_told : (rows : List (Ranked Value)) (by : List ℕ) (keys : List (ℤ × ℤ)) → AreKeys (key_columns rows by) (length rows) keys
    → (numbers_of same_two keys ≡ numbers_of (same_row same_value) (key_rows by rows)) × (first_places same_two keys ≡ first_places (same_row same_value) (key_rows by rows))
keys_told rows by keys k =
    let xs : List (List Value) = key_rows by rows in
    let n : length xs ≡ length rows = length-map rows (λ r. columns Null by r.values) in
    let t : Tells same_two (same_at (same_row same_value) [] xs) (length xs) keys = record {
      long = k.long ∙ sym n;
      tells = λ i j d e l m.
          let li : i < length rows = omega (arith, l, n) in
          let lj : j < length rows = omega (arith, m, n) in
          k.tells i j d e li lj
          ∙ ap (λ r. same_row same_value r (cells (key_columns rows by) j)) (cells_of_keys rows by i [] li)
          ∙ ap (λ r. same_row same_value (get_or xs i []) r) (cells_of_keys rows by j [] lj);
    } in
    (numbers_told (same_row same_value) same_two [] xs keys t, firsts_told (same_row same_value) same_two [] xs keys t)

-- codes of a column's values have their numbers
pub codes_told : (column : List Value) (codes : List ℤ) → AreCodes column codes → (numbers_of int_eq codes ≡ numbers_of same_value column) × (first_places int_eq codes ≡ first_places same_value column)
codes_told column codes t = (numbers_told same_value int_eq Null column codes t, firsts_told same_value int_eq Null column codes t)

pub coefficients_told : (column : List Value) (scale : ℕ) (ns : List ℤ) → column ≡ map (Number scale) ns
    → (numbers_of int_eq ns ≡ numbers_of same_value column) × (first_places int_eq ns ≡ first_places same_value column)
coefficients_told column scale ns e =
    let A : List Value → Type 0 = λ vs. AreCodes vs ns in codes_told column ns (subst A (sym e) (number_codes scale ns))

alone : (b : Bool) → b ≡ (b && true)
alone true = refl
alone false = refl

-- the values of one column have the numbers of the rows
one_told : (rows : List (Ranked Value)) (c : ℕ)
    → (numbers_of same_value (column_at rows c) ≡ numbers_of (same_row same_value) (key_rows (c ∷ []) rows))
    × (first_places same_value (column_at rows c) ≡ first_places (same_row same_value) (key_rows (c ∷ []) rows))
one_told rows c =
    let xs : List (List Value) = key_rows (c ∷ []) rows in
    let column : List Value = column_at rows c in
    let n : length xs ≡ length rows = length-map rows (λ r. columns Null (c ∷ []) r.values) in
    let m : length column ≡ length rows = length-map rows (λ r. get_or r.values c Null) in
    let key_at : (i : ℕ) → i < length rows → get_or xs i [] ≡ get_or (row_at rows i).values c Null ∷ [] =
    λ i l. get_or-map (λ (r : Ranked Value). columns Null (c ∷ []) r.values) rows i (ranked [] true_rank) [] l in
    let value_at : (i : ℕ) (d : Value) → i < length rows → get_or column i d ≡ get_or (row_at rows i).values c Null =
    λ i d l. get_or-map (λ (r : Ranked Value). get_or r.values c Null) rows i (ranked [] true_rank) d l in
    let t : Tells same_value (same_at (same_row same_value) [] xs) (length xs) column = record {
      long = m ∙ sym n;
      tells = λ i j d e l k.
          let li : i < length rows = omega (arith, l, n) in
          let lj : j < length rows = omega (arith, k, n) in
          rw (value_at i d li, value_at j e lj, key_at i li, key_at j lj) (alone (same_value (get_or (row_at rows i).values c Null) (get_or (row_at rows j).values c Null)));
    } in
    (numbers_told (same_row same_value) same_value [] xs column t, firsts_told (same_row same_value) same_value [] xs column t)

pub column_told : (rows : List (Ranked Value)) (by : List ℕ) (cs : List (List Value)) (d : List Value) → cs ≡ key_columns rows by → length cs ≡ 1
    → (numbers_of same_value (get_or cs 0 d) ≡ numbers_of (same_row same_value) (key_rows by rows))
    × (first_places same_value (get_or cs 0 d) ≡ first_places (same_row same_value) (key_rows by rows))
column_told rows [] cs d is n = absurd (let l = ap length is in omega (arith, l, n))
column_told rows (c ∷ []) cs d is n = rw is (one_told rows c)
column_told rows (c ∷ b ∷ by) cs d is n = absurd (let l = ap length is in omega (arith, l, n))

module _ {X : Type 0} (same : X → X → Bool) (is : IsIdentity same) where
  place_within : (xs : List X) (x : X) → has same x xs ≡ true → place_in same xs x < length xs
  place_within [] x h = absurd (true≢false (sym h))
  place_within (y ∷ ys) x h = elim (cases_Bool (same x y)) [
    | inl t ↦ rw t (omega arith)
    | inr f ↦ (let h' : has same x ys ≡ true = rw f at h in let ih = place_within ys x h' in rw f (omega (arith, ih)))
  ]

  has_once : (xs : List X) (k : ℕ) (none : X) → k < length (each_once same xs) → has same (get_or (each_once same xs) k none) xs ≡ true
  has_once xs k none l =
      let x : X = get_or (each_once same xs) k none in
      sym (has_each_once same is x xs) ∙ has_there same is (each_once same xs) x k (slice_get-get_or (each_once same xs) k none l)

  firsts-length : (xs : List X) → length (first_places same xs) ≡ length (each_once same xs)
  firsts-length xs = length-map (each_once same xs) (place_in same xs)

  pub firsts_below : (none : X) (xs : List X) → AreBelow (length xs) (first_places same xs)
  firsts_below none xs = λ k d l.
      let n = firsts-length xs in
      let m : k < length (each_once same xs) = omega (arith, l, n) in
      subst (λ p. p < length xs) (sym (get_or-map (place_in same xs) (each_once same xs) k none d m))
      (place_within xs (get_or (each_once same xs) k none) (has_once xs k none m))

  -- what stands at a first place
  pub key_at_first : (none : X) (xs : List X) (k : ℕ) → k < length (first_places same xs) → get_or xs (get_or (first_places same xs) k 0) none ≡ get_or (each_once same xs) k none
  key_at_first none xs k l =
      sym (get_or-map (λ i. get_or xs i none) (first_places same xs) k 0 none l) ∙ ap (λ ys. get_or ys k none) (keys_at_first_places same is none xs)

  -- the number that stands there
  pub number_at_first : (none : X) (xs : List X) (k : ℕ) → k < length (first_places same xs) → get_or (numbers_of same xs) (get_or (first_places same xs) k 0) 0 ≡ k
  number_at_first none xs k l =
      let E : List X = each_once same xs in
      let n = firsts-length xs in
      let m : k < length E = omega (arith, l, n) in
      let p : get_or (first_places same xs) k 0 < length xs = firsts_below none xs k 0 l in
      get_or-map (place_in same E) xs (get_or (first_places same xs) k 0) none 0 p
      ∙ ap (place_in same E) (key_at_first none xs k l)
      ∙ place_found same is E k (get_or E k none) (distinct_each_once same is xs) (slice_get-get_or E k none m)

  numbers_below : (none : X) (xs : List X) → AreBelow (length (first_places same xs)) (numbers_of same xs)
  numbers_below none xs = λ k d l.
      let E : List X = each_once same xs in
      let n = firsts-length xs in
      let m : k < length xs = (let w = length-map xs (place_in same E) in omega (arith, l, w)) in
      let x : X = get_or xs k none in
      let h : has same x E ≡ true = has_each_once same is x xs ∙ has_there same is xs x k (slice_get-get_or xs k none m) in
      let w = place_within E x h in
      subst (λ p. p < length (first_places same xs)) (sym (get_or-map (place_in same E) xs k none d m)) (omega (arith, w, n))

pub row_identity : IsIdentity (same_row same_value)
row_identity = same_row_is same_value value_identity

module _ (rows : List (Ranked Value)) (by : List ℕ) where
  abbrev S : List Value → List Value → Bool
  S = same_row same_value

  abbrev E : List (List Value)
  E = each_once S (key_rows by rows)

  abbrev F : List ℕ
  F = first_places S (key_rows by rows)

  keys_length : length (key_rows by rows) ≡ length rows
  keys_length = length-map rows (λ r. columns Null by r.values)

  pub rows_below : AreBelow (length rows) F
  rows_below = subst (λ n. AreBelow n F) keys_length (firsts_below S row_identity [] (key_rows by rows))

  pub columns_below : All (λ c. AreBelow (length c) F) (key_columns rows by)
  columns_below = long_below (length rows) (key_columns rows by) F (long_keys rows by) rows_below

  pub picked_key : (k : ℕ) → k < length F → cells (map (λ c. gathered Null c F) (key_columns rows by)) k ≡ get_or E k []
  picked_key k l =
      cells_gathered (key_columns rows by) F k l ∙ cells_of_keys rows by (get_or F k 0) [] (rows_below k 0 l)
      ∙ key_at_first S row_identity [] (key_rows by rows) k l

  pub firsts_are_once : length F ≡ length E
  firsts_are_once = firsts-length S row_identity (key_rows by rows)

  pub all_numbers_below : AreBelow (length F) (numbers_of S (key_rows by rows))
  all_numbers_below = numbers_below S row_identity [] (key_rows by rows)

  -- the rows of a domain
  pub domain_rows : (picked : List (List Value)) (n : ℕ) → picked ≡ map (λ c. gathered Null c F) (key_columns rows by) → n ≡ length F
      → (column_relation picked (replicate n AtTrue)).rows ≡ domain_node same_value (columns Null by) rows
  domain_rows picked n is m =
      let ss : List Standing = replicate n AtTrue in
      let left : List (Ranked Value) = (column_relation picked ss).rows in
      let ls : length ss ≡ n = length-replicate n AtTrue in
      let ll : length left ≡ n = relation-length picked ss ∙ ls in
      let lr = length-map E (λ k. ranked k true_rank) in
      let fe = firsts_are_once in
      same_lists left (map (λ k. ranked k true_rank) E) (omega (arith, ll, lr, fe, m))
      (λ k d i. let o : k < n = omega (arith, i, ll) in
      let p : k < length F = omega (arith, o, m) in
      let q : k < length E = omega (arith, p, fe) in
      relation-at picked ss k AtTrue d (omega (arith, o, ls))
      ∙ ap (λ s. ranked (cells picked k) (standing_rank s)) (get_or-replicate n k AtTrue AtTrue o)
      ∙ ap (λ cs. ranked (cells cs k) true_rank) is
      ∙ ap (λ vs. ranked vs true_rank) (picked_key k p)
      ∙ sym (get_or-map (λ k. ranked k true_rank) E k [] d q))

-- in the words of the code
pub keys_below : (rows : List (Ranked Value)) (by : List ℕ) (keys : List (List Value)) (firsts : List ℕ) → keys ≡ key_columns rows by
    → firsts ≡ first_places (same_row same_value) (key_rows by rows) → All (λ c. AreBelow (length c) firsts) keys
keys_below rows by keys firsts is_k is_f =
    let P : List (List Value) → Type 0 = λ ks. All (λ c. AreBelow (length c) firsts) ks in
    let Q : List ℕ → Type 0 = λ fs. All (λ c. AreBelow (length c) fs) (key_columns rows by) in
    subst P (sym is_k) (subst Q (sym is_f) (columns_below rows by))

pub picked_long : (keys picked : List (List Value)) (firsts : List ℕ) (n : ℕ) → picked ≡ map (λ c. gathered Null c firsts) keys → n ≡ length firsts → AreLong n picked
picked_long keys picked firsts n is e =
    let L : List (List Value) → Type 0 = λ cs. AreLong n cs in subst L (sym is) (long_gathered keys firsts n e)

pub picked_width : (rows : List (Ranked Value)) (by : List ℕ) (keys picked : List (List Value)) (firsts : List ℕ) (standings : List Standing) → keys ≡ key_columns rows by
    → picked ≡ map (λ c. gathered Null c firsts) keys → (column_relation picked standings).width ≡ length by
picked_width rows by keys picked firsts standings is_k is_p =
    relation-width picked standings ∙ ap length is_p ∙ length-map keys (λ c. gathered Null c firsts) ∙ ap length is_k ∙ length-map by _

pub picked_domain : (rows : List (Ranked Value)) (by : List ℕ) (keys picked : List (List Value)) (firsts : List ℕ) (n : ℕ) → keys ≡ key_columns rows by
    → firsts ≡ first_places (same_row same_value) (key_rows by rows) → picked ≡ map (λ c. gathered Null c firsts) keys → n ≡ length firsts
    → (column_relation picked (replicate n AtTrue)).rows ≡ domain_node same_value (columns Null by) rows
picked_domain rows by keys picked firsts n is_k is_f is_p e =
    domain_rows rows by picked n (is_p ∙ ap (λ ks. map (λ c. gathered Null c firsts) ks) is_k ∙ ap (λ fs. map (λ c. gathered Null c fs) (key_columns rows by)) is_f) (e ∙ ap length is_f)
