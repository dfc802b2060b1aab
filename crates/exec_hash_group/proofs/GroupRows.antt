-- The rows of GROUP BY, from columns.
use Rattle.std.proofs.Common.{◌≡◌, ℕ, zero, suc, ◌+◌, ◌<◌, List, [], ◌∷◌, ◌++◌, map, length, get_or, take, replicate, refl, sym, ◌∙◌, ap, subst, arith}
use Rattle.std.proofs.lemmas.List.{length-map, get_or-map, same_lists, length-replicate, get_or-replicate, length-append, map-append, take_more}
use Rattle.base_row_laws.specs.Ranked.{Ranked, Relation, ranked, true_rank}
use Rattle.base_row_laws.specs.Bags.{bottom}
use Rattle.base_row_laws.specs.Rows.{same_row, columns}
use Rattle.base_row_laws.specs.Operators.{least}
use Rattle.base_row_laws.specs.Aggregates.{aggregated, count_rows}
use Rattle.base_row_laws.specs.Numbers.{numbers_of}
use Rattle.base_row_laws.specs.TableLaws.{with_number}
use Rattle.base_row_laws.proofs.Groups.{bottom-map}
use Rattle.base_key_tables.specs.Distinct.{first_places}
use Rattle.base_value.specs.declared.truth.Standing.{Standing}
use Rattle.base_value.specs.declared.truth.Standing.TheVariants.{AtTrue}
use Rattle.base_value.specs.declared.value.Value.{Value}
use Rattle.base_value.specs.declared.value.Value.TheVariants.{Null}
use Rattle.base_value.specs.Truth.{standing_rank}
use Rattle.base_value.specs.Value.{same_value}
use Rattle.base_value.proofs.Identity.{value_identity}
use Rattle.base_columns.specs.Lists.{gathered, AreBelow}
use Rattle.base_columns.specs.Bags.{bag_rows}
use Rattle.base_columns.specs.Batches.{cells, AreLong, column_relation}
use Rattle.base_columns.proofs.BagLists.{bag_rows-push}
use Rattle.base_columns.proofs.BatchRows.{relation-at, relation-length, relation-width, long_gathered}
use Rattle.exec_accumulators.specs.Accumulators.{OfValues}
use Rattle.plan_algebra.specs.declared.aggregate.Aggregate.{Aggregate}
use Rattle.plan_algebra.specs.declared.aggregate.Aggregate.TheVariants.{CountRows, Of}
use Rattle.expr_aggregates.specs.Values.{reading, aggregate_of}
use Rattle.expr_aggregates.specs.declared.function.AggregateFunction.{AggregateFunction}
use Rattle.expr_scalar.specs.Meaning.{value}
use Rattle.expr_scalar.specs.declared.expr.Expr.{Expr}
use Rattle.plan_algebra.specs.Aggregates.{argument_and_function, aggregates_of}
use Rattle.plan_algebra.specs.Plans.{groups}
use Rattle.exec_hash_group.specs.ByNumber.{values_by_number}
use Rattle.exec_hash_group.specs.GroupLaws.{grouped_rows}
use Rattle.exec_hash_group.specs.Grouping.{group_keys, group_numbers, AreGroups, arguments_of, aggregate_column}
use Rattle.exec_hash_group.specs.Keys.{key_rows, key_columns}
use Rattle.exec_hash_group.specs.Standings.{ranks, row_ranks, least_of, AreOfNumbers}
use Rattle.exec_hash_group.proofs.Grouped.{group_by_numbers}
use Rattle.exec_hash_group.proofs.KeyCells.{picked_key, firsts_are_once, all_numbers_below}

-- one group of all rows
pub with_zeros : {R : Type 0} (xs : List R) (n : ℕ) → n ≡ length xs → with_number (replicate n 0) xs 0 ≡ xs
with_zeros [] zero e = refl
with_zeros [] (suc n) e = absurd (omega (arith, e))
with_zeros (x ∷ xs) zero e = absurd (omega (arith, e))
with_zeros (x ∷ xs) (suc n) e = ap (λ l. x ∷ l) (with_zeros xs n (omega (arith, e)))

abbrev Items : Type 0
Items = List ((List Value → Value) × (List Value → Value))

of_all : (items : Items) (rows : List (Ranked Value)) (zeros : List ℕ) → zeros ≡ replicate (length rows) 0
    → map (λ a. a.1 (with_number zeros (map (λ x. a.0 x.values) rows) 0)) items ≡ aggregated items rows
of_all [] rows zeros e = refl
of_all (a ∷ items) rows zeros e =
    let vs : List Value = map (λ x. a.0 x.values) rows in
    let w : with_number zeros vs 0 ≡ vs = ap (λ ns. with_number ns vs 0) e ∙ with_zeros vs (length rows) (sym (length-map rows (λ x. a.0 x.values))) in
    ap (λ v. a.1 v ∷ map (λ a. a.1 (with_number zeros (map (λ x. a.0 x.values) rows) 0)) items) w ∙ ap (λ l. a.1 vs ∷ l) (of_all items rows zeros e)

least_of_all : (rows : List (Ranked Value)) (zeros : List ℕ) → zeros ≡ replicate (length rows) 0 → least_of zeros (row_ranks rows) 0 ≡ least rows
least_of_all rows zeros e =
    let w : with_number zeros (row_ranks rows) 0 ≡ row_ranks rows = ap (λ ns. with_number ns (row_ranks rows) 0) e ∙ with_zeros (row_ranks rows) (length rows) (sym (length-map rows (λ r. r.standing))) in
    ap (bottom true_rank (λ s. s)) w ∙ bottom-map true_rank (λ s. s) (λ (r : Ranked Value). r.standing) rows

pub group_law : (by : List ℕ) (aggregates : List Aggregate) (rows : List (Ranked Value))
    → groups by aggregates rows ≡ grouped_rows (map argument_and_function aggregates) (group_numbers by rows) rows 0 (group_keys by rows)
unfolding aggregates_of
group_law [] aggregates rows =
    let items : Items = map argument_and_function aggregates in
    let zeros : List ℕ = replicate (length rows) 0 in
    ap (λ vs. ranked vs (least rows) ∷ []) (sym (of_all items rows zeros refl))
    ∙ ap (λ s. ranked (map (λ a. a.1 (with_number zeros (map (λ x. a.0 x.values) rows) 0)) items) s ∷ []) (sym (least_of_all rows zeros refl))
group_law (c ∷ cs) aggregates rows = group_by_numbers same_value value_identity (columns Null (c ∷ cs)) (map argument_and_function aggregates) rows

-- the rows of groups at their places
grouped_length : (items : Items) (numbers : List ℕ) (xs : List (Ranked Value)) (n : ℕ) (ks : List (List Value)) → length (grouped_rows items numbers xs n ks) ≡ length ks
grouped_length items numbers xs n [] = refl
grouped_length items numbers xs n (k ∷ ks) = ap suc (grouped_length items numbers xs (suc n) ks)

abbrev made : Items → List ℕ → List (Ranked Value) → ℕ → List Value
made items numbers xs n = map (λ a. a.1 (with_number numbers (map (λ x. a.0 x.values) xs) n)) items

grouped_at : (items : Items) (numbers : List ℕ) (xs : List (Ranked Value)) (n : ℕ) (ks : List (List Value)) (i : ℕ) (d : Ranked Value) → i < length ks
    → get_or (grouped_rows items numbers xs n ks) i d ≡ ranked (get_or ks i [] ++ made items numbers xs (n + i)) (least_of numbers (row_ranks xs) (n + i))
grouped_at items numbers xs n [] i d l = absurd (omega (arith, l))
grouped_at items numbers xs n (k ∷ ks) zero d l =
    let z : n ≡ n + 0 = omega arith in ap (λ m. ranked (k ++ made items numbers xs m) (least_of numbers (row_ranks xs) m)) z
grouped_at items numbers xs n (k ∷ ks) (suc i) d l =
    let m : suc n + i ≡ n + suc i = omega arith in
    grouped_at items numbers xs (suc n) ks i d (omega (arith, l)) ∙ ap (λ j. ranked (get_or ks i [] ++ made items numbers xs j) (least_of numbers (row_ranks xs) j)) m

values_length : (f : OfValues) (numbers : List ℕ) (vs : List Value) (n count : ℕ) → length (values_by_number f numbers vs n count) ≡ count
values_length f numbers vs n zero = refl
values_length f numbers vs n (suc count) = ap suc (values_length f numbers vs (suc n) count)

values_at : (f : OfValues) (numbers : List ℕ) (vs : List Value) (n count i : ℕ) (d : Value) → i < count → get_or (values_by_number f numbers vs n count) i d ≡ f (with_number numbers vs (n + i))
values_at f numbers vs n zero i d l = absurd (omega (arith, l))
values_at f numbers vs n (suc count) zero d l = let z : n ≡ n + 0 = omega arith in ap (λ m. f (with_number numbers vs m)) z
values_at f numbers vs n (suc count) (suc i) d l =
    let m : suc n + i ≡ n + suc i = omega arith in values_at f numbers vs (suc n) count i d (omega (arith, l)) ∙ ap (λ j. f (with_number numbers vs j)) m

module _ (rows : List (Ranked Value)) (numbers : List ℕ) (count : ℕ) where
  aggregates_at : (aggregates : List Aggregate) (i : ℕ) → i < count
      → cells (map (aggregate_column rows numbers count) aggregates) i ≡ made (map argument_and_function aggregates) numbers rows (0 + i)
  aggregates_at [] i l = refl
  aggregates_at (a ∷ aggregates) i l =
      ap (λ v. v ∷ cells (map (aggregate_column rows numbers count) aggregates) i) (values_at (argument_and_function a).1 numbers (arguments_of a rows) 0 count i Null l)
      ∙ ap (λ vs. (argument_and_function a).1 (with_number numbers (arguments_of a rows) (0 + i)) ∷ vs) (aggregates_at aggregates i l)

  aggregates_long : (aggregates : List Aggregate) → AreLong count (map (aggregate_column rows numbers count) aggregates)
  unfolding AreLong
  aggregates_long [] = tt
  aggregates_long (a ∷ aggregates) = (values_length (argument_and_function a).1 numbers (arguments_of a rows) 0 count, aggregates_long aggregates)

long_both : (n : ℕ) (cs ds : List (List Value)) → AreLong n cs → AreLong n ds → AreLong n (cs ++ ds)
unfolding AreLong
long_both n [] ds a b = b
long_both n (c ∷ cs) ds a b = (a.0, long_both n cs ds a.1 b)

pub groups_long : (by : List ℕ) (aggregates : List Aggregate) (rows : List (Ranked Value)) (keys all : List (List Value)) (numbers : List ℕ) (count : ℕ) (standings : List Standing)
    → AreGroups by rows keys numbers count → all ≡ keys ++ map (aggregate_column rows numbers count) aggregates → AreOfNumbers (least_of numbers (row_ranks rows)) count (ranks standings)
    → AreLong (length standings) all
groups_long by aggregates rows keys all numbers count standings g is are =
    let n : length standings ≡ count = sym (length-map standings standing_rank) ∙ are.long in
    let L : ℕ → Type 0 = λ m. AreLong m all in
    let M : List (List Value) → Type 0 = λ cs. AreLong count cs in
    subst L (sym n) (subst M (sym is) (long_both count keys (map (aggregate_column rows numbers count) aggregates) g.long (aggregates_long rows numbers count aggregates)))

pub groups_width : (by : List ℕ) (aggregates : List Aggregate) (rows : List (Ranked Value)) (keys all : List (List Value)) (numbers : List ℕ) (count : ℕ) (standings : List Standing)
    → AreGroups by rows keys numbers count → all ≡ keys ++ map (aggregate_column rows numbers count) aggregates → (column_relation all standings).width ≡ length by + length aggregates
groups_width by aggregates rows keys all numbers count standings g is =
    let w = g.wide in
    let a = length-append keys (map (aggregate_column rows numbers count) aggregates) in
    let m = length-map aggregates (aggregate_column rows numbers count) in
    relation-width all standings ∙ ap length is ∙ (omega (arith, w, a, m))

pub group_relation : (by : List ℕ) (aggregates : List Aggregate) (rows : List (Ranked Value)) (keys all : List (List Value)) (numbers : List ℕ) (count : ℕ) (standings : List Standing)
    → AreGroups by rows keys numbers count → all ≡ keys ++ map (aggregate_column rows numbers count) aggregates → AreOfNumbers (least_of numbers (row_ranks rows)) count (ranks standings)
    → (column_relation all standings).rows ≡ groups by aggregates rows
group_relation by aggregates rows keys all numbers count standings g is are =
    let items : Items = map argument_and_function aggregates in
    let K : List (List Value) = group_keys by rows in
    let A : List (List Value) = map (aggregate_column rows numbers count) aggregates in
    let right : List (Ranked Value) = grouped_rows items numbers rows 0 K in
    let law : groups by aggregates rows ≡ right = group_law by aggregates rows ∙ ap (λ ns. grouped_rows items ns rows 0 K) (sym g.numbers_are) in
    let left : List (Ranked Value) = (column_relation all standings).rows in
    let n : length standings ≡ count = sym (length-map standings standing_rank) ∙ are.long in
    let ll : length left ≡ length standings = relation-length all standings in
    let lr : length right ≡ length K = grouped_length items numbers rows 0 K in
    let ck = g.count_is in
    same_lists left right (omega (arith, ll, lr, n, ck))
    (λ k d l. let o : k < length standings = omega (arith, l, ll) in
    let p : k < count = omega (arith, o, n) in
    let q : k < length K = omega (arith, p, ck) in
    let z : k ≡ 0 + k = omega arith in
    let values : cells all k ≡ get_or K k [] ++ made items numbers rows (0 + k) =
    ap (λ cs. cells cs k) is ∙ map-append (λ c. get_or c k Null) keys A ∙ ap (λ vs. vs ++ cells A k) (g.keys_are k p) ∙ ap (λ vs. get_or K k [] ++ vs) (aggregates_at rows numbers count aggregates k p) in
    let rank : standing_rank (get_or standings k AtTrue) ≡ least_of numbers (row_ranks rows) (0 + k) =
    sym (get_or-map standing_rank standings k AtTrue 0 o) ∙ are.each k p ∙ ap (least_of numbers (row_ranks rows)) z in
    relation-at all standings k AtTrue d o ∙ ap (λ vs. ranked vs (standing_rank (get_or standings k AtTrue))) values
    ∙ ap (λ s. ranked (get_or K k [] ++ made items numbers rows (0 + k)) s) rank
    ∙ sym (grouped_at items numbers rows 0 K k d q))
    ∙ sym law

-- the groups that the code makes
pub groups_by_columns : (c : ℕ) (cs : List ℕ) (rows : List (Ranked Value)) (keys : List (List Value)) (numbers firsts : List ℕ) (count : ℕ)
    → numbers ≡ numbers_of (same_row same_value) (key_rows (c ∷ cs) rows) → firsts ≡ first_places (same_row same_value) (key_rows (c ∷ cs) rows)
    → keys ≡ map (λ c. gathered Null c firsts) (key_columns rows (c ∷ cs)) → count ≡ length firsts → AreGroups (c ∷ cs) rows keys numbers count
groups_by_columns c cs rows keys numbers firsts count is_n is_f is_k n =
    let by : List ℕ = c ∷ cs in
    let F : List ℕ = first_places (same_row same_value) (key_rows by rows) in
    let lf : length firsts ≡ length F = ap length is_f in
    let L : List (List Value) → Type 0 = λ ks. AreLong count ks in
    record {
      numbers_are = is_n;
      count_is = n ∙ lf ∙ firsts_are_once rows by;
      wide = ap length is_k ∙ length-map (key_columns rows by) (λ c. gathered Null c firsts) ∙ length-map by _;
      long = subst L (sym is_k) (long_gathered (key_columns rows by) firsts count n);
      keys_are = λ i l.
          ap (λ ks. cells ks i) is_k ∙ ap (λ fs. cells (map (λ c. gathered Null c fs) (key_columns rows by)) i) is_f
          ∙ picked_key rows by i (omega (arith, l, n, lf));
    }

pub one_group_is : (rows : List (Ranked Value)) (keys : List (List Value)) (numbers : List ℕ) → keys ≡ [] → numbers ≡ replicate (length rows) 0 → AreGroups [] rows keys numbers 1
unfolding AreLong
one_group_is rows keys numbers is_k is_n =
    let L : List (List Value) → Type 0 = λ ks. AreLong 1 ks in
    let long : AreLong 1 [] = tt in
    record {
      numbers_are = is_n;
      count_is = refl;
      wide = ap length is_k;
      long = subst L (sym is_k) long;
      keys_are = λ i l. ap (λ ks. cells ks i) is_k ∙ (let z : i ≡ 0 = omega (arith, l) in ap (λ j. get_or ([] ∷ []) j []) (sym z));
    }

-- each row's group is one of them
zeros_below : (n : ℕ) → AreBelow 1 (replicate n 0)
zeros_below n = λ k d l.
    let zeros : List ℕ = replicate n 0 in
    let m : length zeros ≡ n = length-replicate n 0 in
    let lk : k < n = omega (arith, l, m) in
    let e : get_or zeros k d ≡ 0 = get_or-replicate n k 0 d lk in omega (arith, e)

pub groups_below : (by : List ℕ) (rows : List (Ranked Value)) (keys : List (List Value)) (numbers : List ℕ) (count : ℕ) → AreGroups by rows keys numbers count
    → AreBelow count numbers × (length numbers ≡ length rows)
groups_below [] rows keys numbers count g =
    let B : List ℕ → Type 0 = λ ns. AreBelow count ns in
    let C : ℕ → Type 0 = λ c. AreBelow c (replicate (length rows) 0) in
    (subst B (sym g.numbers_are) (subst C (sym g.count_is) (zeros_below (length rows))), ap length g.numbers_are ∙ length-replicate (length rows) 0)
groups_below (c ∷ cs) rows keys numbers count g =
    let by : List ℕ = c ∷ cs in
    let N : List ℕ = numbers_of (same_row same_value) (key_rows by rows) in
    let B : List ℕ → Type 0 = λ ns. AreBelow count ns in
    let C : ℕ → Type 0 = λ c. AreBelow c N in (
      subst B (sym g.numbers_are) (subst C (firsts_are_once rows by ∙ sym g.count_is) (all_numbers_below rows by)),
      ap length g.numbers_are ∙ length-map (key_rows by rows) _ ∙ length-map rows _,
    )

-- nulls for count(*)
pub nulls_of : (rows : List (Ranked Value)) (n : ℕ) → n ≡ length rows → replicate n Null ≡ map (λ r. Null) rows
nulls_of [] zero e = refl
nulls_of [] (suc n) e = absurd (omega (arith, e))
nulls_of (r ∷ rows) zero e = absurd (omega (arith, e))
nulls_of (r ∷ rows) (suc n) e = ap (λ vs. Null ∷ vs) (nulls_of rows n (omega (arith, e)))

-- in the words of the code
pub groups_by_any : (by : List ℕ) (rows : List (Ranked Value)) (columns keys : List (List Value)) (numbers firsts places : List ℕ) (count : ℕ) → 0 < length by
    → numbers ≡ numbers_of (same_row same_value) (key_rows by rows) → firsts ≡ first_places (same_row same_value) (key_rows by rows)
    → columns ≡ key_columns rows by → places ≡ firsts → keys ≡ map (λ c. gathered Null c places) columns → count ≡ length firsts → AreGroups by rows keys numbers count
groups_by_any [] rows columns keys numbers firsts places count pos is_n is_f is_c is_p is_k n = absurd (omega (arith, pos))
groups_by_any (c ∷ cs) rows columns keys numbers firsts places count pos is_n is_f is_c is_p is_k n =
    groups_by_columns c cs rows keys numbers firsts count is_n is_f
    (is_k ∙ ap (λ ks. map (λ c. gathered Null c places) ks) is_c ∙ ap (λ fs. map (λ c. gathered Null c fs) (key_columns rows (c ∷ cs))) is_p) n

pub arguments_more : (f : Ranked Value → Value) (bs : List (Relation Value)) (i : ℕ) (b : Relation Value) (old new vs : List Value) → i < length bs → b ≡ get_or bs i b
    → old ≡ map f (bag_rows (take i bs)) → vs ≡ map f b.rows → new ≡ old ++ vs → new ≡ map f (bag_rows (take (i + 1) bs))
arguments_more f bs i b old new vs l is before values push =
    push ∙ ap (λ us. us ++ vs) before ∙ ap (λ us. map f (bag_rows (take i bs)) ++ us) values ∙ sym (map-append f (bag_rows (take i bs)) b.rows)
    ∙ ap (map f) (sym (bag_rows-push (take i bs) b) ∙ ap (λ x. bag_rows (take i bs ++ x ∷ [])) is ∙ ap bag_rows (sym (take_more bs i b l)))

pub rows_counted : (rows : List (Ranked Value)) (numbers : List ℕ) (count n : ℕ) (shown counts column : List Value) → shown ≡ replicate n Null → n ≡ length rows
    → counts ≡ values_by_number (count_rows (reading 0)) numbers shown 0 count → column ≡ counts → column ≡ aggregate_column rows numbers count CountRows
rows_counted rows numbers count n shown counts column is_s e is_c is =
    is ∙ is_c ∙ ap (λ vs. values_by_number (count_rows (reading 0)) numbers vs 0 count) (is_s ∙ nulls_of rows n e)

pub rows_aggregated : (rows : List (Ranked Value)) (numbers : List ℕ) (count : ℕ) (function : AggregateFunction) (scale : ℕ) (e : Expr) (arguments shown values column : List Value)
    → arguments ≡ map (λ r. value e r.values) rows → shown ≡ arguments → values ≡ values_by_number (aggregate_of function scale) numbers shown 0 count → column ≡ values
    → column ≡ aggregate_column rows numbers count (Of function scale e)
rows_aggregated rows numbers count function scale e arguments shown values column is_a is_s is_v is =
    is ∙ is_v ∙ ap (λ vs. values_by_number (aggregate_of function scale) numbers vs 0 count) (is_s ∙ is_a)
