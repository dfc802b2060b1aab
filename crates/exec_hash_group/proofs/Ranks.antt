-- The standings of groups, row by row.
use Rattle.std.proofs.Common.{◌≡◌, ℕ, zero, suc, ◌+◌, ◌<◌, ◌≤◌, List, [], ◌∷◌, ◌++◌, Bool, true, false, cond, map, take, set, length, get_or, replicate, refl, sym, ◌∙◌, ap, subst, arith, inl, inr, append_assoc}
use Rattle.std.specs.Prelude.{min, max, nat_eq}
use Rattle.std.specs.List.{All, range_with_len}
use Rattle.std.proofs.lemmas.Bool.{cases_Bool, eqb-true, eqb-false, eq-eqb, ne_eqb}
use Rattle.std.proofs.lemmas.List.{length-map, get_or-map, get_or_default, same_lists, length-set, get_or-set_same, get_or-set_other, append-nil, take_all, length-replicate, get_or-replicate, map-set, map-append, map_push, take_more}
use Rattle.std.proofs.lemmas.List.FromFn.{length-range_with_len, get_or-range_with_len}
use Rattle.std.proofs.lemmas.Option.{slice_get-get_or}
use Rattle.base_row_laws.specs.Ranked.{Ranked, Relation, ranked, true_rank}
use Rattle.base_row_laws.specs.Bags.{each_once, top, bottom}
use Rattle.base_row_laws.specs.Rows.{same_row, columns}
use Rattle.base_row_laws.specs.Numbers.{numbers_of}
use Rattle.base_row_laws.specs.Operators.{distinct}
use Rattle.base_row_laws.specs.TableLaws.{with_number}
use Rattle.base_row_laws.proofs.OfBags.{bottom_most, bottom-append, top-append}
use Rattle.base_key_tables.specs.Distinct.{first_places}
use Rattle.base_value.specs.declared.truth.Standing.{Standing}
use Rattle.base_value.specs.declared.truth.Standing.TheVariants.{AtTrue}
use Rattle.base_value.specs.declared.value.Value.{Value}
use Rattle.base_value.specs.declared.value.Value.TheVariants.{Null}
use Rattle.base_value.specs.Truth.{standing_rank}
use Rattle.base_value.specs.Value.{same_value}
use Rattle.base_value.proofs.Identity.{value_identity}
use Rattle.base_columns.specs.Lists.{gathered}
use Rattle.base_columns.specs.Bags.{bag_rows}
use Rattle.base_columns.specs.Batches.{cells, column_relation, row_at}
use Rattle.base_columns.proofs.BagLists.{bag_rows-push}
use Rattle.base_columns.proofs.BatchRows.{relation-at, relation-length}
use Rattle.exec_hash_group.specs.GroupLaws.{distinct_rows}
use Rattle.exec_hash_group.specs.Keys.{key_rows, key_columns}
use Rattle.exec_hash_group.specs.Standings.{ranks, row_ranks, least_of, greatest_of, AreOfNumbers, AreFirsts}
use Rattle.exec_hash_group.proofs.Steps.{with_more}
use Rattle.exec_hash_group.proofs.Grouped.{distinct_by_numbers}
use Rattle.exec_hash_group.proofs.KeyCells.{picked_key, firsts_are_once, row_identity, number_at_first, rows_below}

-- the number at a place
abbrev get_or_0 : List ℕ → ℕ → ℕ
get_or_0 xs i = get_or xs i 0

-- one row more, in the words of the loops: a list of ranks with one written
module _ (numbers all : List ℕ) (i : ℕ) (li : i < length numbers) (la : i < length all) where
  abbrev k : ℕ
  k = get_or numbers i 0

  abbrev r : ℕ
  r = get_or all i 0

  more : (n : ℕ) → with_number (take (i + 1) numbers) (take (i + 1) all) n ≡ with_number (take i numbers) (take i all) n ++ cond (nat_eq k n) (r ∷ []) []
  more n =
      let m : i + 1 ≡ suc i = omega arith in
      ap (λ j. with_number (take j numbers) (take j all) n) m
      ∙ with_more numbers all n i k r (slice_get-get_or numbers i 0 li) (slice_get-get_or all i 0 la)

  least_here : least_of (take (i + 1) numbers) (take (i + 1) all) k ≡ min (least_of (take i numbers) (take i all) k) r
  least_here =
      let t : nat_eq k k ≡ true = eq-eqb k k refl in
      let before : List ℕ = with_number (take i numbers) (take i all) k in
      let e : with_number (take (i + 1) numbers) (take (i + 1) all) k ≡ before ++ r ∷ [] = more k ∙ ap (λ b. before ++ cond b (r ∷ []) []) t in
      let b = bottom-append true_rank (λ s. s) before (r ∷ []) in
      let w = bottom_most true_rank (λ s. s) before in
      ap (bottom true_rank (λ s. s)) e ∙ (omega (arith, b, w))

  greatest_here : greatest_of (take (i + 1) numbers) (take (i + 1) all) k ≡ max (greatest_of (take i numbers) (take i all) k) r
  greatest_here =
      let t : nat_eq k k ≡ true = eq-eqb k k refl in
      let before : List ℕ = with_number (take i numbers) (take i all) k in
      let e : with_number (take (i + 1) numbers) (take (i + 1) all) k ≡ before ++ r ∷ [] = more k ∙ ap (λ b. before ++ cond b (r ∷ []) []) t in
      let b = top-append (λ s. s) before (r ∷ []) in
      ap (top (λ s. s)) e ∙ (omega (arith, b))

  elsewhere : (n : ℕ) → (n ≡ k → ⊥) → with_number (take (i + 1) numbers) (take (i + 1) all) n ≡ with_number (take i numbers) (take i all) n
  elsewhere n ne =
      let f : nat_eq k n ≡ false = ne_eqb k n (λ e. ne (sym e)) in
      let before : List ℕ = with_number (take i numbers) (take i all) n in
      more n ∙ ap (λ b. before ++ cond b (r ∷ []) []) f ∙ append-nil before

  least_more : (count : ℕ) (old new : List ℕ) (s : ℕ) → k < count → AreOfNumbers (least_of (take i numbers) (take i all)) count old
      → new ≡ set old k s → s ≡ min (get_or old k 0) r → AreOfNumbers (least_of (take (i + 1) numbers) (take (i + 1) all)) count new
  least_more count old new s lk before is is_s =
      let long = before.long in
      record {
        long = ap length is ∙ length-set old k s ∙ before.long;
        each = λ n l. elim (cases_Bool (nat_eq n k)) [
          | inl t ↦ (let e : n ≡ k = eqb-true n k t in
              ap (λ m. get_or new m 0) e ∙ ap (λ xs. get_or xs k 0) is ∙ get_or-set_same old k s 0 (omega (arith, lk, long))
              ∙ is_s ∙ ap (λ x. min x r) (before.each k lk) ∙ sym least_here ∙ ap (least_of (take (i + 1) numbers) (take (i + 1) all)) (sym e))
          | inr f ↦ (let ne : n ≡ k → ⊥ = eqb-false n k f in
              ap (λ xs. get_or xs n 0) is ∙ get_or-set_other old k n s 0 ne ∙ before.each n l ∙ ap (bottom true_rank (λ s. s)) (sym (elsewhere n ne)))
        ];
      }

  greatest_more : (base : ℕ → ℕ) (count : ℕ) (old new : List ℕ) (s : ℕ) → k < count → AreOfNumbers (λ n. max (base n) (greatest_of (take i numbers) (take i all) n)) count old
      → new ≡ set old k s → s ≡ max (get_or old k 0) r → AreOfNumbers (λ n. max (base n) (greatest_of (take (i + 1) numbers) (take (i + 1) all) n)) count new
  greatest_more base count old new s lk before is is_s =
      let long = before.long in
      record {
        long = ap length is ∙ length-set old k s ∙ before.long;
        each = λ n l. elim (cases_Bool (nat_eq n k)) [
          | inl t ↦ (let e : n ≡ k = eqb-true n k t in
              let b = before.each k lk in
              let g = greatest_here in
              let here : s ≡ max (base k) (greatest_of (take (i + 1) numbers) (take (i + 1) all) k) = omega (arith, is_s, b, g) in
              ap (λ m. get_or new m 0) e ∙ ap (λ xs. get_or xs k 0) is ∙ get_or-set_same old k s 0 (omega (arith, lk, long))
              ∙ here ∙ ap (λ m. max (base m) (greatest_of (take (i + 1) numbers) (take (i + 1) all) m)) (sym e))
          | inr f ↦ (let ne : n ≡ k → ⊥ = eqb-false n k f in
              ap (λ xs. get_or xs n 0) is ∙ get_or-set_other old k n s 0 ne ∙ before.each n l ∙ ap (λ m. max (base n) (top (λ s. s) m)) (sym (elsewhere n ne)))
        ];
      }

-- in the words of the code, over standings
written : (standings : List Standing) (k : ℕ) (s : Standing) → ranks (set standings k s) ≡ set (ranks standings) k (standing_rank s)
written standings k s = map-set standing_rank standings k s

rank_at : (standings : List Standing) (k : ℕ) (d : Standing) → k < length standings → get_or (ranks standings) k 0 ≡ standing_rank (get_or standings k d)
rank_at standings k d l = get_or-map standing_rank standings k d 0 l

pub least_standing_more : (numbers : List ℕ) (all old new : List Standing) (i k count : ℕ) (x y s : Standing) → i < length numbers → length all ≡ length numbers
    → k ≡ get_or numbers i k → k < count → AreOfNumbers (least_of (take i numbers) (take i (ranks all))) count (ranks old)
    → x ≡ get_or old k x → y ≡ get_or all i y → standing_rank s ≡ min (standing_rank x) (standing_rank y) → new ≡ set old k s
    → AreOfNumbers (least_of (take (i + 1) numbers) (take (i + 1) (ranks all))) count (ranks new)
least_standing_more numbers all old new i k count x y s li long is_k lk before is_x is_y is_s is =
    let la : i < length (ranks all) = (let n = length-map all standing_rank in omega (arith, li, long, n)) in
    let kk : k ≡ get_or numbers i 0 = is_k ∙ get_or_default numbers i k 0 li in
    let lo : k < length old = (let n = length-map old standing_rank in let b = before.long in omega (arith, lk, n, b)) in
    let e : ranks new ≡ set (ranks old) (get_or numbers i 0) (standing_rank s) = ap ranks is ∙ written old k s ∙ ap (λ j. set (ranks old) j (standing_rank s)) kk in
    let rx : get_or (ranks old) (get_or numbers i 0) 0 ≡ standing_rank x = ap (λ j. get_or (ranks old) j 0) (sym kk) ∙ rank_at old k x lo ∙ ap standing_rank (sym is_x) in
    let ry : get_or (ranks all) i 0 ≡ standing_rank y = rank_at all i y (omega (arith, li, long)) ∙ ap standing_rank (sym is_y) in
    least_more numbers (ranks all) i li la count (ranks old) (ranks new) (standing_rank s) (subst (λ j. j < count) kk lk) before e
    (is_s ∙ ap (λ a. min a (standing_rank y)) (sym rx) ∙ ap (min (get_or (ranks old) (get_or numbers i 0) 0)) (sym ry))

pub greatest_standing_more : (base : ℕ → ℕ) (numbers : List ℕ) (all old new : List Standing) (i k count : ℕ) (x y s : Standing) → i < length numbers → length all ≡ length numbers
    → k ≡ get_or numbers i k → k < count → AreOfNumbers (λ n. max (base n) (greatest_of (take i numbers) (take i (ranks all)) n)) count (ranks old)
    → x ≡ get_or old k x → y ≡ get_or all i y → standing_rank s ≡ max (standing_rank x) (standing_rank y) → new ≡ set old k s
    → AreOfNumbers (λ n. max (base n) (greatest_of (take (i + 1) numbers) (take (i + 1) (ranks all)) n)) count (ranks new)
greatest_standing_more base numbers all old new i k count x y s li long is_k lk before is_x is_y is_s is =
    let la : i < length (ranks all) = (let n = length-map all standing_rank in omega (arith, li, long, n)) in
    let kk : k ≡ get_or numbers i 0 = is_k ∙ get_or_default numbers i k 0 li in
    let lo : k < length old = (let n = length-map old standing_rank in let b = before.long in omega (arith, lk, n, b)) in
    let e : ranks new ≡ set (ranks old) (get_or numbers i 0) (standing_rank s) = ap ranks is ∙ written old k s ∙ ap (λ j. set (ranks old) j (standing_rank s)) kk in
    let rx : get_or (ranks old) (get_or numbers i 0) 0 ≡ standing_rank x = ap (λ j. get_or (ranks old) j 0) (sym kk) ∙ rank_at old k x lo ∙ ap standing_rank (sym is_x) in
    let ry : get_or (ranks all) i 0 ≡ standing_rank y = rank_at all i y (omega (arith, li, long)) ∙ ap standing_rank (sym is_y) in
    greatest_more numbers (ranks all) i li la base count (ranks old) (ranks new) (standing_rank s) (subst (λ j. j < count) kk lk) before e
    (is_s ∙ ap (λ a. max a (standing_rank y)) (sym rx) ∙ ap (max (get_or (ranks old) (get_or numbers i 0) 0)) (sym ry))

-- before the first row, and after the last
pub least_none : (count : ℕ) (standings : List Standing) → standings ≡ replicate count AtTrue → AreOfNumbers (least_of [] []) count (ranks standings)
least_none count standings is =
    let n : length standings ≡ count = ap length is ∙ length-replicate count AtTrue in
    record {
      long = length-map standings standing_rank ∙ n;
      each = λ k l. rank_at standings k AtTrue (omega (arith, l, n)) ∙ ap (λ ss. standing_rank (get_or ss k AtTrue)) is ∙ ap standing_rank (get_or-replicate count k AtTrue AtTrue l);
    }

pub least_all : (numbers all : List ℕ) (i count : ℕ) (results : List ℕ) → length numbers ≤ i → length all ≤ i → AreOfNumbers (least_of (take i numbers) (take i all)) count results
    → AreOfNumbers (least_of numbers all) count results
least_all numbers all i count results ln la are = record {
  long = are.long;
  each = λ n l. are.each n l ∙ ap (λ ns. least_of ns (take i all) n) (take_all i numbers ln) ∙ ap (λ xs. least_of numbers xs n) (take_all i all la);
}

-- a rank at which a number stands is at most the greatest
at_most_top : (numbers all : List ℕ) (p n : ℕ) → p < length numbers → p < length all → get_or numbers p 0 ≡ n → get_or all p 0 ≤ greatest_of numbers all n
at_most_top [] all p n l m e = absurd (omega (arith, l))
at_most_top (k ∷ numbers) [] p n l m e = absurd (omega (arith, m))
at_most_top (k ∷ numbers) (r ∷ all) zero n l m e =
    let t : nat_eq k n ≡ true = eq-eqb k n e in
    let le : r ≤ max r (top (λ s. s) (with_number numbers all n)) = omega arith in
    subst (λ b. r ≤ top (λ s. s) (cond b (r ∷ with_number numbers all n) (with_number numbers all n))) (sym t) le
at_most_top (k ∷ numbers) (r ∷ all) (suc p) n l m e =
    let ih = at_most_top numbers all p n (omega (arith, l)) (omega (arith, m)) e in
    elim (nat_eq k n) as (λ b. get_or all p 0 ≤ top (λ s. s) (cond b (r ∷ with_number numbers all n) (with_number numbers all n))) [ true ↦ omega (arith, ih) | false ↦ ih ]

pub greatest_none : (all firsts : List ℕ) (results : List ℕ) → results ≡ map (get_or_0 all) firsts → AreOfNumbers (λ n. max (get_or all (get_or firsts n 0) 0) (greatest_of [] [] n)) (length firsts) results
greatest_none all firsts results is = record {
  long = ap length is ∙ length-map firsts (get_or_0 all);
  each = λ n l. ap (λ xs. get_or xs n 0) is ∙ get_or-map (get_or_0 all) firsts n 0 0 l ∙ (omega arith);
}

pub greatest_all : (numbers all firsts : List ℕ) (i : ℕ) (results : List ℕ) → length numbers ≤ i → length all ≡ length numbers → AreFirsts numbers firsts
    → AreOfNumbers (λ n. max (get_or all (get_or firsts n 0) 0) (greatest_of (take i numbers) (take i all) n)) (length firsts) results
    → AreOfNumbers (greatest_of numbers all) (length firsts) results
greatest_all numbers all firsts i results ln la first are = record {
  long = are.long;
  each = λ n l.
      let w = first.within n l in
      let le = at_most_top numbers all (get_or firsts n 0) n w (omega (arith, w, la)) (first.stands n l) in
      let top_is : max (get_or all (get_or firsts n 0) 0) (greatest_of numbers all n) ≡ greatest_of numbers all n = omega (arith, le) in
      are.each n l ∙ ap (λ ns. max (get_or all (get_or firsts n 0) 0) (greatest_of ns (take i all) n)) (take_all i numbers ln)
      ∙ ap (λ xs. max (get_or all (get_or firsts n 0) 0) (greatest_of numbers xs n)) (take_all i all (omega (arith, ln, la))) ∙ top_is;
}

-- the rows of DISTINCT at their places
distinct_length : (numbers : List ℕ) (xs : List (Ranked Value)) (n : ℕ) (ks : List (List Value)) → length (distinct_rows numbers xs n ks) ≡ length ks
distinct_length numbers xs n [] = refl
distinct_length numbers xs n (k ∷ ks) = ap suc (distinct_length numbers xs (suc n) ks)

distinct_at : (numbers : List ℕ) (xs : List (Ranked Value)) (n : ℕ) (ks : List (List Value)) (i : ℕ) (d : Ranked Value) → i < length ks
    → get_or (distinct_rows numbers xs n ks) i d ≡ ranked (get_or ks i []) (greatest_of numbers (row_ranks xs) (n + i))
distinct_at numbers xs n [] i d l = absurd (omega (arith, l))
distinct_at numbers xs n (k ∷ ks) zero d l = let z : n ≡ n + 0 = omega arith in ap (λ m. ranked k (greatest_of numbers (row_ranks xs) m)) z
distinct_at numbers xs n (k ∷ ks) (suc i) d l =
    let m : suc n + i ≡ n + suc i = omega arith in
    distinct_at numbers xs (suc n) ks i d (omega (arith, l)) ∙ ap (λ j. ranked (get_or ks i []) (greatest_of numbers (row_ranks xs) j)) m

-- all columns of a row are the row
all_columns : (w : ℕ) (vs : List Value) → length vs ≡ w → columns Null (range_with_len 0 w) vs ≡ vs
all_columns w vs e =
    let lr : length (range_with_len 0 w) ≡ w = length-range_with_len 0 w in
    let lm : length (columns Null (range_with_len 0 w) vs) ≡ w = length-map (range_with_len 0 w) (λ c. get_or vs c Null) ∙ lr in
    same_lists (columns Null (range_with_len 0 w) vs) vs (lm ∙ sym e)
    (λ k d l. let lk : k < w = omega (arith, l, lm) in
    let z : 0 + k ≡ k = omega arith in
    get_or-map (λ c. get_or vs c Null) (range_with_len 0 w) k 0 d (omega (arith, lk, lr)) ∙ ap (λ c. get_or vs c Null) (get_or-range_with_len 0 w k 0 lk ∙ z)
    ∙ get_or_default vs k Null d (omega (arith, lk, e)))

pub all_keys : (w : ℕ) (rows : List (Ranked Value)) → All (λ r. length r.values ≡ w) rows → key_rows (range_with_len 0 w) rows ≡ map (λ r. r.values) rows
all_keys w [] h = refl
all_keys w (r ∷ rows) h =
    rw (all_columns w r.values (h 0 r (omega arith)), all_keys w rows (λ k d l. h (suc k) d (omega (arith, l)))) refl

pub distinct_relation : (rows : List (Ranked Value)) (w : ℕ) (picked : List (List Value)) (numbers firsts : List ℕ) (standings : List Standing)
    → All (λ r. length r.values ≡ w) rows
    → numbers ≡ numbers_of (same_row same_value) (key_rows (range_with_len 0 w) rows) → firsts ≡ first_places (same_row same_value) (key_rows (range_with_len 0 w) rows)
    → picked ≡ map (λ c. gathered Null c firsts) (key_columns rows (range_with_len 0 w))
    → AreOfNumbers (greatest_of numbers (row_ranks rows)) (length firsts) (ranks standings)
    → (column_relation picked standings).rows ≡ distinct same_value rows
distinct_relation rows w picked numbers firsts standings wide is_n is_f is_p are =
    let by : List ℕ = range_with_len 0 w in
    let S : List Value → List Value → Bool = same_row same_value in
    let E : List (List Value) = each_once S (key_rows by rows) in
    let F : List ℕ = first_places S (key_rows by rows) in
    let keys : key_rows by rows ≡ map (λ r. r.values) rows = all_keys w rows wide in
    let law : distinct same_value rows ≡ distinct_rows numbers rows 0 E =
    distinct_by_numbers same_value value_identity rows ∙ ap (λ ks. distinct_rows (numbers_of S ks) rows 0 (each_once S ks)) (sym keys)
    ∙ ap (λ ns. distinct_rows ns rows 0 E) (sym is_n) in
    let left : List (Ranked Value) = (column_relation picked standings).rows in
    let ls : length standings ≡ length firsts = sym (length-map standings standing_rank) ∙ are.long in
    let lf : length firsts ≡ length F = ap length is_f in
    let fe : length F ≡ length E = firsts_are_once rows by in
    let ll : length left ≡ length standings = relation-length picked standings in
    let ld : length (distinct_rows numbers rows 0 E) ≡ length E = distinct_length numbers rows 0 E in
    let pick : picked ≡ map (λ c. gathered Null c F) (key_columns rows by) = is_p ∙ ap (λ fs. map (λ c. gathered Null c fs) (key_columns rows by)) is_f in
    same_lists left (distinct_rows numbers rows 0 E) (omega (arith, ll, ls, lf, fe, ld))
    (λ k d l. let o : k < length standings = omega (arith, l, ll) in
    let p : k < length F = omega (arith, o, ls, lf) in
    let q : k < length E = omega (arith, p, fe) in
    let z : k ≡ 0 + k = omega arith in
    relation-at picked standings k AtTrue d o
    ∙ ap (λ s. ranked (cells picked k) s) (sym (rank_at standings k AtTrue o) ∙ are.each k (omega (arith, p, lf)) ∙ ap (greatest_of numbers (row_ranks rows)) z)
    ∙ ap (λ cs. ranked (cells cs k) (greatest_of numbers (row_ranks rows) (0 + k))) pick
    ∙ ap (λ vs. ranked vs (greatest_of numbers (row_ranks rows) (0 + k))) (picked_key rows by k p)
    ∙ sym (distinct_at numbers rows 0 E k d q))
    ∙ sym law

pub are_firsts : (rows : List (Ranked Value)) (by numbers firsts : List ℕ) → numbers ≡ numbers_of (same_row same_value) (key_rows by rows)
    → firsts ≡ first_places (same_row same_value) (key_rows by rows) → AreFirsts numbers firsts
are_firsts rows by numbers firsts is_n is_f =
    let S : List Value → List Value → Bool = same_row same_value in
    let keys : List (List Value) = key_rows by rows in
    let lf : length firsts ≡ length (first_places S keys) = ap length is_f in
    let ln : length numbers ≡ length rows = ap length is_n ∙ length-map keys _ ∙ length-map rows (λ r. columns Null by r.values) in
    record {
      within = λ n l.
          let b = rows_below rows by n 0 (omega (arith, l, lf)) in
          let e : get_or firsts n 0 ≡ get_or (first_places S keys) n 0 = ap (λ fs. get_or fs n 0) is_f in
          omega (arith, b, e, ln);
      stands = λ n l. ap (λ fs. get_or numbers (get_or fs n 0) 0) is_f ∙ ap (λ ns. get_or ns (get_or (first_places S keys) n 0) 0) is_n
          ∙ number_at_first S row_identity [] keys n (omega (arith, l, lf));
    }

-- the rows of one batch more
pub bag_ranks_more : (bs : List (Relation Value)) (i : ℕ) (b : Relation Value) (old new : List Standing) → i < length bs → b ≡ get_or bs i b
    → ranks old ≡ row_ranks (bag_rows (take i bs)) → ranks new ≡ ranks old ++ row_ranks b.rows → ranks new ≡ row_ranks (bag_rows (take (i + 1) bs))
bag_ranks_more bs i b old new l is before push =
    push ∙ ap (λ rs. rs ++ row_ranks b.rows) before ∙ sym (map-append (λ (r : Ranked Value). r.standing) (bag_rows (take i bs)) b.rows)
    ∙ ap row_ranks (sym (bag_rows-push (take i bs) b) ∙ ap (λ x. bag_rows (take i bs ++ x ∷ [])) is ∙ ap bag_rows (sym (take_more bs i b l)))

-- one row of a batch more
pub row_rank_more : (rows : List (Ranked Value)) (i : ℕ) (s : Standing) (old new : List Standing) (before : List ℕ) → i < length rows → standing_rank s ≡ (row_at rows i).standing
    → ranks old ≡ before ++ row_ranks (take i rows) → new ≡ old ++ s ∷ [] → ranks new ≡ before ++ row_ranks (take (i + 1) rows)
row_rank_more rows i s old new before l is e push =
    ap ranks push ∙ map_push standing_rank old s ∙ ap (λ rs. rs ++ standing_rank s ∷ []) e ∙ ap (λ k. (before ++ row_ranks (take i rows)) ++ k ∷ []) is
    ∙ append_assoc before (row_ranks (take i rows)) ((row_at rows i).standing ∷ [])
    ∙ ap (λ rs. before ++ rs) (sym (map-append (λ (r : Ranked Value). r.standing) (take i rows) (row_at rows i ∷ [])) ∙ ap row_ranks (sym (take_more rows i (ranked [] true_rank) l)))

pub range_more : (a n : ℕ) → range_with_len a (n + 1) ≡ range_with_len a n ++ (a + n) ∷ []
range_more a zero = let z : a ≡ a + 0 = omega arith in ap (λ m. m ∷ []) z
range_more a (suc n) =
    let e : suc n + 1 ≡ suc (n + 1) = omega arith in
    let m : (a + 1) + n ≡ a + suc n = omega arith in
    ap (range_with_len a) e ∙ ap (λ l. a ∷ l) (range_more (a + 1) n ∙ ap (λ k. range_with_len (a + 1) n ++ k ∷ []) m)

pub all_true_ranks : (n : ℕ) → ranks (replicate n AtTrue) ≡ replicate n true_rank
all_true_ranks zero = refl
all_true_ranks (suc n) = ap (λ l. true_rank ∷ l) (all_true_ranks n)
