-- Sums of numbers, a row at a time, as values and as what accumulators have taken.
use Rattle.std.proofs.Common.{◌≡◌, ℕ, ℤ, pos, negsuc, zero, suc, ◌+◌, ◌*◌, ◌<◌, ◌≤◌, ◌^◌, ◌-◌, ◌-ℤ◌, ◌≤ℤ◌, List, [], ◌∷◌, ◌++◌, Bool, true, cond, take, set, length, get_or, replicate, Some, None, refl, sym, ◌∙◌, ap, subst, arith, inl, inr, eq-eqb}
use Rattle.std.specs.Prelude.{slice_get, nat_eq, nat_lt, ◌==◌, max}
use Rattle.std.proofs.lemmas.Bool.{cases_Bool, eqb-true, eqb-false, ne_eqb, lt-ltb}
use Rattle.std.proofs.lemmas.Int.{ints}
use Rattle.std.proofs.lemmas.List.{append-nil, length-set, get_or-replicate, get_or-set_same, get_or-set_other, length-replicate, length-take-le, take_all}
use Rattle.base_row_laws.specs.Ranked.{true_rank, number_range_rank}
use Rattle.base_row_laws.specs.Bags.{weigh}
use Rattle.base_row_laws.specs.Aggregates.{sum_of}
use Rattle.base_row_laws.specs.TableLaws.{with_number}
use Rattle.base_value.specs.declared.value.Value.{Value}
use Rattle.base_value.specs.declared.value.Value.TheVariants.{Number}
use Rattle.expr_aggregates.specs.Values.{reading, written, above, below}
use Rattle.exec_accumulators.specs.Accumulators.{OfValues, present, least_fault_rank, capped, Summed}
use Rattle.exec_accumulators.proofs.Joins.{summed_put}
use Rattle.exec_hash_group.specs.ByNumber.{values_by_number}
use Rattle.exec_hash_group.specs.NumberSums.{NumbersSummed, AreSums, sum_value}
use Rattle.exec_hash_group.specs.Regrouping.{lists_by_number}
use Rattle.exec_hash_group.specs.States.{HaveTaken}
use Rattle.exec_hash_group.proofs.Merging.{have_both}
use Rattle.exec_hash_group.proofs.Steps.{with_more}

-- what a coefficient adds, whatever its scale
above_any : (s : ℕ) (c : ℤ) → above (Number 0 c) ≡ above (Number s c)
above_any s (pos n) = refl
above_any s (negsuc n) = refl

below_any : (s : ℕ) (c : ℤ) → below (Number 0 c) ≡ below (Number s c)
below_any s (pos n) = refl
below_any s (negsuc n) = refl

above_less : (s : ℕ) (c : ℤ) → c ≤ℤ pos (2 ^ 63) → above (Number s c) ≤ 2 ^ 63
above_less s (pos n) hi = omega (arith, ints, hi)
above_less s (negsuc n) hi = omega arith

below_less : (s : ℕ) (c : ℤ) → (pos 0 -ℤ pos (2 ^ 63)) ≤ℤ c → below (Number s c) ≤ 2 ^ 63
below_less s (pos n) lo = omega arith
below_less s (negsuc n) lo = omega (arith, ints, lo)

not_capped : (n k m : ℕ) → m < 2 ^ 32 → n ≤ m * 2 ^ 63 → k ≤ 2 ^ 63 → n + k ≡ capped (n + k)
not_capped n k m few a b = omega (arith, few, a, b)

-- a number of 64 bits more
term_more : (terms up down : ℕ) (values : List Value) (s : ℕ) (c : ℤ) → (pos 0 -ℤ pos (2 ^ 63)) ≤ℤ c → c ≤ℤ pos (2 ^ 63) → terms < 2 ^ 32
    → NumbersSummed terms up down values
    → NumbersSummed (terms + 1) (up + above (Number s c)) (down + below (Number s c)) (values ++ Number s c ∷ [])
term_more terms up down values s c lo hi few h =
    let a = above_less s c hi in
    let b = below_less s c lo in
    let u = h.above_small in
    let d = h.below_small in
    record {
      summed = summed_put true_rank terms true_rank (terms + 1) 1 up down (above (Number s c)) (below (Number s c)) (up + above (Number s c)) (down + below (Number s c)) (Number s c) values h.summed refl refl refl refl refl
          (not_capped up (above (Number s c)) terms few u a) (not_capped down (below (Number s c)) terms few d b);
      above_small = omega (arith, a, u);
      below_small = omega (arith, b, d);
    }

moved : (t u d t' u' d' : ℕ) (ws ws' : List Value) → t' ≡ t → u' ≡ u → d' ≡ d → ws' ≡ ws → NumbersSummed t u d ws → NumbersSummed t' u' d' ws'
moved t u d t' u' d' ws ws' a b c e h =
    let T : ℕ → Type 0 = λ x. NumbersSummed x u' d' ws' in
    let U : ℕ → Type 0 = λ x. NumbersSummed t x d' ws' in
    let D : ℕ → Type 0 = λ x. NumbersSummed t u x ws' in
    let W : List Value → Type 0 = λ x. NumbersSummed t u d x in
    subst T (sym a) (subst U (sym b) (subst D (sym c) (subst W (sym e) h)))

nothing : NumbersSummed 0 0 0 []
nothing = record { summed = record { least = refl; terms = refl; above_is = refl; below_is = refl }; above_small = omega arith; below_small = omega arith }

-- what the groups have of no rows
pub sums_none : (numbers : List ℕ) (values : List Value) (count : ℕ) (terms ups downs : List ℕ) → terms ≡ replicate count 0 → ups ≡ replicate count 0 → downs ≡ replicate count 0
    → AreSums (take 0 numbers) (take 0 values) count terms ups downs
sums_none numbers values count terms ups downs is_t is_u is_d =
    let none : (xs : List ℕ) → xs ≡ replicate count 0 → (n : ℕ) → n < count → get_or xs n 0 ≡ 0 = λ xs is n l. ap (λ ys. get_or ys n 0) is ∙ get_or-replicate count n 0 0 l in
    record {
      terms_long = ap length is_t ∙ length-replicate count 0;
      above_long = ap length is_u ∙ length-replicate count 0;
      below_long = ap length is_d ∙ length-replicate count 0;
      few = λ n l. let z = none terms is_t n l in omega (arith, z);
      each = λ n l. moved 0 0 0 (get_or terms n 0) (get_or ups n 0) (get_or downs n 0) [] [] (none terms is_t n l) (none ups is_u n l) (none downs is_d n l) refl nothing;
    }

-- one more at a place of a list, where it is the place asked for, and elsewhere
at_same : (xs ys : List ℕ) (k n more : ℕ) → k < length xs → n ≡ k → ys ≡ set xs k (get_or xs k 0 + more) → get_or ys n 0 ≡ get_or xs k 0 + more
at_same xs ys k n more l e is = ap (λ i. get_or ys i 0) e ∙ ap (λ zs. get_or zs k 0) is ∙ get_or-set_same xs k _ 0 l

at_other : (xs ys : List ℕ) (k n more : ℕ) → (n ≡ k → ⊥) → ys ≡ set xs k (get_or xs k 0 + more) → get_or ys n 0 ≡ get_or xs n 0
at_other xs ys k n more ne is = ap (λ zs. get_or zs n 0) is ∙ get_or-set_other xs k n _ 0 ne

long_set : (xs ys : List ℕ) (k more count : ℕ) → length xs ≡ count → ys ≡ set xs k (get_or xs k 0 + more) → length ys ≡ count
long_set xs ys k more count e is = ap length is ∙ length-set xs k _ ∙ e

-- one row more
pub sums_more : (numbers : List ℕ) (values : List Value) (count row k s : ℕ) (c : ℤ) (terms terms' ups ups' downs downs' : List ℕ)
    → slice_get numbers row ≡ Some k → slice_get values row ≡ Some (Number s c) → row < length numbers → length numbers < 2 ^ 32 → k < count
    → (pos 0 -ℤ pos (2 ^ 63)) ≤ℤ c → c ≤ℤ pos (2 ^ 63)
    → AreSums (take row numbers) (take row values) count terms ups downs
    → terms' ≡ set terms k (get_or terms k 0 + 1) → ups' ≡ set ups k (get_or ups k 0 + above (Number 0 c)) → downs' ≡ set downs k (get_or downs k 0 + below (Number 0 c))
    → AreSums (take (row + 1) numbers) (take (row + 1) values) count terms' ups' downs'
sums_more numbers values count row k s c terms terms' ups ups' downs downs' is_k is_v lr small lk lo hi r is_t is_u is_d =
    let lt : k < length terms = (let a = r.terms_long in omega (arith, a, lk)) in
    let lu : k < length ups = (let a = r.above_long in omega (arith, a, lk)) in
    let ld : k < length downs = (let a = r.below_long in omega (arith, a, lk)) in
    let m : row + 1 ≡ suc row = omega arith in
    let W : ℕ → ℕ → List Value = λ i n. with_number (take i numbers) (take i values) n in
    let grown : (n : ℕ) → W (row + 1) n ≡ W row n ++ cond (nat_eq k n) (Number s c ∷ []) [] =
    λ n. ap (λ i. W i n) m ∙ with_more numbers values n row k (Number s c) is_k is_v in
    let l0 : length (take row numbers) ≡ row = length-take-le row numbers (omega (arith, lr)) in
    let l1 : length (take (row + 1) numbers) ≡ row + 1 = length-take-le (row + 1) numbers (omega (arith, lr)) in
    let few_k : get_or terms k 0 < 2 ^ 32 = (let f = r.few k lk in omega (arith, f, l0, lr, small)) in
    record {
      terms_long = long_set terms terms' k 1 count r.terms_long is_t;
      above_long = long_set ups ups' k (above (Number 0 c)) count r.above_long is_u;
      below_long = long_set downs downs' k (below (Number 0 c)) count r.below_long is_d;
      few = λ n l. elim (cases_Bool (nat_eq n k)) [
        | inl t ↦ (let a = at_same terms terms' k n 1 lt (eqb-true n k t) is_t in let b = r.few k lk in omega (arith, a, b, l0, l1))
        | inr f ↦ (let a = at_other terms terms' k n 1 (eqb-false n k f) is_t in let b = r.few n l in omega (arith, a, b, l0, l1))
      ];
      each = λ n l. elim (cases_Bool (nat_eq n k)) [
        | inl t ↦ (let e : n ≡ k = eqb-true n k t in
            let w : W (row + 1) n ≡ W row k ++ Number s c ∷ [] =
            ap (W (row + 1)) e ∙ grown k ∙ ap (λ t. W row k ++ cond t (Number s c ∷ []) []) (eq-eqb k k refl) in
            moved _ _ _ (get_or terms' n 0) (get_or ups' n 0) (get_or downs' n 0) _ (W (row + 1) n)
            (at_same terms terms' k n 1 lt e is_t)
            (at_same ups ups' k n (above (Number 0 c)) lu e is_u ∙ ap (λ x. get_or ups k 0 + x) (above_any s c))
            (at_same downs downs' k n (below (Number 0 c)) ld e is_d ∙ ap (λ x. get_or downs k 0 + x) (below_any s c))
            w (term_more (get_or terms k 0) (get_or ups k 0) (get_or downs k 0) (W row k) s c lo hi few_k (r.each k lk)))
        | inr f ↦ (let ne : n ≡ k → ⊥ = eqb-false n k f in
            let w : W (row + 1) n ≡ W row n =
            grown n ∙ ap (λ t. W row n ++ cond t (Number s c ∷ []) []) (ne_eqb k n (λ e. ne (sym e))) ∙ append-nil (W row n) in
            moved _ _ _ (get_or terms' n 0) (get_or ups' n 0) (get_or downs' n 0) _ (W (row + 1) n)
            (at_other terms terms' k n 1 ne is_t) (at_other ups ups' k n (above (Number 0 c)) ne is_u) (at_other downs downs' k n (below (Number 0 c)) ne is_d)
            w (r.each n l))
      ];
    }

-- sums have room for more
sums_small : (terms up down : ℕ) (values : List Value) → NumbersSummed terms up down values → terms < 2 ^ 32 → (up < 2 ^ 127) × (down < 2 ^ 127)
sums_small terms up down values h few =
    let a = h.above_small in
    let b = h.below_small in
    (omega (arith, a, few), omega (arith, b, few))

pub sums_room : (numbers : List ℕ) (values : List Value) (count row k : ℕ) (terms ups downs : List ℕ) → row < length numbers → length numbers < 2 ^ 32 → k < count
    → AreSums (take row numbers) (take row values) count terms ups downs → (get_or terms k 0 + 1 < 2 ^ 64) × ((get_or ups k 0 < 2 ^ 127) × (get_or downs k 0 < 2 ^ 127))
sums_room numbers values count row k terms ups downs lr small lk r =
    let few = r.few k lk in
    let l0 : length (take row numbers) ≡ row = length-take-le row numbers (omega (arith, lr)) in
    (omega (arith, few, l0, lr, small), sums_small (get_or terms k 0) (get_or ups k 0) (get_or downs k 0) _ (r.each k lk) (omega (arith, few, l0, lr, small)))

-- all rows
pub sums_all : (numbers : List ℕ) (values : List Value) (count row : ℕ) (terms ups downs : List ℕ) → length numbers ≤ row → length values ≤ row
    → AreSums (take row numbers) (take row values) count terms ups downs → AreSums numbers values count terms ups downs
sums_all numbers values count row terms ups downs ln lv r =
    let N : List ℕ → Type 0 = λ ns. AreSums ns values count terms ups downs in
    let V : List Value → Type 0 = λ vs. AreSums (take row numbers) vs count terms ups downs in
    subst N (take_all row numbers ln) (subst V (take_all row values lv) r)

pub sums_fit : (numbers : List ℕ) (values : List Value) (count n : ℕ) (terms ups downs : List ℕ) → AreSums numbers values count terms ups downs → length numbers < 2 ^ 32 → n < count
    → (get_or ups n 0 < 2 ^ 127) × (get_or downs n 0 < 2 ^ 127)
sums_fit numbers values count n terms ups downs r small l =
    let few = r.few n l in
    sums_small (get_or terms n 0) (get_or ups n 0) (get_or downs n 0) _ (r.each n l) (omega (arith, few, small))

-- the aggregate's value
sum_is_value : (scale terms up down : ℕ) (values : List Value) → NumbersSummed terms up down values → terms < 2 ^ 32 → sum_value scale terms up down ≡ sum_of (reading scale) values
sum_is_value scale terms up down values h few =
    let room = sums_small terms up down values h few in
    let x = h.summed.above_is in
    let y = h.summed.below_is in
    let A = weigh above values in
    let B = weigh below values in
    let a : A ≡ up = omega (arith, x, room.0) in
    let b : B ≡ down = omega (arith, y, room.1) in
    let fit : nat_lt (max A B) (2 ^ 127) ≡ true = lt-ltb (max A B) (2 ^ 127) (omega (arith, a, b, room.0, room.1)) in
    let is : pos up -ℤ pos down ≡ pos (A - B) -ℤ pos (B - A) = omega (arith, ints, a, b) in
    let F : ℕ → ℕ → Bool → ℤ → Value = λ l n b z. cond (nat_lt l true_rank) (written l) (cond (n == 0) (written 1) (cond b (Number scale z) (written number_range_rank))) in
    let L = least_fault_rank values in
    let N = length (present values) in
    let z = pos up -ℤ pos down in
    ap (λ l. F l terms true z) h.summed.least ∙ ap (λ n. F L n true z) h.summed.terms ∙ ap (λ b. F L N b z) (sym fit) ∙ ap (F L N (nat_lt (max A B) (2 ^ 127))) is

-- one value more
by_number_push : (f : OfValues) (numbers : List ℕ) (values : List Value) (m n : ℕ)
    → values_by_number f numbers values m (suc n) ≡ values_by_number f numbers values m n ++ f (with_number numbers values (m + n)) ∷ []
by_number_push f numbers values m zero = let z : m ≡ m + 0 = omega arith in ap (λ k. f (with_number numbers values k) ∷ []) z
by_number_push f numbers values m (suc n) =
    let z : suc m + n ≡ m + suc n = omega arith in
    ap (λ vs. f (with_number numbers values m) ∷ vs)
    (by_number_push f numbers values (suc m) n ∙ ap (λ k. values_by_number f numbers values (suc m) n ++ f (with_number numbers values k) ∷ []) z)

pub sum_more : (scale : ℕ) (numbers : List ℕ) (values : List Value) (count number : ℕ) (terms ups downs : List ℕ) (old new : List Value) → AreSums numbers values count terms ups downs
    → length numbers < 2 ^ 32 → number < count → old ≡ values_by_number (sum_of (reading scale)) numbers values 0 number
    → new ≡ old ++ sum_value scale (get_or terms number 0) (get_or ups number 0) (get_or downs number 0) ∷ []
    → new ≡ values_by_number (sum_of (reading scale)) numbers values 0 (number + 1)
sum_more scale numbers values count number terms ups downs old new are small l before put =
    let f : OfValues = sum_of (reading scale) in
    let few = are.few number l in
    let here : number ≡ 0 + number = omega arith in
    let next : suc number ≡ number + 1 = omega arith in
    let sum : Value = sum_value scale (get_or terms number 0) (get_or ups number 0) (get_or downs number 0) in
    let value : sum ≡ f (with_number numbers values (0 + number)) =
    sum_is_value scale (get_or terms number 0) (get_or ups number 0) (get_or downs number 0) (with_number numbers values number) (are.each number l) (omega (arith, few, small))
    ∙ ap (λ k. f (with_number numbers values k)) here in
    put ∙ ap (λ vs. vs ++ sum ∷ []) before
    ∙ ap (λ v. values_by_number f numbers values 0 number ++ v ∷ []) value
    ∙ sym (by_number_push f numbers values 0 number) ∙ ap (values_by_number f numbers values 0) next

-- one list more
lists_push : (numbers : List ℕ) (values : List Value) (m n : ℕ) → lists_by_number numbers values m (suc n) ≡ lists_by_number numbers values m n ++ with_number numbers values (m + n) ∷ []
lists_push numbers values m zero = let z : m ≡ m + 0 = omega arith in ap (λ k. with_number numbers values k ∷ []) z
lists_push numbers values m (suc n) =
    let z : suc m + n ≡ m + suc n = omega arith in
    ap (λ ls. with_number numbers values m ∷ ls)
    (lists_push numbers values (suc m) n ∙ ap (λ k. lists_by_number numbers values (suc m) n ++ with_number numbers values k ∷ []) z)

module _ {S : Type 0} (has_taken : S → OfValues → List Value → Type 0) (terms : S → ℕ) (aggregate : OfValues) where
  few_one : (s : S) → terms s < 2 ^ 32 → (i : ℕ) (t : S) → slice_get (s ∷ []) i ≡ Some t → terms t < 2 ^ 32
  few_one s a zero t e = let h : s ≡ t = cc in let P : S → Type 0 = λ z. terms z < 2 ^ 32 in subst P h a
  few_one s a (suc i) t e = absurd (let e' : None ≡ Some t = e in cc)

  taken_one : (vs : List Value) (s : S) → has_taken s aggregate vs → (i : ℕ) (t : S) → slice_get (s ∷ []) i ≡ Some t → has_taken t aggregate (get_or (vs ∷ []) i [])
  taken_one vs s a zero t e = let h : s ≡ t = cc in let P : S → Type 0 = λ z. has_taken z aggregate vs in subst P h a
  taken_one vs s a (suc i) t e = absurd (let e' : None ≡ Some t = e in cc)

  -- one accumulator more, of a group's sums
  pub state_more : (numbers : List ℕ) (values : List Value) (count number t u d : ℕ) (ts ups downs : List ℕ) (states states' : List S) (s : S) → AreSums numbers values count ts ups downs
      → length numbers < 2 ^ 32 → number < count → HaveTaken has_taken terms aggregate (lists_by_number numbers values 0 number) states
      → t ≡ get_or ts number 0 → u ≡ get_or ups number 0 → d ≡ get_or downs number 0
      → terms s ≡ t → ((vs : List Value) → Summed true_rank t u d vs → has_taken s aggregate vs)
      → states' ≡ states ++ s ∷ [] → HaveTaken has_taken terms aggregate (lists_by_number numbers values 0 (number + 1)) states'
  state_more numbers values count number t u d ts ups downs states states' s are small l before is_t is_u is_d has gives push =
      let few = are.few number l in
      let vs : List Value = with_number numbers values number in
      let group : NumbersSummed t u d vs = moved (get_or ts number 0) (get_or ups number 0) (get_or downs number 0) t u d vs vs is_t is_u is_d refl (are.each number l) in
      let next : suc number ≡ number + 1 = omega arith in
      let here : 0 + number ≡ number = omega arith in
      let lists : lists_by_number numbers values 0 number ++ vs ∷ [] ≡ lists_by_number numbers values 0 (number + 1) =
      sym (ap (λ k. lists_by_number numbers values 0 number ++ with_number numbers values k ∷ []) here)
      ∙ sym (lists_push numbers values 0 number) ∙ ap (lists_by_number numbers values 0) next in
      let one : HaveTaken has_taken terms aggregate (vs ∷ []) (s ∷ []) =
      record { count = refl; few = few_one s (omega (arith, few, has, is_t, small)); taken = taken_one vs s (gives vs group.summed) } in
      let H : List S → Type 0 = λ ss. HaveTaken has_taken terms aggregate (lists_by_number numbers values 0 (number + 1)) ss in
      let L : List (List Value) → Type 0 = λ ls. HaveTaken has_taken terms aggregate ls (states ++ s ∷ []) in
      subst H (sym push) (subst L lists (have_both has_taken terms aggregate (lists_by_number numbers values 0 number) (vs ∷ []) states (s ∷ []) before one))
