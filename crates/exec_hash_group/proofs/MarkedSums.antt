-- Lemmas on what sums see of values some of which are null.
use Rattle.std.proofs.Common.{◌≡◌, ℕ, ◌+◌, ◌<◌, ◌≤◌, suc, zero, List, [], ◌∷◌, ◌++◌, refl, sym, ap, ◌∙◌, arith, length, get_or, take, map, Bool, true, false, cond, min}
use Rattle.std.specs.Prelude.{nat_eq, not}
use Rattle.std.proofs.lemmas.List.{append-nil}
use Rattle.base_null_marks.specs.Marks.{marked, has}
use Rattle.base_columns.specs.Lists.{AreBelow}
use Rattle.base_row_laws.specs.Bags.{weigh}
use Rattle.base_row_laws.specs.Ranked.{true_rank}
use Rattle.base_row_laws.specs.TableLaws.{with_number}
use Rattle.base_value.specs.declared.value.Value.{Value}
use Rattle.base_value.specs.declared.value.Value.TheVariants.{Null}
use Rattle.expr_aggregates.specs.Values.{above, below, is_null, value_rank}
use Rattle.exec_accumulators.specs.Accumulators.{present, least_fault_rank, capped}
use Rattle.exec_hash_group.specs.NumberSums.{NumbersSummed, AreSums}
use Rattle.exec_hash_group.specs.Unmarked.{unmarked}

of_none : {A : Type 0} (ms : List Bool) (xs : List A) → unmarked ms (take 0 xs) ≡ []
of_none [] xs = refl
of_none (m ∷ ms) xs = refl

-- a loop's step: one element more, unless it is marked
unmarked_more : {A : Type 0} (ms : List Bool) (xs : List A) (i : ℕ) (d : A) → i < length xs
    → unmarked ms (take (i + 1) xs) ≡ unmarked ms (take i xs) ++ cond (has ms i) [] (get_or xs i d ∷ [])
unmarked_more ms [] i d h = absurd (omega (arith, h))
unmarked_more [] (x ∷ xs) zero d h = refl
unmarked_more (true ∷ ms) (x ∷ xs) zero d h = rw (of_none ms xs) refl
unmarked_more (false ∷ ms) (x ∷ xs) zero d h = rw (of_none ms xs) refl
unmarked_more [] (x ∷ xs) (suc i) d h =
    let n : suc i + 1 ≡ suc (i + 1) = omega arith in
    rw n (ap (λ ys. x ∷ ys) (unmarked_more [] xs i d (omega (arith, h))))
unmarked_more (true ∷ ms) (x ∷ xs) (suc i) d h =
    let n : suc i + 1 ≡ suc (i + 1) = omega arith in
    rw n (unmarked_more ms xs i d (omega (arith, h)))
unmarked_more (false ∷ ms) (x ∷ xs) (suc i) d h =
    let n : suc i + 1 ≡ suc (i + 1) = omega arith in
    rw n (ap (λ ys. x ∷ ys) (unmarked_more ms xs i d (omega (arith, h))))

pub left_out : {A : Type 0} (ms : List Bool) (xs out : List A) (i : ℕ) → i < length xs → has ms i ≡ true → out ≡ unmarked ms (take i xs) → out ≡ unmarked ms (take (i + 1) xs)
left_out ms [] out i l h e = absurd (omega (arith, l))
left_out ms (x ∷ xs) out i l h e = e ∙ sym (unmarked_more ms (x ∷ xs) i x l ∙ ap (λ b. unmarked ms (take i (x ∷ xs)) ++ cond b [] (get_or (x ∷ xs) i x ∷ [])) h ∙ append-nil (unmarked ms (take i (x ∷ xs))))

pub none_yet : {A : Type 0} (ms : List Bool) (xs : List A) → [] ≡ unmarked ms (take 0 xs)
none_yet ms xs = sym (of_none ms xs)

pub taken : {A : Type 0} (ms : List Bool) (xs out new : List A) (i : ℕ) (d x : A) → i < length xs → has ms i ≡ false → out ≡ unmarked ms (take i xs) → x ≡ get_or xs i d → new ≡ out ++ x ∷ []
    → new ≡ unmarked ms (take (i + 1) xs)
taken ms xs out new i d x l h e f o =
    o ∙ ap (λ ys. ys ++ x ∷ []) e ∙ ap (λ y. unmarked ms (take i xs) ++ y ∷ []) f ∙ sym (unmarked_more ms xs i d l ∙ ap (λ b. unmarked ms (take i xs) ++ cond b [] (get_or xs i d ∷ [])) h)

-- what is left of two lists of one length
pub unmarked_long : {A B : Type 0} (ms : List Bool) (ns : List A) (xs : List B) → length ns ≡ length xs → length (unmarked ms ns) ≡ length (unmarked ms xs)
unmarked_long [] ns xs l = l
unmarked_long (m ∷ ms) [] [] l = refl
unmarked_long (m ∷ ms) [] (x ∷ xs) l = absurd (omega (arith, l))
unmarked_long (m ∷ ms) (n ∷ ns) [] l = absurd (omega (arith, l))
unmarked_long (true ∷ ms) (n ∷ ns) (x ∷ xs) l = unmarked_long ms ns xs (omega (arith, l))
unmarked_long (false ∷ ms) (n ∷ ns) (x ∷ xs) l = ap suc (unmarked_long ms ns xs (omega (arith, l)))

pub unmarked_fewer : {A : Type 0} (ms : List Bool) (xs : List A) → length (unmarked ms xs) ≤ length xs
unmarked_fewer [] xs = omega arith
unmarked_fewer (m ∷ ms) [] = omega arith
unmarked_fewer (true ∷ ms) (x ∷ xs) = let h = unmarked_fewer ms xs in omega (arith, h)
unmarked_fewer (false ∷ ms) (x ∷ xs) = let h = unmarked_fewer ms xs in omega (arith, h)

pub unmarked_below : (n : ℕ) (ms : List Bool) (xs : List ℕ) → AreBelow n xs → AreBelow n (unmarked ms xs)
unmarked_below n [] xs h k d l = h k d l
unmarked_below n (m ∷ ms) [] h k d l = absurd (omega (arith, l))
unmarked_below n (true ∷ ms) (x ∷ xs) h k d l = unmarked_below n ms xs (λ j e i. h (suc j) e (omega (arith, i))) k d l
unmarked_below n (false ∷ ms) (x ∷ xs) h zero d l = h 0 d (omega arith)
unmarked_below n (false ∷ ms) (x ∷ xs) h (suc k) d l = unmarked_below n ms xs (λ j e i. h (suc j) e (omega (arith, i))) k d (omega (arith, l))

pub map-unmarked : {A B : Type 0} (f : A → B) (ms : List Bool) (xs : List A) → map f (unmarked ms xs) ≡ unmarked ms (map f xs)
map-unmarked f [] xs = refl
map-unmarked f (m ∷ ms) [] = refl
map-unmarked f (true ∷ ms) (x ∷ xs) = map-unmarked f ms xs
map-unmarked f (false ∷ ms) (x ∷ xs) = ap (λ ys. f x ∷ ys) (map-unmarked f ms xs)

-- a function of a list of values for which nulls count for nothing
record LeavesNullsOut {A : Type 0} (f : List Value → A) : Type 0 where
  skip : (vs : List Value) → f (Null ∷ vs) ≡ f vs
  cons : (v : Value) (vs ws : List Value) → f vs ≡ f ws → f (v ∷ vs) ≡ f (v ∷ ws)

skipped : {A : Type 0} (f : List Value → A) → LeavesNullsOut f → (b : Bool) (vs : List Value) → f (cond b (Null ∷ vs) vs) ≡ f vs
skipped f r true vs = r.skip vs
skipped f r false vs = refl

kept : {A : Type 0} (f : List Value → A) → LeavesNullsOut f → (b : Bool) (v : Value) (vs ws : List Value) → f vs ≡ f ws → f (cond b (v ∷ vs) vs) ≡ f (cond b (v ∷ ws) ws)
kept f r true v vs ws e = r.cons v vs ws e
kept f r false v vs ws e = e

-- what such a function makes of a group's values
group_is : {A : Type 0} (f : List Value → A) → LeavesNullsOut f → (ms : List Bool) (ns : List ℕ) (xs : List Value) (n : ℕ) → length ns ≡ length xs
    → f (with_number ns (marked Null ms xs) n) ≡ f (with_number (unmarked ms ns) (unmarked ms xs) n)
group_is f r [] ns xs n l = refl
group_is f r (m ∷ ms) [] [] n l = refl
group_is f r (m ∷ ms) [] (x ∷ xs) n l = absurd (omega (arith, l))
group_is f r (m ∷ ms) (i ∷ ns) [] n l = absurd (omega (arith, l))
group_is f r (true ∷ ms) (i ∷ ns) (x ∷ xs) n l =
    skipped f r (nat_eq i n) (with_number ns (marked Null ms xs) n) ∙ group_is f r ms ns xs n (omega (arith, l))
group_is f r (false ∷ ms) (i ∷ ns) (x ∷ xs) n l =
    kept f r (nat_eq i n) x (with_number ns (marked Null ms xs) n) (with_number (unmarked ms ns) (unmarked ms xs) n) (group_is f r ms ns xs n (omega (arith, l)))

least_below : (vs : List Value) → least_fault_rank vs ≤ true_rank
least_below [] = omega arith
least_below (v ∷ vs) = let h = least_below vs in omega (arith, h)

least_skips : LeavesNullsOut least_fault_rank
least_skips = record {
  skip = λ vs. let h = least_below vs in omega (arith, h);
  cons = λ v vs ws e. ap (min (value_rank v)) e;
}

present_skips : LeavesNullsOut present
present_skips = record { skip = λ vs. refl; cons = λ v vs ws e. one v vs ws e }
  where
    one : (v : Value) (vs ws : List Value) → present vs ≡ present ws → present (v ∷ vs) ≡ present (v ∷ ws)
    one v vs ws e = ap (λ us. cond (not (is_null v)) (v ∷ us) us) e

weigh_skips : (h : Value → ℕ) → h Null ≡ 0 → LeavesNullsOut (weigh h)
weigh_skips h e = record {
  skip = λ vs. omega (arith, e);
  cons = λ v vs ws f. ap (λ n. h v + n) f;
}

numbers_summed : (ms : List Bool) (ns : List ℕ) (xs : List Value) (n t u d : ℕ) → length ns ≡ length xs
    → NumbersSummed t u d (with_number (unmarked ms ns) (unmarked ms xs) n) → NumbersSummed t u d (with_number ns (marked Null ms xs) n)
numbers_summed ms ns xs n t u d l h = record {
  summed = record {
    least = h.summed.least ∙ sym (group_is least_fault_rank least_skips ms ns xs n l);
    terms = h.summed.terms ∙ sym (ap length (group_is present present_skips ms ns xs n l));
    above_is = h.summed.above_is ∙ sym (ap capped (group_is (weigh above) (weigh_skips above refl) ms ns xs n l));
    below_is = h.summed.below_is ∙ sym (ap capped (group_is (weigh below) (weigh_skips below refl) ms ns xs n l));
  };
  above_small = h.above_small;
  below_small = h.below_small;
}

pub marked_sums_are : (ms : List Bool) (ns : List ℕ) (xs : List Value) (count : ℕ) (terms ups downs : List ℕ) → length ns ≡ length xs
    → AreSums (unmarked ms ns) (unmarked ms xs) count terms ups downs → AreSums ns (marked Null ms xs) count terms ups downs
marked_sums_are ms ns xs count terms ups downs l h = record {
  terms_long = h.terms_long;
  above_long = h.above_long;
  below_long = h.below_long;
  few = λ n i. let f = h.few n i in let g = unmarked_fewer ms ns in omega (arith, f, g);
  each = λ n i. numbers_summed ms ns xs n (get_or terms n 0) (get_or ups n 0) (get_or downs n 0) l (h.each n i);
}
