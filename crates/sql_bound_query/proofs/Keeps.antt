-- A well-typed query keeps the kinds of its columns.
use Rattle.std.proofs.Common.{◌≡◌, ℕ, zero, suc, ◌-◌, ◌^◌, max, ◌<◌, ◌≤◌, List, [], ◌∷◌, ◌++◌}
use Rattle.std.proofs.Common.{Bool, true, false, ◌&&◌, ◌==◌, cond, map, length, replicate, refl}
use Rattle.std.proofs.Common.{sym, subst, arith, inl, inr}
use Rattle.std.specs.Prelude.{Option, Some, None, Result, Ok, Err, ℤ, slice_get}
use Rattle.std.specs.Prelude.{slice_index_or, if◌then◌else◌, nat_lt, min}
use Rattle.std.specs.Cmp.{first_so, second_so}
use Rattle.std.proofs.lemmas.Bool.{cases_Bool, ltb-true}
use Rattle.std.proofs.lemmas.Bool.Decides.{Decides-eqb}
use Rattle.expr_aggregates.specs.Values.{written, value_rank, reading, is_before}
use Rattle.expr_aggregates.specs.Values.{aggregate_of, number_or_fault}
use Rattle.expr_aggregates.specs.declared.function.AggregateFunction.{AggregateFunction}
use Rattle.expr_aggregates.specs.declared.function.AggregateFunction.TheVariants.{Count, CountDistinct}
use Rattle.expr_aggregates.specs.declared.function.AggregateFunction.TheVariants.{Sum, Avg, Min, Max}
use Rattle.base_decimal.specs.declared.arithmetic.NumberFault.{NumberFault}
use Rattle.base_decimal.specs.declared.arithmetic.NumberFault.TheVariants as decimal
use Rattle.base_decimal.specs.Tally.{sums, average_scale, average_of}
use Rattle.base_row_laws.specs.Aggregates.{first_of, not_null, unless_fault}
use Rattle.base_row_laws.specs.Bags.{Each, bottom, weigh}
use Rattle.base_row_laws.specs.Ranked.{true_rank}
use Rattle.base_row_laws.specs.Operators.{value_at}
use Rattle.base_row_laws.proofs.Lists.{Each-filter}
use Rattle.expr_scalar.specs.declared.kind.Kind.{Kind}
use Rattle.expr_scalar.specs.declared.kind.Kind.TheVariants as kind
use Rattle.expr_scalar.specs.Typing.{Sort, is_of_kind, row_is_of}
use Rattle.expr_scalar.specs.Typing.Sort.{Unfit, Nulls, Of}
use Rattle.base_value.specs.declared.truth.Fault.{Fault}
use Rattle.base_value.specs.declared.truth.Fault.TheVariants.{TooManyRows, DivideByZero, NumberRange}
use Rattle.base_value.specs.declared.value.Value.{Value}
use Rattle.base_value.specs.declared.value.Value.TheVariants as v
use Rattle.base_value.specs.Truth.{fault_rank}
use Rattle.sql_bound_query.specs.Meaning.{Env, column}
use Rattle.sql_bound_query.specs.Typing.{EnvKinds, env_is_of, where_some, all_some}
use Rattle.sql_bound_query.specs.Typing.{kind_of_sort, aggregate_sort}

-- ---- options

-- what was gone on with
pub record Found {A B : Type 0} (o : Option A) (f : A → Option B) (b : B) : Type 0 where
  pub it : A
  pub is : o ≡ Some it
  pub gives : f it ≡ Some b

pub some_of : {A B : Type 0} (o : Option A) (f : A → Option B) (b : B) → where_some o f ≡ Some b
    → Found o f b
some_of (Some a) f b e = record { it = a; is = refl; gives = e }
some_of None f b e = cc

-- what passed a test
pub record Passed {A : Type 0} (t : Bool) (o : Option A) (a : A) : Type 0 where
  pub test : t ≡ true
  pub is : o ≡ Some a

pub passed : {A : Type 0} (t : Bool) (o : Option A) (a : A) → (if t then o else None) ≡ Some a
    → Passed t o a
passed true o a e = record { test = refl; is = e }
passed false o a e = cc

pub some_is : {A : Type 0} (a b : A) → Some a ≡ Some b → a ≡ b
some_is a b e = cc

-- ---- values

pub both_so : (a b : Bool) → a ≡ true → b ≡ true → (a && b) ≡ true
both_so a b p q = rw (p, q) refl

cond_kind : (k : Kind) (b : Bool) (x y : Value) → is_of_kind k x ≡ true → is_of_kind k y ≡ true
    → is_of_kind k (cond b x y) ≡ true
cond_kind k true x y p q = p
cond_kind k false x y p q = q

written_fault : (k : Kind) (n : ℕ) → 2 ≤ n → n < 5 → is_of_kind k (written n) ≡ true
written_fault k zero low high = absurd (let e : 2 ≤ 0 = low in omega arith)
written_fault k (suc zero) low high = absurd (let e : 2 ≤ 1 = low in omega arith)
written_fault k (suc (suc zero)) low high = refl
written_fault k (suc (suc (suc zero))) low high = refl
written_fault k (suc (suc (suc (suc zero)))) low high = refl
written_fault k (suc (suc (suc (suc (suc n))))) low high = absurd (omega arith)

fault_low : (f : Fault) → 2 ≤ fault_rank f
fault_low TooManyRows = omega arith
fault_low DivideByZero = omega arith
fault_low NumberRange = omega arith

rank_low : (x : Value) → 2 ≤ value_rank x
rank_low v.Null = omega arith
rank_low (v.Fault f) = fault_low f
rank_low (v.Number s c) = omega arith
rank_low (v.Text t) = omega arith
rank_low (v.Date d) = omega arith

least_low : (xs : List Value) → 2 ≤ bottom true_rank value_rank xs
least_low [] = omega arith
least_low (x ∷ xs) = let a : 2 ≤ value_rank x = rank_low x in
    let b : 2 ≤ bottom true_rank value_rank xs = least_low xs in omega arith

unless_fault_kind : (s : ℕ) (k : Kind) (xs : List Value) (x : Value) → is_of_kind k x ≡ true
    → is_of_kind k (unless_fault (reading s) xs x) ≡ true
unless_fault_kind s k xs x h =
    let low : 2 ≤ bottom true_rank value_rank xs = least_low xs in
    elim (cases_Bool (nat_lt (bottom true_rank value_rank xs) true_rank)) [
      | inl t ↦ rw t (written_fault k (bottom true_rank value_rank xs) low
          (ltb-true (bottom true_rank value_rank xs) 5 t))
      | inr f ↦ rw f h
    ]

first_kind : (k : Kind) (before : Value → Value → Bool) (xs : List Value)
    → Each (λ x. is_of_kind k x ≡ true) xs → is_of_kind k (first_of before (written 1) xs) ≡ true
first_kind k before [] all = refl
first_kind k before (x ∷ []) all = all.0
first_kind k before (x ∷ y ∷ zs) all =
    cond_kind k (before x (first_of before (written 1) (y ∷ zs))) x
    (first_of before (written 1) (y ∷ zs)) all.0 (first_kind k before (y ∷ zs) all.1)

pub same_scale : (s : ℕ) → (s == s) ≡ true
same_scale s = (Decides-eqb s s).1 refl

number_kind : (s : ℕ) (r : Result ℤ NumberFault)
    → is_of_kind (kind.Number s) (number_or_fault s r) ≡ true
number_kind s (Ok c) = same_scale s
number_kind s (Err decimal.NumberRange) = refl
number_kind s (Err decimal.DivideByZero) = refl

-- the largest of both sums is in range
abbrev in_bounds : ℕ → List Value → Bool
in_bounds scale xs = nat_lt (max (weigh (reading scale).above xs) (weigh (reading scale).below xs))
    (2 ^ 127)

-- the sum as a number
abbrev added : ℕ → List Value → Value
added scale xs = (reading scale).number
    (weigh (reading scale).above xs - weigh (reading scale).below xs)
    (weigh (reading scale).below xs - weigh (reading scale).above xs)

-- the average, or its fault
abbrev average : ℕ → List Value → Result ℤ NumberFault
average scale xs = average_of
    (sums (length (not_null (reading scale) xs)) (weigh (reading scale).above xs)
    (weigh (reading scale).below xs)) scale

sum_kind : (s scale : ℕ) (xs : List Value) → (s == scale) ≡ true
    → is_of_kind (kind.Number s) (aggregate_of Sum scale xs) ≡ true
sum_kind s scale xs e =
    unless_fault_kind scale (kind.Number s) xs _
    (cond_kind (kind.Number s) (length (not_null (reading scale) xs) == 0) (written 1) _ refl
    (cond_kind (kind.Number s) (in_bounds scale xs) (added scale xs) (written 4) e refl))

average_kind : (s scale : ℕ) (xs : List Value) → (s == scale) ≡ true
    → is_of_kind (kind.Number (average_scale s)) (aggregate_of Avg scale xs) ≡ true
average_kind s scale xs e =
    let is : s ≡ scale = (Decides-eqb s scale).0 e in
    subst (λ t. is_of_kind (kind.Number (average_scale t)) (aggregate_of Avg scale xs) ≡ true)
    (sym is)
    (unless_fault_kind scale (kind.Number (average_scale scale)) xs _
    (cond_kind (kind.Number (average_scale scale)) (length (not_null (reading scale) xs) == 0)
    (written 1) _ refl
    (cond_kind (kind.Number (average_scale scale)) (in_bounds scale xs)
    (number_or_fault (average_scale scale) (average scale xs)) (written 4)
    (number_kind (average_scale scale) (average scale xs)) refl)))

count_kind : (xs : List Value) (f : AggregateFunction) (scale : ℕ)
    → is_of_kind (kind.Number 0) (aggregate_of Count scale xs) ≡ true
count_kind xs f scale = unless_fault_kind 0 (kind.Number 0) xs _ refl

distinct_kind : (xs : List Value) (scale : ℕ)
    → is_of_kind (kind.Number 0) (aggregate_of CountDistinct scale xs) ≡ true
distinct_kind xs scale = unless_fault_kind 0 (kind.Number 0) xs _ refl

pub to_kind : (j k : Kind) (x : Value) → Some j ≡ Some k → is_of_kind j x ≡ true
    → is_of_kind k x ≡ true
to_kind j k x e h = subst (λ i. is_of_kind i x ≡ true) (some_is j k e) h

-- an aggregate of values of its argument's kind has its own kind
pub aggregate_kept : (f : AggregateFunction) (scale : ℕ) (s : Sort) (k : Kind) (xs : List Value)
    → aggregate_sort f scale s ≡ Some k
    → ((j : Kind) → kind_of_sort s ≡ Some j → Each (λ x. is_of_kind j x ≡ true) xs)
    → is_of_kind k (aggregate_of f scale xs) ≡ true
aggregate_kept Count scale Unfit k xs e all = cc
aggregate_kept Count scale Nulls k xs e all = cc
aggregate_kept CountDistinct scale Unfit k xs e all = cc
aggregate_kept CountDistinct scale Nulls k xs e all = cc
aggregate_kept Sum scale Unfit k xs e all = cc
aggregate_kept Sum scale Nulls k xs e all = cc
aggregate_kept Avg scale Unfit k xs e all = cc
aggregate_kept Avg scale Nulls k xs e all = cc
aggregate_kept Min scale Unfit k xs e all = cc
aggregate_kept Min scale Nulls k xs e all = cc
aggregate_kept Max scale Unfit k xs e all = cc
aggregate_kept Max scale Nulls k xs e all = cc
aggregate_kept Count scale (Of j) k xs e all =
    to_kind (kind.Number 0) k _ e (count_kind xs Count scale)
aggregate_kept CountDistinct scale (Of j) k xs e all =
    to_kind (kind.Number 0) k _ e (distinct_kind xs scale)
aggregate_kept Sum scale (Of (kind.Number s)) k xs e all =
    let p : Passed (s == scale) (Some (kind.Number s)) k =
    passed (s == scale) (Some (kind.Number s)) k e in
    to_kind (kind.Number s) k _ p.is (sum_kind s scale xs p.test)
aggregate_kept Sum scale (Of kind.Text) k xs e all = cc
aggregate_kept Sum scale (Of kind.Date) k xs e all = cc
aggregate_kept Avg scale (Of (kind.Number s)) k xs e all =
    let p : Passed (s == scale) (Some (kind.Number (average_scale s))) k =
    passed (s == scale) (Some (kind.Number (average_scale s))) k e in
    to_kind (kind.Number (average_scale s)) k _ p.is (average_kind s scale xs p.test)
aggregate_kept Avg scale (Of kind.Text) k xs e all = cc
aggregate_kept Avg scale (Of kind.Date) k xs e all = cc
aggregate_kept Min scale (Of j) k xs e all =
    to_kind j k _ e
    (unless_fault_kind scale j xs _
    (first_kind j is_before (not_null (reading scale) xs)
    (Each-filter (λ x. is_of_kind j x ≡ true) _ xs (all j refl))))
aggregate_kept Max scale (Of j) k xs e all =
    to_kind j k _ e
    (unless_fault_kind scale j xs _
    (first_kind j (λ x y. is_before y x) (not_null (reading scale) xs)
    (Each-filter (λ x. is_of_kind j x ≡ true) _ xs (all j refl))))

-- ---- rows

pub row_append : (ls rs : List Kind) (xs ys : List Value) → row_is_of ls xs ≡ true
    → row_is_of rs ys ≡ true → row_is_of (ls ++ rs) (xs ++ ys) ≡ true
row_append [] rs [] ys h k = k
row_append [] rs (x ∷ xs) ys h k = cc
row_append (l ∷ ls) rs [] ys h k = cc
row_append (l ∷ ls) rs (x ∷ xs) ys h k =
    both_so (is_of_kind l x) (row_is_of (ls ++ rs) (xs ++ ys))
    (first_so (is_of_kind l x) (row_is_of ls xs) h)
    (row_append ls rs xs ys (second_so (is_of_kind l x) (row_is_of ls xs) h) k)

pub nulls_row : (rs : List Kind) (n : ℕ) → n ≡ length rs → row_is_of rs (replicate n v.Null) ≡ true
nulls_row [] zero e = refl
nulls_row [] (suc n) e = absurd (omega arith)
nulls_row (r ∷ rs) zero e = absurd (omega arith)
nulls_row (r ∷ rs) (suc n) e = nulls_row rs n (omega arith)

pub row_column : (ks : List Kind) (row : List Value) (place : ℕ) (k : Kind)
    → row_is_of ks row ≡ true → slice_get ks place ≡ Some k
    → is_of_kind k (slice_index_or row place v.Null) ≡ true
row_column [] row place k h e = cc
row_column (j ∷ ks) [] place k h e = cc
row_column (j ∷ ks) (x ∷ row) zero k h e =
    to_kind j k x e (first_so (is_of_kind j x) (row_is_of ks row) h)
row_column (j ∷ ks) (x ∷ row) (suc n) k h e =
    row_column ks row n k (second_so (is_of_kind j x) (row_is_of ks row) h) e

env_row : (kinds : EnvKinds) (env : Env) (level : ℕ) → env_is_of kinds env ≡ true
    → row_is_of (slice_index_or kinds level []) (slice_index_or env level []) ≡ true
env_row [] [] level h = refl
env_row [] (r ∷ env) level h = cc
env_row (ks ∷ kinds) [] level h = cc
env_row (ks ∷ kinds) (r ∷ env) zero h = first_so (row_is_of ks r) (env_is_of kinds env) h
env_row (ks ∷ kinds) (r ∷ env) (suc n) h =
    env_row kinds env n (second_so (row_is_of ks r) (env_is_of kinds env) h)

pub column_kept : (kinds : EnvKinds) (env : Env) (level place : ℕ) (k : Kind)
    → env_is_of kinds env ≡ true → slice_get (slice_index_or kinds level []) place ≡ Some k
    → is_of_kind k (column env level place) ≡ true
column_kept kinds env level place k h e =
    row_column (slice_index_or kinds level []) (slice_index_or env level []) place k
    (env_row kinds env level h) e

-- the values at GROUP BY columns
pub keys_kept : (ls : List Kind) (row : List Value) (keys : List ℕ) (js : List Kind)
    → row_is_of ls row ≡ true → all_some (map (slice_get ls) keys) ≡ Some js
    → row_is_of js (map (λ c. slice_index_or row c v.Null) keys) ≡ true
keys_kept ls row [] js h e = subst (λ z. row_is_of z [] ≡ true) (some_is [] js e) refl
keys_kept ls row (c ∷ keys) js h e =
    let f = some_of (slice_get ls c)
    (λ a. where_some (all_some (map (slice_get ls) keys)) (λ all. Some (a ∷ all))) js e in
    let g = some_of (all_some (map (slice_get ls) keys)) (λ all. Some (f.it ∷ all)) js f.gives in
    subst (λ z. row_is_of z (map (λ c. slice_index_or row c v.Null) (c ∷ keys)) ≡ true)
    (some_is (f.it ∷ g.it) js g.gives)
    (both_so (is_of_kind f.it (slice_index_or row c v.Null))
    (row_is_of g.it (map (λ c. slice_index_or row c v.Null) keys)) (row_column ls row c f.it h f.is)
    (keys_kept ls row keys g.it h g.is))

-- a mark is a whole number, null or a fault
pub mark_kept : (n : ℕ) → is_of_kind (kind.Number 0) (written n) ≡ true
mark_kept zero = refl
mark_kept (suc zero) = refl
mark_kept (suc (suc zero)) = refl
mark_kept (suc (suc (suc zero))) = refl
mark_kept (suc (suc (suc (suc zero)))) = refl
mark_kept (suc (suc (suc (suc (suc n))))) = refl

-- a value at a standing that is no less than the faults
pub value_at_kept : (k : Kind) (x : Value) (s : ℕ) → 2 ≤ s → is_of_kind k x ≡ true
    → is_of_kind k (value_at written value_rank x s) ≡ true
value_at_kept k x s low h =
    let own : 2 ≤ value_rank x = rank_low x in
    elim (cases_Bool (nat_lt (min s (value_rank x)) true_rank)) [
      | inl t ↦ let high : min s (value_rank x) < 5 = ltb-true (min s (value_rank x)) 5 t in
          rw t (written_fault k (min s (value_rank x)) (omega arith) high)
      | inr f ↦ rw f h
    ]
