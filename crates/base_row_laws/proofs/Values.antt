-- Aggregates, marks and scalar values don't depend on the order of the rows.
use Rattle.std.proofs.Common.{◌≡◌, ℕ, ◌+◌, ◌-◌, List, [], ◌∷◌, ◌++◌, Bool, true, cond, refl, sym, ◌∙◌, ap, arith, inl, inr, length, Some, None}
use Rattle.std.proofs.Math.Dec.{ltb}
use Rattle.std.specs.Prelude.{not, min, ◌&&◌, ◌==◌, Option, slice_index_or, nat_lt}
use Rattle.std.proofs.lemmas.Bool.{cases_Bool, true≢false, and_parts, eqb-true, eq-eqb, lt-ltb}
use Rattle.base_row_laws.specs.Ranked.{Ranked, ranked, unknown_rank, too_many_rows_rank, true_rank}
use Rattle.base_row_laws.specs.Bags.{weigh, SameBag, IsIdentity, each_once, OfBag, Each, top, bottom}
use Rattle.base_row_laws.specs.Rows.{same_row}
use Rattle.base_row_laws.specs.Operators.{mark_of, scalar_of, value_at}
use Rattle.base_row_laws.specs.Aggregates.{Reading, run, Exchanges, IsOrder, first, first_of, ReadsNulls, not_null, least_fault, aggregated, unless_fault, unless_none, unless_range, count_rows, count_of, count_distinct_of, sum_of, avg_of, min_of, max_of}
use Rattle.base_row_laws.specs.ValueLaws.{GivesLeastFault, SkipsNulls}
use Rattle.base_row_laws.proofs.Rows.{same_row_is}
use Rattle.base_row_laws.proofs.Lists.{filter_within}
use Rattle.base_row_laws.proofs.OfBags.{bottom_most, OfBag-top, OfBag-bottom, OfBag-weigh, OfBag-both, OfBag-then, OfBag-map, OfBag-filter, OfBag-length, OfBag-each_once, OfBag-run, OfBag-by_number}

-- the first by an order, as a fold
module _ {X : Type 0} (before : X → X → Bool) (order : IsOrder before) where
  pub first_comm : (x y : X) → first before x y ≡ first before y x
  first_comm x y = elim (cases_Bool (before x y)) [
    | inl s ↦ elim (cases_Bool (before y x)) [ inl t ↦ rw (s, t) (order.both x y s t) | inr f ↦ rw (s, f) ]
    | inr f ↦ let t = order.either x y f in rw (f, t)
  ]

  pub first_exchange : (x y z : X) → first before x (first before y z) ≡ first before y (first before x z)
  first_exchange x y z = elim (cases_Bool (before x y)) [
    | inl a ↦
        let c : first before y x ≡ x = first_comm y x ∙ rw a in
        elim (cases_Bool (before y z)) [
          | inl b ↦ let d = order.through x y z a b in rw (b, a, d) (sym c)
          | inr b ↦ elim (cases_Bool (before x z)) [ inl d ↦ rw (b, d) (sym c) | inr d ↦ rw (b, d, b) ]
        ]
    | inr a ↦
        let a' = order.either x y a in
        elim (cases_Bool (before y z)) [
          | inl b ↦ elim (cases_Bool (before x z)) [ inl d ↦ rw (b, a, d, a') | inr d ↦ rw (b, a, d, b) ]
          | inr b ↦ elim (cases_Bool (before x z)) [
            | inl d ↦ absurd (true≢false (sym (order.through x z y d (order.either y z b)) ∙ a))
            | inr d ↦ rw (b, d, b)
          ]
        ]
  ]

  abbrev nearer : X → Option X → Option X
  nearer x None = Some x
  nearer x (Some y) = Some (first before x y)

  nearer_exchanges : Exchanges nearer
  nearer_exchanges = record { steps = go }
    where
      go : (x y : X) (s : Option X) → nearer x (nearer y s) ≡ nearer y (nearer x s)
      go x y None = ap Some (first_comm x y)
      go x y (Some z) = ap Some (first_exchange x y z)

  abbrev or_given : X → Option X → X
  or_given n None = n
  or_given n (Some x) = x

  found : (n x : X) (xs : List X) → run nearer None (x ∷ xs) ≡ Some (first_of before n (x ∷ xs))
  found n x [] = refl
  found n x (y ∷ zs) = ap (nearer x) (found n y zs)

  first_is : (n : X) (xs : List X) → first_of before n xs ≡ or_given n (run nearer None xs)
  first_is n [] = refl
  first_is n (x ∷ xs) = sym (ap (or_given n) (found n x xs))

  pub OfBag-first : (same : X → X → Bool) → IsIdentity same → (n : X) → OfBag (first_of before n)
  OfBag-first same is n = record {
    alike = λ xs ys e. first_is n xs ∙ ap (or_given n) ((OfBag-run same is nearer nearer_exchanges None).alike xs ys e) ∙ sym (first_is n ys);
  }

-- A total order tells identical values: those that come before one another.
pub of_order : {X : Type 0} (before : X → X → Bool) → IsOrder before → IsIdentity (λ x y. before x y && before y x)
of_order before order = record {
  meets = λ x. elim (cases_Bool (before x x)) [ inl t ↦ rw t | inr f ↦ rw (order.either x x f) ];
  tells = λ x y e. let p = and_parts (before x y) (before y x) e in order.both x y p.0 p.1;
}

-- an order turned round is one
pub turned_round : {X : Type 0} (before : X → X → Bool) → IsOrder before → IsOrder (λ x y. before y x)
turned_round before order = record {
  either = λ x y e. order.either y x e;
  both = λ x y s t. order.both x y t s;
  through = λ x y z s t. order.through z y x t s;
}

module _ {V : Type 0} (m : Reading V) where
  OfBag-unless : (a : List V → V) → OfBag a → OfBag (λ vs. unless_fault m vs (a vs))
  OfBag-unless a p = OfBag-both (λ r v. cond (nat_lt r true_rank) (m.write r) v) (bottom true_rank m.fault_rank) a (OfBag-bottom true_rank m.fault_rank) p

  OfBag-terms : OfBag (λ vs. length (not_null m vs))
  OfBag-terms = OfBag-filter (λ v. not (m.is_null v)) (λ vs. length vs) OfBag-length

  OfBag-unless_none : (a : List V → V) → OfBag a → OfBag (λ vs. unless_none m vs (a vs))
  OfBag-unless_none a p = OfBag-both (λ n v. cond (n == 0) (m.write unknown_rank) v) (λ vs. length (not_null m vs)) a OfBag-terms p

  OfBag-unless_range : (a : List V → V) → OfBag a → OfBag (λ vs. unless_range m vs (a vs))
  OfBag-unless_range a p = record {
    alike = λ xs ys e.
        let u : weigh m.above xs ≡ weigh m.above ys = e.weighs m.above in
        let d : weigh m.below xs ≡ weigh m.below ys = e.weighs m.below in
        let w = p.alike xs ys e in
        rw (u, d, w);
  }

  pub count_rows_bag : OfBag (count_rows m)
  count_rows_bag = OfBag-then (λ n. m.number n 0) (λ vs. length vs) OfBag-length

  pub count_bag : OfBag (count_of m)
  count_bag = OfBag-unless (λ vs. m.number (length (not_null m vs)) 0) (OfBag-then (λ n. m.number n 0) (λ vs. length (not_null m vs)) OfBag-terms)

  pub count_distinct_bag : (same : V → V → Bool) → IsIdentity same → OfBag (count_distinct_of m same)
  count_distinct_bag same is =
      OfBag-unless (λ vs. m.number (length (each_once same (not_null m vs))) 0)
      (OfBag-then (λ n. m.number n 0) (λ vs. length (each_once same (not_null m vs)))
      (OfBag-filter (λ v. not (m.is_null v)) (λ vs. length (each_once same vs)) (OfBag-each_once same is (λ vs. length vs) OfBag-length)))

  abbrev difference : List V → V
  difference vs = m.number (weigh m.above vs - weigh m.below vs) (weigh m.below vs - weigh m.above vs)

  difference_bag : OfBag difference
  difference_bag = OfBag-both (λ u d. m.number (u - d) (d - u)) (weigh m.above) (weigh m.below) (OfBag-weigh m.above) (OfBag-weigh m.below)

  pub sum_bag : OfBag (sum_of m)
  sum_bag = OfBag-unless (λ vs. unless_none m vs (unless_range m vs (difference vs)))
      (OfBag-unless_none (λ vs. unless_range m vs (difference vs)) (OfBag-unless_range difference difference_bag))

  pub avg_bag : (divided : ℕ → ℕ → ℕ → V) → OfBag (avg_of m divided)
  avg_bag divided =
      let quotient : List V → V = λ vs. divided (weigh m.above vs) (weigh m.below vs) (length (not_null m vs)) in
      let bag : OfBag quotient = record {
        alike = λ xs ys e.
            let u : weigh m.above xs ≡ weigh m.above ys = e.weighs m.above in
            let d : weigh m.below xs ≡ weigh m.below ys = e.weighs m.below in
            let n = OfBag-terms.alike xs ys e in
            rw (u, d, n);
      } in
      OfBag-unless (λ vs. unless_none m vs (unless_range m vs (quotient vs))) (OfBag-unless_none (λ vs. unless_range m vs (quotient vs)) (OfBag-unless_range quotient bag))

  pub min_bag : (same before : V → V → Bool) → IsIdentity same → IsOrder before → OfBag (min_of m before)
  min_bag same before is order =
      OfBag-unless (λ vs. first_of before (m.write unknown_rank) (not_null m vs))
      (OfBag-filter (λ v. not (m.is_null v)) (first_of before (m.write unknown_rank)) (OfBag-first before order same is (m.write unknown_rank)))

  pub max_bag : (same before : V → V → Bool) → IsIdentity same → IsOrder before → OfBag (max_of m before)
  max_bag same before is order = min_bag same (λ x y. before y x) is (turned_round before order)

module _ {V : Type 0} where
  -- a mark: the greatest of lesser(standing, condition) over the partners, as a value
  pub mark_bag : (write : ℕ → V) (c : List V → ℕ) (x : List V) → OfBag (mark_of write c x)
  mark_bag write c x = let f : Ranked V → ℕ = λ u. min u.standing (c (x ++ u.values)) in OfBag-then write (top f) (OfBag-top f)

  module _ (same : V → V → Bool) (is : IsIdentity same) where
    abbrev same_ranked : Ranked V → Ranked V → Bool
    same_ranked a b = same_row same a.values b.values && a.standing == b.standing

    pub same_ranked_is : IsIdentity same_ranked
    same_ranked_is = record {
      meets = λ a. rw ((same_row_is same is).meets a.values, eq-eqb a.standing a.standing refl);
      tells = λ a b e. let p = and_parts (same_row same a.values b.values) (a.standing == b.standing) e in
          let v = (same_row_is same is).tells a.values b.values p.0 in let s = eqb-true a.standing b.standing p.1 in
          ap (λ r. ranked r a.standing) v ∙ ap (λ t. ranked b.values t) s;
    }

    pub scalar_bag : (write : ℕ → V) (fault_rank : V → ℕ) (i : ℕ) → OfBag (scalar_of write fault_rank i)
    scalar_bag write fault_rank i =
        OfBag-by_number same_ranked same_ranked_is (write unknown_rank) (λ u. value_at write fault_rank (slice_index_or u.values i (write unknown_rank)) u.standing) (write too_many_rows_rank)

-- the aggregates of a query
pub aggregated_bag : {V : Type 0} (items : List ((List V → V) × (List V → V))) → Each (λ a. OfBag a.1) items → OfBag (aggregated items)
aggregated_bag {V} items all = record { alike = λ xs ys e. go items all xs ys e }
  where
    go : (items : List ((List V → V) × (List V → V))) → Each (λ a. OfBag a.1) items → (xs ys : List (Ranked V)) → SameBag xs ys → aggregated items xs ≡ aggregated items ys
    go [] all xs ys e = refl
    go (a ∷ items) all xs ys e = rw ((OfBag-map {X = Ranked V} (λ y. a.0 y.values) a.1 all.0).alike xs ys e, go items all.1 xs ys e)

-- nulls are skipped
module _ {V : Type 0} (m : Reading V) (nulls : ReadsNulls m) where
  fault_there : (vs : List V) → least_fault m (not_null m vs) ≡ least_fault m vs
  fault_there [] = refl
  fault_there (v ∷ vs) =
      let ih = fault_there vs in
      elim (cases_Bool (m.is_null v)) [
        | inl t ↦ let k = nulls.no_fault v t in let b = bottom_most true_rank m.fault_rank vs in rw (t, k) (omega (arith, ih, b))
        | inr f ↦ rw f (ap (min (m.fault_rank v)) ih)
      ]

  weigh_there : (h : V → ℕ) → ((v : V) → m.is_null v ≡ true → h v ≡ 0) → (vs : List V) → weigh h (not_null m vs) ≡ weigh h vs
  weigh_there h none [] = refl
  weigh_there h none (v ∷ vs) =
      let ih = weigh_there h none vs in
      elim (cases_Bool (m.is_null v)) [
        | inl t ↦ let k = none v t in rw t (omega (arith, ih, k))
        | inr f ↦ rw f (ap (λ n. h v + n) ih)
      ]

  once_more : (vs : List V) → not_null m (not_null m vs) ≡ not_null m vs
  once_more vs = filter_within (λ v. not (m.is_null v)) (λ v. not (m.is_null v)) vs (λ v t. t)

  count_skips : (vs : List V) → count_of m (not_null m vs) ≡ count_of m vs
  count_skips vs = rw (fault_there vs, once_more vs)

  count_distinct_skips : (same : V → V → Bool) (vs : List V) → count_distinct_of m same (not_null m vs) ≡ count_distinct_of m same vs
  count_distinct_skips same vs = rw (fault_there vs, once_more vs)

  sum_skips : (vs : List V) → sum_of m (not_null m vs) ≡ sum_of m vs
  sum_skips vs = rw (fault_there vs, once_more vs, weigh_there m.above nulls.none_above vs, weigh_there m.below nulls.none_below vs)

  avg_skips : (divided : ℕ → ℕ → ℕ → V) (vs : List V) → avg_of m divided (not_null m vs) ≡ avg_of m divided vs
  avg_skips divided vs = rw (fault_there vs, once_more vs, weigh_there m.above nulls.none_above vs, weigh_there m.below nulls.none_below vs)

  min_skips : (before : V → V → Bool) (vs : List V) → min_of m before (not_null m vs) ≡ min_of m before vs
  min_skips before vs = rw (fault_there vs, once_more vs)

  pub nulls_skipped : (divided : ℕ → ℕ → ℕ → V) (before same : V → V → Bool)
      → SkipsNulls m (count_of m) × SkipsNulls m (count_distinct_of m same) × SkipsNulls m (sum_of m) × SkipsNulls m (avg_of m divided) × SkipsNulls m (min_of m before) × SkipsNulls m (max_of m before)
  nulls_skipped divided before same = (count_skips, count_distinct_skips same, sum_skips, avg_skips divided, min_skips before, min_skips (λ x y. before y x))

-- the least fault first
pub faults_first : {V : Type 0} (m : Reading V) (divided : ℕ → ℕ → ℕ → V) (before same : V → V → Bool)
    → GivesLeastFault m (count_of m) × GivesLeastFault m (count_distinct_of m same) × GivesLeastFault m (sum_of m) × GivesLeastFault m (avg_of m divided) × GivesLeastFault m (min_of m before) × GivesLeastFault m (max_of m before)
faults_first m divided before same = (λ vs l. rw (lt-ltb (least_fault m vs) true_rank l), λ vs l. rw (lt-ltb (least_fault m vs) true_rank l), λ vs l. rw (lt-ltb (least_fault m vs) true_rank l), λ vs l. rw (lt-ltb (least_fault m vs) true_rank l), λ vs l. rw (lt-ltb (least_fault m vs) true_rank l), λ vs l. rw (lt-ltb (least_fault m vs) true_rank l))
