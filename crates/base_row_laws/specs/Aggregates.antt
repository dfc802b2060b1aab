-- Aggregates, as functions of the list of their argument's values over a group.
use Rattle.std.specs.Prelude.{◌≡◌, ℕ, ◌-◌, ◌^◌, ◌==◌, List, [], ◌∷◌, Bool, true, false, cond, not}
use Rattle.std.specs.Prelude.{length, map, max, nat_lt}
use Rattle.std.specs.List.{filter}
use Rattle.base_row_laws.specs.Ranked.{Ranked, unknown_rank, number_range_rank, true_rank}
use Rattle.base_row_laws.specs.Bags.{weigh, bottom, each_once, Each}

-- What aggregates read of a value, and how they write one.
pub record Reading (V : Type 0) : Type 0 where
  -- whether it is null
  pub is_null : V → Bool
  -- a fault's rank, and True's for a value that is none
  pub fault_rank : V → ℕ
  -- a number's coefficient where it is above 0, else 0; and where it is below 0 its distance from
  -- 0, else 0
  pub above : V → ℕ
  pub below : V → ℕ
  -- null for Unknown, a fault for its rank
  pub write : ℕ → V
  -- the number a - b
  pub number : ℕ → ℕ → V

-- a fold from the right: the step of each element, beginning at s after the last
abbrev pub run : {X S : Type 0} → (X → S → S) → S → List X → S
run step s [] = s
run step s (x ∷ xs) = step x (run step s xs)

-- Two steps of a fold may be exchanged; so it gives the same in any order.
pub record Exchanges {X S : Type 0} (step : X → S → S) : Type 0 where
  pub steps : (x y : X) (s : S) → step x (step y s) ≡ step y (step x s)

-- A total order: `before x y` says that x does not come after y.
pub record IsOrder {X : Type 0} (before : X → X → Bool) : Type 0 where
  pub either : (x y : X) → before x y ≡ false → before y x ≡ true
  pub both : (x y : X) → before x y ≡ true → before y x ≡ true → x ≡ y
  pub through : (x y z : X) → before x y ≡ true → before y z ≡ true → before x z ≡ true

-- no element comes before one that stands to its left
abbrev pub InOrder : {X : Type 0} → (X → X → Bool) → List X → Type 0
InOrder before [] = Unit {0}
InOrder before (x ∷ xs) = Each (λ y. before x y ≡ true) xs × InOrder before xs

-- the first of two by an order
abbrev pub first : {X : Type 0} → (X → X → Bool) → X → X → X
first before x y = cond (before x y) x y

-- the first of a list by an order, n where it is empty
abbrev pub first_of : {X : Type 0} → (X → X → Bool) → X → List X → X
first_of before n [] = n
first_of before n (x ∷ []) = x
first_of before n (x ∷ y ∷ zs) = first before x (first_of before n (y ∷ zs))

-- A null is no fault, and is nothing above or below 0.
pub record ReadsNulls {V : Type 0} (m : Reading V) : Type 0 where
  pub no_fault : (v : V) → m.is_null v ≡ true → m.fault_rank v ≡ true_rank
  pub none_above : (v : V) → m.is_null v ≡ true → m.above v ≡ 0
  pub none_below : (v : V) → m.is_null v ≡ true → m.below v ≡ 0

module _ {V : Type 0} (m : Reading V) where
  -- nulls are skipped
  abbrev pub not_null : List V → List V
  not_null vs = filter (λ v. not (m.is_null v)) vs

  -- the rank of the least fault among the values, True's where there is none
  abbrev pub least_fault : List V → ℕ
  least_fault vs = bottom true_rank m.fault_rank vs

  -- the least fault among the values, or else v
  abbrev pub unless_fault : List V → V → V
  unless_fault vs v = cond (nat_lt (least_fault vs) true_rank) (m.write (least_fault vs)) v

  -- count(*): how many rows there are, whatever stands in them
  abbrev pub count_rows : List V → V
  count_rows vs = m.number (length vs) 0

  -- count(e)
  abbrev pub count_of : List V → V
  count_of vs = unless_fault vs (m.number (length (not_null vs)) 0)

  -- count(distinct e)
  abbrev pub count_distinct_of : (V → V → Bool) → List V → V
  count_distinct_of same vs = unless_fault vs (m.number (length (each_once same (not_null vs))) 0)

  -- null where nothing but nulls is there, else v
  abbrev pub unless_none : List V → V → V
  unless_none vs v = cond (length (not_null vs) == 0) (m.write unknown_rank) v

  -- NumberRange where the sum of the terms above 0, or of the others negated, passes 2^127 - 1;
  -- else v
  abbrev pub unless_range : List V → V → V
  unless_range vs v =
      cond (nat_lt (max (weigh m.above vs) (weigh m.below vs)) (2 ^ 127)) v
      (m.write number_range_rank)

  -- sum(e): exact
  abbrev pub sum_of : List V → V
  sum_of vs =
      let up = weigh m.above vs in let down = weigh m.below vs in
      unless_fault vs (unless_none vs (unless_range vs (m.number (up - down) (down - up))))

  -- avg(e): the sum divided by the number of terms; `divided a b n` is (a - b) / n rescaled and
  -- rounded, or its fault
  abbrev pub avg_of : (ℕ → ℕ → ℕ → V) → List V → V
  avg_of divided vs =
      unless_fault vs
      (unless_none vs
      (unless_range vs (divided (weigh m.above vs) (weigh m.below vs) (length (not_null vs)))))

  -- min(e): the first by `before` of the values that aren't null, null for none
  abbrev pub min_of : (V → V → Bool) → List V → V
  min_of before vs = unless_fault vs (first_of before (m.write unknown_rank) (not_null vs))

  -- max(e): the same by the order turned round
  abbrev pub max_of : (V → V → Bool) → List V → V
  max_of before vs =
      unless_fault vs (first_of (λ x y. before y x) (m.write unknown_rank) (not_null vs))

-- The aggregates of a grouped query, from left to right:
-- each is an argument, read from the row, and a function of the list of the argument's values.
abbrev pub aggregated : {V : Type 0} → List ((List V → V) × (List V → V)) → List (Ranked V) → List V
aggregated items ys = map (λ a. a.1 (map (λ y. a.0 y.values) ys)) items
