-- Aggregates, marks and scalar values are functions of the bag: the order of the rows doesn't
-- matter.
use Rattle.std.specs.Prelude.{◌≡◌, ℕ, ◌<◌, List, Bool, map}
use Rattle.std.specs.List.{filter}
use Rattle.base_row_laws.specs.Ranked.{Ranked, true_rank}
use Rattle.base_row_laws.specs.Bags.{SameBag, OfBag, Each, each_once, weigh, top, bottom}
use Rattle.base_row_laws.specs.Operators.{mark_of, scalar_of, least, greatest}
use Rattle.base_row_laws.specs.Aggregates.{
  Reading,
  ReadsNulls,
  IsOrder,
  not_null,
  least_fault,
  count_rows,
  count_of,
  count_distinct_of,
  sum_of,
  avg_of,
  min_of,
  max_of,
  aggregated,
  run,
  Exchanges,
  InOrder,
}

-- this one aggregate is the least fault of the values, where a fault stands among them
abbrev pub GivesLeastFault : {V : Type 0} → Reading V → (List V → V) → Type 0
GivesLeastFault {V} m aggregate = (vs : List V) → least_fault m vs < true_rank → aggregate vs
    ≡ m.write (least_fault m vs)

-- this one aggregate is that of the values that aren't null
abbrev pub SkipsNulls : {V : Type 0} → Reading V → (List V → V) → Type 0
SkipsNulls {V} m aggregate = (vs : List V) → aggregate (not_null m vs) ≡ aggregate vs

-- The standing of a group, and that of a DISTINCT row, don't depend on the order of the rows.
abbrev pub StandingsInAnyOrder : (V : Type 0) → Type 0
StandingsInAnyOrder V = OfBag {X = Ranked V} least × OfBag {X = Ranked V} greatest

-- The sum, the greatest and the least of any measure of the rows don't depend on the order of the
-- rows.
abbrev pub MeasuresInAnyOrder : (X : Type 0) → Type 0
MeasuresInAnyOrder X = (h : X → ℕ) (n : ℕ) → OfBag (weigh h) × OfBag (top h) × OfBag (bottom n h)

-- count(*), count(e) and count(distinct e) don't depend on the order of the rows.
abbrev pub CountsInAnyOrder : {V : Type 0} → (V → V → Bool) → Type 0
CountsInAnyOrder {V} same = (m : Reading V) → OfBag (count_rows m) × OfBag (count_of m)
    × OfBag (count_distinct_of m same)

-- sum(e) doesn't depend on the order of the rows:
-- it is exact, and NumberRange where the sum of the terms above 0, or of the others negated, passes
-- the largest number.
abbrev pub SumInAnyOrder : (V : Type 0) → Type 0
SumInAnyOrder V = (m : Reading V) → OfBag (sum_of m)

-- avg(e) doesn't depend on the order of the rows, however the sum is divided by the number of terms
-- and rounded.
abbrev pub AvgInAnyOrder : (V : Type 0) → Type 0
AvgInAnyOrder V = (m : Reading V) (divided : ℕ → ℕ → ℕ → V) → OfBag (avg_of m divided)

-- min(e) and max(e) by a total order don't depend on the order of the rows.
abbrev pub ExtremesInAnyOrder : (V : Type 0) → Type 0
ExtremesInAnyOrder V = (m : Reading V) (before : V → V → Bool) → IsOrder before
    → OfBag (min_of m before) × OfBag (max_of m before)

-- All aggregates of a grouped query together don't depend on the order of the rows, where each of
-- them doesn't.
abbrev pub AggregatesInAnyOrder : (V : Type 0) → Type 0
AggregatesInAnyOrder V = (items : List ((List V → V) × (List V → V))) → Each (λ a. OfBag a.1) items
    → OfBag (aggregated items)

-- The mark of EXISTS and IN doesn't depend on the order of the rows.
abbrev pub MarkInAnyOrder : (V : Type 0) → Type 0
MarkInAnyOrder V = (write : ℕ → V) (c : List V → ℕ) (x : List V) → OfBag (mark_of write c x)

-- A scalar subquery's value doesn't depend on the order of the rows. `same` only witnesses that the
-- values have an identity.
abbrev pub ScalarInAnyOrder : {V : Type 0} → (V → V → Bool) → Type 0
ScalarInAnyOrder {V} same = (write : ℕ → V) (fault_rank : V → ℕ) (i : ℕ)
    → OfBag (scalar_of write fault_rank i)

-- A fold whose steps may be exchanged doesn't depend on the order of the rows. `same` only
-- witnesses that the elements have an identity.
abbrev pub FoldInAnyOrder : (S : Type 0) {X : Type 0} → (X → X → Bool) → Type 0
FoldInAnyOrder S {X} same = (step : X → S → S) (s : S) → Exchanges step → OfBag (run step s)

-- A function of a function of the bag is a function of the bag.
abbrev pub ThenInAnyOrder : (X Y Z : Type 0) → Type 0
ThenInAnyOrder X Y Z = (g : Y → Z) (a : List X → Y) → OfBag a → OfBag (λ xs. g (a xs))

-- A function of two functions of the bag is a function of the bag.
abbrev pub BothInAnyOrder : (X Y Z W : Type 0) → Type 0
BothInAnyOrder X Y Z W = (g : Y → Z → W) (a : List X → Y) (b : List X → Z) → OfBag a → OfBag b
    → OfBag (λ xs. g (a xs) (b xs))

-- A function of the bag of images, as of an aggregate's arguments, is a function of the bag.
abbrev pub OfImagesInAnyOrder : (X Y Z : Type 0) → Type 0
OfImagesInAnyOrder X Y Z = (f : X → Y) (a : List Y → Z) → OfBag a → OfBag (λ xs. a (map f xs))

-- A function of the bag of what a test keeps is a function of the bag.
abbrev pub OfKeptInAnyOrder : (X Z : Type 0) → Type 0
OfKeptInAnyOrder X Z = (p : X → Bool) (a : List X → Z) → OfBag a → OfBag (λ xs. a (filter p xs))

-- A function of the bag of distinct elements is a function of the bag.
abbrev pub OfDistinctInAnyOrder : (Z : Type 0) {X : Type 0} → (X → X → Bool) → Type 0
OfDistinctInAnyOrder Z {X} same = (a : List X → Z) → OfBag a → OfBag (λ xs. a (each_once same xs))

-- A bag in order is one list: two lists in order by a total order that are the same bag are equal.
abbrev pub OneListInOrder : (X : Type 0) → Type 0
OneListInOrder X = (before : X → X → Bool) (xs ys : List X)
    → IsOrder before → InOrder before xs → InOrder before ys → SameBag xs ys
    → xs ≡ ys

-- Every aggregate but count(*) is the least fault of the values, where a fault stands among them.
abbrev pub AllGiveLeastFault : {V : Type 0} → (V → V → Bool) → Type 0
AllGiveLeastFault {V} same = (m : Reading V) (divided : ℕ → ℕ → ℕ → V) (before : V → V → Bool)
    → GivesLeastFault m (count_of m) × GivesLeastFault m (count_distinct_of m same)
    × GivesLeastFault m (sum_of m)
    × GivesLeastFault m (avg_of m divided) × GivesLeastFault m (min_of m before)
    × GivesLeastFault m (max_of m before)

-- Every aggregate but count(*) is that of the values that aren't null.
abbrev pub AllSkipNulls : {V : Type 0} → (V → V → Bool) → Type 0
AllSkipNulls {V} same = (m : Reading V) (divided : ℕ → ℕ → ℕ → V) (before : V → V → Bool)
    → ReadsNulls m
    → SkipsNulls m (count_of m) × SkipsNulls m (count_distinct_of m same) × SkipsNulls m (sum_of m)
    × SkipsNulls m (avg_of m divided) × SkipsNulls m (min_of m before)
    × SkipsNulls m (max_of m before)
