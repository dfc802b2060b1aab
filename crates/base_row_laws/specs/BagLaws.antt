-- Laws of bags, of classes, and of what a table of groups has to show.
use Rattle.std.specs.Prelude.{◌≡◌, ℕ, ◌+◌, List, ◌++◌, Bool, true, not, Some, None, map, length}
use Rattle.std.specs.Prelude.{cond, min, max}
use Rattle.std.specs.List.{filter, flat_map, sum_by, IsDistinct}
use Rattle.std.specs.List.Sorted.{IsPermutation}
use Rattle.std.specs.Map.{lookup}
use Rattle.base_row_laws.specs.Ranked.{Ranked}
use Rattle.base_row_laws.specs.Bags.{when, weigh, SameBag, IsIdentity, has, count, each_once, classes}
use Rattle.base_row_laws.specs.Bags.{OfBag, top, bottom}
use Rattle.base_row_laws.specs.Rows.{same_row}
use Rattle.base_row_laws.specs.Operators.{distinct}
use Rattle.base_row_laws.specs.Domains.{values_of, no_two}

-- Each list is the same bag as itself.
abbrev pub BagReflexive : (X : Type 0) → Type 0
BagReflexive X = (xs : List X) → SameBag xs xs

-- Where one list is the same bag as another, the other is the same bag as it.
abbrev pub BagSymmetric : (X : Type 0) → Type 0
BagSymmetric X = (xs ys : List X) → SameBag xs ys → SameBag ys xs

-- Two lists that are each the same bag as a third are the same bag.
abbrev pub BagTransitive : (X : Type 0) → Type 0
BagTransitive X = (xs ys zs : List X) → SameBag xs ys → SameBag ys zs → SameBag xs zs

-- Two bags put together: one bag gives one bag.
abbrev pub AppendAlike : (X : Type 0) → Type 0
AppendAlike X = (xs us ys vs : List X) → SameBag xs us → SameBag ys vs
    → SameBag (xs ++ ys) (us ++ vs)

-- Two lists one after the other are the same bag in either order.
abbrev pub AppendSwapped : (X : Type 0) → Type 0
AppendSwapped X = (xs ys : List X) → SameBag (xs ++ ys) (ys ++ xs)

-- A list is, as a bag, what passes a test and what doesn't.
abbrev pub PartsByTest : (X : Type 0) → Type 0
PartsByTest X = (p : X → Bool) (xs : List X)
    → SameBag xs (filter p xs ++ filter (λ x. not (p x)) xs)

-- Two nested loops may be exchanged: they give the same bag.
abbrev pub LoopsExchanged : (X Y Z : Type 0) → Type 0
LoopsExchanged X Y Z = (f : X → Y → List Z) (xs : List X) (ys : List Y)
    → SameBag (flat_map (λ x. flat_map (λ y. f x y) ys) xs)
    (flat_map (λ y. flat_map (λ x. f x y) xs) ys)

-- The images under a function: one bag gives one bag.
abbrev pub MapAlike : (X Y : Type 0) → Type 0
MapAlike X Y = (f : X → Y) (xs us : List X) → SameBag xs us → SameBag (map f xs) (map f us)

-- What a test keeps: one bag gives one bag.
abbrev pub FilterAlike : (X : Type 0) → Type 0
FilterAlike X = (p : X → Bool) (xs us : List X) → SameBag xs us
    → SameBag (filter p xs) (filter p us)

-- Lists made of each element, one after the other: one bag gives one bag, where f and g make the
-- same bag of each element.
abbrev pub FlatMapAlike : (X Y : Type 0) → Type 0
FlatMapAlike X Y = (f g : X → List Y) (xs us : List X)
    → ((x : X) → SameBag (f x) (g x)) → SameBag xs us
    → SameBag (flat_map f xs) (flat_map g us)

-- Lists that are the same bag have the same length.
abbrev pub LengthAlike : (X : Type 0) → Type 0
LengthAlike X = (xs us : List X) → SameBag xs us → length xs ≡ length us

-- Two lists are one bag where std's sums of each measure over them are equal, and only there.
abbrev pub SameSums : (X : Type 0) → Type 0
SameSums X = (xs us : List X)
    → (SameBag xs us → (h : X → ℕ) → sum_by h xs ≡ sum_by h us)
    × (((h : X → ℕ) → sum_by h xs ≡ sum_by h us) → SameBag xs us)

-- A list in another order, as a sort leaves it, is the same bag.
abbrev pub PermutationAlike : (X : Type 0) → Type 0
PermutationAlike X = (xs us : List X) → IsPermutation xs us → SameBag xs us

-- The sum, the greatest and the least of two lists one after the other are the sum, the greatest
-- and the least of theirs, as partial groups are merged.
abbrev pub WeightsOfAppended : (X : Type 0) → Type 0
WeightsOfAppended X = (h : X → ℕ) (n : ℕ) (xs ys : List X)
    → (weigh h (xs ++ ys) ≡ weigh h xs + weigh h ys)
    × (top h (xs ++ ys) ≡ max (top h xs) (top h ys))
    × (bottom n h (xs ++ ys) ≡ min (bottom n h xs) (bottom n h ys))

-- One bag has the same elements, each as often; and lists in which each element stands equally
-- often are one bag.
abbrev pub HasAlike : {X : Type 0} → (X → X → Bool) → Type 0
HasAlike {X} same = (xs us : List X)
    → (SameBag xs us → (x : X) → (has same x xs ≡ has same x us)
    × (count same x xs ≡ count same x us))
    × (((x : X) → count same x xs ≡ count same x us) → SameBag xs us)

-- Where a test tells identical values, the test value by value tells identical rows.
abbrev pub RowsHaveIdentity : {V : Type 0} → (V → V → Bool) → Type 0
RowsHaveIdentity same = IsIdentity (same_row same)

-- Two tests that tell identical elements say the same of any two, so identical elements once and
-- classes are the same lists by both.
abbrev pub IdentitiesAgree : (R S : Type 0) {K : Type 0} → (K → K → Bool) → (K → K → Bool) → Type 0
IdentitiesAgree R S {K} same alike =
    ((x y : K) → same x y ≡ alike x y)
    × ((xs : List K) → each_once same xs ≡ each_once alike xs)
    × ((key : R → K) (f : K → List R → S) (xs : List R) → classes same key f xs
    ≡ classes alike key f xs)

-- GROUP BY: classes of one bag are one bag, where each class is a function of the bag of its
-- elements.
abbrev pub ClassesAlike : (R S : Type 0) {K : Type 0} → (K → K → Bool) → Type 0
ClassesAlike R S {K} same = (key : R → K) (f : K → List R → S) (xs us : List R)
    → ((k : K) → OfBag (f k)) → SameBag xs us
    → SameBag (classes same key f xs) (classes same key f us)

-- DISTINCT leaves no two identical rows, and the same rows as were there.
abbrev pub DistinctRows : {V : Type 0} → (V → V → Bool) → Type 0
DistinctRows {V} same = (xs : List (Ranked V))
    → (no_two same (values_of (distinct same xs)) ≡ true)
    × ((r : List V) → has (same_row same) r (values_of (distinct same xs))
    ≡ has (same_row same) r (values_of xs))

-- What a list of keys with their classes has to show: the keys are those of the elements, each
-- once.
abbrev pub ClassesMade : (R S : Type 0) {K : Type 0} → (K → K → Bool) → Type 0
ClassesMade R S {K} same = (key : R → K) (f : K → List R → S) (xs : List R) (ks : List K)
    → ((k : K) → count same k ks ≡ when (has same k (map key xs)) 1)
    → SameBag (map (λ k. f k (filter (λ x. same (key x) k) xs)) ks) (classes same key f xs)

-- What a hash table of groups has to show:
-- its keys differ, it has for the key of each element the part that the elements with that key
-- make, and nothing for other keys.
-- Then the rows made of its entries, in whatever order, are the classes.
abbrev pub EntriesMade : (R A S : Type 0) {K : Type 0} → (K → K → Bool) → Type 0
EntriesMade R A S {K} same =
    (key : R → K) (part : List R → A) (made : K → A → S) (xs : List R) (es : List (K × A))
    → IsDistinct same (map (λ e. e.0) es)
    → ((q : K) → lookup (same q) es
    ≡ cond (has same q (map key xs)) (Some (part (filter (λ x. same (key x) q) xs))) None)
    → SameBag (map (λ e. made e.0 e.1) es) (classes same key (λ k ys. made k (part ys)) xs)
