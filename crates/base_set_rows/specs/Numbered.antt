-- INTERSECT and EXCEPT by numbers of rows.
use Rattle.std.specs.Prelude.{◌≡◌, ℕ, ◌<◌, List, ◌++◌, Bool, map, length, replicate}
use Rattle.std.specs.Prelude.{nat_eq, take, drop, slice_index, slice_index_or}
use Rattle.std.specs.List.{flat_map, range_with_len}
use Rattle.base_row_laws.specs.Bags.{when, weigh, classes}
use Rattle.base_row_laws.specs.Ranked.{Ranked, ranked}
use Rattle.base_row_laws.specs.Rows.{same_row}
use Rattle.base_row_laws.specs.Operators.{least}
use Rattle.base_row_laws.specs.Domains.{values_of}
use Rattle.base_row_laws.specs.Numbers.{numbers_of}
use Rattle.base_set_rows.specs.declared.kind.ClassKind.{ClassKind}
use Rattle.base_set_rows.specs.SetOperations.{copies, by_classes}

-- how often a number stands in a list
abbrev pub times : ℕ → List ℕ → ℕ
times n is = weigh (λ i. when (nat_eq i n) 1) is

-- for each of `count` numbers, how often it stands in the list
pub record AreTimes (numbers : List ℕ) (count : ℕ) (results : List ℕ) : Type 0 where
  pub long : length results ≡ count
  pub each : (n : ℕ) → n < count → slice_index results n ≡ times n numbers

-- How many rows the class of a number gives, by the numbers of both sides' rows, the first `split`
-- of which are the left side's.
abbrev pub number_copies : ClassKind → Bool → ℕ → List ℕ → ℕ → ℕ
number_copies kind all split numbers n =
    copies kind all (times n (take split numbers)) (times n (drop split numbers))

-- the numbers below `count`, each as often as its class gives rows
unfoldable pub numbers_taken : ClassKind → Bool → ℕ → List ℕ → ℕ → List ℕ
numbers_taken kind all split numbers count =
    flat_map (λ n. replicate (number_copies kind all split numbers n) n) (range_with_len 0 count)

-- each class of identical rows once, at the least of their standings
abbrev pub each_class : {V : Type 0} → (V → V → Bool) → List (Ranked V) → List (Ranked V)
each_class same zs =
    classes (same_row same) (λ x. x.values) (λ k ys. ranked k (least ys)) zs

-- Rows numbered by identity: the operation has each class's row as often as its number is taken,
-- list for list.
abbrev pub ByNumbers : {V : Type 0} → (V → V → Bool) → Type 0
ByNumbers {V} same =
    (kind : ClassKind) (all : Bool) (xs ys : List (Ranked V)) (none : Ranked V)
    → by_classes same kind all xs ys
    ≡ map (λ n. slice_index_or (each_class same (xs ++ ys)) n none)
    (numbers_taken kind all (length xs) (numbers_of (same_row same) (values_of (xs ++ ys)))
    (length (each_class same (xs ++ ys))))
