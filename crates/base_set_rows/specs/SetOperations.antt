-- UNION, INTERSECT and EXCEPT on rows with standings.
use Rattle.std.specs.Prelude.{ℕ, ◌-◌, ◌==◌, ◌&&◌, nat_lt, List, ◌++◌, Bool, true, false, cond, min}
use Rattle.std.specs.Prelude.{length, replicate}
use Rattle.std.specs.List.{filter, flat_map}
use Rattle.base_row_laws.specs.Ranked.{Ranked, ranked}
use Rattle.base_row_laws.specs.Bags.{each_once}
use Rattle.base_row_laws.specs.Rows.{same_row}
use Rattle.base_row_laws.specs.Operators.{least, distinct}
use Rattle.base_row_laws.specs.Domains.{values_of}
use Rattle.base_set_rows.specs.declared.kind.ClassKind.{ClassKind}
use Rattle.base_set_rows.specs.declared.kind.ClassKind.TheVariants.{Intersect, Except}
use Rattle.base_set_rows.specs.declared.kind.SetOperation.{SetOperation}
use Rattle.base_set_rows.specs.declared.kind.SetOperation.TheVariants.{Union, Classes}

-- How many rows a class gives that has a rows on the left and b on the right: with ALL, and without.
abbrev pub copies : ClassKind → Bool → ℕ → ℕ → ℕ
copies Intersect true a b = min a b
copies Intersect false a b = cond (nat_lt 0 a && nat_lt 0 b) 1 0
copies Except true a b = a - b
copies Except false a b = cond (nat_lt 0 a && (b == 0)) 1 0

module _ {V : Type 0} (same : V → V → Bool) where
  -- the rows that are identical to these values
  abbrev pub alike : List V → List (Ranked V) → List (Ranked V)
  alike k xs = filter (λ x. same_row same x.values k) xs

  -- the rows that a class gives, at the least of the standings of its rows on both sides
  abbrev pub class_rows : ClassKind → Bool → List (Ranked V) → List (Ranked V) → List V
      → List (Ranked V)
  class_rows kind all xs ys k = replicate
      (copies kind all (length (alike k xs)) (length (alike k ys)))
      (ranked k (least (alike k (xs ++ ys))))

  -- INTERSECT and EXCEPT, with ALL and without
  abbrev pub by_classes : ClassKind → Bool → List (Ranked V) → List (Ranked V) → List (Ranked V)
  by_classes kind all xs ys =
      flat_map (class_rows kind all xs ys) (each_once (same_row same) (values_of (xs ++ ys)))

  -- UNION: with ALL the rows of both sides, each at its own standing; without it their DISTINCT
  abbrev pub union : Bool → List (Ranked V) → List (Ranked V) → List (Ranked V)
  union true xs ys = xs ++ ys
  union false xs ys = distinct same (xs ++ ys)

  -- the rows of a set operation
  abbrev pub set_rows : SetOperation → List (Ranked V) → List (Ranked V) → List (Ranked V)
  set_rows Union xs ys = union true xs ys
  set_rows (Classes kind all) xs ys = by_classes kind all xs ys
