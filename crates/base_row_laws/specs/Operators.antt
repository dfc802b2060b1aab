-- The rows that each operator of a flat plan gives. Every operator's code owes one line: its result
-- is, as a bag, what is here.
use Rattle.std.specs.Prelude.{ℕ, List, [], ◌∷◌, ◌++◌, Bool, cond, map, length, drop, min, nat_lt}
use Rattle.std.specs.Prelude.{slice_index_or}
use Rattle.std.specs.List.{filter, flat_map}
use Rattle.base_row_laws.specs.Ranked.{Ranked, ranked, unknown_rank, too_many_rows_rank, true_rank}
use Rattle.base_row_laws.specs.Bags.{each_once, classes, top, bottom}
use Rattle.base_row_laws.specs.Rows.{same_row, starts, strip, keep}

-- WHERE, HAVING: each row at the lesser of its standing and the condition c, kept where that is
-- above Unknown.
abbrev pub select : {V : Type 0} → (List V → ℕ) → List (Ranked V) → List (Ranked V)
select c xs = flat_map (λ x. keep x.values (min x.standing (c x.values))) xs

-- The select list f of each row, standings kept.
abbrev pub project : {V : Type 0} → (List V → List V) → List (Ranked V) → List (Ranked V)
project f xs = map (λ x. ranked (f x.values) x.standing) xs

-- FROM a, b: all combinations, at the lesser standing.
abbrev pub cross : {V : Type 0} → List (Ranked V) → List (Ranked V) → List (Ranked V)
cross xs ys =
    flat_map (λ x. map (λ y. ranked (x.values ++ y.values) (min x.standing y.standing)) ys) xs

-- one combination, put together by `glue`, where it is kept under the condition c
abbrev pub pair : {V : Type 0} → (List V → ℕ) → (List V → List V → List V) → Ranked V → Ranked V
    → List (Ranked V)
pair c glue x y =
    keep (glue x.values y.values) (min (min x.standing y.standing) (c (glue x.values y.values)))

-- JOIN ON c: the combinations that the condition keeps.
abbrev pub join : {V : Type 0} → (List V → ℕ) → List (Ranked V) → List (Ranked V) → List (Ranked V)
join c xs ys = flat_map (λ x. flat_map (λ y. pair c (λ a b. a ++ b) x y) ys) xs

-- the rows, or where there are none this one
abbrev pub or_else : {V : Type 0} → List (Ranked V) → Ranked V → List (Ranked V)
or_else [] z = z ∷ []
or_else (y ∷ ys) z = y ∷ ys

-- a left row before a right one without the right one's matched columns, which are its first
abbrev pub glue_at : {V : Type 0} → (List V → List V) → List V → List V → List V
glue_at pick x y = x ++ drop (length (pick x)) y

-- the least standing, True for none
abbrev pub least : {V : Type 0} → List (Ranked V) → ℕ
least xs = bottom true_rank (λ x. x.standing) xs

-- the greatest standing, False for none
abbrev pub greatest : {V : Type 0} → List (Ranked V) → ℕ
greatest xs = top (λ x. x.standing) xs

-- EXISTS, IN: the greatest of lesser(standing, condition) over the partners us of the row x, False
-- for none, written as a value:
-- `write` gives 1 for True, 0 for False, null for Unknown and a fault for its rank.
abbrev pub mark_of : {V : Type 0} → (ℕ → V) → (List V → ℕ) → List V → List (Ranked V) → V
mark_of write c x us = write (top (λ u. min u.standing (c (x ++ u.values))) us)

-- by cases of no element, one and more
abbrev pub by_number : {X Y : Type 0} → Y → (X → Y) → Y → List X → Y
by_number none one more [] = none
by_number none one more (x ∷ []) = one x
by_number none one more (x ∷ y ∷ zs) = more

-- a row's value, or where its standing or the value is a fault the lesser fault
abbrev pub value_at : {V : Type 0} → (ℕ → V) → (V → ℕ) → V → ℕ → V
value_at write fault_rank v standing =
    let r = min standing (fault_rank v) in cond (nat_lt r true_rank) (write r) v

-- A scalar subquery's value: null for no row, TooManyRows for more than one, else the one row's
-- column i.
-- `fault_rank` is a fault's rank, and True's for a value that is none.
abbrev pub scalar_of : {V : Type 0} → (ℕ → V) → (V → ℕ) → ℕ → List (Ranked V) → V
scalar_of write fault_rank i us =
    by_number (write unknown_rank)
    (λ u. value_at write fault_rank (slice_index_or u.values i (write unknown_rank)) u.standing)
    (write too_many_rows_rank) us

module _ {V : Type 0} (same : V → V → Bool) where
  -- the right rows that begin with the values p, which match by identity
  abbrev pub partners : List V → List (Ranked V) → List (Ranked V)
  partners p ys = filter (λ y. starts same p y.values) ys

  -- The inner join: each left row with its partners, which begin with what `pick` takes of it,
  -- under the condition c on the combined row.
  -- The matched columns stand in the left row only.
  abbrev pub join_node : (List V → List V) → (List V → ℕ) → List (Ranked V) → List (Ranked V)
      → List (Ranked V)
  join_node pick c xs ys =
      flat_map (λ x. flat_map (λ y. pair c (glue_at pick) x y) (partners (pick x.values) ys)) xs

  -- The left outer join likewise; a left row with no kept partner stands there once with these
  -- nulls, at its own standing.
  abbrev pub outer_node : (List V → List V) → List V → (List V → ℕ) → List (Ranked V)
      → List (Ranked V) → List (Ranked V)
  outer_node pick nulls c xs ys =
      flat_map
      (λ x. or_else (flat_map (λ y. pair c (glue_at pick) x y) (partners (pick x.values) ys))
      (ranked (x.values ++ nulls) x.standing))
      xs

  -- Each left row once, with one more column: `value` of the row and of its partners without the
  -- matched columns.
  abbrev pub attach_node : (List V → List V) → (List V → List (Ranked V) → V) → List (Ranked V)
      → List (Ranked V) → List (Ranked V)
  attach_node pick value xs ys =
      flat_map
      (λ x.
      let us = map (strip (length (pick x.values))) (partners (pick x.values) ys) in
      ranked (x.values ++ value x.values us ∷ []) x.standing ∷ [])
      xs

  -- Each left row once with its mark.
  abbrev pub mark_node : (List V → List V) → (ℕ → V) → (List V → ℕ) → List (Ranked V)
      → List (Ranked V) → List (Ranked V)
  mark_node pick write c xs ys = attach_node pick (mark_of write c) xs ys

  -- Each left row once with the scalar value of its partners.
  abbrev pub single_node : (List V → List V) → (ℕ → V) → (V → ℕ) → ℕ → List (Ranked V)
      → List (Ranked V) → List (Ranked V)
  single_node pick write fault_rank i xs ys =
      attach_node pick (λ x us. scalar_of write fault_rank i us) xs ys

  -- GROUP BY: for each key the key's values and the aggregates of its rows, at the least of their
  -- standings.
  abbrev pub group_by : (List V → List V) → (List (Ranked V) → List V) → List (Ranked V)
      → List (Ranked V)
  group_by key aggregates xs =
      classes (same_row same) (λ x. key x.values)
      (λ k ys. ranked (k ++ aggregates ys) (least ys)) xs

  -- DISTINCT: identical rows once, at the greatest of their standings.
  abbrev pub distinct : List (Ranked V) → List (Ranked V)
  distinct xs = classes (same_row same) (λ x. x.values) (λ k ys. ranked k (greatest ys)) xs

  -- The domain of a dependent right side: the values that `pick` takes of the left rows, identical
  -- ones once, each at True.
  abbrev pub domain_node : (List V → List V) → List (Ranked V) → List (Ranked V)
  domain_node pick xs =
      map (λ k. ranked k true_rank) (each_once (same_row same) (map (λ x. pick x.values) xs))

  -- Over groups by a domain's columns:
  -- each domain row once, with its groups, or where it has none with the empty group's aggregates
  -- at True.
  abbrev pub fill : List V → List (Ranked V) → List (Ranked V) → List (Ranked V)
  fill empty ds gs =
      flat_map (λ e. or_else (partners e.values gs) (ranked (e.values ++ empty) true_rank)) ds

-- Aggregates without GROUP BY: one group of all rows, also where there are none.
abbrev pub total : {V : Type 0} → (List (Ranked V) → List V) → List (Ranked V) → List (Ranked V)
total aggregates ts = ranked (aggregates ts) (least ts) ∷ []

-- The same operators by nested loops: R l is the right side, taken anew under a left row of the
-- values l.
-- The inner join.
abbrev pub join_loop : {V : Type 0} → (List V → ℕ) → List (Ranked V) → (List V → List (Ranked V))
    → List (Ranked V)
join_loop c ls R = flat_map (λ l. flat_map (λ r. pair c (λ a b. a ++ b) l r) (R l.values)) ls

-- The left outer join; a left row with no kept partner stands there once with these nulls, at its
-- own standing.
abbrev pub outer_loop : {V : Type 0} → List V → (List V → ℕ) → List (Ranked V)
    → (List V → List (Ranked V)) → List (Ranked V)
outer_loop nulls c ls R =
    flat_map (λ l. or_else (flat_map (λ r. pair c (λ a b. a ++ b) l r) (R l.values))
    (ranked (l.values ++ nulls) l.standing)) ls

-- Each left row once, with one more column: `value` of the row and of the right side's rows under
-- it.
abbrev pub attach_loop : {V : Type 0} → (List V → List (Ranked V) → V) → List (Ranked V)
    → (List V → List (Ranked V)) → List (Ranked V)
attach_loop value ls R =
    flat_map (λ l. ranked (l.values ++ value l.values (R l.values) ∷ []) l.standing ∷ []) ls
