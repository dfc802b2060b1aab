-- Small cases over values that are null, a number or a fault; and wrong definitions, shown false by
-- one case each.
use Rattle.std.specs.Prelude.{◌≡◌, ℕ, ◌==◌, List, [], ◌∷◌, Bool, true, false, cond, length, min}
use Rattle.std.specs.Prelude.{slice_index_or}
use Rattle.base_row_laws.specs.Ranked.{
  Ranked,
  ranked,
  false_rank,
  unknown_rank,
  too_many_rows_rank,
  divide_by_zero_rank,
  number_range_rank,
  true_rank,
}
use Rattle.base_row_laws.specs.Bags.{SameBag, IsIdentity, OfBag, top}
use Rattle.base_row_laws.specs.Rows.{columns, scanned, unit_row}
use Rattle.base_row_laws.specs.Operators.{
  select,
  cross,
  join,
  join_node,
  outer_node,
  mark_of,
  scalar_of,
  group_by,
  total,
  distinct,
  domain_node,
  fill,
  outer_loop,
}
use Rattle.base_row_laws.specs.Trees.{Tree, tree_rows, node_rows}
use Rattle.base_row_laws.specs.Trees.Tree.{Scan, Select, Join, Total}
use Rattle.base_row_laws.specs.Trees.Side.{Dependent}
use Rattle.base_row_laws.specs.TreeLaws.{Unnesting}

-- a value: null, a number, or the fault of a rank
pub data Cell : Type 0 where
  Null : Cell
  Number : (n : ℕ) → Cell
  Fault : (rank : ℕ) → Cell

-- identity of plain numbers
abbrev pub same_number : ℕ → ℕ → Bool
same_number a b = a == b

-- identity: null is identical to null, a fault to the same fault
abbrev pub same_cell : Cell → Cell → Bool
same_cell Null Null = true
same_cell Null (Number b) = false
same_cell Null (Fault g) = false
same_cell (Number a) Null = false
same_cell (Number a) (Number b) = a == b
same_cell (Number a) (Fault g) = false
same_cell (Fault f) Null = false
same_cell (Fault f) (Number b) = false
same_cell (Fault f) (Fault g) = f == g

-- SQL's equality: Unknown at a null, else the least fault, else whether the numbers are equal
abbrev pub equal : Cell → Cell → ℕ
equal Null y = unknown_rank
equal (Number a) Null = unknown_rank
equal (Number a) (Number b) = cond (a == b) true_rank false_rank
equal (Number a) (Fault g) = g
equal (Fault f) Null = unknown_rank
equal (Fault f) (Number b) = f
equal (Fault f) (Fault g) = min f g

-- NOT exchanges True and False, and leaves the rest
abbrev pub negated : ℕ → ℕ
negated r = cond (r == true_rank) false_rank (cond (r == false_rank) true_rank r)

-- a rank as a value
abbrev pub written : ℕ → Cell
written r =
    cond (r == true_rank) (Number 1)
    (cond (r == false_rank) (Number 0) (cond (r == unknown_rank) Null (Fault r)))

-- a mark's value as a condition
abbrev pub read_back : Cell → ℕ
read_back Null = unknown_rank
read_back (Number n) = cond (n == 0) false_rank true_rank
read_back (Fault f) = f

-- a fault's rank, and True's for a value that is none
abbrev pub cell_rank : Cell → ℕ
cell_rank Null = true_rank
cell_rank (Number n) = true_rank
cell_rank (Fault f) = f

-- the cell in column i
abbrev pub at : List Cell → ℕ → Cell
at r i = slice_index_or r i Null

-- a row at True
abbrev pub row : List Cell → Ranked Cell
row cells = ranked cells true_rank

-- count(*)
abbrev pub counted : List (Ranked Cell) → List Cell
counted ys = Number (length ys) ∷ []

-- two lists are not the same bag
abbrev pub NotSame : {X : Type 0} → List X → List X → Type 0
NotSame xs ys = SameBag xs ys → ⊥

-- Table 0 has two identical rows, one without partners in table 1, and a null; table 1 has a null
-- too.
abbrev pub tables : ℕ → List (List Cell)
tables t = cond (t == 0)
    ((Number 1 ∷ []) ∷ (Number 1 ∷ []) ∷ (Number 2 ∷ []) ∷ (Null ∷ []) ∷ [])
    ((Number 1 ∷ []) ∷ (Number 1 ∷ []) ∷ (Number 3 ∷ []) ∷ (Null ∷ []) ∷ [])

-- select a, (select count(*) from table_1 where b = a) from table_0, the subquery as a lateral side
abbrev pub count_of_equals : OfBag counted → Tree Cell
count_of_equals bag = Join (Dependent (0 ∷ [])) (λ r. true_rank) (Scan 0)
    (Total counted bag (Select (λ r. equal (at r 0) (at r 1)) (Scan 1)))

-- the left rows of that query
abbrev pub lefts : List (Ranked Cell)
lefts = scanned (tables 0)

-- the domain of that query's plan
abbrev pub domain : List (Ranked Cell)
domain = domain_node same_cell (columns Null (0 ∷ [])) lefts

-- the matches over a domain
abbrev pub matches : List (Ranked Cell) → List (Ranked Cell)
matches ds =
    select (λ r. equal (at r 0) (at r 1))
    (join_node same_cell (λ x. []) (λ t. true_rank) ds (scanned (tables 1)))

-- the answer, by nested loops
abbrev pub answer : List (Ranked Cell)
answer = row (Number 1 ∷ Number 2 ∷ []) ∷ row (Number 1 ∷ Number 2 ∷ [])
    ∷ row (Number 2 ∷ Number 0 ∷ []) ∷ row (Null ∷ Number 0 ∷ []) ∷ []

-- The cells of these cases have an identity, count(*) of them does not depend on the order of the
-- rows, and unnesting holds of them.
abbrev pub CellsHaveIdentity : Type 0
CellsHaveIdentity = IsIdentity same_cell × OfBag counted × Unnesting same_cell

-- A null binding is met by identity.
-- Wrong: matching by SQL's equality loses it.
abbrev pub NullBinding : Type 0
NullBinding =
    (join_node same_cell (columns Null (0 ∷ [])) (λ r. true_rank) (row (Null ∷ []) ∷ [])
    (row (Null ∷ Number 7 ∷ []) ∷ [])
    ≡ row (Null ∷ Number 7 ∷ []) ∷ [])
    × (join (λ r. equal (at r 0) (at r 1)) (row (Null ∷ []) ∷ []) (row (Null ∷ Number 7 ∷ []) ∷ [])
    ≡ [])
    × NotSame
    (join_node same_cell (columns Null (0 ∷ [])) (λ r. true_rank) (row (Null ∷ []) ∷ [])
    (row (Null ∷ Number 7 ∷ []) ∷ []))
    (join (λ r. equal (at r 0) (at r 1)) (row (Null ∷ []) ∷ []) (row (Null ∷ Number 7 ∷ []) ∷ []))

-- count(*) of no rows is 0, also under a left row without partners: loops and nodes give the same
-- answer.
-- Wrong: without the fill such left rows are lost.
abbrev pub CountOfNoRows : Type 0
CountOfNoRows = (total counted [] ≡ row (Number 0 ∷ []) ∷ [])
    × ((bag : OfBag counted) → tree_rows same_cell Null tables (count_of_equals bag) [] ≡ answer)
    × ((bag : OfBag counted) → node_rows same_cell Null tables (count_of_equals bag) 0 unit_row
    ≡ answer)
    × NotSame answer
    (join_node same_cell (columns Null (0 ∷ [])) (λ r. true_rank) lefts
    (group_by same_cell (columns Null (0 ∷ [])) counted (matches domain)))

-- the counts over a domain, filled and joined back to the left rows
abbrev pub joined_back : List (Ranked Cell) → List (Ranked Cell)
joined_back ds =
    join_node same_cell (columns Null (0 ∷ [])) (λ r. true_rank) lefts
    (fill same_cell (counted []) ds
    (group_by same_cell (columns Null (0 ∷ [])) counted (matches ds)))

-- Identical left rows have one row in the domain.
-- Wrong: a domain that keeps duplicates counts their partners twice.
abbrev pub DuplicateInADomain : Type 0
DuplicateInADomain = (domain ≡ row (Number 1 ∷ []) ∷ row (Number 2 ∷ []) ∷ row (Null ∷ []) ∷ [])
    × (joined_back domain ≡ answer)
    × NotSame answer (joined_back lefts)

-- 3 in (1, null) is Unknown, and so is 3 not in (1, null): WHERE keeps no row. 1 in (1, null) is
-- True. In no rows it is False.
abbrev pub NotInWithANull : Type 0
NotInWithANull =
    (mark_of written (λ r. equal (at r 0) (at r 1)) (Number 3 ∷ [])
    (row (Number 1 ∷ []) ∷ row (Null ∷ []) ∷ []) ≡ Null)
    × (select (λ r. negated (read_back (at r 1))) (row (Number 3 ∷ Null ∷ []) ∷ []) ≡ [])
    × (mark_of written (λ r. equal (at r 0) (at r 1)) (Number 1 ∷ [])
    (row (Number 1 ∷ []) ∷ row (Null ∷ []) ∷ []) ≡ Number 1)
    × (mark_of written (λ r. equal (at r 0) (at r 1)) (Number 3 ∷ []) [] ≡ Number 0)

-- A partner at a fault's standing makes the mark that fault, where no other is above it; of two
-- faults the greater.
-- Under a condition that is False or Unknown such a partner counts as False or Unknown.
-- Wrong: where the partners' standings are ignored the mark is True.
abbrev pub StandingOfAPartner : Type 0
StandingOfAPartner =
    (mark_of written (λ r. true_rank) [] (ranked [] divide_by_zero_rank ∷ [])
    ≡ Fault divide_by_zero_rank)
    × (mark_of written (λ r. true_rank) []
    (ranked [] divide_by_zero_rank ∷ ranked [] number_range_rank ∷ []) ≡ Fault number_range_rank)
    × (mark_of written (λ r. false_rank) [] (ranked [] divide_by_zero_rank ∷ []) ≡ Number 0)
    × (mark_of written (λ r. unknown_rank) [] (ranked [] divide_by_zero_rank ∷ []) ≡ Null)
    × (written (top (λ u. true_rank) (ranked {V = Cell} [] divide_by_zero_rank ∷ [])) ≡ Number 1)

-- 1 in (DivideByZero, 2, null) is that fault, whose rank is above those of False and Unknown; with
-- 1 too it is True.
abbrev pub MarkOfFaultsAndNulls : Type 0
MarkOfFaultsAndNulls =
    (mark_of written (λ r. equal (at r 0) (at r 1)) (Number 1 ∷ [])
    (row (Fault divide_by_zero_rank ∷ []) ∷ row (Number 2 ∷ []) ∷ row (Null ∷ []) ∷ [])
    ≡ Fault divide_by_zero_rank)
    × (mark_of written (λ r. equal (at r 0) (at r 1)) (Number 1 ∷ [])
    (row (Fault divide_by_zero_rank ∷ []) ∷ row (Number 1 ∷ []) ∷ row (Null ∷ []) ∷ []) ≡ Number 1)

-- A scalar subquery is null for no row, TooManyRows for two, also where they are identical, and the
-- one row's value for one.
abbrev pub ScalarOfRows : Type 0
ScalarOfRows = (scalar_of written cell_rank 0 [] ≡ Null)
    × (scalar_of written cell_rank 0 (row (Number 7 ∷ []) ∷ row (Number 7 ∷ []) ∷ [])
    ≡ Fault too_many_rows_rank)
    × (scalar_of written cell_rank 0 (row (Number 7 ∷ []) ∷ []) ≡ Number 7)
    × (scalar_of written cell_rank 0 (row (Null ∷ []) ∷ []) ≡ Null)

-- A scalar subquery of one row is the standing's fault, or the value's, or where both are faults
-- the lesser of the two, whichever it is.
abbrev pub ScalarOfFaults : Type 0
ScalarOfFaults =
    (scalar_of written cell_rank 0 (ranked (Number 7 ∷ []) number_range_rank ∷ [])
    ≡ Fault number_range_rank)
    × (scalar_of written cell_rank 0 (row (Fault divide_by_zero_rank ∷ []) ∷ [])
    ≡ Fault divide_by_zero_rank)
    × (scalar_of written cell_rank 0
    (ranked (Fault number_range_rank ∷ []) divide_by_zero_rank ∷ []) ≡ Fault divide_by_zero_rank)
    × (scalar_of written cell_rank 0
    (ranked (Fault divide_by_zero_rank ∷ []) number_range_rank ∷ []) ≡ Fault divide_by_zero_rank)

-- A row at True stands after WHERE at its condition's fault, the least of which is kept too;
-- where that is Unknown or False the row is dropped.
-- A row at a fault is dropped likewise, and kept at the lesser fault where the condition is one.
abbrev pub StandingsOfWhere : Type 0
StandingsOfWhere =
    (select (λ r. divide_by_zero_rank) (row (Number 1 ∷ []) ∷ [])
    ≡ ranked (Number 1 ∷ []) divide_by_zero_rank ∷ [])
    × (select (λ r. too_many_rows_rank) (row (Number 1 ∷ []) ∷ [])
    ≡ ranked (Number 1 ∷ []) too_many_rows_rank ∷ [])
    × (select (λ r. unknown_rank) (row (Number 1 ∷ []) ∷ []) ≡ [])
    × (select (λ r. false_rank) (row (Number 1 ∷ []) ∷ []) ≡ [])
    × (select (λ r. unknown_rank) (ranked (Null ∷ []) divide_by_zero_rank ∷ []) ≡ [])
    × (select (λ r. number_range_rank) (ranked (Null ∷ []) divide_by_zero_rank ∷ [])
    ≡ ranked (Null ∷ []) divide_by_zero_rank ∷ [])
    × (select (λ r. true_rank) (ranked (Null ∷ []) divide_by_zero_rank ∷ [])
    ≡ ranked (Null ∷ []) divide_by_zero_rank ∷ [])

-- A combination of two rows stands at the lesser of their faults, and under ON at the least of
-- these and the condition's.
abbrev pub StandingsOfJoins : Type 0
StandingsOfJoins =
    (cross (ranked (Number 1 ∷ []) number_range_rank ∷ [])
    (ranked (Number 2 ∷ []) divide_by_zero_rank ∷ [])
    ≡ ranked (Number 1 ∷ Number 2 ∷ []) divide_by_zero_rank ∷ [])
    × (join (λ r. too_many_rows_rank) (ranked (Number 1 ∷ []) number_range_rank ∷ [])
    (ranked (Number 2 ∷ []) divide_by_zero_rank ∷ [])
    ≡ ranked (Number 1 ∷ Number 2 ∷ []) too_many_rows_rank ∷ [])
    × (join (λ r. unknown_rank) (row (Number 1 ∷ []) ∷ []) (row (Number 2 ∷ []) ∷ []) ≡ [])

-- A left row with no kept partner stands in a left outer join at its own standing, a fault's too;
-- one with a kept partner at the lesser fault.
abbrev pub StandingsOfOuterJoins : Type 0
StandingsOfOuterJoins =
    (outer_loop (Null ∷ []) (λ r. false_rank)
    (ranked (Number 1 ∷ []) divide_by_zero_rank ∷ row (Number 2 ∷ []) ∷ [])
    (λ l. row (Number 7 ∷ []) ∷ row (Number 8 ∷ []) ∷ [])
    ≡ ranked (Number 1 ∷ Null ∷ []) divide_by_zero_rank ∷ row (Number 2 ∷ Null ∷ []) ∷ [])
    × (outer_loop (Null ∷ []) (λ r. number_range_rank) (row (Number 1 ∷ []) ∷ [])
    (λ l. ranked (Number 7 ∷ []) divide_by_zero_rank ∷ [])
    ≡ ranked (Number 1 ∷ Number 7 ∷ []) divide_by_zero_rank ∷ [])
    × (outer_node same_cell (λ x. x) (Null ∷ []) (λ r. true_rank)
    (ranked (Null ∷ []) too_many_rows_rank ∷ row (Fault divide_by_zero_rank ∷ []) ∷ [])
    (row (Fault divide_by_zero_rank ∷ Number 7 ∷ []) ∷ row (Fault number_range_rank ∷ Number 8 ∷ [])
    ∷ [])
    ≡ ranked (Null ∷ Null ∷ []) too_many_rows_rank ∷ row (Fault divide_by_zero_rank ∷ Number 7 ∷ [])
    ∷ [])

-- A group stands at the least standing of its rows, a DISTINCT row at the greatest.
abbrev pub StandingsOfGroups : Type 0
StandingsOfGroups =
    (group_by same_cell (λ r. r) (λ ys. [])
    (ranked (Null ∷ []) divide_by_zero_rank ∷ row (Null ∷ []) ∷ [])
    ≡ ranked (Null ∷ []) divide_by_zero_rank ∷ [])
    × (distinct same_cell (ranked (Null ∷ []) divide_by_zero_rank ∷ row (Null ∷ []) ∷ [])
    ≡ row (Null ∷ []) ∷ [])
    × (total counted (ranked (Null ∷ []) divide_by_zero_rank ∷ row (Null ∷ []) ∷ [])
    ≡ ranked (Number 2 ∷ []) divide_by_zero_rank ∷ [])

-- Keys that are null or the same fault are one group, and one row of a domain; two faults are two.
-- All rows of a group count, also those at a fault.
-- A domain row stands at True whatever its left rows do; the fill leaves groups of no domain row
-- out.
abbrev pub KeysOfFaults : Type 0
KeysOfFaults =
    (group_by same_cell (λ r. at r 0 ∷ []) counted
    (row (Null ∷ []) ∷ ranked (Fault divide_by_zero_rank ∷ []) number_range_rank
    ∷ ranked (Null ∷ []) too_many_rows_rank
    ∷ row (Fault divide_by_zero_rank ∷ []) ∷ row (Fault number_range_rank ∷ []) ∷ [])
    ≡ ranked (Null ∷ Number 2 ∷ []) too_many_rows_rank
    ∷ ranked (Fault divide_by_zero_rank ∷ Number 2 ∷ []) number_range_rank
    ∷ row (Fault number_range_rank ∷ Number 1 ∷ []) ∷ [])
    × (domain_node same_cell (λ r. r)
    (ranked (Null ∷ []) divide_by_zero_rank ∷ row (Null ∷ [])
    ∷ ranked (Fault divide_by_zero_rank ∷ []) divide_by_zero_rank ∷ [])
    ≡ row (Null ∷ []) ∷ row (Fault divide_by_zero_rank ∷ []) ∷ [])
    × (fill same_cell (Number 0 ∷ []) (row (Null ∷ []) ∷ row (Fault divide_by_zero_rank ∷ []) ∷ [])
    (ranked (Fault divide_by_zero_rank ∷ Number 2 ∷ []) number_range_rank
    ∷ row (Number 9 ∷ Number 1 ∷ []) ∷ [])
    ≡ row (Null ∷ Number 0 ∷ [])
    ∷ ranked (Fault divide_by_zero_rank ∷ Number 2 ∷ []) number_range_rank ∷ [])

-- Table 0 has a fault and a number, table 1 a number and a null.
abbrev pub faulty_tables : ℕ → List (List Cell)
faulty_tables t =
    cond (t == 0) ((Fault divide_by_zero_rank ∷ []) ∷ (Number 1 ∷ []) ∷ [])
    ((Number 1 ∷ []) ∷ (Null ∷ []) ∷ [])

-- the answer over them, by nested loops
abbrev pub faulty_answer : List (Ranked Cell)
faulty_answer = ranked (Fault divide_by_zero_rank ∷ Number 1 ∷ []) divide_by_zero_rank
    ∷ row (Number 1 ∷ Number 1 ∷ []) ∷ []

-- A fault in a domain's column is met by identity. select a, (select count(*) from table_1 where b
-- = a) from table_0: under the fault the comparison with the number is that fault, so one row
-- counts, at the fault's standing; loops and nodes give the same.
abbrev pub FaultInADomain : Type 0
FaultInADomain =
    ((bag : OfBag counted) → tree_rows same_cell Null faulty_tables (count_of_equals bag) []
    ≡ faulty_answer)
    × ((bag : OfBag counted)
    → node_rows same_cell Null faulty_tables (count_of_equals bag) 0 unit_row ≡ faulty_answer)

-- two rows of one number each
abbrev pub one_and_two : List (Ranked Cell)
one_and_two = row (Number 1 ∷ []) ∷ row (Number 2 ∷ []) ∷ []

-- left outer join .. on a = b and a = 2: the left row with 1 stays, filled with a null.
-- Wrong: a part of ON that reads the left side only, moved into the left side, loses it.
abbrev pub OnOfTheLeftSide : Type 0
OnOfTheLeftSide =
    (outer_loop (Null ∷ [])
    (λ r. min (equal (at r 0) (at r 1)) (equal (at r 0) (Number 2))) one_and_two
    (λ l. one_and_two)
    ≡ row (Number 1 ∷ Null ∷ []) ∷ row (Number 2 ∷ Number 2 ∷ []) ∷ [])
    × NotSame
    (outer_loop (Null ∷ [])
    (λ r. min (equal (at r 0) (at r 1)) (equal (at r 0) (Number 2))) one_and_two (λ l. one_and_two))
    (outer_loop (Null ∷ []) (λ r. equal (at r 0) (at r 1))
    (select (λ l. equal (at l 0) (Number 2)) one_and_two) (λ l. one_and_two))
