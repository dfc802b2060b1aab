-- What is kept of a group of rows.
use Rattle.std.specs.Prelude.{◌≡◌, ℕ, ◌+◌, ◌-◌, ◌≤◌, ◌==◌, List, [], ◌∷◌, min, length, ℤ, pos}
use Rattle.std.specs.Prelude.{Bool, true, false, ◌&&◌, cond, replicate}
use Rattle.base_decimal.specs.Tally.{Sums, sums, no_terms, with_term, is_small}
use Rattle.base_decimal.specs.Tally.{without_term, HasTerm, IsInRange}
use Rattle.base_row_laws.specs.Ranked.{true_rank}
use Rattle.base_row_laws.specs.Bags.{weigh}
use Rattle.base_row_laws.specs.Aggregates.{not_null, least_fault}
use Rattle.base_value.specs.declared.value.Value.{Value}
use Rattle.base_value.specs.declared.value.Value.TheVariants.{Number}
use Rattle.expr_aggregates.specs.Values.{value_rank, is_null, above, below, reading}

-- of the values of an argument: the rank of the least fault, how many aren't null, and the sums of
-- the numbers
pub record Cell : Type 0 where
  pub least : ℕ
  pub sums : Sums

abbrev pub cell : ℕ → Sums → Cell
cell least sums = record { least = least; sums = sums }

-- how many rows, the rank of the least standing, and a cell for each aggregate
pub record Group : Type 0 where
  pub rows : ℕ
  pub least : ℕ
  pub cells : List Cell

abbrev pub group : ℕ → ℕ → List Cell → Group
group rows least cells = record { rows = rows; least = least; cells = cells }

-- of no rows, with so many cells
abbrev pub no_rows : ℕ → Group
no_rows count = group 0 true_rank (replicate count (cell true_rank no_terms))

-- of a list of values
abbrev pub cell_of : List Value → Cell
cell_of vs = cell (least_fault (reading 0) vs)
    (sums (length (not_null (reading 0) vs)) (weigh above vs) (weigh below vs))

-- what is added of a value that is not null
abbrev pub term_of : Value → ℤ
term_of (Number s c) = c
term_of v = pos 0

-- with one value more
abbrev pub with_value : Cell → Value → Cell
with_value c v = cell (min c.least (value_rank v))
    (cond (is_null v) c.sums (with_term c.sums (term_of v)))

-- without one of its values, none of which is a fault
abbrev pub without_value : Cell → Value → Cell
without_value c v = cell c.least (cond (is_null v) c.sums (without_term c.sums (term_of v)))

-- cell by cell
abbrev pub with_values : List Cell → List Value → List Cell
with_values [] vs = []
with_values (c ∷ cs) [] = c ∷ cs
with_values (c ∷ cs) (v ∷ vs) = with_value c v ∷ with_values cs vs

abbrev pub without_values : List Cell → List Value → List Cell
without_values [] vs = []
without_values (c ∷ cs) [] = c ∷ cs
without_values (c ∷ cs) (v ∷ vs) = without_value c v ∷ without_values cs vs

-- with one row more, of these arguments and of this standing
abbrev pub with_row : Group → List Value → ℕ → Group
with_row g args standing = group (g.rows + 1) (min g.least standing) (with_values g.cells args)

-- without one of its rows
abbrev pub without_row : Group → List Value → Group
without_row g args = group (g.rows - 1) g.least (without_values g.cells args)

-- no fault among the values, and their sum is a number
abbrev pub is_plain : Cell → Bool
is_plain c = (c.least == true_rank) && (is_small c.sums.above && is_small c.sums.below)

abbrev pub are_plain : List Cell → Bool
are_plain [] = true
are_plain (c ∷ cs) = is_plain c && are_plain cs

-- no fault in a standing, a value or a sum
abbrev pub is_faultless : Group → Bool
is_faultless g = (g.least == true_rank) && are_plain g.cells

-- the value may be one of those of a cell, whose sum is a number
abbrev pub HasValue : Cell → Value → Type 0
HasValue c v = is_null v ≡ false → HasTerm c.sums (term_of v) × IsInRange c.sums

-- cell by cell
abbrev pub HaveValues : List Cell → List Value → Type 0
HaveValues [] vs = Unit {0}
HaveValues (c ∷ cs) [] = Unit {0}
HaveValues (c ∷ cs) (v ∷ vs) = HasValue c v × HaveValues cs vs

-- a row of these arguments may be one of the group's
pub record HasRow (g : Group) (args : List Value) : Type 0 where
  pub some : 1 ≤ g.rows
  pub each : HaveValues g.cells args
