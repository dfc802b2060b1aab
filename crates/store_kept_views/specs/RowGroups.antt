-- The groups of rows, and what they show.
use Rattle.std.specs.Prelude.{ℕ, ◌==◌, List, [], ◌∷◌, ◌++◌, map, length, cond, nat_lt}
use Rattle.std.specs.Prelude.{pos, ◌-ℤ◌}
use Rattle.base_decimal.specs.Tally.{total_of}
use Rattle.base_row_laws.specs.Ranked.{Ranked, ranked, true_rank}
use Rattle.base_row_laws.specs.Operators.{least}
use Rattle.base_value.specs.declared.value.Value.{Value}
use Rattle.base_value.specs.declared.value.Value.TheVariants.{Null, Number}
use Rattle.expr_aggregates.specs.Values.{written, number_or_fault}
use Rattle.store_groups.specs.Groups.{Cell, Group, cell_of, group}
use Rattle.plan_algebra.specs.declared.kept_plan.KeptAggregate.{KeptAggregate}
use Rattle.plan_algebra.specs.declared.kept_plan.KeptAggregate.TheVariants as kept
use Rattle.plan_algebra.specs.KeptPlans.{item_of}

-- the values of an aggregate's argument in rows
abbrev pub arguments : KeptAggregate → List (Ranked Value) → List Value
arguments a ys = map (λ y. (item_of a).0 y.values) ys

-- the same for each aggregate
unfoldable pub cells_of : List KeptAggregate → List (Ranked Value) → List Cell
cells_of ags ys = map (λ a. cell_of (arguments a ys)) ags

-- of a list of rows
unfoldable pub group_of : List KeptAggregate → List (Ranked Value) → Group
group_of ags ys = group (length ys) (least ys) (cells_of ags ys)

-- the least fault, or else v
abbrev pub unless_rank : ℕ → Value → Value
unless_rank least v = cond (nat_lt least true_rank) (written least) v

-- the value of an aggregate
abbrev pub shown : KeptAggregate → ℕ → Cell → Value
shown kept.CountRows rows c = Number 0 (pos rows -ℤ pos 0)
shown (kept.Count e) rows c = unless_rank c.least (Number 0 (pos c.sums.terms -ℤ pos 0))
shown (kept.Sum scale e) rows c =
    unless_rank c.least (cond (c.sums.terms == 0) Null (number_or_fault scale (total_of c.sums)))

abbrev pub all_shown : List KeptAggregate → ℕ → List Cell → List Value
all_shown [] rows cs = []
all_shown (a ∷ ags) rows [] = []
all_shown (a ∷ ags) rows (c ∷ cs) = shown a rows c ∷ all_shown ags rows cs

-- a group's row: its key, then its aggregates, at the least standing
abbrev pub row_of : List KeptAggregate → List Value → Group → Ranked Value
row_of ags k g = ranked (k ++ all_shown ags g.rows g.cells) g.least
