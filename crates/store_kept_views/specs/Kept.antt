-- What kept views stand for.
use Rattle.std.specs.Prelude.{List, map}
use Rattle.std.specs.List.{All}
use Rattle.base_schema.specs.State.{State, table_rows}
use Rattle.store_state.specs.Moves.{AreMoved}
use Rattle.plan_algebra.specs.declared.kept_plan.KeptPlan.{KeptPlan}
use Rattle.store_groups.specs.Entries.{Entries}
use Rattle.store_kept_views.specs.Standing.{StandsFor}

-- plans, and the state of whose rows their groups are made
pub record KeptRows : Type 0 where
  pub plans : List KeptPlan
  pub tables : State

-- those plans over those tables
abbrev pub kept : List KeptPlan → State → KeptRows
kept plans tables = record { plans = plans; tables = tables }

-- a plan's groups are those of its table's rows
abbrev pub IsKept : State → KeptPlan × Entries → Type 0
IsKept tables v = StandsFor v.0 v.1 (table_rows tables v.0.table)

-- those of each plan
abbrev pub AreKept : State → List (KeptPlan × Entries) → Type 0
AreKept tables views = All (IsKept tables) views

-- the plans that they are kept for
abbrev pub plans_of : List (KeptPlan × Entries) → List KeptPlan
plans_of views = map (λ v. v.0) views

-- a view may be moved
pub record CanMoveView (view : KeptPlan × Entries) (added removed rows : State) : Type 0 where
  pub old : State
  pub moved : AreMoved old added removed rows
  pub stands : IsKept old view

-- so may each
pub record CanMoveViews (views : List (KeptPlan × Entries)) (added removed rows : State) : Type 0
  where
    pub old : State
    pub moved : AreMoved old added removed rows
    pub stand : AreKept old views
