-- Queries that name a version, worked out by hand. Each counts the orders, of which there are two
-- at first, and then by turns three and two.
use Rattle.std.specs.Prelude.{◌≡◌, ℕ, List, [], ◌∷◌, Option, None, Some, Ok, Err, codes, true}
use Rattle.std.specs.Prelude.{if◌then◌else◌, ◌==◌, ◌%◌}
use Rattle.base_refusals.specs.declared.bind.BindRefusal.TheVariants.{UnknownColumn}
use Rattle.base_refusals.specs.declared.statement.FaultKind.TheVariants.{DivideByZero}
use Rattle.base_refusals.specs.declared.statement.Refusal.TheVariants.{Fault}
use Rattle.base_value.specs.declared.value.Value.{Value}
use Rattle.base_schema.specs.State.{State}
use Rattle.base_schema.specs.declared.table.TableName.TheVariants as table
use Rattle.sql_binder_steps.specs.Steps.{Checked}
use Rattle.sql_bound_query.specs.Examples.{always, at, order_eight, order_seven, small, statement}
use Rattle.sql_bound_query.specs.declared.query.BoundAggregate.TheVariants.{CountRows}
use Rattle.sql_bound_query.specs.declared.query.BoundBlock.TheVariants.{Grouped}
use Rattle.sql_bound_query.specs.declared.query.BoundQuery.{BoundQuery}
use Rattle.sql_bound_query.specs.declared.query.BoundSource.TheVariants.{Table}
use Rattle.app_sessions.specs.Outcomes.{outcome_lines, query_outcome}
use Rattle.app_sessions.specs.declared.outcome.Outcome.TheVariants.{Refused}

-- the orders of a version: two where its number is even, else three
abbrev pub orders_of : ℕ → List (List Value)
orders_of version =
    if version % 2 == 0 then order_seven ∷ order_eight ∷ []
    else order_seven ∷ order_eight ∷ order_eight ∷ []

-- the tables of a version
abbrev pub state_of : ℕ → State
state_of version = record small { orders = orders_of version }

-- select count(*) from orders
abbrev pub orders_counted : BoundQuery
orders_counted =
    statement (Grouped (Table table.Orders) always [] (CountRows ∷ []) always (at 0 ∷ []))

-- the lines of a query that was bound or not, of this number, over these versions
abbrev pub lines : Checked BoundQuery → ℕ → ℕ → Option ℕ → List ℕ
lines query number begun named =
    outcome_lines true number begun named (query_outcome begun state_of named query)

-- what the definitions say of these
pub record VersionExamples : Type 0 where
  -- over the version over which it began, and over earlier ones
  pub last : lines (Ok orders_counted) 7 2 None ≡ codes "[7] version 2 rows 1\n2\n"
  pub first : lines (Ok orders_counted) 8 2 (Some 0) ≡ codes "[8] version 0 rows 1\n2\n"
  pub second : lines (Ok orders_counted) 9 2 (Some 1) ≡ codes "[9] version 1 rows 1\n3\n"
  -- one that is not there yet, and one that is gone; the next one is the oldest
  pub unknown : lines (Ok orders_counted) 10 2 (Some 3)
      ≡ codes "[10] version 2 refused 23 VersionUnknown 3\n"
  pub gone : lines (Ok orders_counted) 65 64 (Some 0)
      ≡ codes "[65] version 64 refused 24 VersionGone 0\n"
  pub oldest : lines (Ok orders_counted) 66 64 (Some 1) ≡ codes "[66] version 1 rows 1\n3\n"
  -- why a query is not bound comes first, with the version over which it began
  pub unbound : lines (Err UnknownColumn) 71 64 (Some 0)
      ≡ codes "[71] version 64 refused 2 UnknownColumn\n"
  -- the answer's fault has the version that is named
  pub fault : outcome_lines true 5 1 (Some 0) (Refused (Fault DivideByZero))
      ≡ codes "[5] version 0 refused 22 Fault 2 DivideByZero\n"
