-- Refreshes: one whole change of a state, or the first cause why there is none.
use Rattle.std.specs.Prelude.{ℕ, Bool, true, false, not, List, [], ◌∷◌, ◌++◌, filter, ℤ, pos, ◌≤ℤ◌}
use Rattle.std.specs.Prelude.{◌<ℤ◌, ◌^◌, Option, Some, None, Result, Ok, Err, if◌then◌else◌}
use Rattle.base_refusals.specs.declared.line.LineRefusal.{LineRefusal}
use Rattle.base_refusals.specs.declared.refresh.Cause.{Cause}
use Rattle.base_refusals.specs.declared.refresh.Cause.TheVariants.{OrderExists, OrderTwice}
use Rattle.base_refusals.specs.declared.refresh.Cause.TheVariants.{LineTwice}
use Rattle.base_refusals.specs.declared.refresh.Cause.TheVariants.{StrayLine, UnknownOrder}
use Rattle.base_refusals.specs.declared.refresh.Cause.TheVariants.{KeyTwice}
use Rattle.base_refusals.specs.declared.refresh.Cause.TheVariants.{Malformed, LineExists}
use Rattle.base_refusals.specs.declared.refresh.RefreshFile.{RefreshFile}
use Rattle.base_value.specs.declared.value.Value.{Value}
use Rattle.base_schema.specs.State.{State}
use Rattle.store_state.specs.Keys.{has_key, has_line, line_keys, order_key, order_keys}

-- what a refresh is to do
pub data Change : Type 0 where
  -- add orders and their lineitems at the ends of the tables
  InsertRows : (orders : List (List Value)) → (lineitems : List (List Value)) → Change
  -- remove the orders of these keys, and all lineitems of these orders
  DeleteKeys : (keys : List ℤ) → Change
  -- nothing, since a file of the set of this number has a bad line
  MalformedFile : (file : RefreshFile) → (set : ℕ) → (refusal : LineRefusal) → Change

-- whether the change adds rows
abbrev pub is_insert : Change → Bool
is_insert (InsertRows orders lineitems) = true
is_insert (DeleteKeys keys) = false
is_insert (MalformedFile file set refusal) = false

-- a number that an order's key can be
abbrev pub IsOrderKey : ℤ → Type 0
IsOrderKey key = (pos 0 ≤ℤ key) × (key <ℤ pos (2 ^ 63))

-- the first of two causes
abbrev pub or_cause : Option Cause → Option Cause → Option Cause
or_cause None second = second
or_cause (Some first) second = Some first

-- the first cause of items that are tested one by one, each beside those before it
abbrev pub first_cause : {A : Type 0} → (List A → A → Option Cause) → List A → List A → Option Cause
first_cause test earlier [] = None
first_cause test earlier (item ∷ items) =
    or_cause (test earlier item) (first_cause test (earlier ++ item ∷ []) items)

-- the cause of an inserted order, by the keys in the state and the earlier ones of its file
abbrev pub order_cause : List ℤ → List ℤ → ℤ → Option Cause
order_cause present earlier key =
    if has_key present key then Some (OrderExists key)
    else if has_key earlier key then Some (OrderTwice key) else None

-- the cause of an inserted lineitem, by the keys of the set's orders, those in the state and the
-- earlier ones of its file
abbrev pub line_cause : List ℤ → List (ℤ × ℤ) → List (ℤ × ℤ) → ℤ × ℤ → Option Cause
line_cause orders present earlier line =
    if not (has_key orders line.0) then Some (StrayLine line.0)
    else if has_line present line then Some (LineExists line.0 line.1)
    else if has_line earlier line then Some (LineTwice line.0 line.1) else None

-- the cause of a deleted key, by the keys in the state and the earlier ones of its file
abbrev pub delete_cause : List ℤ → List ℤ → ℤ → Option Cause
delete_cause present earlier key =
    if not (has_key present key) then Some (UnknownOrder key)
    else if has_key earlier key then Some (KeyTwice key) else None

-- the first cause of an insert: its orders are tested before its lineitems
abbrev pub insert_cause : State → List ℤ → List (ℤ × ℤ) → Option Cause
insert_cause state orders lines =
    or_cause (first_cause (order_cause (order_keys state.orders)) [] orders)
    (first_cause (line_cause orders (line_keys state.lineitem)) [] lines)

-- the first cause of a refresh in a state, if it has one
abbrev pub cause_of : State → Change → Option Cause
cause_of state (InsertRows orders lineitems) =
    insert_cause state (order_keys orders) (line_keys lineitems)
cause_of state (DeleteKeys keys) = first_cause (delete_cause (order_keys state.orders)) [] keys
cause_of state (MalformedFile file set refusal) = Some (Malformed file set refusal)

-- the rows of none of the orders of these keys
abbrev pub without_keys : List ℤ → List (List Value) → List (List Value)
without_keys keys = filter (λ row. not (has_key keys (order_key row)))

-- a state with these orders and lineitems in place of its own
abbrev pub with_sales : State → List (List Value) → List (List Value) → State
with_sales state orders lineitems = record state { orders = orders; lineitem = lineitems }

-- a state after a change that has no cause against it
abbrev pub changed : State → Change → State
changed state (InsertRows orders lineitems) =
    with_sales state (state.orders ++ orders) (state.lineitem ++ lineitems)
changed state (DeleteKeys keys) =
    with_sales state (without_keys keys state.orders) (without_keys keys state.lineitem)
changed state (MalformedFile file set refusal) = state

-- the changed state, if no cause stands against it
abbrev pub unless_cause : Option Cause → State → Result State Cause
unless_cause None state = Ok state
unless_cause (Some cause) state = Err cause

-- the state after a refresh, or the first cause why it is refused
abbrev pub after : State → Change → Result State Cause
after state change = unless_cause (cause_of state change) (changed state change)
