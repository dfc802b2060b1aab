-- Refreshes and versions worked out by hand.
use Rattle.std.specs.Prelude.{◌≡◌, ℕ, List, [], ◌∷◌, pos, codes, Ok, Err}
use Rattle.base_refusals.specs.declared.line.LineFault.TheVariants.{BadNumber}
use Rattle.base_refusals.specs.declared.refresh.Cause.TheVariants.{OrderExists, OrderTwice}
use Rattle.base_refusals.specs.declared.refresh.Cause.TheVariants.{LineTwice}
use Rattle.base_refusals.specs.declared.refresh.Cause.TheVariants.{StrayLine, UnknownOrder}
use Rattle.base_refusals.specs.declared.refresh.Cause.TheVariants.{KeyTwice}
use Rattle.base_refusals.specs.declared.refresh.Cause.TheVariants.{Malformed, LineExists}
use Rattle.base_refusals.specs.declared.refresh.RefreshFile.TheVariants as file
use Rattle.base_value.specs.declared.value.Value.{Value}
use Rattle.base_value.specs.declared.value.Value.TheVariants.{Number, Text, Date}
use Rattle.base_schema.specs.State.{State}
use Rattle.store_state.specs.Refresh.{Change, InsertRows, DeleteKeys, MalformedFile, after}
use Rattle.store_state.specs.Versions.{accepted, version_state}

-- an order of customer 1 with this key
abbrev order : ℕ → List Value
order key =
    Number 0 (pos key) ∷ Number 0 (pos 1) ∷ Text (codes "O") ∷ Number 2 (pos 1000) ∷ Date 19960102
    ∷ Text (codes "1-URGENT") ∷ Text (codes "K") ∷ Number 0 (pos 0) ∷ Text (codes "x") ∷ []

-- the lineitem of an order with this line number
abbrev line : ℕ → ℕ → List Value
line key number =
    Number 0 (pos key) ∷ Number 0 (pos 1) ∷ Number 0 (pos 1) ∷ Number 0 (pos number)
    ∷ Number 2 (pos 100)
    ∷ Number 2 (pos 500) ∷ Number 2 (pos 0) ∷ Number 2 (pos 0) ∷ Text (codes "N") ∷ Text (codes "O")
    ∷ Date 19960201 ∷ Date 19960202 ∷ Date 19960203 ∷ Text (codes "NONE") ∷ Text (codes "MAIL")
    ∷ Text (codes "w") ∷ []

-- a state with these orders and lineitems alone
abbrev holding : List (List Value) → List (List Value) → State
holding orders lineitems = record {
  region = [];
  nation = [];
  part = [];
  supplier = [];
  partsupp = [];
  customer = [];
  orders = orders;
  lineitem = lineitems;
}

-- the orders 7 and 8 without lineitems
abbrev two_orders : State
two_orders = holding (order 7 ∷ order 8 ∷ []) []

-- order 9 with its one lineitem
abbrev insert_nine : Change
insert_nine = InsertRows (order 9 ∷ []) (line 9 1 ∷ [])

-- an insert twice, then a delete
abbrev three_refreshes : List Change
three_refreshes = insert_nine ∷ insert_nine ∷ DeleteKeys (pos 7 ∷ []) ∷ []

-- refreshes with each cause, and with two that stand together
pub record RefreshCases : Type 0 where
  -- an insert adds at the ends, a delete removes an order with its lineitems and keeps the order of
  -- the rest
  pub inserted : after two_orders insert_nine
      ≡ Ok (holding (order 7 ∷ order 8 ∷ order 9 ∷ []) (line 9 1 ∷ []))
  pub deleted : after (holding (order 7 ∷ order 9 ∷ order 8 ∷ [])
      (line 9 1 ∷ line 8 1 ∷ line 9 2 ∷ []))
      (DeleteKeys (pos 9 ∷ [])) ≡ Ok (holding (order 7 ∷ order 8 ∷ []) (line 8 1 ∷ []))
  pub nothing : after two_orders (InsertRows [] []) ≡ Ok two_orders
  -- an order that is there, or that comes twice
  pub exists : after two_orders (InsertRows (order 9 ∷ order 8 ∷ []) []) ≡ Err (OrderExists (pos 8))
  pub order_twice : after two_orders (InsertRows (order 9 ∷ order 9 ∷ []) [])
      ≡ Err (OrderTwice (pos 9))
  pub exists_first : after two_orders (InsertRows (order 7 ∷ order 7 ∷ []) [])
      ≡ Err (OrderExists (pos 7))
  -- a lineitem of no order of its set, that is there, or that comes twice
  pub stray : after two_orders (InsertRows (order 9 ∷ []) (line 10 1 ∷ []))
      ≡ Err (StrayLine (pos 10))
  pub stray_of_the_state : after two_orders (InsertRows (order 9 ∷ []) (line 8 1 ∷ []))
      ≡ Err (StrayLine (pos 8))
  pub line_exists : after (holding (order 7 ∷ []) (line 9 1 ∷ [])) insert_nine
      ≡ Err (LineExists (pos 9) (pos 1))
  pub line_twice : after two_orders
      (InsertRows (order 9 ∷ []) (line 9 1 ∷ line 9 2 ∷ line 9 1 ∷ []))
      ≡ Err (LineTwice (pos 9) (pos 1))
  pub line_exists_first : after (holding [] (line 9 1 ∷ []))
      (InsertRows (order 9 ∷ []) (line 9 2 ∷ line 9 1 ∷ line 9 2 ∷ []))
      ≡ Err (LineExists (pos 9) (pos 1))
  -- orders are tested before lineitems, and lines in their order
  pub orders_first : after two_orders (InsertRows (order 9 ∷ order 7 ∷ []) (line 10 1 ∷ []))
      ≡ Err (OrderExists (pos 7))
  pub earlier_line_first : after two_orders (InsertRows (order 9 ∷ order 9 ∷ order 7 ∷ []) [])
      ≡ Err (OrderTwice (pos 9))
  -- a key that is not there, or that comes twice
  pub unknown : after two_orders (DeleteKeys (pos 7 ∷ pos 9 ∷ [])) ≡ Err (UnknownOrder (pos 9))
  pub key_twice : after two_orders (DeleteKeys (pos 7 ∷ pos 7 ∷ [])) ≡ Err (KeyTwice (pos 7))
  pub unknown_first : after two_orders (DeleteKeys (pos 9 ∷ pos 9 ∷ []))
      ≡ Err (UnknownOrder (pos 9))
  -- a malformed file is the cause by itself
  pub malformed : after two_orders
      (MalformedFile file.Delete 1 (record { line = 1; fault = BadNumber }))
      ≡ Err (Malformed file.Delete 1 (record { line = 1; fault = BadNumber }))

-- the versions of a list with a refused refresh
pub record VersionCases : Type 0 where
  -- the second insert is refused and makes no version
  pub none : accepted two_orders three_refreshes 0 ≡ 0
  pub one : accepted two_orders three_refreshes 1 ≡ 1
  pub refused : accepted two_orders three_refreshes 2 ≡ 1
  pub two : accepted two_orders three_refreshes 3 ≡ 2
  pub past : accepted two_orders three_refreshes 9 ≡ 2
  -- the states of the versions
  pub base : version_state two_orders three_refreshes 0 ≡ two_orders
  pub first : version_state two_orders three_refreshes 1
      ≡ holding (order 7 ∷ order 8 ∷ order 9 ∷ []) (line 9 1 ∷ [])
  pub second : version_state two_orders three_refreshes 2
      ≡ holding (order 8 ∷ order 9 ∷ []) (line 9 1 ∷ [])
