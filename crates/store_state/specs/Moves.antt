-- Rows that are removed from tables, and rows that are added to them.
use Rattle.std.specs.Prelude.{List, [], ◌++◌, ℤ}
use Rattle.std.specs.List.{filter}
use Rattle.base_row_laws.specs.Bags.{SameBag}
use Rattle.base_schema.specs.State.{State, table_rows}
use Rattle.base_schema.specs.declared.table.TableName.{TableName}
use Rattle.base_value.specs.declared.value.Value.{Value}
use Rattle.store_state.specs.Keys.{has_key, order_key}

-- the rows of orders of these keys
abbrev pub with_keys : List ℤ → List (List Value) → List (List Value)
with_keys keys = filter (λ row. has_key keys (order_key row))

-- no rows in any table
abbrev pub no_rows : State
no_rows = record {
  region = [];
  nation = [];
  part = [];
  supplier = [];
  partsupp = [];
  customer = [];
  orders = [];
  lineitem = [];
}

-- what is left without some rows of those that a table had, and with others
pub record IsMoved (old added removed rows : List (List Value)) : Type 0 where
  pub rest : List (List Value)
  pub before : SameBag old (removed ++ rest)
  pub after : SameBag rows (rest ++ added)

-- table by table: the removed rows are, as a bag, among the old ones, and the rows are, as a bag,
-- the old ones without the removed and with the added ones
abbrev pub AreMoved : State → State → State → State → Type 0
AreMoved old added removed rows = (t : TableName)
    → IsMoved (table_rows old t) (table_rows added t) (table_rows removed t) (table_rows rows t)
