-- A state of its tables' kinds stays so as a table's rows are put in.
use Rattle.std.specs.Prelude.{◌≡◌, List}
use Rattle.std.proofs.Common.{refl}
use Rattle.base_value.specs.declared.value.Value.{Value}
use Rattle.base_schema.specs.Kinds.{RowsAreOf}
use Rattle.base_schema.specs.State.{State, table_rows}
use Rattle.base_schema.specs.declared.table.TableName.{TableName}
use Rattle.base_schema.specs.declared.table.TableName.TheVariants.{Region, Nation, Part, Supplier, Partsupp, Customer, Orders, Lineitem}
use Rattle.plan_algebra.specs.Trees.{HasKinds}
use Rattle.plan_algebra.specs.States.{state_of, with_table}

pub with_kinds : (s : State) (table : TableName) (rows : List (List Value)) → HasKinds (table_rows s) → RowsAreOf table rows → HasKinds (table_rows (with_table s table rows))
with_kinds s Region rows all here Region = here
with_kinds s Region rows all here other = all other
with_kinds s Nation rows all here Nation = here
with_kinds s Nation rows all here other = all other
with_kinds s Part rows all here Part = here
with_kinds s Part rows all here other = all other
with_kinds s Supplier rows all here Supplier = here
with_kinds s Supplier rows all here other = all other
with_kinds s Partsupp rows all here Partsupp = here
with_kinds s Partsupp rows all here other = all other
with_kinds s Customer rows all here Customer = here
with_kinds s Customer rows all here other = all other
with_kinds s Orders rows all here Orders = here
with_kinds s Orders rows all here other = all other
with_kinds s Lineitem rows all here Lineitem = here
with_kinds s Lineitem rows all here other = all other

-- the tables of the state of these rows
pub tables_back : (rows : TableName → List (List Value)) (table : TableName) → table_rows (state_of rows) table ≡ rows table
tables_back rows Region = refl
tables_back rows Nation = refl
tables_back rows Part = refl
tables_back rows Supplier = refl
tables_back rows Partsupp = refl
tables_back rows Customer = refl
tables_back rows Orders = refl
tables_back rows Lineitem = refl
