-- A state with other orders and lineitems.
use Rattle.std.proofs.Common.{◌≡◌, List, [], ◌∷◌, length, set, arith, refl, ap, ◌∙◌}
use Rattle.base_value.specs.declared.value.Value.{Value}
use Rattle.base_schema.specs.declared.table.TableName.TheVariants as table
use Rattle.base_schema.specs.Kinds.{RowsAreOf}
use Rattle.base_schema.specs.State.{State}
use Rattle.store_state.specs.Lists.{IsOfKinds, state_of}
use Rattle.store_state.specs.Refresh.{with_sales}

abbrev RowList : Type 0
RowList = List (List Value)

replaced_lists : (tables : List RowList) (orders lineitems : RowList) → length tables ≡ 8
    → state_of (set (set tables 6 orders) 7 lineitems) ≡ with_sales (state_of tables) orders lineitems
replaced_lists [] o l eight = absurd (omega arith)
replaced_lists (a ∷ []) o l eight = absurd (omega arith)
replaced_lists (a ∷ b ∷ []) o l eight = absurd (omega arith)
replaced_lists (a ∷ b ∷ c ∷ []) o l eight = absurd (omega arith)
replaced_lists (a ∷ b ∷ c ∷ d ∷ []) o l eight = absurd (omega arith)
replaced_lists (a ∷ b ∷ c ∷ d ∷ e ∷ []) o l eight = absurd (omega arith)
replaced_lists (a ∷ b ∷ c ∷ d ∷ e ∷ f ∷ []) o l eight = absurd (omega arith)
replaced_lists (a ∷ b ∷ c ∷ d ∷ e ∷ f ∷ g ∷ []) o l eight = absurd (omega arith)
replaced_lists (a ∷ b ∷ c ∷ d ∷ e ∷ f ∷ g ∷ h ∷ []) o l eight = refl
replaced_lists (a ∷ b ∷ c ∷ d ∷ e ∷ f ∷ g ∷ h ∷ i ∷ more) o l eight = absurd (omega arith)

pub sales_replaced : (tables : List RowList) (orders lineitems : RowList) (state : State) → length tables ≡ 8 → state_of tables ≡ state
    → state_of (set (set tables 6 orders) 7 lineitems) ≡ with_sales state orders lineitems
sales_replaced tables orders lineitems state eight is =
    replaced_lists tables orders lineitems eight ∙ ap (λ s. with_sales s orders lineitems) is

pub sales_of_kinds : (state : State) (orders lineitems : List (List Value)) → IsOfKinds state → RowsAreOf table.Orders orders
    → RowsAreOf table.Lineitem lineitems → IsOfKinds (with_sales state orders lineitems)
sales_of_kinds state orders lineitems kinds o l table.Region = kinds table.Region
sales_of_kinds state orders lineitems kinds o l table.Nation = kinds table.Nation
sales_of_kinds state orders lineitems kinds o l table.Part = kinds table.Part
sales_of_kinds state orders lineitems kinds o l table.Supplier = kinds table.Supplier
sales_of_kinds state orders lineitems kinds o l table.Partsupp = kinds table.Partsupp
sales_of_kinds state orders lineitems kinds o l table.Customer = kinds table.Customer
sales_of_kinds state orders lineitems kinds o l table.Orders = o
sales_of_kinds state orders lineitems kinds o l table.Lineitem = l
