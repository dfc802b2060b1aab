use Rattle.std.proofs.Common.{not}
use Rattle.std.proofs.lemmas.List.Elements.{All-filter}
use Rattle.base_schema.specs.declared.table.TableName.TheVariants as table
use Rattle.base_schema.specs.Kinds.{RowIsOf}
use Rattle.store_state.specs.Keys.{has_key, order_key}
use Rattle.store_state.proofs.applied.delete.Goals as goal

pub replace_sales-requires-clause-orders : goal.replace_sales-requires-clause-orders
replace_sales-requires-clause-orders c =
    rw c.in_ok-orders.ensures (All-filter (λ row. not (has_key c.args.wanted.now (order_key row))) (RowIsOf table.Orders) c.table.result.now c.table.ensures.kinds)

pub replace_sales-requires-clause-lineitems : goal.replace_sales-requires-clause-lineitems
replace_sales-requires-clause-lineitems c =
    rw c.in_ok-lineitems.ensures (All-filter (λ row. not (has_key c.args.wanted.now (order_key row))) (RowIsOf table.Lineitem) c.table-2.result.now c.table-2.ensures.kinds)
