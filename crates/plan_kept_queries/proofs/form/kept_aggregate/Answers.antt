use Rattle.plan_kept_queries.proofs.FormLists.{item_found, rows_found}
use Rattle.plan_kept_queries.proofs.form.kept_aggregate.Goals as goal

pub returns-in-CountRows : goal.returns-in-CountRows
returns-in-CountRows c = rows_found c.args.a.now c.in-CountRows.is

pub returns-in-Of : goal.returns-in-Of
returns-in-Of c = item_found c.args.a.now c.in-Of.function c.in-Of.scale c.in-Of.e c.kept_function.result c.in-Of.is c.kept_function.ensures
