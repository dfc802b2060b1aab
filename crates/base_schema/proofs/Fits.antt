-- A row fits a table's lines where it is of the table.
use Rattle.std.proofs.Common.{◌≡◌, List, get_or, subst}
use Rattle.std.specs.Prelude.{IsTrue}
use Rattle.base_value.specs.declared.value.Value.{Value}
use Rattle.base_schema.specs.declared.table.TableName.{TableName}
use Rattle.base_schema.specs.Kinds.{RowsAreOf, can_hold_row}
use Rattle.base_schema.specs.LineForm.{LineForm, RowsFit}
use Rattle.base_schema.specs.Tables.{columns_of}

pub rows_fit_are_of : (form : LineForm) (table : TableName) (rows : List (List Value))
    → form.columns ≡ columns_of table → RowsFit form rows → RowsAreOf table rows
rows_fit_are_of form table rows e fit = λ k d inside.
    subst (λ columns. IsTrue (can_hold_row columns (get_or rows k d))) e (fit k d inside)
