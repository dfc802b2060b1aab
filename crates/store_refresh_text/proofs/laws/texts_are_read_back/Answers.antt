use Rattle.std.proofs.Common.{refl, drop}
use Rattle.base_refusals.specs.declared.refresh.RefreshFile.TheVariants as file
use Rattle.base_schema.specs.LineForm.{refresh_form}
use Rattle.base_schema.specs.Tables.{column_of, columns_of}
use Rattle.base_schema.specs.declared.table.TableName.TheVariants as name
use Rattle.store_refresh_text.proofs.Deletes.{keys_read}
use Rattle.store_refresh_text.proofs.Lines.{rows_read}
use Rattle.store_refresh_text.proofs.laws.texts_are_read_back.Goals as goal

pub returns-clause-orders : goal.returns-clause-orders
returns-clause-orders c = rows_read (refresh_form file.Orders) (column_of name.Orders 0) (drop 1 (columns_of name.Orders)) refl refl

pub returns-clause-lineitems : goal.returns-clause-lineitems
returns-clause-lineitems c = rows_read (refresh_form file.Lineitem) (column_of name.Lineitem 0) (drop 1 (columns_of name.Lineitem)) refl refl

pub returns-clause-keys : goal.returns-clause-keys
returns-clause-keys c = keys_read
