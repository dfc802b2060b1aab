-- Each made table gives rows.
use Rattle.std.proofs.Common.{◌≡◌, ℕ, ◌+◌, ◌*◌, ◌≤◌, List, refl, arith, Some}
use Rattle.store_file_reader.specs.File.{most_bytes}
use Rattle.base_io.specs.Outside.{file_of}
use Rattle.base_schema.specs.LineForm.{table_form}
use Rattle.base_schema.specs.declared.table.TableName.{TableName}
use Rattle.base_schema.specs.declared.table.TableName.TheVariants.{Region, Nation, Part as Parts, Supplier, Partsupp, Customer, Orders, Lineitem}
use Rattle.app_sample_data.specs.Lines.{lines, region_line, nation_line, part_line, supplier_line, partsupp_lines, customer_line, order_line, order_lineitems}
use Rattle.app_sample_data.specs.Texts.{lasting, ordered, refresh_set, made}
use Rattle.law_made_tables.specs.Laws.{GivesRows, MadeTablesGiveRows, file_name}
use Rattle.law_made_tables.proofs.Pairs.{partsupp_part, lineitem_part}
use Rattle.law_made_tables.proofs.Parts.{Part, rows_of}
use Rattle.law_made_tables.proofs.Tables.{region_part, nation_part, part_part, supplier_part, customer_part, order_part}

given : (number : ℕ) (table : TableName) (text : List ℕ) (low high most : ℕ) → file_of (made number) (file_name table) ≡ Some text → most ≤ most_bytes
    → Part (table_form table) low high most text → GivesRows (made number) table
given number table text low high most held few p =
    let r = rows_of (table_form table) most_bytes low high most text few p in
    record { text = text; rows = r.0; held = held; read = r.1 }

pub made_tables_give_rows : MadeTablesGiveRows
unfolding made lasting ordered refresh_set
made_tables_give_rows n some few Region = given n Region (lines region_line 0 5) _ _ _ refl (omega arith) region_part
made_tables_give_rows n some few Nation = given n Nation (lines nation_line 0 25) _ _ _ refl (omega arith) nation_part
made_tables_give_rows n some few Parts = given n Parts (lines (part_line n) 1 (20 * n + 1)) _ _ _ refl (omega arith) (part_part n few)
made_tables_give_rows n some few Supplier = given n Supplier (lines (supplier_line n) 1 (10 * n + 1)) _ _ _ refl (omega arith) (supplier_part n few)
made_tables_give_rows n some few Partsupp = given n Partsupp (lines (partsupp_lines n) 1 (20 * n + 1)) _ _ _ refl (omega arith) (partsupp_part n some few)
made_tables_give_rows n some few Customer = given n Customer (lines (customer_line n) 1 (15 * n + 1)) _ _ _ refl (omega arith) (customer_part n few)
made_tables_give_rows n some few Orders = given n Orders (lines (order_line n) 1 (30 * n + 1)) _ _ _ refl (omega arith) (order_part n some few)
made_tables_give_rows n some few Lineitem = given n Lineitem (lines (order_lineitems n) 1 (30 * n + 1)) _ _ _ refl (omega arith) (lineitem_part n some few)
