-- The eight tables: the names and kinds of their columns, their primary keys, and which columns may
-- be null.
use Rattle.std.specs.Prelude.{ℕ, Bool, not, List, [], ◌∷◌, length, map, slice_index_or, codes}
use Rattle.std.specs.Prelude.{Option, find, ◌==◌}
use Rattle.std.specs.List.{list_any, range_with_len}
use Rattle.std.specs.Cmp.Lexicographic.{pointwise}
use Rattle.base_schema.specs.declared.column.ColumnKind.{ColumnKind}
use Rattle.base_schema.specs.declared.column.ColumnKind.TheVariants.{Key, Whole, Decimal, Date}
use Rattle.base_schema.specs.declared.column.ColumnKind.TheVariants.{Text}
use Rattle.base_schema.specs.declared.column.LineColumn.{LineColumn}
use Rattle.base_schema.specs.declared.table.TableName.{TableName}
use Rattle.base_schema.specs.declared.table.TableName.TheVariants.{Region, Nation, Part, Supplier}
use Rattle.base_schema.specs.declared.table.TableName.TheVariants.{Partsupp, Customer, Orders}
use Rattle.base_schema.specs.declared.table.TableName.TheVariants.{Lineitem}

-- the tables in the order in which their files are read
abbrev pub all_tables : List TableName
all_tables = Region ∷ Nation ∷ Part ∷ Supplier ∷ Partsupp ∷ Customer ∷ Orders ∷ Lineitem ∷ []

-- a table's name, as queries write it
abbrev pub table_name : TableName → List ℕ
table_name Region = codes "region"
table_name Nation = codes "nation"
table_name Part = codes "part"
table_name Supplier = codes "supplier"
table_name Partsupp = codes "partsupp"
table_name Customer = codes "customer"
table_name Orders = codes "orders"
table_name Lineitem = codes "lineitem"

-- the table of that name, if one has it
abbrev pub table_of : List ℕ → Option TableName
table_of name = find (λ table. pointwise ◌==◌ (table_name table) name) all_tables

-- the kinds of a table's columns
abbrev pub kinds_of : TableName → List ColumnKind
kinds_of Region = Key ∷ Text 25 ∷ Text 152 ∷ []
kinds_of Nation = Key ∷ Text 25 ∷ Key ∷ Text 152 ∷ []
kinds_of Part = Key ∷ Text 55 ∷ Text 25 ∷ Text 10 ∷ Text 25 ∷ Whole ∷ Text 10 ∷ Decimal ∷ Text 23
    ∷ []
kinds_of Supplier = Key ∷ Text 25 ∷ Text 40 ∷ Key ∷ Text 15 ∷ Decimal ∷ Text 101 ∷ []
kinds_of Partsupp = Key ∷ Key ∷ Whole ∷ Decimal ∷ Text 199 ∷ []
kinds_of Customer = Key ∷ Text 25 ∷ Text 40 ∷ Key ∷ Text 15 ∷ Decimal ∷ Text 10 ∷ Text 117 ∷ []
kinds_of Orders = Key ∷ Key ∷ Text 1 ∷ Decimal ∷ Date ∷ Text 15 ∷ Text 15 ∷ Whole ∷ Text 79 ∷ []
kinds_of Lineitem = Key ∷ Key ∷ Key ∷ Whole ∷ Decimal ∷ Decimal ∷ Decimal ∷ Decimal ∷ Text 1
    ∷ Text 1 ∷ Date ∷ Date ∷ Date ∷ Text 25 ∷ Text 10 ∷ Text 44 ∷ []

-- the names of a table's columns
abbrev pub column_names_of : TableName → List (List ℕ)
column_names_of Region = codes "r_regionkey" ∷ codes "r_name" ∷ codes "r_comment" ∷ []
column_names_of Nation = codes "n_nationkey" ∷ codes "n_name" ∷ codes "n_regionkey"
    ∷ codes "n_comment" ∷ []
column_names_of Part = codes "p_partkey" ∷ codes "p_name" ∷ codes "p_mfgr" ∷ codes "p_brand"
    ∷ codes "p_type" ∷ codes "p_size" ∷ codes "p_container" ∷ codes "p_retailprice"
    ∷ codes "p_comment" ∷ []
column_names_of Supplier = codes "s_suppkey" ∷ codes "s_name" ∷ codes "s_address"
    ∷ codes "s_nationkey" ∷ codes "s_phone" ∷ codes "s_acctbal" ∷ codes "s_comment" ∷ []
column_names_of Partsupp = codes "ps_partkey" ∷ codes "ps_suppkey" ∷ codes "ps_availqty"
    ∷ codes "ps_supplycost" ∷ codes "ps_comment" ∷ []
column_names_of Customer = codes "c_custkey" ∷ codes "c_name" ∷ codes "c_address"
    ∷ codes "c_nationkey" ∷ codes "c_phone" ∷ codes "c_acctbal" ∷ codes "c_mktsegment"
    ∷ codes "c_comment" ∷ []
column_names_of Orders = codes "o_orderkey" ∷ codes "o_custkey" ∷ codes "o_orderstatus"
    ∷ codes "o_totalprice" ∷ codes "o_orderdate" ∷ codes "o_orderpriority" ∷ codes "o_clerk"
    ∷ codes "o_shippriority" ∷ codes "o_comment" ∷ []
column_names_of Lineitem = codes "l_orderkey" ∷ codes "l_partkey" ∷ codes "l_suppkey"
    ∷ codes "l_linenumber" ∷ codes "l_quantity" ∷ codes "l_extendedprice" ∷ codes "l_discount"
    ∷ codes "l_tax" ∷ codes "l_returnflag" ∷ codes "l_linestatus" ∷ codes "l_shipdate"
    ∷ codes "l_commitdate" ∷ codes "l_receiptdate" ∷ codes "l_shipinstruct" ∷ codes "l_shipmode"
    ∷ codes "l_comment" ∷ []

-- the places of the primary key's columns, counted from 0
abbrev pub key_columns_of : TableName → List ℕ
key_columns_of Partsupp = 0 ∷ 1 ∷ []
key_columns_of Lineitem = 0 ∷ 3 ∷ []
key_columns_of table = 0 ∷ []

-- the column at a place may be null: it is no part of the primary key
abbrev pub may_be_null : TableName → ℕ → Bool
may_be_null table place = not (list_any (λ key. key == place) (key_columns_of table))

-- the column at a place, counted from 0
abbrev pub column_of : TableName → ℕ → LineColumn
column_of table place = record {
  kind = slice_index_or (kinds_of table) place Key;
  nullable = may_be_null table place;
}

-- a table's columns
abbrev pub columns_of : TableName → List LineColumn
columns_of table = map (column_of table) (range_with_len 0 (length (kinds_of table)))
