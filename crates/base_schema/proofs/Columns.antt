-- The columns of a table, one by one.
use Rattle.std.proofs.Common.{◌≡◌, ◌≢◌, ℕ, suc, ◌+◌, ◌<◌, ◌≤◌, Bool, true, false, ◌&&◌, ◌||◌, List, []}
use Rattle.std.proofs.Common.{◌∷◌, ◌++◌, length, map, take, get_or, refl, sym, ap, subst, ◌∙◌, arith}
use Rattle.std.proofs.lemmas.Bool.{and_parts, and_from}
use Rattle.std.specs.Cmp.Lexicographic.{pointwise, unequal}
use Rattle.std.specs.List.{range_with_len}
use Rattle.std.proofs.lemmas.List.FromFn.{length-map-range_with_len, get_or-map-range_with_len}
use Rattle.std.proofs.lemmas.List.FromFn.{map-range_with_len_more}
use Rattle.base_value.specs.declared.value.Value.{Value}
use Rattle.base_schema.specs.declared.column.ColumnKind.{ColumnKind}
use Rattle.base_schema.specs.declared.column.LineColumn.{LineColumn}
use Rattle.base_schema.specs.declared.table.TableName.{TableName}
use Rattle.base_schema.specs.declared.table.TableName.TheVariants.{Region, Nation, Part, Supplier}
use Rattle.base_schema.specs.declared.table.TableName.TheVariants.{Partsupp, Customer, Orders}
use Rattle.base_schema.specs.declared.table.TableName.TheVariants.{Lineitem}
use Rattle.base_schema.specs.Kinds.{RowIsOf, is_null, is_of_kind, can_hold, can_hold_row}
use Rattle.base_schema.specs.Tables.{kinds_of, column_of, columns_of}
use Rattle.base_schema.proofs.Pairs.{pointwise_more, pointwise_fails, pointwise_all}

-- there are as many as kinds
pub columns_count : (table : TableName) → length (columns_of table) ≡ length (kinds_of table)
columns_count table = length-map-range_with_len (column_of table) 0 (length (kinds_of table))

-- and they are of these kinds
pub columns_kinds : (table : TableName) → map (λ column. column.kind) (columns_of table) ≡ kinds_of table
columns_kinds Region = refl
columns_kinds Nation = refl
columns_kinds Part = refl
columns_kinds Supplier = refl
columns_kinds Partsupp = refl
columns_kinds Customer = refl
columns_kinds Orders = refl
columns_kinds Lineitem = refl

column_at : (table : TableName) (place : ℕ) → place < length (kinds_of table)
    → get_or (columns_of table) place (column_of table 0) ≡ column_of table place
column_at table place h =
    get_or-map-range_with_len (column_of table) 0 (length (kinds_of table)) place place
    (column_of table 0) h (omega arith)

-- one value more that its column can hold
pub held_more : (table : TableName) (row : List Value) (i : ℕ) (column : LineColumn) (v : Value)
    → i < length (kinds_of table) → i < length row → column ≡ column_of table i
    → v ≡ get_or row i v → pointwise can_hold (take i (columns_of table)) (take i row) ≡ true
    → can_hold column v ≡ true
    → pointwise can_hold (take (i + 1) (columns_of table)) (take (i + 1) row) ≡ true
held_more table row i column v h g is at so_far e =
    pointwise_more can_hold (columns_of table) row i (column_of table 0) v
    (omega (arith, h, columns_count table)) g at so_far
    ((λ k. can_hold ((column_at table i h ∙ sym is) k) v) ∙ e)

-- a value that its column can't hold
pub held_fails : (table : TableName) (row : List Value) (i : ℕ) (column : LineColumn) (v : Value)
    → i < length (kinds_of table) → i < length row → column ≡ column_of table i
    → v ≡ get_or row i v → can_hold column v ≡ false → false ≡ can_hold_row (columns_of table) row
held_fails table row i column v h g is at e =
    pointwise_fails can_hold (columns_of table) row i (column_of table 0) v
    (omega (arith, h, columns_count table)) g at
    ((λ k. can_hold ((column_at table i h ∙ sym is) k) v) ∙ e)

-- all pairs were tried
pub held_all : (table : TableName) (row : List Value) (i : ℕ) → length (kinds_of table) ≡ length row
    → length row ≤ i → pointwise can_hold (take i (columns_of table)) (take i row) ≡ true
    → true ≡ can_hold_row (columns_of table) row
held_all table row i same h e =
    sym e ∙ pointwise_all can_hold (columns_of table) row i
    (omega (arith, same, h, columns_count table)) h

-- a row of another length
pub held_unlike : (table : TableName) (row : List Value) → (length (kinds_of table) ≢ length row)
    → false ≡ can_hold_row (columns_of table) row
held_unlike table row n =
    sym (unequal can_hold (columns_of table) row (λ e. n (sym (columns_count table) ∙ e)))

-- one column more
pub columns_more : (table : TableName) (columns new : List LineColumn) (place : ℕ)
    (column : LineColumn) → columns ≡ map (column_of table) (range_with_len 0 place)
    → column ≡ column_of table place → new ≡ columns ++ column ∷ []
    → new ≡ map (column_of table) (range_with_len 0 (place + 1))
columns_more table columns new place column so_far is made =
    made ∙ (λ k. so_far k ++ is k ∷ []) ∙ sym (map-range_with_len_more (column_of table) 0 place place (omega arith))

-- rows of a table

-- null, or a value of that kind
abbrev pub may_hold : ColumnKind → Value → Bool
may_hold kind v = is_null v || is_of_kind kind v

null_or_kind : (nullable null kind : Bool) → ((nullable && null) || kind) ≡ true → (null || kind) ≡ true
null_or_kind nullable true kind e = refl
null_or_kind true false kind e = e
null_or_kind false false kind e = e

held_by_kinds : (columns : List LineColumn) (row : List Value) → pointwise can_hold columns row ≡ true
    → pointwise may_hold (map (λ column. column.kind) columns) row ≡ true
held_by_kinds [] [] e = refl
held_by_kinds [] (v ∷ row) e = cc
held_by_kinds (column ∷ columns) [] e = cc
held_by_kinds (column ∷ columns) (v ∷ row) e =
    let parts = and_parts (can_hold column v) (pointwise can_hold columns row) e in
    and_from (may_hold column.kind v) _
    (null_or_kind column.nullable (is_null v) (is_of_kind column.kind v) parts.0)
    (held_by_kinds columns row parts.1)

-- each of its values is null or of its column's kind
pub row_held : (table : TableName) (row : List Value) → RowIsOf table row
    → pointwise may_hold (kinds_of table) row ≡ true
row_held table row e =
    subst (λ kinds. pointwise may_hold kinds row ≡ true) (columns_kinds table)
    (held_by_kinds (columns_of table) row e)

-- it has one for each column
long : {A B : Type 0} (test : A → B → Bool) (xs : List A) (ys : List B)
    → pointwise test xs ys ≡ true → length ys ≡ length xs
long test [] [] e = refl
long test [] (y ∷ ys) e = cc
long test (x ∷ xs) [] e = cc
long test (x ∷ xs) (y ∷ ys) e =
    ap suc (long test xs ys (and_parts (test x y) (pointwise test xs ys) e).1)

pub row_long : (table : TableName) (row : List Value) → RowIsOf table row
    → length row ≡ length (kinds_of table)
row_long table row e = long can_hold (columns_of table) row e ∙ columns_count table

pub ruleset columns = (columns_more)

pub ruleset rows = (held_all, held_unlike)
