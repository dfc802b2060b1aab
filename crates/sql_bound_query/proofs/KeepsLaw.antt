-- A well-typed query keeps the kinds of its columns: the law.
use Rattle.std.proofs.Common.{◌≡◌, ℕ, suc, List, [], ◌∷◌, true}
use Rattle.std.proofs.Common.{◌&&◌, ◌==◌, map, refl, sym, arith}
use Rattle.std.specs.Cmp.{first_so, second_so}
use Rattle.std.specs.Cmp.Lexicographic.{pointwise}
use Rattle.std.specs.List.{All}
use Rattle.std.proofs.lemmas.Bool.Decides.{Decides-eqb}
use Rattle.base_row_laws.specs.Bags.{Each}
use Rattle.base_row_laws.specs.Ranked.{Ranked, ranked, true_rank}
use Rattle.base_row_laws.specs.Rows.{scanned}
use Rattle.base_row_laws.proofs.Lists.{Each-map, Each-weaker}
use Rattle.expr_scalar.specs.Typing.{is_of_kind, row_is_of}
use Rattle.base_value.specs.declared.value.Value.{Value}
use Rattle.base_value.specs.declared.value.Value.TheVariants as v
use Rattle.base_schema.specs.declared.column.ColumnKind.{ColumnKind}
use Rattle.base_schema.specs.declared.column.ColumnKind.TheVariants as column
use Rattle.base_schema.specs.declared.table.TableName.{TableName}
use Rattle.base_schema.specs.Kinds.{RowIsOf}
use Rattle.base_schema.proofs.Columns.{may_hold, row_held}
use Rattle.base_schema.specs.State.{State, table_rows}
use Rattle.base_schema.specs.Tables.{kinds_of}
use Rattle.sql_bound_query.specs.Meaning.{rows}
use Rattle.sql_bound_query.specs.Typing.{kind_of_column, column_kinds, StateIsOf, KeepsKinds}
use Rattle.sql_bound_query.proofs.Keeps.{both_so}
use Rattle.sql_bound_query.proofs.KeptQueries.{query_kept}

turned : (s t : ℕ) → (s == t) ≡ true → (t == s) ≡ true
turned s t e = let is : s ≡ t = (Decides-eqb s t).0 e in (Decides-eqb t s).1 (sym is)

column_value : (k : ColumnKind) (x : Value) → may_hold k x ≡ true
    → is_of_kind (kind_of_column k) x ≡ true
column_value k v.Null h = refl
column_value column.Key (v.Number s c) h =
    turned s 0 (first_so (s == 0) _ (first_so ((s == 0) && _) _ h))
column_value column.Whole (v.Number s c) h = turned s 0 (first_so (s == 0) _ h)
column_value column.Decimal (v.Number s c) h = turned s 2 (first_so (s == 2) _ h)
column_value column.Date (v.Date d) h = refl
column_value (column.Text most) (v.Text t) h = refl
column_value column.Key (v.Fault f) h = cc
column_value column.Whole (v.Fault f) h = cc
column_value column.Decimal (v.Fault f) h = cc
column_value column.Date (v.Fault f) h = cc
column_value (column.Text most) (v.Fault f) h = cc
column_value column.Key (v.Text t) h = cc
column_value column.Key (v.Date d) h = cc
column_value column.Whole (v.Text t) h = cc
column_value column.Whole (v.Date d) h = cc
column_value column.Decimal (v.Text t) h = cc
column_value column.Decimal (v.Date d) h = cc
column_value column.Date (v.Number s c) h = cc
column_value column.Date (v.Text t) h = cc
column_value (column.Text most) (v.Number s c) h = cc
column_value (column.Text most) (v.Date d) h = cc

table_row : (ks : List ColumnKind) (row : List Value) → pointwise may_hold ks row ≡ true
    → row_is_of (map kind_of_column ks) row ≡ true
table_row [] [] h = refl
table_row [] (x ∷ row) h = cc
table_row (k ∷ ks) [] h = cc
table_row (k ∷ ks) (x ∷ row) h =
    both_so (is_of_kind (kind_of_column k) x) (row_is_of (map kind_of_column ks) row)
    (column_value k x (first_so (may_hold k x) (pointwise may_hold ks row) h))
    (table_row ks row (second_so (may_hold k x) (pointwise may_hold ks row) h))

each_of : {X : Type 0} (P : X → Type 0) (xs : List X) → All P xs → Each P xs
each_of P [] h = tt
each_of P (x ∷ xs) h = (h 0 x (omega arith), each_of P xs (λ k d below. h (suc k) d (omega arith)))

table_rows_kept : (state : State) → StateIsOf state → (t : TableName)
    → Each (λ (x : Ranked Value). row_is_of (column_kinds t) x.values ≡ true)
    (scanned (table_rows state t))
table_rows_kept state st t =
    Each-map (λ (x : Ranked Value). row_is_of (column_kinds t) x.values ≡ true)
    (λ r. ranked r true_rank) (table_rows state t)
    (Each-weaker (RowIsOf t) (λ r. row_is_of (column_kinds t) r ≡ true) (table_rows state t)
    (λ r h. table_row (kinds_of t) r (row_held t r h))
    (each_of (RowIsOf t) (table_rows state t) (st.tables t)))

pub keeps_kinds : KeepsKinds
unfolding rows
keeps_kinds q kinds ks env state st h e =
    query_kept state (table_rows_kept state st) q kinds env ks h e
