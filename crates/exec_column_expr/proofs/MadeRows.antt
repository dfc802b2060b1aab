-- The rows of columns that expressions give.
use Rattle.std.proofs.Common.{◌≡◌, ℕ, ◌+◌, ◌<◌, suc, List, [], ◌∷◌, map, refl, sym, ap, ◌∙◌, length, get_or, arith, subst}
use Rattle.std.proofs.lemmas.List.{get_or-map, length-map}
use Rattle.base_row_laws.specs.Ranked.{Ranked, ranked}
use Rattle.base_row_laws.specs.Operators.{project}
use Rattle.base_value.specs.declared.value.Value.{Value}
use Rattle.base_value.specs.declared.value.Value.TheVariants.{Null}
use Rattle.expr_scalar.specs.declared.expr.Expr.{Expr}
use Rattle.expr_scalar.specs.Meaning.{value, values}
use Rattle.base_columns.specs.Batches.{cells, rows_beside, AreLong}
use Rattle.exec_column_expr.specs.Rows.{values_over, columns_over}
use Rattle.exec_column_expr.proofs.Nodes.{length-values_over}

abbrev Rows : Type 0
Rows = List (Ranked Value)

-- each column has a value of each row
pub columns_long : (es : List Expr) (rows : Rows) (n : ℕ) → n ≡ length rows → AreLong n (columns_over es rows)
unfolding AreLong
columns_long [] rows n is = tt
columns_long (e ∷ es) rows n is = (length-values_over e rows ∙ sym is, columns_long es rows n is)

-- the values of a place are those of the expressions over its row
cells_are : (es : List Expr) (rows : Rows) (i : ℕ) (d : Ranked Value) → i < length rows → cells (columns_over es rows) i ≡ values es (get_or rows i d).values
unfolding values values_over
cells_are [] rows i d h = refl
cells_are (e ∷ es) rows i d h =
    ap (λ v. v ∷ cells (columns_over es rows) i) (get_or-map (λ (r : Ranked Value). value e r.values) rows i d Null h)
    ∙ ap (λ vs. value e (get_or rows i d).values ∷ vs) (cells_are es rows i d h)

-- from a place on
beside : (es : List Expr) (all : Rows) (i : ℕ) (rows : Rows) → ((k : ℕ) (d : Ranked Value) → k < length rows → (i + k < length all) × (get_or all (i + k) d ≡ get_or rows k d))
    → rows_beside (columns_over es all) i rows ≡ project (values es) rows
beside es all i [] h = refl
beside es all i (r ∷ rows) h =
    let at = h 0 r (omega arith) in
    let e : i + 0 ≡ i = omega arith in
    let l : i < length all = omega (arith, at.0) in
    let is : get_or all i r ≡ r = ap (λ k. get_or all k r) (sym e) ∙ at.1 in
    ap (λ vs. ranked vs r.standing ∷ rows_beside (columns_over es all) (suc i) rows) (cells_are es all i r l ∙ ap (λ (x : Ranked Value). values es x.values) is)
    ∙ ap (λ rs. ranked (values es r.values) r.standing ∷ rs)
    (beside es all (suc i) rows
    (λ k d m. let next = h (suc k) d (omega (arith, m)) in
    let f : i + suc k ≡ suc i + k = omega arith in
    (omega (arith, next.0), ap (λ j. get_or all j d) (sym f) ∙ next.1)))

pub projected_rows : (es : List Expr) (rows : Rows) (columns : List (List Value)) → columns ≡ columns_over es rows → rows_beside columns 0 rows ≡ project (values es) rows
projected_rows es rows columns is =
    ap (λ cs. rows_beside cs 0 rows) is ∙ beside es rows 0 rows (λ k d h. let e : 0 + k ≡ k = omega arith in (omega (arith, h), ap (λ j. get_or rows j d) e))

pub projected_width : (es : List Expr) (rows : Rows) (columns : List (List Value)) → columns ≡ columns_over es rows → length columns ≡ length es
projected_width es rows columns is = ap length is ∙ length-map es (λ e. values_over e rows)

-- the columns that were made are long enough
pub made_long : (es : List Expr) (rows : Rows) (columns : List (List Value)) → columns ≡ columns_over es rows → AreLong (length rows) columns
made_long es rows columns is = subst (AreLong (length rows)) (sym is) (columns_long es rows (length rows) refl)

pub ruleset projections = (projected_rows, projected_width, made_long)
