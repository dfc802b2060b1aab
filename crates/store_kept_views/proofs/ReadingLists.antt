-- The columns that a plan reads of rows, place by place.
use Rattle.std.proofs.Common.{◌≡◌, ℕ, ℤ, ◌+◌, ◌<◌, List, [], ◌∷◌, ◌++◌, map, get_or, take, refl, sym, ◌∙◌, ap, subst, arith, length, zero, suc}
use Rattle.std.specs.Prelude.{replicate, slice_index_or}
use Rattle.std.specs.List.{All}
use Rattle.std.proofs.lemmas.List.{length-map, map-append, take_more}
use Rattle.base_columns.specs.Batches.{cells, column_at, row_at}
use Rattle.base_row_laws.specs.Ranked.{Ranked}
use Rattle.base_row_laws.specs.Rows.{columns}
use Rattle.base_value.specs.declared.value.Value.{Value}
use Rattle.base_value.specs.declared.value.Value.TheVariants.{Null, Number}
use Rattle.expr_scalar.specs.declared.expr.Expr.TheVariants as e
use Rattle.expr_scalar.specs.Meaning.{value}
use Rattle.expr_scalar.proofs.Opened.{value_Column}
use Rattle.plan_algebra.specs.declared.kept_plan.KeptAggregate.{KeptAggregate}
use Rattle.plan_algebra.specs.KeptPlans.{item_of}
use Rattle.store_kept_views.specs.Readings.{argument_columns, key_columns}
use Rattle.store_kept_views.specs.Standing.{arguments_in}

-- the values of an expression that is a column
pub column_values : (place : ℕ) (rows : List (Ranked Value)) → map (λ r. value (e.Column place) r.values) rows ≡ column_at rows place
column_values place [] = refl
column_values place (x ∷ rows) =
    ap (λ v. v ∷ map (λ (r : Ranked Value). value (e.Column place) r.values) rows) (value_Column place x.values)
    ∙ ap (λ vs. slice_index_or x.values place Null ∷ vs) (column_values place rows)

pub nulls : (rows : List (Ranked Value)) → replicate (length rows) Null ≡ map (λ (y : Ranked Value). Null) rows
nulls [] = refl
nulls (x ∷ rows) = ap (λ vs. Null ∷ vs) (nulls rows)

at_map : (f : Ranked Value → Value) (rows : List (Ranked Value)) (i : ℕ) → i < length rows → slice_index_or (map f rows) i Null ≡ f (row_at rows i)
at_map f [] i less = absurd (omega arith)
at_map f (x ∷ rows) zero less = refl
at_map f (x ∷ rows) (suc i) less = at_map f rows i (omega arith)

-- the values at a place
pub key_cells : (places : List ℕ) (rows : List (Ranked Value)) (i : ℕ) → i < length rows → cells (key_columns places rows) i ≡ columns Null places (row_at rows i).values
key_cells [] rows i less = refl
key_cells (c ∷ cs) rows i less =
    ap (λ v. v ∷ cells (key_columns cs rows) i) (at_map (λ r. slice_index_or r.values c Null) rows i less)
    ∙ ap (λ vs. slice_index_or (row_at rows i).values c Null ∷ vs) (key_cells cs rows i less)

pub argument_cells : (ags : List KeptAggregate) (rows : List (Ranked Value)) (i : ℕ) → i < length rows → cells (argument_columns ags rows) i ≡ arguments_in ags (row_at rows i).values
argument_cells [] rows i less = refl
argument_cells (a ∷ ags) rows i less =
    ap (λ v. v ∷ cells (argument_columns ags rows) i) (at_map (λ y. (item_of a).0 y.values) rows i less)
    ∙ ap (λ vs. (item_of a).0 (row_at rows i).values ∷ vs) (argument_cells ags rows i less)

-- a number of a list
pub number_here : (scale : ℕ) (numbers : List ℤ) (i : ℕ) (d : ℤ) → i < length numbers → Number scale (get_or numbers i d) ≡ slice_index_or (map (Number scale) numbers) i Null
number_here scale [] i d less = absurd (omega arith)
number_here scale (n ∷ numbers) zero d less = refl
number_here scale (n ∷ numbers) (suc i) d less = number_here scale numbers i d (omega arith)

-- the columns are as long as the rows
pub keys_long : (places : List ℕ) (rows : List (Ranked Value)) (i : ℕ) → i < length rows → All (λ c. i < length c) (key_columns places rows)
keys_long [] rows i less k d within = absurd (omega arith)
keys_long (c ∷ cs) rows i less zero d within = subst (λ n. i < n) (sym (length-map rows _)) less
keys_long (c ∷ cs) rows i less (suc k) d within = keys_long cs rows i less k d (omega arith)

pub arguments_long : (ags : List KeptAggregate) (rows : List (Ranked Value)) (i : ℕ) → i < length rows → All (λ c. i < length c) (argument_columns ags rows)
arguments_long [] rows i less k d within = absurd (omega arith)
arguments_long (a ∷ ags) rows i less zero d within = subst (λ n. i < n) (sym (length-map rows _)) less
arguments_long (a ∷ ags) rows i less (suc k) d within = arguments_long ags rows i less k d (omega arith)

-- one element more
pub map_more : {X Y : Type 0} (f : X → Y) (xs : List X) (i : ℕ) (d : X) (ys new : List Y) (y : Y) → i < length xs → ys ≡ map f (take i xs) → y ≡ f (get_or xs i d) → new ≡ ys ++ y ∷ []
    → new ≡ map f (take (i + 1) xs)
map_more f xs i d ys new y less old here push =
    push
    ∙ ap (λ l. l ++ y ∷ []) old
    ∙ ap (λ v. map f (take i xs) ++ v ∷ []) here
    ∙ sym (map-append f (take i xs) (get_or xs i d ∷ []))
    ∙ ap (map f) (sym (take_more xs i d less))
