-- One round of each loop over the parts of a node.
use Rattle.std.proofs.Common.{◌≡◌, ℕ, ◌+◌, ◌-◌, ◌<◌, ◌≤◌, List, [], ◌∷◌, ◌++◌, drop, length, map, take, get_or, refl, ap, sym, ◌∙◌, arith}
use Rattle.std.proofs.lemmas.List.{drop_more, drop_all, map-append, take_more}
use Rattle.base_row_laws.specs.Ranked.{Ranked}
use Rattle.base_value.specs.Truth.{lesser, greater}
use Rattle.base_value.specs.declared.truth.Truth.{Truth}
use Rattle.base_value.specs.declared.value.Value.{Value}
use Rattle.expr_operators.specs.declared.operator.Comparison.TheVariants.{Equal}
use Rattle.expr_operators.specs.Operators.{computed, compared}
use Rattle.expr_scalar.specs.declared.expr.Branch.{Branch}
use Rattle.expr_scalar.specs.declared.expr.Expr.{Expr}
use Rattle.expr_scalar.specs.declared.expr.Operation.{Operation}
use Rattle.expr_scalar.specs.Meaning.{value}
use Rattle.exec_column_operators.specs.Choices.{choice}
use Rattle.exec_column_operators.specs.Zips.{zip_with, zip_three}
use Rattle.exec_column_expr.specs.Rows.{values_over, truths_over, operated_over, least_over, greatest_over, equal_over, chosen_over, columns_over}

abbrev Rows : Type 0
Rows = List (Ranked Value)

-- the list from a place on
front : {X : Type 0} (xs : List X) (i : ℕ) (x : X) → i < length xs → x ≡ get_or xs i x → drop i xs ≡ x ∷ drop (i + 1) xs
front xs i x lt is = drop_more xs i x lt ∙ ap (λ y. y ∷ drop (i + 1) xs) (sym is)

-- operations, from left to right

pub operated_more : (os : List Operation) (i : ℕ) (rows : Rows) (x y new total : List Value) (o : Operation) → i < length os → o ≡ get_or os i o
    → y ≡ values_over o.operand rows → new ≡ zip_with (computed o.operator) x y → operated_over x (drop i os) rows ≡ total → operated_over new (drop (i + 1) os) rows ≡ total
unfolding operated_over
operated_more os i rows x y new total o lt is by made inv =
    ap (λ z. operated_over z (drop (i + 1) os) rows) (made ∙ ap (zip_with (computed o.operator) x) by)
    ∙ sym (ap (λ l. operated_over x l rows) (front os i o lt is)) ∙ inv

pub operated_end : (os : List Operation) (i : ℕ) (rows : Rows) (x total : List Value) → length os ≤ i → operated_over x (drop i os) rows ≡ total → x ≡ total
unfolding operated_over
operated_end os i rows x total h inv = sym (ap (λ l. operated_over x l rows) (drop_all i os h)) ∙ inv

-- branches of a CASE, from the last to the first

pub chosen_more : (bs : List Branch) (k m : ℕ) (rows : Rows) (ts : List Truth) (gives x new rest : List Value) (b : Branch) → k < length bs → m ≡ k + 1 → b ≡ get_or bs k b
    → ts ≡ truths_over b.when rows → gives ≡ values_over b.gives rows → new ≡ zip_three choice ts gives x → x ≡ chosen_over (drop m bs) rest rows → new ≡ chosen_over (drop k bs) rest rows
unfolding chosen_over
chosen_more bs k m rows ts gives x new rest b lt next is t g made inv =
    made ∙ ap (λ z. zip_three choice z gives x) t ∙ ap (λ z. zip_three choice (truths_over b.when rows) z x) g
    ∙ ap (zip_three choice (truths_over b.when rows) (values_over b.gives rows)) (inv ∙ ap (λ j. chosen_over (drop j bs) rest rows) next)
    ∙ sym (ap (λ l. chosen_over l rest rows) (front bs k b lt is))

pub chosen_start : (bs : List Branch) (k : ℕ) (rows : Rows) (x : List Value) → length bs ≤ k → x ≡ chosen_over (drop k bs) x rows
unfolding chosen_over
chosen_start bs k rows x h = sym (ap (λ l. chosen_over l x rows) (drop_all k bs h))

pub chosen_end : (bs : List Branch) (k : ℕ) (rows : Rows) (x rest : List Value) → k ≡ 0 → x ≡ chosen_over (drop k bs) rest rows → x ≡ chosen_over bs rest rows
chosen_end bs k rows x rest z inv = inv ∙ ap (λ j. chosen_over (drop j bs) rest rows) z

-- AND

pub least_more : (es : List Expr) (i : ℕ) (rows : Rows) (ts more new total : List Truth) (e : Expr) → i < length es → e ≡ get_or es i e
    → more ≡ truths_over e rows → new ≡ zip_with lesser ts more → least_over ts (drop i es) rows ≡ total → least_over new (drop (i + 1) es) rows ≡ total
unfolding least_over
least_more es i rows ts more new total e lt is by made inv =
    ap (λ z. least_over z (drop (i + 1) es) rows) (made ∙ ap (zip_with lesser ts) by)
    ∙ sym (ap (λ l. least_over ts l rows) (front es i e lt is)) ∙ inv

pub least_end : (es : List Expr) (i : ℕ) (rows : Rows) (ts total : List Truth) → length es ≤ i → least_over ts (drop i es) rows ≡ total → ts ≡ total
unfolding least_over
least_end es i rows ts total h inv = sym (ap (λ l. least_over ts l rows) (drop_all i es h)) ∙ inv

-- OR

pub greatest_more : (es : List Expr) (i : ℕ) (rows : Rows) (ts more new total : List Truth) (e : Expr) → i < length es → e ≡ get_or es i e
    → more ≡ truths_over e rows → new ≡ zip_with greater ts more → greatest_over ts (drop i es) rows ≡ total → greatest_over new (drop (i + 1) es) rows ≡ total
unfolding greatest_over
greatest_more es i rows ts more new total e lt is by made inv =
    ap (λ z. greatest_over z (drop (i + 1) es) rows) (made ∙ ap (zip_with greater ts) by)
    ∙ sym (ap (λ l. greatest_over ts l rows) (front es i e lt is)) ∙ inv

pub greatest_end : (es : List Expr) (i : ℕ) (rows : Rows) (ts total : List Truth) → length es ≤ i → greatest_over ts (drop i es) rows ≡ total → ts ≡ total
unfolding greatest_over
greatest_end es i rows ts total h inv = sym (ap (λ l. greatest_over ts l rows) (drop_all i es h)) ∙ inv

-- an IN list

pub equal_more : (xs : List Value) (es : List Expr) (i : ℕ) (rows : Rows) (ys : List Value) (ts more new total : List Truth) (e : Expr) → i < length es → e ≡ get_or es i e
    → ys ≡ values_over e rows → more ≡ zip_with (compared Equal) xs ys → new ≡ zip_with greater ts more
    → equal_over xs ts (drop i es) rows ≡ total → equal_over xs new (drop (i + 1) es) rows ≡ total
unfolding equal_over
equal_more xs es i rows ys ts more new total e lt is by found made inv =
    ap (λ z. equal_over xs z (drop (i + 1) es) rows) (made ∙ ap (zip_with greater ts) (found ∙ ap (zip_with (compared Equal) xs) by))
    ∙ sym (ap (λ l. equal_over xs ts l rows) (front es i e lt is)) ∙ inv

pub equal_end : (xs : List Value) (es : List Expr) (i : ℕ) (rows : Rows) (ts total : List Truth) → length es ≤ i → equal_over xs ts (drop i es) rows ≡ total → ts ≡ total
unfolding equal_over
equal_end xs es i rows ts total h inv = sym (ap (λ l. equal_over xs ts l rows) (drop_all i es h)) ∙ inv

-- the columns of a list of expressions
pub columns_more : (es : List Expr) (i : ℕ) (rows : Rows) (e : Expr) (old new : List (List Value)) (column : List Value) → i < length es → e ≡ get_or es i e
    → old ≡ columns_over (take i es) rows → column ≡ map (λ r. value e r.values) rows → new ≡ old ++ column ∷ [] → new ≡ columns_over (take (i + 1) es) rows
unfolding values_over
columns_more es i rows e old new column inside is so_far made pushed =
    let f : Expr → List Value = λ e. map (λ r. value e r.values) rows in
    pushed
    ∙ ap (λ l. l ++ column ∷ []) so_far
    ∙ ap (λ c. map f (take i es) ++ c ∷ []) made
    ∙ sym (map-append f (take i es) (e ∷ []))
    ∙ ap (map f) (ap (λ x. take i es ++ x ∷ []) is ∙ sym (take_more es i e inside))
