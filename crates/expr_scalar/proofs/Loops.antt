-- The loops over conditions, list values and branches.
use Rattle.std.proofs.Common.{◌≡◌, ℕ, ◌+◌, ◌<◌, ◌≤◌, List, [], ◌∷◌, map, fold, drop, length, get_or, refl, ap, sym, ◌∙◌, Option, Some, None, ◌⊎◌, inl, inr}
use Rattle.std.proofs.lemmas.List.{drop_more, drop_all}
use Rattle.base_value.specs.Truth.{lesser, greater}
use Rattle.base_value.specs.declared.truth.Fault.{Fault}
use Rattle.base_value.specs.declared.truth.Fault.TheVariants.{TooManyRows, DivideByZero, NumberRange}
use Rattle.base_value.specs.declared.truth.Standing.TheVariants.{AtFault, AtTrue}
use Rattle.base_value.specs.declared.truth.Truth.{Truth}
use Rattle.base_value.specs.declared.truth.Truth.TheVariants.{False, Unknown, Stands}
use Rattle.base_value.specs.declared.value.Value.{Value}
use Rattle.base_value.specs.declared.value.Value.TheVariants.{Fault as Failed}
use Rattle.expr_scalar.specs.declared.expr.Branch.{Branch}
use Rattle.expr_operators.specs.declared.operator.Comparison.TheVariants.{Equal}
use Rattle.expr_scalar.specs.declared.expr.Expr.{Expr}
use Rattle.expr_scalar.specs.declared.expr.Operation.{Operation}
use Rattle.expr_scalar.specs.Meaning.{value, truth, values, truths, chosen, decided, first_of, operated}
use Rattle.expr_operators.specs.Operators.{computed, compared}
use Rattle.expr_scalar.proofs.Opened.{branch_is, operation_is}

-- the list from a place on
front : {X : Type 0} (xs : List X) (i : ℕ) (x : X) → i < length xs → x ≡ get_or xs i x → drop i xs ≡ x ∷ drop (i + 1) xs
front xs i x lt is = drop_more xs i x lt ∙ ap (λ y. y ∷ drop (i + 1) xs) (sym is)

-- AND

pub least_more : (es : List Expr) (i : ℕ) (row : List Value) (acc acc' total t : Truth) (e : Expr) → i < length es → e ≡ get_or es i e
    → t ≡ truth e row → acc' ≡ lesser acc t → fold lesser acc (truths (drop i es) row) ≡ total → fold lesser acc' (truths (drop (i + 1) es) row) ≡ total
unfolding truths
least_more es i row acc acc' total t e lt is by new inv =
    ap (λ a. fold lesser a (truths (drop (i + 1) es) row)) (new ∙ ap (lesser acc) by) ∙ sym (ap (λ l. fold lesser acc (truths l row)) (front es i e lt is)) ∙ inv

below_all : (t : Truth) → lesser False t ≡ False
below_all False = refl
below_all Unknown = refl
below_all (Stands (AtFault TooManyRows)) = refl
below_all (Stands (AtFault DivideByZero)) = refl
below_all (Stands (AtFault NumberRange)) = refl
below_all (Stands AtTrue) = refl

false_stays : (ts : List Truth) → fold lesser False ts ≡ False
false_stays [] = refl
false_stays (t ∷ ts) = ap (λ a. fold lesser a ts) (below_all t) ∙ false_stays ts

pub least_false : (es : List Expr) (i : ℕ) (row : List Value) (acc acc' total t : Truth) (e : Expr) → i < length es → e ≡ get_or es i e
    → t ≡ truth e row → acc' ≡ lesser acc t → acc' ≡ False → fold lesser acc (truths (drop i es) row) ≡ total → acc' ≡ total
least_false es i row acc acc' total t e lt is by new stop inv =
    stop ∙ sym (false_stays (truths (drop (i + 1) es) row)) ∙ ap (λ a. fold lesser a (truths (drop (i + 1) es) row)) (sym stop)
    ∙ least_more es i row acc acc' total t e lt is by new inv

pub least_end : (es : List Expr) (i : ℕ) (row : List Value) (acc total : Truth) → length es ≤ i → fold lesser acc (truths (drop i es) row) ≡ total → acc ≡ total
unfolding truths
least_end es i row acc total h inv = sym (ap (λ l. fold lesser acc (truths l row)) (drop_all i es h)) ∙ inv

-- OR

pub greatest_more : (es : List Expr) (i : ℕ) (row : List Value) (acc acc' total t : Truth) (e : Expr) → i < length es → e ≡ get_or es i e
    → t ≡ truth e row → acc' ≡ greater acc t → fold greater acc (truths (drop i es) row) ≡ total → fold greater acc' (truths (drop (i + 1) es) row) ≡ total
unfolding truths
greatest_more es i row acc acc' total t e lt is by new inv =
    ap (λ a. fold greater a (truths (drop (i + 1) es) row)) (new ∙ ap (greater acc) by) ∙ sym (ap (λ l. fold greater acc (truths l row)) (front es i e lt is)) ∙ inv

above_all : (t : Truth) → greater (Stands AtTrue) t ≡ Stands AtTrue
above_all False = refl
above_all Unknown = refl
above_all (Stands (AtFault TooManyRows)) = refl
above_all (Stands (AtFault DivideByZero)) = refl
above_all (Stands (AtFault NumberRange)) = refl
above_all (Stands AtTrue) = refl

true_stays : (ts : List Truth) → fold greater (Stands AtTrue) ts ≡ Stands AtTrue
true_stays [] = refl
true_stays (t ∷ ts) = ap (λ a. fold greater a ts) (above_all t) ∙ true_stays ts

pub greatest_true : (es : List Expr) (i : ℕ) (row : List Value) (acc acc' total t : Truth) (e : Expr) → i < length es → e ≡ get_or es i e
    → t ≡ truth e row → acc' ≡ greater acc t → acc' ≡ Stands AtTrue → fold greater acc (truths (drop i es) row) ≡ total → acc' ≡ total
greatest_true es i row acc acc' total t e lt is by new stop inv =
    stop ∙ sym (true_stays (truths (drop (i + 1) es) row)) ∙ ap (λ a. fold greater a (truths (drop (i + 1) es) row)) (sym stop)
    ∙ greatest_more es i row acc acc' total t e lt is by new inv

pub greatest_end : (es : List Expr) (i : ℕ) (row : List Value) (acc total : Truth) → length es ≤ i → fold greater acc (truths (drop i es) row) ≡ total → acc ≡ total
unfolding truths
greatest_end es i row acc total h inv = sym (ap (λ l. fold greater acc (truths l row)) (drop_all i es h)) ∙ inv

-- IN

pub equal_more : (x : Value) (es : List Expr) (i : ℕ) (row : List Value) (acc acc' total t : Truth) (v w : Value) (e : Expr) → i < length es → e ≡ get_or es i e
    → w ≡ value e row → v ≡ w → t ≡ compared Equal x v → acc' ≡ greater acc t → fold greater acc (map (compared Equal x) (values (drop i es) row)) ≡ total
    → fold greater acc' (map (compared Equal x) (values (drop (i + 1) es) row)) ≡ total
unfolding values
equal_more x es i row acc acc' total t v w e lt is there seen by new inv =
    ap (λ a. fold greater a (map (compared Equal x) (values (drop (i + 1) es) row))) (new ∙ ap (greater acc) (by ∙ ap (compared Equal x) (seen ∙ there)))
    ∙ sym (ap (λ l. fold greater acc (map (compared Equal x) (values l row))) (front es i e lt is)) ∙ inv

pub equal_true : (x : Value) (es : List Expr) (i : ℕ) (row : List Value) (acc acc' total t : Truth) (v w : Value) (e : Expr) → i < length es → e ≡ get_or es i e
    → w ≡ value e row → v ≡ w → t ≡ compared Equal x v → acc' ≡ greater acc t → acc' ≡ Stands AtTrue → fold greater acc (map (compared Equal x) (values (drop i es) row)) ≡ total
    → acc' ≡ total
equal_true x es i row acc acc' total t v w e lt is there seen by new stop inv =
    stop ∙ sym (true_stays (map (compared Equal x) (values (drop (i + 1) es) row)))
    ∙ ap (λ a. fold greater a (map (compared Equal x) (values (drop (i + 1) es) row))) (sym stop)
    ∙ equal_more x es i row acc acc' total t v w e lt is there seen by new inv

pub equal_end : (x : Value) (es : List Expr) (i : ℕ) (row : List Value) (acc total : Truth) → length es ≤ i
    → fold greater acc (map (compared Equal x) (values (drop i es) row)) ≡ total → acc ≡ total
unfolding values
equal_end x es i row acc total h inv = sym (ap (λ l. fold greater acc (map (compared Equal x) (values l row))) (drop_all i es h)) ∙ inv

-- CASE

pub chosen_more : (bs : List Branch) (i : ℕ) (row : List Value) (b : Branch) → i < length bs → b ≡ get_or bs i b
    → chosen (drop i bs) row ≡ first_of (decided (truth b.when row) (value b.gives row)) (chosen (drop (i + 1) bs) row)
unfolding chosen
chosen_more bs i row b lt is =
    ap (λ l. chosen l row) (front bs i b lt is) ∙ ap (λ o. first_of o (chosen (drop (i + 1) bs) row)) (branch_is b row)

by_truth : (t u : Truth) (v : Value) (o : Option Value) → t ≡ u → first_of (decided t v) o ≡ first_of (decided u v) o
by_truth t u v o e = ap (λ s. first_of (decided s v) o) e

pub chosen_true : (bs : List Branch) (i : ℕ) (row : List Value) (b : Branch) (t : Truth) (v : Value) (total : Option Value) → i < length bs → b ≡ get_or bs i b
    → t ≡ truth b.when row → t ≡ Stands AtTrue → v ≡ value b.gives row → chosen (drop i bs) row ≡ total → Some v ≡ total
chosen_true bs i row b t v total lt is e f g inv =
    ap Some g ∙ by_truth (Stands AtTrue) (truth b.when row) (value b.gives row) (chosen (drop (i + 1) bs) row) (sym f ∙ e)
    ∙ sym (chosen_more bs i row b lt is) ∙ inv

pub chosen_fault : (bs : List Branch) (i : ℕ) (row : List Value) (b : Branch) (t : Truth) (a : Fault) (total : Option Value) → i < length bs → b ≡ get_or bs i b
    → t ≡ truth b.when row → t ≡ Stands (AtFault a) → chosen (drop i bs) row ≡ total → Some (Failed a) ≡ total
chosen_fault bs i row b t a total lt is e f inv =
    by_truth (Stands (AtFault a)) (truth b.when row) (value b.gives row) (chosen (drop (i + 1) bs) row) (sym f ∙ e)
    ∙ sym (chosen_more bs i row b lt is) ∙ inv

chosen_false : (bs : List Branch) (i : ℕ) (row : List Value) (b : Branch) (u : Truth) (total : Option Value) → i < length bs → b ≡ get_or bs i b
    → u ≡ truth b.when row → first_of (decided u (value b.gives row)) (chosen (drop (i + 1) bs) row) ≡ chosen (drop (i + 1) bs) row
    → chosen (drop i bs) row ≡ total → chosen (drop (i + 1) bs) row ≡ total
chosen_false bs i row b u total lt is e none inv =
    sym none ∙ by_truth u (truth b.when row) (value b.gives row) (chosen (drop (i + 1) bs) row) e
    ∙ sym (chosen_more bs i row b lt is) ∙ inv

pub chosen_on : (bs : List Branch) (i : ℕ) (row : List Value) (b : Branch) (t : Truth) (total : Option Value) → i < length bs → b ≡ get_or bs i b
    → t ≡ truth b.when row → (t ≡ False) ⊎ (t ≡ Unknown) → chosen (drop i bs) row ≡ total → chosen (drop (i + 1) bs) row ≡ total
chosen_on bs i row b t total lt is e h inv =
    elim h [
      | inl f ↦ chosen_false bs i row b False total lt is (sym f ∙ e) refl inv
      | inr f ↦ chosen_false bs i row b Unknown total lt is (sym f ∙ e) refl inv
    ]

pub chosen_end : (bs : List Branch) (i : ℕ) (row : List Value) (total : Option Value) → length bs ≤ i → chosen (drop i bs) row ≡ total → None ≡ total
unfolding chosen
chosen_end bs i row total h inv = sym (ap (λ l. chosen l row) (drop_all i bs h)) ∙ inv

-- a chain of operations

pub operated_more : (os : List Operation) (i : ℕ) (row : List Value) (x y x' total v w : Value) (o : Operation) → i < length os → o ≡ get_or os i o
    → y ≡ value o.operand row → v ≡ x → w ≡ y → x' ≡ computed o.operator v w → operated x (drop i os) row ≡ total → operated x' (drop (i + 1) os) row ≡ total
unfolding operated
operated_more os i row x y x' total v w o lt is by left right new inv =
    ap (λ z. operated z (drop (i + 1) os) row)
    (new ∙ ap (λ z. computed o.operator z w) left ∙ ap (computed o.operator x) (right ∙ by) ∙ sym (operation_is o x row))
    ∙ sym (ap (λ l. operated x l row) (front os i o lt is)) ∙ inv

pub operated_end : (os : List Operation) (i : ℕ) (row : List Value) (x total : Value) → length os ≤ i → operated x (drop i os) row ≡ total → x ≡ total
unfolding operated
operated_end os i row x total h inv = sym (ap (λ l. operated x l row) (drop_all i os h)) ∙ inv
