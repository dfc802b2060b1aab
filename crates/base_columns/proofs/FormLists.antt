-- Lemmas on the values of typed columns.
use Rattle.std.proofs.Common.{◌≡◌, ℕ, suc, zero, List, [], ◌∷◌, refl, arith, map, eq-eqb, true, ℤ}
use Rattle.std.specs.List.{All}
use Rattle.base_value.specs.declared.value.Value.{Value}
use Rattle.base_value.specs.declared.value.Value.TheVariants.{Number, Date, Text}
use Rattle.base_columns.specs.declared.column_builder.ColumnForm.TheVariants.{Numbers, Dates, Texts, Values}
use Rattle.base_columns.specs.Forms.{is_of_form, AreOfForm}

of_each : {X : Type 0} (P : Value → Type 0) (f : X → Value) (xs : List X) → ((x : X) → P (f x)) → All P (map f xs)
of_each P f [] h k d l = absurd (omega (arith, l))
of_each P f (x ∷ xs) h zero d l = h x
of_each P f (x ∷ xs) h (suc k) d l = of_each P f xs h k d (omega (arith, l))

pub numbers_of_form : (s : ℕ) (cs : List ℤ) → AreOfForm (Numbers s) (map (Number s) cs)
numbers_of_form s cs = of_each (λ v. is_of_form (Numbers s) v ≡ true) (Number s) cs (λ c. eq-eqb s s refl)

pub dates_of_form : (ds : List ℕ) → AreOfForm Dates (map Date ds)
dates_of_form ds = of_each (λ v. is_of_form Dates v ≡ true) Date ds (λ d. refl)

pub texts_of_form : (ts : List (List ℕ)) → AreOfForm Texts (map Text ts)
texts_of_form ts = of_each (λ v. is_of_form Texts v ≡ true) Text ts (λ t. refl)

pub values_of_form : (vs : List Value) → AreOfForm Values vs
values_of_form vs k d l = refl

pub ruleset forms = (numbers_of_form, dates_of_form, texts_of_form, values_of_form)
