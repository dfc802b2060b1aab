-- The tests of identity decide whether two values or rows are the same.
use Rattle.std.proofs.Common.{◌≡◌, ℕ, List, Bool, true, refl, ap, Decides, ◌==◌, ◌&&◌, ℤ}
use Rattle.std.specs.Ordering.{int_eq}
use Rattle.std.specs.Cmp.Lexicographic.{pointwise, pointwise_decides, bytes_decides}
use Rattle.std.specs.Cmp.{signed_Decides, first_so, second_so}
use Rattle.std.proofs.lemmas.Bool.Decides.{Decides-eqb, same_from_decides}
use Rattle.base_row_laws.specs.Bags.{IsIdentity}
use Rattle.base_value.specs.declared.truth.Fault.{Fault as Failure}
use Rattle.base_value.specs.declared.truth.Fault.TheVariants.{TooManyRows, DivideByZero, NumberRange}
use Rattle.base_value.specs.declared.value.Value.{Value}
use Rattle.base_value.specs.declared.value.Value.TheVariants.{Null, Fault, Number, Text, Date}
use Rattle.base_value.specs.Truth.{fault_rank}
use Rattle.base_value.specs.Value.{same_value, same_row}
use Rattle.base_value.specs.contracts.value.ValuePartialEq.TheImpl.{eq-value}

-- two of one kind are told apart by what they hold
within : {A : Type 0} (f : A → Value) (x y : A) (r : Bool) → (f x ≡ f y → x ≡ y) → Decides r (x ≡ y) → Decides r (f x ≡ f y)
within f x y r inj d = (λ e. ap f (d.0 e), λ e. d.1 (inj e))

fault_decides : (f g : Failure) → Decides (fault_rank f == fault_rank g) (f ≡ g)
fault_decides TooManyRows TooManyRows = (λ _. refl, λ _. refl)
fault_decides TooManyRows DivideByZero = (λ e. cc, λ e. cc)
fault_decides TooManyRows NumberRange = (λ e. cc, λ e. cc)
fault_decides DivideByZero TooManyRows = (λ e. cc, λ e. cc)
fault_decides DivideByZero DivideByZero = (λ _. refl, λ _. refl)
fault_decides DivideByZero NumberRange = (λ e. cc, λ e. cc)
fault_decides NumberRange TooManyRows = (λ e. cc, λ e. cc)
fault_decides NumberRange DivideByZero = (λ e. cc, λ e. cc)
fault_decides NumberRange NumberRange = (λ _. refl, λ _. refl)

number_decides : (s t : ℕ) (a b : ℤ) → Decides ((s == t) && int_eq a b) (Number s a ≡ Number t b)
number_decides s t a b = (
  λ e. λ i. Number ((Decides-eqb s t).0 (first_so (s == t) (int_eq a b) e) i) ((signed_Decides a b).0 (second_so (s == t) (int_eq a b) e) i),
  λ e.
      let p : (s == t) ≡ true = (Decides-eqb s t).1 cc in
      let q : int_eq a b ≡ true = (signed_Decides a b).1 cc in
      rw (p, q) refl,
)

pub same_value_decides : (x y : Value) → Decides (same_value x y) (x ≡ y)
same_value_decides Null Null = (λ _. refl, λ _. refl)
same_value_decides (Fault f) (Fault g) = within Fault f g _ (λ e. cc) (fault_decides f g)
same_value_decides (Number s a) (Number t b) = number_decides s t a b
same_value_decides (Text a) (Text b) = within Text a b _ (λ e. cc) (bytes_decides a b)
same_value_decides (Date a) (Date b) = within Date a b _ (λ e. cc) (Decides-eqb a b)
same_value_decides x y = (λ e. cc, λ e. cc)

pub same_row_decides : (x y : List Value) → Decides (same_row x y) (x ≡ y)
same_row_decides = pointwise_decides same_value_decides

-- the derived test is that of the definition
pub value_eq_decides : (x y : Value) → Decides (eq-value.it x y) (x ≡ y)
value_eq_decides Null Null = (λ _. refl, λ _. refl)
value_eq_decides (Fault TooManyRows) (Fault TooManyRows) = (λ _. refl, λ _. refl)
value_eq_decides (Fault DivideByZero) (Fault DivideByZero) = (λ _. refl, λ _. refl)
value_eq_decides (Fault NumberRange) (Fault NumberRange) = (λ _. refl, λ _. refl)
value_eq_decides (Number s a) (Number t b) = number_decides s t a b
value_eq_decides (Text a) (Text b) = within Text a b _ (λ e. cc) (bytes_decides a b)
value_eq_decides (Date a) (Date b) = within Date a b _ (λ e. cc) (Decides-eqb a b)
value_eq_decides x y = (λ e. cc, λ e. cc)

pub same_value_is : (x y : Value) → eq-value.it x y ≡ same_value x y
same_value_is x y = same_from_decides _ _ (value_eq_decides x y) (same_value_decides x y)

pub same_row_is : (x y : List Value) → pointwise eq-value.it x y ≡ same_row x y
same_row_is x y = same_from_decides _ _ (pointwise_decides value_eq_decides x y) (same_row_decides x y)

pub value_identity : IsIdentity same_value
value_identity = record {
  meets = λ x. (same_value_decides x x).1 refl;
  tells = λ x y. (same_value_decides x y).0;
}

pub row_identity : IsIdentity same_row
row_identity = record {
  meets = λ x. (same_row_decides x x).1 refl;
  tells = λ x y. (same_row_decides x y).0;
}
