-- Lemmas that turn an operator at plain values into one at values with marks.
use Rattle.std.proofs.Common.{◌≡◌, ℕ, ◌<◌, List, [], ◌∷◌, Bool, refl, sym, ap, ◌∙◌, arith, length, map, replicate}
use Rattle.std.specs.Prelude.{◌&&◌}
use Rattle.std.proofs.lemmas.Bool.{lt-ltb}
use Rattle.std.proofs.lemmas.List.{length-map}
use Rattle.base_null_marks.specs.Marks.{marked, has, AreEither, AreFirst}
use Rattle.base_null_marks.specs.Zips.{zip_with as zip_marks}
use Rattle.base_null_marks.proofs.MarkLaws.{length-marked, map-marked, marked-either, same-marked, zip-marked}
use Rattle.base_value.specs.declared.truth.Standing.TheVariants.{AtTrue}
use Rattle.base_value.specs.declared.truth.Truth.{Truth}
use Rattle.base_value.specs.declared.truth.Truth.TheVariants.{False, Unknown, Stands}
use Rattle.base_value.specs.declared.value.Value.{Value}
use Rattle.base_value.specs.declared.value.Value.TheVariants.{Null, Fault, Number, Text, Date}
use Rattle.expr_operators.specs.declared.operator.Comparison.{Comparison}
use Rattle.expr_operators.specs.declared.operator.Arithmetic.{Arithmetic}
use Rattle.expr_operators.specs.Operators.{compared, computed, null_test}
use Rattle.exec_column_operators.specs.Zips.{zip_with}

alike : {A B C : Type 0} (f : A → B → C) (xs : List A) (ys : List B) → zip_marks f xs ys ≡ zip_with f xs ys
alike f [] ys = refl
alike f (x ∷ xs) [] = refl
alike f (x ∷ xs) (y ∷ ys) = ap (λ zs. f x y ∷ zs) (alike f xs ys)

-- two lists together, by a function that gives z where either value is null
zip-marks : {A B C : Type 0} (f : A → B → C) (d : A) (e : B) (z : C) (ms ns : List Bool) (xs : List A) (ys : List B)
    → ((y : B) → f d y ≡ z) → ((x : A) → f x e ≡ z) → length xs ≡ length ys
    → zip_with f (marked d ms xs) (marked e ns ys) ≡ marked z ms (marked z ns (zip_with f xs ys))
zip-marks f d e z ms ns xs ys a b l =
    sym (alike f (marked d ms xs) (marked e ns ys)) ∙ zip-marked f d e z ms ns xs ys a b l ∙ ap (λ zs. marked z ms (marked z ns zs)) (alike f xs ys)

compared_null : (c : Comparison) (x : Value) → compared c x Null ≡ Unknown
compared_null c Null = refl
compared_null c (Fault f) = refl
compared_null c (Number s a) = refl
compared_null c (Text t) = refl
compared_null c (Date d) = refl

pub computed_null : (o : Arithmetic) (x : Value) → computed o x Null ≡ Null
computed_null o Null = refl
computed_null o (Fault f) = refl
computed_null o (Number s a) = refl
computed_null o (Text t) = refl
computed_null o (Date d) = refl

-- how long values with marks are
pub marked_long : {A : Type 0} (f : A → Value) (ms : List Bool) (xs : List A) (seen : List Value) → seen ≡ marked Null ms (map f xs) → length xs ≡ length seen
marked_long f ms xs seen e = sym (ap length e ∙ length-marked Null ms (map f xs) ∙ length-map xs f)

pub as_long : {A B : Type 0} (f : A → Value) (g : B → Value) (ms ns : List Bool) (xs : List A) (ys : List B) (us vs : List Value)
    → us ≡ marked Null ms (map f xs) → vs ≡ marked Null ns (map g ys) → length us ≡ length vs → length xs ≡ length ys
as_long f g ms ns xs ys us vs e k l = marked_long f ms xs us e ∙ l ∙ sym (marked_long g ns ys vs k)

plain_long : (ms ns : List Bool) (xs ys us vs : List Value) → us ≡ marked Null ms xs → vs ≡ marked Null ns ys → length us ≡ length vs → length xs ≡ length ys
plain_long ms ns xs ys us vs e k l = sym (ap length e ∙ length-marked Null ms xs) ∙ l ∙ ap length k ∙ length-marked Null ns ys

-- the truths of plain values, Unknown where either is null, are those of the values with marks
pub compared_marks : (c : Comparison) (ms ns : List Bool) (xs ys us vs : List Value) (plain found : List Truth) → us ≡ marked Null ms xs → vs ≡ marked Null ns ys → length us ≡ length vs
    → plain ≡ zip_with (compared c) xs ys → found ≡ marked Unknown ms (marked Unknown ns plain) → found ≡ zip_with (compared c) us vs
compared_marks c ms ns xs ys us vs plain found e k l p f =
    f ∙ ap (λ ts. marked Unknown ms (marked Unknown ns ts)) p
    ∙ sym (zip-marks (compared c) Null Null Unknown ms ns xs ys (λ y. refl) (compared_null c) (plain_long ms ns xs ys us vs e k l))
    ∙ ap (λ ws. zip_with (compared c) ws (marked Null ns ys)) (sym e) ∙ ap (zip_with (compared c) us) (sym k)

-- the same where the right side has no marks
pub compared_marked : (c : Comparison) (ms : List Bool) (xs us vs : List Value) (plain found : List Truth) → us ≡ marked Null ms xs → length us ≡ length vs
    → plain ≡ zip_with (compared c) xs vs → found ≡ marked Unknown ms plain → found ≡ zip_with (compared c) us vs
compared_marked c ms xs us vs plain found e l p f = compared_marks c ms [] xs vs us vs plain found e refl l p f

-- the same of arithmetic
pub computed_marks : (o : Arithmetic) (ms ns os : List Bool) (xs ys us vs plain found : List Value) → us ≡ marked Null ms xs → vs ≡ marked Null ns ys → length us ≡ length vs
    → AreEither ms ns os → plain ≡ zip_with (computed o) xs ys → found ≡ marked Null os plain → found ≡ zip_with (computed o) us vs
computed_marks o ms ns os xs ys us vs plain found e k l h p f =
    f ∙ sym (marked-either Null ms ns os plain h) ∙ ap (λ ts. marked Null ms (marked Null ns ts)) p
    ∙ sym (zip-marks (computed o) Null Null Null ms ns xs ys (λ y. refl) (computed_null o) (plain_long ms ns xs ys us vs e k l))
    ∙ ap (λ ws. zip_with (computed o) ws (marked Null ns ys)) (sym e) ∙ ap (zip_with (computed o) us) (sym k)

-- what a function makes of values with marks
pub mapped_marks : {A : Type 0} (f : Value → A) (z : A) (ms : List Bool) (xs us : List Value) (plain found : List A) → f Null ≡ z → us ≡ marked Null ms xs → plain ≡ map f xs
    → found ≡ marked z ms plain → found ≡ map f us
mapped_marks f z ms xs us plain found n e p o =
    o ∙ ap (marked z ms) p ∙ ap (λ y. marked y ms (map f xs)) (sym n) ∙ sym (map-marked f Null ms xs) ∙ ap (map f) (sym e)

-- two functions that agree on plain values and on null
pub agree_marked : {A : Type 0} (f g : Value → A) (ms : List Bool) (xs us : List Value) → us ≡ marked Null ms xs → f Null ≡ g Null → map f xs ≡ map g xs → map f us ≡ map g us
agree_marked f g ms xs us e n h =
    ap (map f) e ∙ map-marked f Null ms xs ∙ ap (λ ys. marked (f Null) ms ys) h ∙ ap (λ y. marked y ms (map g xs)) n ∙ sym (map-marked g Null ms xs) ∙ ap (map g) (sym e)

all_false : {A : Type 0} (f : A → Value) (xs : List A) → ((x : A) → null_test (f x) ≡ False) → map null_test (map f xs) ≡ replicate (length xs) False
all_false f [] h = refl
all_false f (x ∷ xs) h = ap (λ t. t ∷ map null_test (map f xs)) (h x) ∙ ap (λ ts. False ∷ ts) (all_false f xs h)

-- what is marked is null, and nothing else
pub nulls_marked : {A : Type 0} (f : A → Value) (ms : List Bool) (xs : List A) (us : List Value) (n : ℕ) (found : List Truth) → ((x : A) → null_test (f x) ≡ False)
    → us ≡ marked Null ms (map f xs) → n ≡ length xs → found ≡ marked (Stands AtTrue) ms (replicate n False) → found ≡ map null_test us
nulls_marked f ms xs us n found h e l o =
    mapped_marks null_test (Stands AtTrue) ms (map f xs) us (replicate n False) found refl e (ap (λ k. replicate k False) l ∙ sym (all_false f xs h)) o

-- only the marks of the values' places count
pub first_marked : (n : ℕ) (ms ns : List Bool) (xs : List Value) → AreFirst n ms ns → n ≡ length xs → marked Null ns xs ≡ marked Null ms xs
first_marked n ms ns xs h e =
    same-marked Null ns ms xs (λ i l. let k : i < n = omega (arith, l, e) in h i ∙ ap (λ b. b && has ms i) (lt-ltb i n k))
