-- Lemmas on lists taken by place.
use Rattle.std.proofs.Common.{◌≡◌, ◌<◌, ℕ, suc, zero, List, [], ◌∷◌, refl, ap, arith, length, map, get_or, None, replicate, ℤ, pos, false}
use Rattle.std.proofs.lemmas.List.{get_or-map, take-map, length-map, replicate_more}
use Rattle.base_value.specs.declared.value.Value.TheVariants.{Null, Number, Date, Text}
use Rattle.base_columns.specs.Lists.{gathered, AreBelow}
use Rattle.base_columns.specs.Numbers.{small_number}
use Rattle.base_columns.specs.Forms.{is_text}

pub map-replicate : {A B : Type 0} (f : A → B) (n : ℕ) (x : A) → map f (replicate n x) ≡ replicate n (f x)
map-replicate f zero x = refl
map-replicate f (suc n) x = ap (λ ys. f x ∷ ys) (map-replicate f n x)

-- what f makes of the elements at these places
pub map-gathered : {A B : Type 0} (f : A → B) (d : A) (e : B) (xs : List A) (places : List ℕ) → AreBelow (length xs) places
    → map f (gathered d xs places) ≡ gathered e (map f xs) places
map-gathered f d e xs [] h = refl
map-gathered f d e xs (i ∷ places) h =
    rw (map-gathered f d e xs places (λ k c l. h (suc k) c (omega (arith, l))), get_or-map f xs i d e (h 0 0 (omega arith))) refl

-- no number among dates and texts
pub no_number_of_dates : (dates : List ℕ) (i : ℕ) → i < length (map Date dates) → small_number (get_or (map Date dates) i Null) ≡ None
no_number_of_dates dates i h = ap small_number (get_or-map Date dates i 0 Null (omega (arith, h, length-map dates Date)))

pub no_number_of_texts : (texts : List (List ℕ)) (i : ℕ) → i < length (map Text texts) → small_number (get_or (map Text texts) i Null) ≡ None
no_number_of_texts texts i h = ap small_number (get_or-map Text texts i [] Null (omega (arith, h, length-map texts Text)))

-- no text among numbers and dates
pub no_text_of_numbers : (s : ℕ) (numbers : List ℤ) (i : ℕ) → i < length (map (Number s) numbers) → is_text (get_or (map (Number s) numbers) i Null) ≡ false
no_text_of_numbers s numbers i h =
    ap is_text (get_or-map (Number s) numbers i (pos 0) Null (omega (arith, h, length-map numbers (Number s))))

pub no_text_of_dates : (dates : List ℕ) (i : ℕ) → i < length (map Date dates) → is_text (get_or (map Date dates) i Null) ≡ false
no_text_of_dates dates i h = ap is_text (get_or-map Date dates i 0 Null (omega (arith, h, length-map dates Date)))

pub ruleset texts = (no_text_of_numbers, no_text_of_dates)

pub ruleset numbers = (no_number_of_dates, no_number_of_texts)

pub ruleset lists = (map-gathered)

pub ruleset cuts = (take-map)

pub ruleset repeats = (map-replicate, replicate_more)
