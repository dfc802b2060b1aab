-- Cells of batches as the values of an answer's rows.
use Rattle.std.proofs.Common.{◌≡◌, ℕ, ◌+◌, ◌/◌, ◌%◌, ◌<◌, Bool, false, List, [], ◌∷◌, ◌++◌, ℤ, pos, map, refl, ap, ◌∙◌, arith, length, get_or}
use Rattle.std.proofs.Math.Nat.{div-one}
use Rattle.std.proofs.lemmas.List.{get_or-map, length-map}
use Rattle.base_value.specs.declared.value.Value.{Value}
use Rattle.base_value.specs.declared.value.Value.TheVariants.{Null, Number, Date}
use Rattle.base_null_marks.specs.Marks.{marked, has}
use Rattle.base_columns.proofs.MarkedColumns.{long-marked, null_there, value_there}
use Rattle.app_result_text.specs.Answer.{date_written}

-- the number or date at a place that isn't marked
pub number_there : (ms : List Bool) (scale : ℕ) (numbers : List ℤ) (i : ℕ) → has ms i ≡ false → i < length numbers
    → get_or (marked Null ms (map (Number scale) numbers)) i Null ≡ Number scale (get_or numbers i (pos 0))
number_there ms scale numbers i m h =
    value_there ms (map (Number scale) numbers) i m ∙ get_or-map (Number scale) numbers i (pos 0) Null h

pub date_there : (ms : List Bool) (dates : List ℕ) (i : ℕ) → has ms i ≡ false → i < length dates
    → get_or (marked Null ms (map Date dates)) i Null ≡ Date (get_or dates i 0)
date_there ms dates i m h = value_there ms (map Date dates) i m ∙ get_or-map Date dates i 0 Null h

pub ruleset places = (null_there, number_there, date_there)

-- a place of a column is one of its numbers or dates
pub is_inside : {A : Type 0} (column : List Value) (ms : List Bool) (f : A → Value) (xs : List A) (i : ℕ)
    → column ≡ marked Null ms (map f xs) → i < length column → i < length xs
is_inside column ms f xs i e h = omega (arith, h, ap length e, long-marked ms (map f xs), length-map xs f)

-- a date's digits
pub date_digits : (text : List ℕ) (date : ℕ)
    → text ++ (48 + date / 10000 / 1000 % 10) ∷ (48 + date / 10000 / 100 % 10) ∷ (48 + date / 10000 / 10 % 10) ∷ (48 + date / 10000 % 10) ∷ 45
    ∷ (48 + date / 100 % 100 / 10 % 10) ∷ (48 + date / 100 % 100 % 10) ∷ 45 ∷ (48 + date % 100 / 10 % 10) ∷ (48 + date % 100 % 10) ∷ []
    ≡ text ++ date_written date
date_digits text date = rw (div-one (date / 10000), div-one (date / 100 % 100), div-one (date % 100)) refl

pub ruleset dates = (date_digits)
