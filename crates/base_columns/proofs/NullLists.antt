-- Lemmas on nulls among the values of a form.
use Rattle.std.proofs.Common.{◌≡◌, ◌<◌, ℕ, Bool, true, false, List, [], ap, arith, length, map, get_or, ℤ, pos}
use Rattle.std.proofs.lemmas.List.{get_or-map, length-map}
use Rattle.base_null_marks.specs.Marks.{marked, has}
use Rattle.base_value.specs.declared.value.Value.{Value}
use Rattle.base_value.specs.declared.value.Value.TheVariants.{Null, Number, Date, Text}
use Rattle.base_columns.specs.Forms.{is_null}
use Rattle.base_columns.proofs.MarkedColumns.{null_there}

pub null_seen : (ms : List Bool) (xs : List Value) (i : ℕ) → has ms i ≡ true → is_null (get_or (marked Null ms xs) i Null) ≡ true
null_seen ms xs i h = ap is_null (null_there ms xs i h)

-- no null among numbers, dates and texts
pub no_null_of_numbers : (s : ℕ) (numbers : List ℤ) (i : ℕ) → i < length (map (Number s) numbers) → is_null (get_or (map (Number s) numbers) i Null) ≡ false
no_null_of_numbers s numbers i h =
    ap is_null (get_or-map (Number s) numbers i (pos 0) Null (omega (arith, h, length-map numbers (Number s))))

pub no_null_of_dates : (dates : List ℕ) (i : ℕ) → i < length (map Date dates) → is_null (get_or (map Date dates) i Null) ≡ false
no_null_of_dates dates i h = ap is_null (get_or-map Date dates i 0 Null (omega (arith, h, length-map dates Date)))

pub no_null_of_texts : (texts : List (List ℕ)) (i : ℕ) → i < length (map Text texts) → is_null (get_or (map Text texts) i Null) ≡ false
no_null_of_texts texts i h = ap is_null (get_or-map Text texts i [] Null (omega (arith, h, length-map texts Text)))

pub ruleset marks = (null_seen)

pub ruleset forms = (no_null_of_numbers, no_null_of_dates, no_null_of_texts)
