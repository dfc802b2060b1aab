-- The dates of the made data are read again.
use Rattle.std.proofs.Common.{◌≡◌, ℕ, zero, suc, ◌+◌, ◌/◌, ◌%◌, ◌^◌, ◌<◌, ◌≤◌, Bool, true, false, cond, List, ◌∷◌, ◌++◌, refl, ap, ◌∙◌, arith, pos, Option, Some, Ok, Err, Result}
use Rattle.std.specs.Char.{is_ascii_digit}
use Rattle.std.specs.List.{list_all}
use Rattle.std.proofs.Math.Nat.{mod-lt}
use Rattle.std.proofs.lemmas.Bool.{and_from}
use Rattle.std.proofs.lemmas.Bool.Decides.{nat_tests}
use Rattle.base_decimal.specs.Written.{last_digits}
use Rattle.base_date.specs.Date.{is_day, date_number, spelled_number, number_of, day_of, date_of}
use Rattle.base_date.specs.Move.{Day, day_at, days_moved}
use Rattle.base_date.specs.declared.DateFault.{DateFault}
use Rattle.base_date.specs.declared.DateFault.TheVariants.{DateRange}
use Rattle.base_date.proofs.Months.{is_day_says, month_days_some}
use Rattle.app_sample_data.specs.Fields.{day_text, date_text}
use Rattle.app_sample_data.proofs.CalendarDays.{reached}
use Rattle.law_made_tables.proofs.Texts.{IsText, text_append, last_digits_text}

digit_test : (n : ℕ) → is_ascii_digit (48 + n % 10) ≡ true
digit_test n = let low : n % 10 < 10 = mod-lt n (omega arith) in grind (arith, nat_tests)

digits_test : (places n : ℕ) → list_all is_ascii_digit (last_digits places n) ≡ true
digits_test zero n = refl
digits_test (suc places) n = and_from _ _ (digit_test (n / 10 ^ places)) (digits_test places n)

four_spelled : (n : ℕ) → n ≤ 9999 → spelled_number (last_digits 4 n) ≡ n
four_spelled n h = omega arith

two_spelled : (n : ℕ) → n ≤ 99 → spelled_number (last_digits 2 n) ≡ n
two_spelled n h = omega arith

read_digits : (digits : List ℕ) (n : ℕ) → list_all is_ascii_digit digits ≡ true → spelled_number digits ≡ n → number_of digits ≡ Some n
read_digits digits n e f = rw e (ap Some f)

four : (n : ℕ) → n ≤ 9999 → number_of (last_digits 4 n) ≡ Some n
four n h = read_digits (last_digits 4 n) n (digits_test 4 n) (four_spelled n h)

two : (n : ℕ) → n ≤ 99 → number_of (last_digits 2 n) ≡ Some n
two n h = read_digits (last_digits 2 n) n (digits_test 2 n) (two_spelled n h)

parts_read : (y m d : ℕ) (year month day : Option ℕ) → year ≡ Some y → month ≡ Some m → day ≡ Some d → is_day y m d ≡ true → day_of year month day ≡ Some (date_number y m d)
parts_read y m d year month day e f g is = (λ i. day_of (e i) (f i) (g i)) ∙ rw is refl

day_read : (d : Day) → is_day d.year d.month d.day ≡ true → date_of (day_text d) ≡ Some (date_number d.year d.month d.day)
unfolding day_text
day_read d is =
    let day = is_day_says d.year d.month d.day is in
    let most = month_days_some d.year d.month in
    parts_read d.year d.month d.day (number_of (last_digits 4 d.year)) (number_of (last_digits 2 d.month)) (number_of (last_digits 2 d.day))
    (four d.year day.to) (two d.month (omega (arith, day.month_to))) (two d.day (omega (arith, day.day_to, most.1))) is

in_years_is : (b : Bool) (n : ℕ) → ◌≡◌ {A = Result ℕ DateFault} (cond b (Ok n) (Err DateRange)) (Ok n) → b ≡ true
in_years_is true n e = refl
in_years_is false n e = cc

-- the day n days after the first
abbrev pub made_day : ℕ → Day
made_day days = days_moved (day_at 1992 1 1) (pos days)

-- its number
abbrev pub made_date : ℕ → ℕ
made_date days = date_number (made_day days).year (made_day days).month (made_day days).day

pub date_read : (days : ℕ) → days ≤ 4000 → date_of (date_text days) ≡ Some (made_date days)
unfolding date_text
date_read days h =
    day_read (made_day days) (in_years_is (is_day (made_day days).year (made_day days).month (made_day days).day) (made_date days) (reached days h))

dash_text : (b : ℕ) (xs : List ℕ) → IsText b xs → IsText (1 + b) (45 ∷ xs)
dash_text b xs f = record { plain = f.plain; short = omega (arith, f.short) }

pub day_is_text : (days : ℕ) → IsText 10 (date_text days)
unfolding date_text day_text
day_is_text days =
    let d = made_day days in
    text_append 4 6 (last_digits 4 d.year) (45 ∷ last_digits 2 d.month ++ 45 ∷ last_digits 2 d.day) (last_digits_text 4 d.year)
    (dash_text 5 _ (text_append 2 3 (last_digits 2 d.month) (45 ∷ last_digits 2 d.day) (last_digits_text 2 d.month) (dash_text 2 _ (last_digits_text 2 d.day))))
