-- Dates moved by months.
use Rattle.std.proofs.Common.{◌≡◌, ℕ, ◌+◌, ◌/◌, ◌%◌, ◌<◌, ◌≤◌, min, le_trans, cond, ◌||◌, ◌==◌, arith, refl, sym, ◌∙◌, ap, Bool, true, false, ◌&&◌, inl, inr, ℤ, pos, negsuc, Ok, Err}
use Rattle.std.specs.Prelude.{nat_le}
use Rattle.std.proofs.lemmas.Int.{ints}
use Rattle.jiff.specs.Words.{is_leap_year}
use Rattle.std.proofs.lemmas.Bool.Decides.{nat_tests}
use Rattle.base_date.specs.Date.{is_day, date_number, is_date}
use Rattle.base_date.specs.Move.{Day, month_days, day_in_month, in_years, months_moved, IsMonthOutside}
use Rattle.base_date.specs.declared.DateFault.TheVariants.{DateRange}

le_true : (m n : ℕ) → m ≤ n → nat_le m n ≡ true
le_true m n h = grind (arith, nat_tests)

day_tests : (year month day last : ℕ) → 1 ≤ year → year ≤ 9999 → 1 ≤ month → month ≤ 12 → 1 ≤ day → day ≤ last
    → (nat_le 1 year && nat_le year 9999 && nat_le 1 month && nat_le month 12 && nat_le 1 day && nat_le day last) ≡ true
day_tests year month day last a b c d e f = rw (le_true _ _ a, le_true _ _ b, le_true _ _ c, le_true _ _ d, le_true _ _ e, le_true _ _ f) refl

pub day_true : (year month day : ℕ) → 1 ≤ year → year ≤ 9999 → 1 ≤ month → month ≤ 12 → 1 ≤ day → day ≤ month_days year month → is_day year month day ≡ true
day_true year month day a b c d e f = day_tests year month day (month_days year month) a b c d e f

-- what the test says
pub record IsDay (year month day : ℕ) : Type 0 where
  pub from : 1 ≤ year
  pub to : year ≤ 9999
  pub month_from : 1 ≤ month
  pub month_to : month ≤ 12
  pub day_from : 1 ≤ day
  pub day_to : day ≤ month_days year month

is_le : (m n : ℕ) → nat_le m n ≡ true → m ≤ n
is_le m n h = grind (arith, nat_tests)

both : (a b : Bool) → (a && b) ≡ true → (a ≡ true) × (b ≡ true)
both true b h = (refl, h)
both false b h = cc

tests_day : (a b c d e f : Bool) → (a && b && c && d && e && f) ≡ true → (a ≡ true) × (b ≡ true) × (c ≡ true) × (d ≡ true) × (e ≡ true) × (f ≡ true)
tests_day true true true true true f h = (refl, refl, refl, refl, refl, h)
tests_day true true true true false f h = cc
tests_day true true true false e f h = cc
tests_day true true false d e f h = cc
tests_day true false c d e f h = cc
tests_day false b c d e f h = cc

pub is_day_says : (year month day : ℕ) → is_day year month day ≡ true → IsDay year month day
is_day_says year month day h =
    let t = tests_day (nat_le 1 year) (nat_le year 9999) (nat_le 1 month) (nat_le month 12) (nat_le 1 day) (nat_le day (month_days year month)) h in
    record {
      from = is_le 1 year t.0;
      to = is_le year 9999 t.1;
      month_from = is_le 1 month t.2;
      month_to = is_le month 12 t.3;
      day_from = is_le 1 day t.4;
      day_to = is_le day (month_days year month) t.5;
    }

pub in_years_day : (d : Day) → is_day d.year d.month d.day ≡ true → in_years d ≡ Ok (date_number d.year d.month d.day)
in_years_day d h = rw h refl

pub not_in_years : (d : Day) → is_day d.year d.month d.day ≡ false → in_years d ≡ Err DateRange
not_in_years d h = rw h refl

long : (t u v : Bool) → (28 ≤ cond t (cond u 29 28) (cond v 30 31)) × (cond t (cond u 29 28) (cond v 30 31) ≤ 31)
long true true v = (omega arith, omega arith)
long true false v = (omega arith, omega arith)
long false u true = (omega arith, omega arith)
long false u false = (omega arith, omega arith)

pub month_days_some : (year month : ℕ) → (28 ≤ month_days year month) × (month_days year month ≤ 31)
month_days_some year month = long (month == 2) (is_leap_year (pos year)) ((month == 4) || (month == 6) || (month == 9) || (month == 11))

day_kept : (n day last : ℕ) → 1 ≤ day → 28 ≤ last → (1 ≤ min day last) × (min day last ≤ last)
day_kept n day last h k = (omega arith, omega arith)

day_in_month_day : (n day : ℕ) → 12 ≤ n → n < 120000 → 1 ≤ day → is_day (day_in_month n day).year (day_in_month n day).month (day_in_month n day).day ≡ true
day_in_month_day n day low high h =
    let kept = day_kept n day (month_days (n / 12) (n % 12 + 1)) h (month_days_some (n / 12) (n % 12 + 1)).0 in
    let year_low : 1 ≤ n / 12 = omega arith in
    let year_high : n / 12 ≤ 9999 = omega arith in
    let month_low : 1 ≤ n % 12 + 1 = omega arith in
    let month_high : n % 12 + 1 ≤ 12 = omega arith in
    day_true (n / 12) (n % 12 + 1) (min day (month_days (n / 12) (n % 12 + 1))) year_low year_high month_low month_high kept.0 kept.1

pub day_in_month_is : (n day : ℕ) → 12 ≤ n → n < 120000 → 1 ≤ day → Ok (date_number (n / 12) (n % 12 + 1) (min day (month_days (n / 12) (n % 12 + 1)))) ≡ in_years (day_in_month n day)
day_in_month_is n day low high h = sym (in_years_day (day_in_month n day) (day_in_month_day n day low high h))

gt_false : (m n : ℕ) → n < m → nat_le m n ≡ false
gt_false m n h = grind (arith, nat_tests)

pub year_0 : (d : Day) → d.year ≡ 0 → is_day d.year d.month d.day ≡ false
year_0 d e = rw e refl

pub year_late : (d : Day) → 9999 < d.year → is_day d.year d.month d.day ≡ false
year_late d h = let early : 1 ≤ d.year = omega arith in rw (le_true 1 d.year early, gt_false d.year 9999 h) refl

pub months_outside : (d : Day) (z : ℤ) → IsMonthOutside z → Err DateRange ≡ months_moved d z
months_outside d (pos n) (inl h) = sym (not_in_years (day_in_month n d.day) (year_0 (day_in_month n d.day) (omega (arith, ints))))
months_outside d (pos n) (inr h) = sym (not_in_years (day_in_month n d.day) (year_late (day_in_month n d.day) (omega (arith, ints))))
months_outside d (negsuc n) h = refl

pub months_inside : (d : Day) (z : ℤ) (n x : ℕ) → pos n ≡ z → Ok x ≡ in_years (day_in_month n d.day) → Ok x ≡ months_moved d z
months_inside d z n x e h = h ∙ ap (months_moved d) e

pub number_parts : (y m d : ℕ) → m ≤ 12 → d ≤ 31 → (date_number y m d / 10000 ≡ y) × (date_number y m d / 100 % 100 ≡ m) × (date_number y m d % 100 ≡ d)
number_parts y m d h k = (omega arith, omega arith, omega arith)

pub is_date_number : (y m d : ℕ) → is_day y m d ≡ true → is_date (date_number y m d) ≡ true
is_date_number y m d h =
    let day = is_day_says y m d h in
    let last : month_days y m ≤ 31 = (month_days_some y m).1 in
    let short : d ≤ 31 = le_trans day.day_to last in
    let parts = number_parts y m d day.month_to short in
    rw (parts.0, parts.1, parts.2) h
