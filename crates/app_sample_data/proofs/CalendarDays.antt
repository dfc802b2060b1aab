-- The days of the data are days of the calendar.
use Rattle.std.proofs.Common.{◌≡◌, ℕ, zero, suc, ◌+◌, ◌/◌, ◌%◌, ◌≤◌, Bool, true, false, cond, arith, refl, sym, lit≤, pos, Ok}
use Rattle.std.specs.Prelude.{nat_lt}
use Rattle.base_date.specs.Date.{date_number}
use Rattle.base_date.specs.Move.{Day, day_after, day_at, day_of_date, days_moved, in_years, month_days, times}
use Rattle.base_date.proofs.Days.{IsCalendarDay, later, same_day}
use Rattle.base_date.proofs.Months.{day_true, in_years_day, month_days_some}

first_day : IsCalendarDay (day_at 1992 1 1)
first_day = record { year_from = lit≤ tt; month_from = lit≤ tt; month_to = lit≤ tt; day_from = lit≤ tt; day_to = lit≤ tt }

year_case : (d : Day) (t u : Bool) (a b e : ℕ) → (cond t (day_at d.year d.month a) (cond u (day_at d.year b e) (day_at (d.year + 1) 1 1))).year ≤ d.year + 1
year_case d true u a b e = omega arith
year_case d false true a b e = omega arith
year_case d false false a b e = omega arith

year_after : (d : Day) → (day_after d).year ≤ d.year + 1
year_after d = year_case d (nat_lt d.day (month_days d.year d.month)) (nat_lt d.month 12) (d.day + 1) (d.month + 1) 1

-- n days later it is at most n years later
year_later : (n : ℕ) (d : Day) → (times n day_after d).year ≤ d.year + n
unfolding times
year_later zero d = omega arith
year_later (suc n) d = let next = year_after d in let rest = year_later n (day_after d) in omega arith

-- the day n days after 1992-01-01
abbrev reached_day : ℕ → Day
reached_day days = days_moved (day_at 1992 1 1) (pos days)

in_calendar : (days : ℕ) → days ≤ 4000 → IsCalendarDay (reached_day days) × ((reached_day days).year ≤ 9999)
in_calendar days h =
    let there = later days (day_at 1992 1 1) first_day in
    let year = year_later days (day_at 1992 1 1) in
    (there.is_day, omega (arith, year))

pub reached : (days : ℕ) → days ≤ 4000 → in_years (days_moved (day_at 1992 1 1) (pos days)) ≡ Ok (date_number (days_moved (day_at 1992 1 1) (pos days)).year (days_moved (day_at 1992 1 1) (pos days)).month (days_moved (day_at 1992 1 1) (pos days)).day)
reached days h =
    let there = in_calendar days h in
    let day = there.0 in
    in_years_day (reached_day days) (day_true _ _ _ day.year_from there.1 day.month_from day.month_to day.day_from day.day_to)

number_day : (d : Day) (y m n : ℕ) → d.year ≡ y → d.month ≡ m → d.day ≡ n → IsCalendarDay d → day_of_date (date_number y m n) ≡ d
number_day d y m n e f g h =
    let most = month_days_some d.year d.month in
    let day : n ≤ 31 = omega (arith, h.day_to, most) in
    let month : m ≤ 12 = omega (arith, h.month_to) in
    sym (same_day d (date_number y m n / 10000) (date_number y m n / 100 % 100) (date_number y m n % 100) (omega arith) (omega arith) (omega arith))

pub kept : (days : ℕ) → days ≤ 4000 → day_of_date (date_number (days_moved (day_at 1992 1 1) (pos days)).year (days_moved (day_at 1992 1 1) (pos days)).month (days_moved (day_at 1992 1 1) (pos days)).day) ≡ days_moved (day_at 1992 1 1) (pos days)
kept days h = number_day (reached_day days) _ _ _ refl refl refl (in_calendar days h).0
