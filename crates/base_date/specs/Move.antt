-- Dates moved by intervals.
use Rattle.std.specs.Prelude.{ℕ, zero, suc, ◌+◌, ◌-◌, ◌*◌, ◌/◌, ◌%◌, min, nat_lt, if◌then◌else◌, ℤ}
use Rattle.std.specs.Prelude.{pos, negsuc, ◌+ℤ◌, ◌*ℤ◌, ◌<ℤ◌, ◌≤ℤ◌, ◌⊎◌, Result, Ok, Err}
use Rattle.jiff.specs.Words.{days_in_month}
use Rattle.base_date.specs.Date.{is_day, date_number}
use Rattle.base_date.specs.declared.DateFault.{DateFault}
use Rattle.base_date.specs.declared.DateFault.TheVariants.{DateRange}
use Rattle.base_date.specs.declared.moved.IntervalUnit.{IntervalUnit}
use Rattle.base_date.specs.declared.moved.IntervalUnit.TheVariants as unit

-- a day by its year, its month from 1 and its day of the month from 1
pub record Day : Type 0 where
  pub year : ℕ
  pub month : ℕ
  pub day : ℕ

-- the day of this year, month and day of the month
abbrev pub day_at : ℕ → ℕ → ℕ → Day
day_at year month day = record { year = year; month = month; day = day }

-- the day with the number 10000 * year + 100 * month + day
abbrev pub day_of_date : ℕ → Day
day_of_date n = day_at (n / 10000) (n / 100 % 100) (n % 100)

-- how many days a month has
abbrev pub month_days : ℕ → ℕ → ℕ
month_days year month = days_in_month (pos year) month

-- tomorrow
abbrev pub day_after : Day → Day
day_after d =
    if nat_lt d.day (month_days d.year d.month) then day_at d.year d.month (d.day + 1)
    else if nat_lt d.month 12 then day_at d.year (d.month + 1) 1 else day_at (d.year + 1) 1 1

-- yesterday; before the first day of year 1 there are only days of year 0
abbrev pub day_before : Day → Day
day_before d =
    if nat_lt 1 d.day then day_at d.year d.month (d.day - 1)
    else if nat_lt 1 d.month then day_at d.year (d.month - 1) (month_days d.year (d.month - 1)) else
    day_at (d.year - 1) 12 31

-- a step taken n times
unfoldable pub times : ℕ → (Day → Day) → Day → Day
times zero step d = d
times (suc n) step d = times n step (step d)

-- n days later, or earlier
abbrev pub days_moved : Day → ℤ → Day
days_moved d (pos n) = times n day_after d
days_moved d (negsuc n) = times (suc n) day_before d

-- the day in the month of that number, counted from the year 0 on, or that month's last day where
-- it has fewer
abbrev pub day_in_month : ℕ → ℕ → Day
day_in_month n day = day_at (n / 12) (n % 12 + 1) (min day (month_days (n / 12) (n % 12 + 1)))

-- the number of the day's month
abbrev pub month_number : Day → ℕ
month_number d = 12 * d.year + (d.month - 1)

-- a month's number is not of the years 1 to 9999
abbrev pub IsMonthOutside : ℤ → Type 0
IsMonthOutside n = (n <ℤ pos 12) ⊎ (pos 120000 ≤ℤ n)

-- the day's number, where it lies in the years 1 to 9999
abbrev pub in_years : Day → Result ℕ DateFault
in_years d = if is_day d.year d.month d.day then Ok (date_number d.year d.month d.day) else Err
    DateRange

-- n months later, or earlier
abbrev pub months_moved : Day → ℤ → Result ℕ DateFault
months_moved d (pos n) = in_years (day_in_month n d.day)
months_moved d (negsuc n) = Err DateRange

-- a date moved by n of a unit; a month or year later is the same day of the month, or the
-- month's last
abbrev pub moved : ℕ → ℤ → IntervalUnit → Result ℕ DateFault
moved n count unit.Day = in_years (days_moved (day_of_date n) count)
moved n count unit.Month =
    months_moved (day_of_date n) (pos (month_number (day_of_date n)) +ℤ count)
moved n count unit.Year =
    months_moved (day_of_date n) (pos (month_number (day_of_date n)) +ℤ count *ℤ pos 12)
