-- Dates moved by days, against the day numbers of the calendar.
use Rattle.std.proofs.Common.{◌≡◌, ℕ, zero, suc, ◌+◌, ◌-◌, ◌<◌, ◌≤◌, arith, refl, sym, ◌∙◌, ap, subst, Bool, true, false, inl, inr, ℤ, pos, ◌+ℤ◌, ◌<ℤ◌, ◌≤ℤ◌, le_trans, le_antisymm, le_refl, cond}
use Rattle.std.specs.Prelude.{nat_lt}
use Rattle.std.proofs.lemmas.Bool.{cases_lt}
use Rattle.std.proofs.lemmas.Int.{ints}
use Rattle.std.proofs.lemmas.Bool.Decides.{nat_tests}
use Rattle.jiff.specs.Words.{epoch_day, IsEpochDay}
use Rattle.jiff_core.specs.declared.civil.date.Date.{Date}
use Rattle.jiff_core.specs.Calendar.{days_from_civil}
use Rattle.jiff.proofs.Family.{epoch_day_range, epoch_day_injective, days_from_civil-day, days_from_civil-next_month, days_from_civil-next_year, days_from_civil-max}
use Rattle.base_date.specs.Move.{Day, day_at, month_days, day_after, day_before, times}
use Rattle.base_date.proofs.Months.{month_days_some}

-- a day of the calendar of any year from 1 on
pub record IsCalendarDay (d : Day) : Type 0 where
  pub year_from : 1 ≤ d.year
  pub month_from : 1 ≤ d.month
  pub month_to : d.month ≤ 12
  pub day_from : 1 ≤ d.day
  pub day_to : d.day ≤ month_days d.year d.month

-- the day's number on the calendar
abbrev pub day_number : Day → ℤ
day_number d = days_from_civil (pos d.year) d.month d.day

lt_false : (m n : ℕ) → nat_lt m n ≡ false → n ≤ m
lt_false m n h = grind (arith, nat_tests)

lt_true : (m n : ℕ) → nat_lt m n ≡ true → m < n
lt_true m n h = grind (arith, nat_tests)

some_days : (y m : ℕ) → 1 ≤ month_days y m
some_days y m = let long = (month_days_some y m).0 in le_trans (omega arith) long

pub same_day : (d : Day) (y m n : ℕ) → d.year ≡ y → d.month ≡ m → d.day ≡ n → d ≡ day_at y m n
same_day d y m n e f g = ap (λ a. day_at a d.month d.day) e ∙ ap (λ b. day_at y b d.day) f ∙ ap (day_at y m) g

-- a day's number goes up by one
pub record IsNext (d z : Day) : Type 0 where
  pub is_day : IsCalendarDay z
  pub number : day_number z ≡ day_number d +ℤ pos 1
  pub year : d.year ≤ 9999 → day_number d <ℤ pos 2932896 → z.year ≤ 9999

in_month : (d : Day) (last : ℕ) → IsCalendarDay d → last ≡ month_days d.year d.month → d.day < last → IsNext d (day_at d.year d.month (d.day + 1))
in_month d last h e lt =
    let to : d.day + 1 ≤ month_days d.year d.month = subst (λ (n : ℕ). d.day + 1 ≤ n) e (omega arith) in
    let day : IsCalendarDay (day_at d.year d.month (d.day + 1)) = record { year_from = h.year_from; month_from = h.month_from; month_to = h.month_to; day_from = omega arith; day_to = to } in
    let by_day = days_from_civil-day (pos d.year) d.month d.day (d.day + 1) h.day_from (omega arith) in
    record { is_day = day; number = omega (arith, ints); year = λ a b. a }

next_month : (d : Day) → IsCalendarDay d → d.day ≡ month_days d.year d.month → d.month < 12 → IsNext d (day_at d.year (d.month + 1) 1)
next_month d h e lt =
    let day : IsCalendarDay (day_at d.year (d.month + 1) 1) = record { year_from = h.year_from; month_from = omega arith; month_to = omega arith; day_from = omega arith; day_to = some_days d.year (d.month + 1) } in
    record { is_day = day; number = days_from_civil-next_month (pos d.year) d.month d.day h.month_from e; year = λ a b. a }

last_year : (y : ℕ) → day_number (day_at y 12 31) <ℤ pos 2932896 → y ≤ 9999 → y + 1 ≤ 9999
last_year y h le = elim (cases_lt y 9999) [
  | inl lt ↦ omega arith
  | inr ge ↦
      let last : y ≡ 9999 = omega arith in
      let number : day_number (day_at 9999 12 31) <ℤ pos 2932896 = subst (λ (n : ℕ). day_number (day_at n 12 31) <ℤ pos 2932896) last h in
      let most = days_from_civil-max in
      absurd (omega (arith, ints))
]

next_year : (d : Day) → IsCalendarDay d → d.day ≡ month_days d.year d.month → d.month ≡ 12 → IsNext d (day_at (d.year + 1) 1 1)
next_year d h e december =
    let last : d.day ≡ 31 = e ∙ ap (month_days d.year) december in
    let is_last : d ≡ day_at d.year 12 31 = same_day d d.year 12 31 refl december last in
    let day : IsCalendarDay (day_at (d.year + 1) 1 1) = record { year_from = omega arith; month_from = omega arith; month_to = omega arith; day_from = omega arith; day_to = some_days (d.year + 1) 1 } in
    record {
      is_day = day;
      number = days_from_civil-next_year (pos d.year) (pos (d.year + 1)) (omega (arith, ints)) (omega (arith, ints)) ∙ ap (λ z. day_number z +ℤ pos 1) (sym is_last);
      year = λ a b. last_year d.year (subst (λ (z : Day). day_number z <ℤ pos 2932896) is_last b) a;
    }

month_end : (d : Day) → IsCalendarDay d → nat_lt d.day (month_days d.year d.month) ≡ false → d.day ≡ month_days d.year d.month
month_end d h e = le_antisymm h.day_to (lt_false d.day (month_days d.year d.month) e)

after_case : (d : Day) (t u : Bool) → IsCalendarDay d → nat_lt d.day (month_days d.year d.month) ≡ t → nat_lt d.month 12 ≡ u
    → IsNext d (cond t (day_at d.year d.month (d.day + 1)) (cond u (day_at d.year (d.month + 1) 1) (day_at (d.year + 1) 1 1)))
after_case d true u h e f = in_month d (month_days d.year d.month) h refl (lt_true d.day (month_days d.year d.month) e)
after_case d false true h e f = next_month d h (month_end d h e) (lt_true d.month 12 f)
after_case d false false h e f = let to = lt_false d.month 12 f in next_year d h (month_end d h e) (omega (arith, h.month_to))

pub after_day : (d : Day) → IsCalendarDay d → IsNext d (day_after d)
after_day d h = after_case d (nat_lt d.day (month_days d.year d.month)) (nat_lt d.month 12) h refl refl

-- n days later
pub record IsLater (n : ℕ) (d z : Day) : Type 0 where
  pub is_day : IsCalendarDay z
  pub number : day_number z ≡ day_number d +ℤ pos n
  pub year : d.year ≤ 9999 → (day_number d +ℤ pos n) ≤ℤ pos 2932896 → z.year ≤ 9999

pub later : (n : ℕ) (d : Day) → IsCalendarDay d → IsLater n d (times n day_after d)
unfolding times
later zero d h = record { is_day = h; number = omega (arith, ints); year = λ a b. a }
later (suc n) d h =
    let next = after_day d h in
    let rest = later n (day_after d) next.is_day in
    let number : day_number (times n day_after (day_after d)) ≡ day_number d +ℤ pos (suc n) = rest.number ∙ ap (λ z. z +ℤ pos n) next.number ∙ omega (arith, ints) in
    record {
      is_day = rest.is_day;
      number = number;
      year = λ a b. rest.year (next.year a (omega (arith, ints))) (omega (arith, ints, next.number));
    }

-- the library's date of the day
date_of : (d : Day) → IsCalendarDay d → d.year ≤ 9999 → Date
date_of d h le = record { year = pos d.year; month = d.month; day = d.day; year_in = (omega (arith, ints), omega (arith, ints)); month_in = (h.month_from, h.month_to); day_in = (h.day_from, h.day_to) }

pub in_range : (d : Day) → IsCalendarDay d → d.year ≤ 9999 → IsEpochDay (day_number d)
unfolding date_of
in_range d h le = epoch_day_range (date_of d h le)

pub same_number : (d : Day) → IsCalendarDay d → d.year ≤ 9999 → (r : Date) → epoch_day r ≡ day_number d → (r.year ≡ pos d.year) × (r.month ≡ d.month) × (r.day ≡ d.day)
unfolding date_of
same_number d h le r e = epoch_day_injective r (date_of d h le) e

times_end : (n : ℕ) (step : Day → Day) (d : Day) → times (suc n) step d ≡ step (times n step d)
unfolding times
times_end zero step d = refl
times_end (suc n) step d = times_end n step (step d)

day_is : (d : Day) (y m n : ℕ) → y ≡ d.year → m ≡ d.month → n ≡ d.day → day_at y m n ≡ d
day_is d y m n e f g = sym (same_day d y m n (sym e) (sym f) (sym g))

is_lt : (m n : ℕ) → m < n → nat_lt m n ≡ true
is_lt m n h = grind (arith, nat_tests)

-- yesterday of tomorrow
back_case : (d : Day) (t u : Bool) → IsCalendarDay d → nat_lt d.day (month_days d.year d.month) ≡ t → nat_lt d.month 12 ≡ u
    → day_before (cond t (day_at d.year d.month (d.day + 1)) (cond u (day_at d.year (d.month + 1) 1) (day_at (d.year + 1) 1 1))) ≡ d
back_case d true u h e f =
    let more : nat_lt 1 (d.day + 1) ≡ true = is_lt 1 (d.day + 1) (omega (arith, h.day_from)) in
    rw more (day_is d d.year d.month (d.day + 1 - 1) refl refl (omega arith))
back_case d false true h e f =
    let more : nat_lt 1 (d.month + 1) ≡ true = is_lt 1 (d.month + 1) (omega (arith, h.month_from)) in
    let back : d.month + 1 - 1 ≡ d.month = omega arith in
    rw more (day_is d d.year (d.month + 1 - 1) (month_days d.year (d.month + 1 - 1)) refl back (ap (month_days d.year) back ∙ sym (month_end d h e)))
back_case d false false h e f =
    let to = lt_false d.month 12 f in
    let december : 12 ≡ d.month = omega (arith, h.month_to) in
    day_is d (d.year + 1 - 1) 12 31 (omega arith) december (sym (month_end d h e ∙ ap (month_days d.year) (sym december)))

before_after : (d : Day) → IsCalendarDay d → day_before (day_after d) ≡ d
before_after d h = back_case d (nat_lt d.day (month_days d.year d.month)) (nat_lt d.month 12) h refl refl

pub before_times : (n : ℕ) (d : Day) → IsCalendarDay d → times n day_before (times n day_after d) ≡ d
unfolding times
before_times zero d h = refl
before_times (suc n) d h =
    ap (times (suc n) day_before) (times_end n day_after d)
    ∙ ap (times n day_before) (before_after (times n day_after d) (later n d h).is_day)
    ∙ before_times n d h

-- a day's number goes down by one, until year 0
pub record IsPrevious (d z : Day) : Type 0 where
  pub year : z.year ≤ d.year
  pub is_day : 1 ≤ z.year → IsCalendarDay z
  pub number : 1 ≤ z.year → day_number z +ℤ pos 1 ≡ day_number d

before_case : (d : Day) (t u : Bool) → IsCalendarDay d → nat_lt 1 d.day ≡ t → nat_lt 1 d.month ≡ u
    → IsPrevious d (cond t (day_at d.year d.month (d.day - 1)) (cond u (day_at d.year (d.month - 1) (month_days d.year (d.month - 1))) (day_at (d.year - 1) 12 31)))
before_case d true u h e f =
    let lt : 1 < d.day = lt_true 1 d.day e in
    let to : d.day - 1 ≤ month_days d.year d.month = le_trans (omega arith) h.day_to in
    let by_day = days_from_civil-day (pos d.year) d.month d.day (d.day - 1) h.day_from (omega arith) in
    let whole : pos (d.day - 1) +ℤ pos 1 ≡ pos d.day = omega (arith, ints) in
    record {
      year = omega arith;
      is_day = λ _. record { year_from = h.year_from; month_from = h.month_from; month_to = h.month_to; day_from = omega arith; day_to = to };
      number = λ _. omega (arith, ints);
    }
before_case d false true h e f =
    let lt : 1 < d.month = lt_true 1 d.month f in
    let first : 1 ≡ d.day = omega (arith, h.day_from, lt_false 1 d.day e) in
    let last = month_days d.year (d.month - 1) in
    let back : d.month - 1 + 1 ≡ d.month = omega arith in
    let whole : day_at d.year (d.month - 1 + 1) 1 ≡ d = day_is d d.year (d.month - 1 + 1) 1 refl back first in
    record {
      year = omega arith;
      is_day = λ _. record { year_from = h.year_from; month_from = omega arith; month_to = omega (arith, h.month_to); day_from = some_days d.year (d.month - 1); day_to = le_refl (month_days d.year (d.month - 1)) };
      number = λ _. sym (days_from_civil-next_month (pos d.year) (d.month - 1) (month_days d.year (d.month - 1)) (omega arith) refl) ∙ ap day_number whole;
    }
before_case d false false h e f =
    let first : 1 ≡ d.day = omega (arith, h.day_from, lt_false 1 d.day e) in
    let january : 1 ≡ d.month = omega (arith, h.month_from, lt_false 1 d.month f) in
    let whole : day_at d.year 1 1 ≡ d = day_is d d.year 1 1 refl january first in
    record {
      year = omega arith;
      is_day = λ some. record { year_from = some; month_from = omega arith; month_to = omega arith; day_from = omega arith; day_to = omega arith };
      number = λ some. sym (days_from_civil-next_year (pos (d.year - 1)) (pos d.year) (omega (arith, ints)) (omega (arith, ints))) ∙ ap day_number whole;
    }

before_day : (d : Day) → IsCalendarDay d → IsPrevious d (day_before d)
before_day d h = before_case d (nat_lt 1 d.day) (nat_lt 1 d.month) h refl refl

zero_case : (d : Day) (t u : Bool) (a b e f : ℕ) → d.year ≡ 0 → (cond t (day_at d.year d.month a) (cond u (day_at d.year b e) (day_at (d.year - 1) 12 f))).year ≡ 0
zero_case d true u a b e f h = h
zero_case d false true a b e f h = h
zero_case d false false a b e f h = omega arith

-- year 0 has no day before it that counts
zero_stays : (n : ℕ) (d : Day) → d.year ≡ 0 → (times n day_before d).year ≡ 0
unfolding times
zero_stays zero d h = h
zero_stays (suc n) d h = zero_stays n (day_before d) (zero_case d (nat_lt 1 d.day) (nat_lt 1 d.month) (d.day - 1) (d.month - 1) (month_days d.year (d.month - 1)) 31 h)

pub record IsEarlier (n : ℕ) (d z : Day) : Type 0 where
  pub is_day : IsCalendarDay z
  pub number : day_number z +ℤ pos n ≡ day_number d
  pub year : z.year ≤ d.year

pub earlier : (n : ℕ) (d : Day) → IsCalendarDay d → 1 ≤ (times n day_before d).year → IsEarlier n d (times n day_before d)
unfolding times
earlier zero d h some = record { is_day = h; number = omega (arith, ints); year = omega arith }
earlier (suc n) d h some =
    let back = before_day d h in
    elim (cases_lt 0 (day_before d).year) [
      | inl lt ↦
          let rest = earlier n (day_before d) (back.is_day lt) some in
          record { is_day = rest.is_day; number = omega (arith, ints, rest.number, back.number lt); year = le_trans rest.year back.year }
      | inr none ↦ absurd (omega (arith, zero_stays n (day_before d) (omega arith)))
    ]
