-- What the library's sum of a date and days says of the moved day.
use Rattle.std.proofs.Common.{◌≡◌, ℕ, suc, ◌/◌, ◌%◌, ◌<◌, ◌≤◌, arith, refl, sym, ◌∙◌, ap, subst, Bool, true, false, ℤ, pos, negsuc, ◌+ℤ◌, ◌<ℤ◌, ◌≤ℤ◌, Ok, Err}
use Rattle.std.specs.Prelude.{unsigned_abs}
use Rattle.std.proofs.lemmas.Int.{ints}
use Rattle.jiff.specs.Words.{epoch_day, IsEpochDay, IsYmd, days_in_month}
use Rattle.jiff.proofs.Family.{epoch_day_range}
use Rattle.jiff_core.specs.Calendar.{days_from_civil}
use Rattle.jiff_core.specs.declared.civil.date.Date.{Date}
use Rattle.base_date.specs.Date.{is_day, date_number, is_date}
use Rattle.base_date.specs.Move.{Day, day_at, day_of_date, month_days, day_after, day_before, times, days_moved, in_years}
use Rattle.base_date.specs.declared.DateFault.TheVariants.{DateRange}
use Rattle.base_date.proofs.Months.{is_day_says, day_true, not_in_years, in_years_day}
use Rattle.base_date.proofs.Days.{IsCalendarDay, day_number, later, in_range, same_number, before_times, same_day, earlier}

pos_same : {m n : ℕ} → pos m ≡ pos n → m ≡ n
pos_same e = cc

far : (count start : ℤ) → 7304484 < unsigned_abs count → IsEpochDay start → ¬ (IsEpochDay (start +ℤ count))
far (pos k) start h range again = omega (arith, ints)
far (negsuc k) start h range again = omega (arith, ints)

-- the date n, as the library has it
pub record Starts (n : ℕ) (from : Date) : Type 0 where
  pub day : IsYmd (pos (n / 10000)) (pos (n / 100 % 100)) (pos (n % 100)) from
  pub valid : is_date n ≡ true

start_day : (n : ℕ) → is_date n ≡ true → IsCalendarDay (day_of_date n) × (n / 10000 ≤ 9999)
start_day n h =
    let day = is_day_says (n / 10000) (n / 100 % 100) (n % 100) h in
    (record { year_from = day.from; month_from = day.month_from; month_to = day.month_to; day_from = day.day_from; day_to = day.day_to }, day.to)

start_number : (n : ℕ) (from : Date) → Starts n from → epoch_day from ≡ day_number (day_of_date n)
start_number n from s =
    let month : from.month ≡ n / 100 % 100 = pos_same s.day.1 in
    let day : from.day ≡ n % 100 = pos_same s.day.2 in
    ap (λ y. days_from_civil y from.month from.day) s.day.0
    ∙ ap (λ m. days_from_civil (pos (n / 10000)) m from.day) month
    ∙ ap (days_from_civil (pos (n / 10000)) (n / 100 % 100)) day

absent : (b : Bool) → (b ≡ true → ⊥) → b ≡ false
absent true h = absurd (h refl)
absent false h = refl

no_day : (d : Day) → (is_day d.year d.month d.day ≡ true → ⊥) → Err DateRange ≡ in_years d
no_day d h = sym (not_in_years d (absent (is_day d.year d.month d.day) h))

the_day : (z : Day) → IsCalendarDay z → z.year ≤ 9999 → in_years z ≡ Ok (date_number z.year z.month z.day)
the_day z h le = in_years_day z (day_true z.year z.month z.day h.year_from le h.month_from h.month_to h.day_from h.day_to)

-- the library's calendar has no such day
pub no_such_day : (n : ℕ) (count : ℤ) (from : Date) → Starts n from → ¬ (IsEpochDay (epoch_day from +ℤ count)) → Err DateRange ≡ in_years (days_moved (day_of_date n) count)
no_such_day n (pos k) from s h =
    let start = start_day n s.valid in
    let z = later k (day_of_date n) start.0 in
    no_day (times k day_after (day_of_date n)) (λ is.
    let day = is_day_says _ _ _ is in
    h (subst IsEpochDay (z.number ∙ ap (λ x. x +ℤ pos k) (sym (start_number n from s))) (in_range (times k day_after (day_of_date n)) z.is_day day.to)))
no_such_day n (negsuc k) from s h =
    let start = start_day n s.valid in
    no_day (times (suc k) day_before (day_of_date n)) (λ is.
    let day = is_day_says _ _ _ is in
    let z = earlier (suc k) (day_of_date n) start.0 day.from in
    let number : day_number (times (suc k) day_before (day_of_date n)) ≡ epoch_day from +ℤ negsuc k = omega (arith, ints, z.number, start_number n from s) in
    h (subst IsEpochDay number (in_range (times (suc k) day_before (day_of_date n)) z.is_day day.to)))

pub too_far : (n : ℕ) (count : ℤ) (from : Date) → Starts n from → 7304484 < unsigned_abs count → Err DateRange ≡ in_years (days_moved (day_of_date n) count)
too_far n count from s h = no_such_day n count from s (far count (epoch_day from) h (epoch_day_range from))

early : (z : Day) → 1 ≤ z.year → (y : ℤ) → y ≡ pos z.year → y <ℤ pos 1 → ⊥
early z some y e h = omega (arith, ints)

pub too_early : (n : ℕ) (count : ℤ) (from to : Date) → Starts n from → epoch_day to ≡ epoch_day from +ℤ count → to.year <ℤ pos 1 → Err DateRange ≡ in_years (days_moved (day_of_date n) count)
too_early n (pos k) from to s e h =
    let start = start_day n s.valid in
    let z = later k (day_of_date n) start.0 in
    no_day (times k day_after (day_of_date n)) (λ is.
    let day = is_day_says _ _ _ is in
    let number : epoch_day to ≡ day_number (times k day_after (day_of_date n)) = e ∙ ap (λ x. x +ℤ pos k) (start_number n from s) ∙ sym z.number in
    early (times k day_after (day_of_date n)) day.from to.year (same_number _ z.is_day day.to to number).0 h)
too_early n (negsuc k) from to s e h =
    let start = start_day n s.valid in
    no_day (times (suc k) day_before (day_of_date n)) (λ is.
    let day = is_day_says _ _ _ is in
    let z = earlier (suc k) (day_of_date n) start.0 day.from in
    let number : epoch_day to ≡ day_number (times (suc k) day_before (day_of_date n)) = omega (arith, ints, e, z.number, start_number n from s) in
    early (times (suc k) day_before (day_of_date n)) day.from to.year (same_number _ z.is_day day.to to number).0 h)

natural : (y : ℤ) → pos 1 ≤ℤ y → (1 ≤ unsigned_abs y) × (pos (unsigned_abs y) ≡ y)
natural (pos n) h = (omega (arith, ints), refl)
natural (negsuc n) h = absurd (omega (arith, ints))

-- the library's day, as parts
abbrev to_day : Date → Day
to_day to = day_at (unsigned_abs to.year) to.month to.day

to_day_is : (to : Date) → pos 1 ≤ℤ to.year → IsCalendarDay (to_day to) × (unsigned_abs to.year ≤ 9999) × (day_number (to_day to) ≡ epoch_day to)
to_day_is to h =
    let year = natural to.year h in
    let short : unsigned_abs to.year ≤ 9999 = omega (arith, ints, to.year_in, year.1) in
    let last : to.day ≤ month_days (unsigned_abs to.year) to.month = subst (λ (y : ℤ). to.day ≤ days_in_month y to.month) (sym year.1) to.day_in.1 in (
      record { year_from = year.0; month_from = to.month_in.0; month_to = to.month_in.1; day_from = to.day_in.0; day_to = last },
      short,
      ap (λ y. days_from_civil y to.month to.day) year.1,
    )

parts_alike : (to : Date) (z : Day) → to.year ≡ pos z.year → to.month ≡ z.month → to.day ≡ z.day → date_number (unsigned_abs to.year) to.month to.day ≡ date_number z.year z.month z.day
parts_alike to z a b c =
    ap (λ y. date_number (unsigned_abs y) to.month to.day) a ∙ ap (λ m. date_number z.year m to.day) b ∙ ap (date_number z.year z.month) c

start_is : (n : ℕ) (from : Date) (z : Day) → Starts n from → (from.year ≡ pos z.year) × (from.month ≡ z.month) × (from.day ≡ z.day) → day_of_date n ≡ z
start_is n from z s same =
    let year : n / 10000 ≡ z.year = pos_same (sym s.day.0 ∙ same.0) in
    let month : n / 100 % 100 ≡ z.month = sym (pos_same s.day.1) ∙ same.1 in
    let day : n % 100 ≡ z.day = sym (pos_same s.day.2) ∙ same.2 in
    sym (same_day z (n / 10000) (n / 100 % 100) (n % 100) (sym year) (sym month) (sym day))

pub day_reached : (n : ℕ) (count : ℤ) (from to : Date) → Starts n from → epoch_day to ≡ epoch_day from +ℤ count → pos 1 ≤ℤ to.year → Ok (date_number (unsigned_abs to.year) to.month to.day) ≡ in_years (days_moved (day_of_date n) count)
day_reached n (pos k) from to s e h =
    let start = start_day n s.valid in
    let z = later k (day_of_date n) start.0 in
    let number : epoch_day to ≡ day_number (times k day_after (day_of_date n)) = e ∙ ap (λ x. x +ℤ pos k) (start_number n from s) ∙ sym z.number in
    let most = (epoch_day_range to).1 in
    let short : (times k day_after (day_of_date n)).year ≤ 9999 = z.year start.1 (omega (arith, ints, number, z.number)) in
    let same = same_number (times k day_after (day_of_date n)) z.is_day short to number in
    ap Ok (parts_alike to (times k day_after (day_of_date n)) same.0 same.1 same.2)
    ∙ sym (the_day (times k day_after (day_of_date n)) z.is_day short)
day_reached n (negsuc k) from to s e h =
    let target = to_day_is to h in
    let w = later (suc k) (to_day to) target.0 in
    let number : epoch_day from ≡ day_number (times (suc k) day_after (to_day to)) = omega (arith, ints, e, w.number, target.2) in
    let most = (epoch_day_range from).1 in
    let short : (times (suc k) day_after (to_day to)).year ≤ 9999 = w.year target.1 (omega (arith, ints, number, w.number)) in
    let start : day_of_date n ≡ times (suc k) day_after (to_day to) = start_is n from (times (suc k) day_after (to_day to)) s (same_number (times (suc k) day_after (to_day to)) w.is_day short from number) in
    sym (the_day (to_day to) target.0 target.1)
    ∙ ap in_years (sym (ap (times (suc k) day_before) start ∙ before_times (suc k) (to_day to) target.0))
