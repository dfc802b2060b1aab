-- A value that was read is read back from its field.
use Rattle.std.proofs.Common.{◌≡◌, ℕ, zero, suc, ◌+◌, ◌/◌, ◌%◌, ◌^◌, ◌<◌, ◌≤◌, Bool, true, false, not, cond, ◌&&◌, ◌==◌, List, ◌∷◌, ◌++◌, length, refl, sym, ap, subst, ◌∙◌, arith, ℤ, pos, negsuc, Option, Some, None, Result, Ok, Err}
use Rattle.std.specs.Prelude.{int_lt, slice_index, slice_range, unsigned_abs}
use Rattle.std.specs.Char.{is_ascii_digit}
use Rattle.std.specs.List.{list_all, list_any}
use Rattle.std.proofs.Math.Nat.{mod-lt}
use Rattle.std.proofs.lemmas.Bool.{and_parts, and_from, lt-ltb, ltb-true}
use Rattle.std.proofs.lemmas.Bool.Decides.{nat_tests}
use Rattle.base_text.specs.Printable.{first_unprintable}
use Rattle.base_date.specs.Date.{is_day, date_number, spelled_number, number_of, day_of, date_of}
use Rattle.base_date.proofs.Months.{is_day_says, month_days_some, number_parts}
use Rattle.base_decimal.specs.Decimal.{fits}
use Rattle.base_decimal.specs.Written.{decimal_read, decimal_written, last_digits}
use Rattle.base_decimal.specs.declared.read.Spelling.{Spelling}
use Rattle.base_decimal.specs.declared.read.Spelling.TheVariants.{NotANumber, TooWide}
use Rattle.base_decimal.proofs.RoundTrip.{reads_back}
use Rattle.base_refusals.specs.declared.line.LineFault.{LineFault}
use Rattle.base_refusals.specs.declared.line.LineFault.TheVariants.{BadNumber, NumberTooWide, BadDate, TextTooLong}
use Rattle.base_value.specs.declared.value.Value.{Value}
use Rattle.base_value.specs.declared.value.Value.TheVariants as value
use Rattle.base_schema.specs.declared.column.ColumnKind.{ColumnKind}
use Rattle.base_schema.specs.declared.column.ColumnKind.TheVariants.{Key, Whole, Decimal, Date, Text}
use Rattle.base_schema.specs.Kinds.{is_of_kind, is_narrow}
use Rattle.base_schema.specs.declared.column.LineColumn.{LineColumn}
use Rattle.store_file_reader.specs.Field.{kind_field, spells_null, column_value, date_field, number_field, printable_field}
use Rattle.store_file_reader.specs.Line.{is_bar}
use Rattle.store_file_reader.proofs.Nulls.{not_null, value_of_other}
use Rattle.store_refresh_text.specs.Text.{date_written, field_written}
use Rattle.store_refresh_text.proofs.Clean.{is_clean, clean_append, last_digits_clean, number_clean, text_clean}

-- the value's field says it in a column, and no cut meets the field
pub record Again (column : LineColumn) (v : Value) : Type 0 where
  pub said : column_value column (field_written v) ≡ Ok v
  pub clean : list_all is_clean (field_written v) ≡ true

-- the same of a column of that kind that is never null
record OfKind (kind : ColumnKind) (v : Value) : Type 0 where
  said : kind_field kind (field_written v) ≡ Ok v
  clean : list_all is_clean (field_written v) ≡ true

-- an answer that is one only if a test holds
held : (b : Bool) (x v : Value) (fault : LineFault) → ◌≡◌ {A = Result Value LineFault} (cond b (Ok x) (Err fault)) (Ok v) → (b ≡ true) × (x ≡ v)
held true x v fault e = (refl, cc)
held false x v fault e = cc

-- numbers

-- the number that a column of that kind was given
pub record Number (kind : ColumnKind) (scale : ℕ) (r : Result ℤ Spelling) (v : Value) : Type 0 where
  pub c : ℤ
  pub holds : is_of_kind kind (value.Number scale c) ≡ true
  pub is : value.Number scale c ≡ v

pub number : (kind : ColumnKind) (scale : ℕ) (r : Result ℤ Spelling) (v : Value) → number_field kind scale r ≡ Ok v → Number kind scale r v
number kind scale (Ok c) v e =
    let h = held (is_of_kind kind (value.Number scale c)) (value.Number scale c) v NumberTooWide e in
    record { c = c; holds = h.0; is = h.1 }
number kind scale (Err NotANumber) v e = cc
number kind scale (Err TooWide) v e = cc

narrow_fits : (c : ℤ) → is_narrow c ≡ true → fits c ≡ true
narrow_fits (pos n) e = let less : n < 2 ^ 63 = ltb-true n (2 ^ 63) e in lt-ltb n (2 ^ 127) (omega arith)
narrow_fits (negsuc n) e = let less : suc n < 2 ^ 63 = ltb-true (suc n) (2 ^ 63) e in lt-ltb n (2 ^ 127) (omega arith)

number_said : (kind : ColumnKind) (scale : ℕ) (c : ℤ) → scale ≤ 18 → is_narrow c ≡ true → is_of_kind kind (value.Number scale c) ≡ true
    → number_field kind scale (decimal_read (decimal_written c scale) scale) ≡ Ok (value.Number scale c)
number_said kind scale c le narrow holds =
    ap (number_field kind scale) (reads_back c scale (narrow_fits c narrow) le) ∙ rw holds refl

short_clean : (c : ℤ) (scale : ℕ) → is_narrow c ≡ true → list_all is_clean (decimal_written c scale) ≡ true
short_clean c scale e = let less : unsigned_abs c < 2 ^ 63 = ltb-true (unsigned_abs c) (2 ^ 63) e in number_clean c scale (omega arith)

key_again : (c : ℤ) → is_of_kind Key (value.Number 0 c) ≡ true → OfKind Key (value.Number 0 c)
key_again c e =
    let narrow : is_narrow c ≡ true = (and_parts (not (int_lt c (pos 0))) (is_narrow c) e).1 in
    record { said = number_said Key 0 c (omega arith) narrow e; clean = short_clean c 0 narrow }

whole_again : (c : ℤ) → is_of_kind Whole (value.Number 0 c) ≡ true → OfKind Whole (value.Number 0 c)
whole_again c e =
    let narrow : is_narrow c ≡ true = e in
    record { said = number_said Whole 0 c (omega arith) narrow e; clean = short_clean c 0 narrow }

decimal_again : (c : ℤ) → is_of_kind Decimal (value.Number 2 c) ≡ true → OfKind Decimal (value.Number 2 c)
decimal_again c e =
    let narrow : is_narrow c ≡ true = e in
    record { said = number_said Decimal 2 c (omega arith) narrow e; clean = short_clean c 2 narrow }

-- dates

digit_test : (n : ℕ) → is_ascii_digit (48 + n % 10) ≡ true
digit_test n = let low : n % 10 < 10 = mod-lt n (omega arith) in grind (arith, nat_tests)

digits_test : (places n : ℕ) → list_all is_ascii_digit (last_digits places n) ≡ true
digits_test zero n = refl
digits_test (suc places) n = and_from _ _ (digit_test (n / 10 ^ places)) (digits_test places n)

four_spelled : (n : ℕ) → n ≤ 9999 → spelled_number (last_digits 4 n) ≡ n
four_spelled n h = omega arith

two_spelled : (n : ℕ) → n ≤ 99 → spelled_number (last_digits 2 n) ≡ n
two_spelled n h = omega arith

read_digits : (digits : List ℕ) (n : ℕ) → list_all is_ascii_digit digits ≡ true → spelled_number digits ≡ n → number_of digits ≡ Some n
read_digits digits n e f = rw e (ap Some f)

record Day (date : ℕ) : Type 0 where
  y : ℕ
  m : ℕ
  d : ℕ
  valid : is_day y m d ≡ true
  is : date_number y m d ≡ date

held_day : (b : Bool) (x date : ℕ) → ◌≡◌ {A = Option ℕ} (cond b (Some x) None) (Some date) → (b ≡ true) × (x ≡ date)
held_day true x date e = (refl, cc)
held_day false x date e = cc

day_parts : (year month day : Option ℕ) (date : ℕ) → day_of year month day ≡ Some date → Day date
day_parts (Some y) (Some m) (Some d) date e =
    let h = held_day (is_day y m d) (date_number y m d) date e in
    record { y = y; m = m; d = d; valid = h.0; is = h.1 }
day_parts (Some y) (Some m) None date e = cc
day_parts (Some y) None day date e = cc
day_parts None month day date e = cc

some_held : (b : Bool) (x : Option ℕ) (date : ℕ) → cond b x None ≡ Some date → x ≡ Some date
some_held true x date e = e
some_held false x date e = cc

three : (y m d a b c : ℕ) (year month day : Option ℕ) → year ≡ Some a → month ≡ Some b → day ≡ Some c → a ≡ y → b ≡ m → c ≡ d → is_day y m d ≡ true
    → day_of year month day ≡ Some (date_number y m d)
three y m d a b c year month day e f g p q r valid =
    (λ i. day_of (e i) (f i) (g i)) ∙ (λ i. day_of (Some (p i)) (Some (q i)) (Some (r i))) ∙ rw valid refl

date_read : (date : ℕ) → Day date → date_of (date_written date) ≡ Some date
date_read date day =
    let y = day.y in
    let m = day.m in
    let d = day.d in
    let says = is_day_says y m d day.valid in
    let most = month_days_some y m in
    let parts = number_parts y m d says.month_to (omega (arith, says.day_to, most.1)) in
    let year : date / 10000 ≡ y = ap (λ (n : ℕ). n / 10000) (sym day.is) ∙ parts.0 in
    let month : date / 100 % 100 ≡ m = ap (λ (n : ℕ). n / 100 % 100) (sym day.is) ∙ parts.1 in
    let number : date % 100 ≡ d = ap (λ (n : ℕ). n % 100) (sym day.is) ∙ parts.2 in
    let a = read_digits (last_digits 4 (date / 10000)) (date / 10000) (digits_test 4 (date / 10000)) (four_spelled (date / 10000) (omega (arith, year, says.to))) in
    let b = read_digits (last_digits 2 (date / 100 % 100)) (date / 100 % 100) (digits_test 2 (date / 100 % 100)) (two_spelled (date / 100 % 100) (omega (arith, month, says.month_to))) in
    let c = read_digits (last_digits 2 (date % 100)) (date % 100) (digits_test 2 (date % 100)) (two_spelled (date % 100) (omega (arith, number, says.day_to, most.1))) in
    three y m d (date / 10000) (date / 100 % 100) (date % 100) (number_of (last_digits 4 (date / 10000))) (number_of (last_digits 2 (date / 100 % 100))) (number_of (last_digits 2 (date % 100))) a b c year month number day.valid
    ∙ ap Some day.is

date_clean : (date : ℕ) → list_all is_clean (date_written date) ≡ true
date_clean date =
    clean_append (last_digits 4 (date / 10000)) (45 ∷ (last_digits 2 (date / 100 % 100) ++ 45 ∷ last_digits 2 (date % 100))) (last_digits_clean 4 (date / 10000))
    (clean_append (last_digits 2 (date / 100 % 100)) (45 ∷ last_digits 2 (date % 100)) (last_digits_clean 2 (date / 100 % 100)) (last_digits_clean 2 (date % 100)))

date_again : (r : Option ℕ) (v : Value) → ((date : ℕ) → r ≡ Some date → Day date) → date_field r ≡ Ok v → OfKind Date v
date_again (Some date) v day e =
    let is : value.Date date ≡ v = cc in
    let again : OfKind Date (value.Date date) = record { said = ap date_field (date_read date (day date refl)); clean = date_clean date } in
    subst (λ x. OfKind Date x) is again
date_again None v day e = cc

-- texts

text_again : (most : ℕ) (text : List ℕ) (place : Option ℕ) (v : Value) → first_unprintable text ≡ place → list_any is_bar text ≡ false
    → printable_field (Text most) text place ≡ Ok v → OfKind (Text most) v
text_again most text (Some at) v is bar e = cc
text_again most text None v is bar e =
    let h = held (is_of_kind (Text most) (value.Text text)) (value.Text text) v TextTooLong e in
    let again : OfKind (Text most) (value.Text text) = record {
      said = ap (printable_field (Text most) text) is ∙ rw h.0 refl;
      clean = text_clean text is bar;
    } in
    subst (λ x. OfKind (Text most) x) h.1 again

-- each kind
again : (kind : ColumnKind) (field : List ℕ) (v : Value) → list_any is_bar field ≡ false → kind_field kind field ≡ Ok v → OfKind kind v
again Key field v bar e =
    let n = number Key 0 (decimal_read field 0) v e in
    subst (λ x. OfKind Key x) n.is (key_again n.c n.holds)
again Whole field v bar e =
    let n = number Whole 0 (decimal_read field 0) v e in
    subst (λ x. OfKind Whole x) n.is (whole_again n.c n.holds)
again Decimal field v bar e =
    let n = number Decimal 2 (decimal_read field 2) v e in
    subst (λ x. OfKind Decimal x) n.is (decimal_again n.c n.holds)
again Date field v bar e =
    let year = number_of (slice_range field 0 4) in
    let month = number_of (slice_range field 5 7) in
    let day = number_of (slice_range field 8 10) in
    let test = (length field == 10) && (slice_index field 4 == 45) && (slice_index field 7 == 45) in
    date_again (date_of field) v (λ date is. day_parts year month day date (some_held test (day_of year month day) date is)) e
again (Text most) field v bar e = text_again most field (first_unprintable field) v refl bar e

-- nulls

no_value : (fault : LineFault) (v : Value) → ◌≡◌ {A = Result Value LineFault} (Err fault) (Ok v) → ⊥
no_value fault v e = cc

same_text : (most : ℕ) (text : List ℕ) (place : Option ℕ) (v : Value) → printable_field (Text most) text place ≡ Ok v → field_written v ≡ text
same_text most text (Some at) v e = cc
same_text most text None v e =
    let h = held (is_of_kind (Text most) (value.Text text)) (value.Text text) v TextTooLong e in
    ap field_written (sym h.1)

-- the field of a value that was not spelled as null doesn't spell null
other : (kind : ColumnKind) (field : List ℕ) (v : Value) → spells_null field ≡ false → kind_field kind field ≡ Ok v → kind_field kind (field_written v) ≡ Ok v
    → spells_null (field_written v) ≡ false
other Key field v none e said = not_null (field_written v) (spells_null (field_written v)) refl (λ is. no_value BadNumber v (ap (kind_field Key) (sym is) ∙ said))
other Whole field v none e said = not_null (field_written v) (spells_null (field_written v)) refl (λ is. no_value BadNumber v (ap (kind_field Whole) (sym is) ∙ said))
other Decimal field v none e said = not_null (field_written v) (spells_null (field_written v)) refl (λ is. no_value BadNumber v (ap (kind_field Decimal) (sym is) ∙ said))
other Date field v none e said = not_null (field_written v) (spells_null (field_written v)) refl (λ is. no_value BadDate v (ap (kind_field Date) (sym is) ∙ said))
other (Text most) field v none e said = ap spells_null (same_text most field (first_unprintable field) v e) ∙ none

-- a column of that kind, which may be null or not
abbrev column : Bool → ColumnKind → LineColumn
column nullable kind = record { kind = kind; nullable = nullable }

nulls_again : (kind : ColumnKind) → Again (column true kind) value.Null
nulls_again kind = record { said = refl; clean = refl }

by_null : (nullable null : Bool) (kind : ColumnKind) (field : List ℕ) (v : Value) → spells_null field ≡ null → list_any is_bar field ≡ false
    → cond (nullable && null) (Ok value.Null) (kind_field kind field) ≡ Ok v → Again (column nullable kind) v
by_null true true kind field v spelled bar e =
    let is : value.Null ≡ v = cc in
    subst (λ x. Again (column true kind) x) is (nulls_again kind)
by_null true false kind field v spelled bar e =
    let a = again kind field v bar e in
    let none : spells_null (field_written v) ≡ false = other kind field v spelled e a.said in
    record { said = value_of_other (column true kind) (field_written v) (Ok v) none a.said; clean = a.clean }
by_null false null kind field v spelled bar e =
    let a = again kind field v bar e in
    record { said = a.said; clean = a.clean }

-- each column
pub column_again : (c : LineColumn) (field : List ℕ) (v : Value) → list_any is_bar field ≡ false → column_value c field ≡ Ok v → Again c v
column_again c field v bar e = by_null c.nullable (spells_null field) c.kind field v refl bar e
