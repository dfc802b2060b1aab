-- Where a field ends that is read up to its bar.
use Rattle.std.proofs.Common.{◌≡◌, ℕ, zero, suc, ◌+◌, ◌<◌, ◌≤◌, Bool, true, false, not, cond, ◌&&◌, ◌==◌, List, [], ◌∷◌, ◌++◌, length, take, drop, get_or, position, refl, ◌∙◌, ap, arith, le_refl, Option, Some, None, is_some, Result, Ok, Err}
use Rattle.std.specs.Option.{ok_or}
use Rattle.std.specs.Prelude.{nat_lt, nat_le}
use Rattle.std.specs.Char.{is_ascii_digit}
use Rattle.std.specs.List.{position_or_len, before_first, after_first, list_all, slice_range}
use Rattle.std.specs.Str.{all_ascii_digits}
use Rattle.std.proofs.Math.Seq.{drop-cons}
use Rattle.std.proofs.Math.ListN.{drop_of_length-le}
use Rattle.std.proofs.lemmas.Bool.{and_parts, and_from, lt-ltb, le-ltb, le-leb}
use Rattle.std.proofs.lemmas.Bool.Decides.{nat_tests}
use Rattle.std.proofs.lemmas.Option.{cond_some}
use Rattle.std.proofs.lemmas.List.{length-drop, length-take-le, take_more, take_all, drop-drop, take-append-drop}
use Rattle.std.proofs.lemmas.List.Folds.{list_any-append, list_all-append}
use Rattle.base_text.specs.Printable.{is_printable, AllPrintable}
use Rattle.base_date.specs.Date.{date_of, day_of, number_of}
use Rattle.base_refusals.specs.declared.line.LineFault.{LineFault}
use Rattle.base_refusals.specs.declared.line.LineFault.TheVariants.{TextTooLong}
use Rattle.base_value.specs.declared.value.Value.{Value}
use Rattle.base_value.specs.declared.value.Value.TheVariants as value
use Rattle.base_schema.specs.declared.column.LineColumn.{LineColumn}
use Rattle.base_schema.specs.declared.column.ColumnKind.TheVariants.{Date, Text}
use Rattle.store_file_reader.specs.Field.{kind_field, spells_null, column_value}
use Rattle.store_file_reader.specs.Line.{is_bar}
use Rattle.store_file_reader.proofs.Nulls.{value_of_other}
use Rattle.store_file_reader.proofs.FieldCuts.{HasNoBar, neither, none-cons}
use Rattle.store_file_reader.proofs.PlainNumbers.{point_after_digits}

-- bytes without a bar, and a bar or the end after them
pub end_is : (text : List ℕ) (end : ℕ) → end ≤ length text → HasNoBar (take end text) → (end < length text → is_bar (get_or text end 0) ≡ true)
    → position_or_len is_bar text ≡ end
end_is [] zero h none bar = refl
end_is [] (suc end) h none bar = absurd (omega (arith, h))
end_is (b ∷ text) zero h none bar =
    let is : (b == 124) ≡ true = bar (omega arith) in
    rw is refl
end_is (b ∷ text) (suc end) h none bar =
    let one : 1 + position_or_len is_bar text ≡ suc (position_or_len is_bar text) = omega arith in
    let parts = neither (b == 124) _ none in
    rw (parts.0, one) (ap suc (end_is text end (omega (arith, h)) parts.1 (λ more. bar (omega (arith, more)))))

none_append : (xs ys : List ℕ) → HasNoBar xs → HasNoBar ys → HasNoBar (xs ++ ys)
none_append xs ys e f = list_any-append is_bar xs ys ∙ rw (e, f) refl

none_in : (n : ℕ) (text : List ℕ) → HasNoBar (take n text) → HasNoBar (drop n text) → HasNoBar text
none_in n text e f = rw (← take-append-drop n text) (none_append (take n text) (drop n text) e f)

pub none_more : (text : List ℕ) (i : ℕ) → i < length text → HasNoBar (take i text) → is_bar (get_or text i 0) ≡ false → HasNoBar (take (i + 1) text)
none_more text i h e f =
    rw (take_more text i 0 h) (none_append (take i text) (get_or text i 0 ∷ []) e (none-cons (get_or text i 0) [] f refl))

-- what is found at the end

pub after_end : (text : List ℕ) (end : ℕ) → position_or_len is_bar text ≡ end → after_first is_bar text ≡ drop (end + 1) text
after_end text end e = rw e refl

pub after_last : (text : List ℕ) (end : ℕ) → position_or_len is_bar text ≡ end → length text ≤ end → after_first is_bar text ≡ []
after_last text end e h = rw e (drop_of_length-le text (omega (arith, h)))

some_bar : (end n : ℕ) → end < n → is_some (cond (nat_lt end n) (Some end) None) ≡ true
some_bar end n h = rw (lt-ltb end n h) refl

no_bar : (end n : ℕ) → n ≤ end → is_some (cond (nat_lt end n) (Some end) None) ≡ false
no_bar end n h = rw (le-ltb end n h) refl

pub bar_found : (text : List ℕ) (end : ℕ) → position_or_len is_bar text ≡ end → end < length text → is_some (position is_bar text) ≡ true
bar_found text end e h = rw e (some_bar end (length text) h)

pub bar_missed : (text : List ℕ) (end : ℕ) → position_or_len is_bar text ≡ end → length text ≤ end → is_some (position is_bar text) ≡ false
bar_missed text end e h = rw e (no_bar end (length text) h)

pub before_end : (column : LineColumn) (text : List ℕ) (end : ℕ) (r : Result Value LineFault) → position_or_len is_bar text ≡ end
    → kind_field column.kind (take end text) ≡ r → spells_null (take end text) ≡ false → column_value column (before_first is_bar text) ≡ r
before_end column text end r e is other = rw e (value_of_other column (take end text) r other is)

pub ruleset cuts = (before_end, after_end, after_last, bar_found, bar_missed)

-- digits

no_bar_digit : (b : ℕ) → is_ascii_digit b ≡ true → (b == 124) ≡ false
no_bar_digit b e = grind (arith, nat_tests)

no_bars_in : (digits : List ℕ) → all_ascii_digits digits ≡ true → HasNoBar digits
no_bars_in [] e = refl
no_bars_in (b ∷ digits) e =
    let parts = and_parts _ _ e in
    none-cons b digits (no_bar_digit b parts.0) (no_bars_in digits parts.1)

pub digits_end : (text : List ℕ) (end : ℕ) → end ≤ length text → all_ascii_digits (take end text) ≡ true → (end < length text → is_bar (get_or text end 0) ≡ true)
    → position_or_len is_bar text ≡ end
digits_end text end h e bar = end_is text end h (no_bars_in (take end text) e) bar

pub cents_end : (text : List ℕ) (point : ℕ) → point + 3 ≤ length text → get_or text point 0 ≡ 46
    → all_ascii_digits (take point text) ≡ true → all_ascii_digits (take 2 (drop (point + 1) text)) ≡ true
    → (point + 3 < length text → is_bar (get_or text (point + 3) 0) ≡ true) → position_or_len is_bar text ≡ point + 3
cents_end text point long is digits more bar =
    let rest : HasNoBar (46 ∷ take 2 (drop (point + 1) text)) = none-cons 46 (take 2 (drop (point + 1) text)) refl (no_bars_in (take 2 (drop (point + 1) text)) more) in
    let none : HasNoBar (take (point + 3) text) =
    rw (point_after_digits text point (omega (arith, long)) is) (none_append (take point text) (46 ∷ take 2 (drop (point + 1) text)) (no_bars_in (take point text) digits) rest) in
    end_is text (point + 3) long none bar

-- dates

some_from : (b : Bool) (n : ℕ) → is_some (cond b (Some n) None) ≡ true → b ≡ true
some_from true n e = refl
some_from false n e = cc

no_bars_of : (text : List ℕ) → is_some (number_of text) ≡ true → HasNoBar text
no_bars_of text e = all_digits text (some_from (list_all is_ascii_digit text) _ e)
  where
    all_digits : (digits : List ℕ) → list_all is_ascii_digit digits ≡ true → HasNoBar digits
    all_digits [] e = refl
    all_digits (b ∷ digits) e =
        let parts = and_parts _ _ e in
        none-cons b digits (no_bar_digit b parts.0) (all_digits digits parts.1)

are_numbers : (year month day : Option ℕ) (d : ℕ) → day_of year month day ≡ Some d → (is_some year ≡ true) × (is_some month ≡ true) × (is_some day ≡ true)
are_numbers (Some year) (Some month) (Some day) d e = (refl, refl, refl)
are_numbers (Some year) (Some month) None d e = cc
are_numbers (Some year) None day d e = cc
are_numbers None month day d e = cc

date_when : (b : Bool) (r : Option ℕ) (d : ℕ) → cond b r None ≡ Some d → (b ≡ true) × (r ≡ Some d)
date_when true r d e = (refl, e)
date_when false r d e = cc

no_bar_hyphen : (b : ℕ) → (b == 45) ≡ true → (b == 124) ≡ false
no_bar_hyphen b e = grind (arith, nat_tests)

hyphen_then : (text : List ℕ) (i : ℕ) → i < length text → (get_or text i 0 == 45) ≡ true → HasNoBar (drop (i + 1) text) → HasNoBar (drop i text)
hyphen_then text i h e none =
    let one : i + 1 ≡ suc i = omega arith in
    let since : HasNoBar (drop (suc i) text) = rw (← one) none in
    rw (drop-cons text i 0 h) (none-cons (get_or text i 0) (drop (suc i) text) (no_bar_hyphen (get_or text i 0) e) since)

date_bars : (text : List ℕ) (d : ℕ) → length text ≡ 10 → date_of text ≡ Some d → HasNoBar text
date_bars text d long e =
    let year = number_of (slice_range text 0 4) in
    let month = number_of (slice_range text 5 7) in
    let day = number_of (slice_range text 8 10) in
    let found = date_when ((length text == 10) && (get_or text 4 0 == 45) && (get_or text 7 0 == 45)) (day_of year month day) d e in
    let second = and_parts ((length text == 10) && (get_or text 4 0 == 45)) (get_or text 7 0 == 45) found.0 in
    let first = and_parts (length text == 10) (get_or text 4 0 == 45) second.0 in
    let numbers = are_numbers year month day d found.1 in
    let last : take 2 (drop 8 text) ≡ drop 8 text = take_all 2 (drop 8 text) (omega (arith, length-drop 8 text, long)) in
    let since_day : HasNoBar (drop 8 text) = rw (← last) (no_bars_of (slice_range text 8 10) numbers.2) in
    let since_month : HasNoBar (drop 5 text) =
    none_in 2 (drop 5 text) (no_bars_of (slice_range text 5 7) numbers.1) (rw (drop-drop 2 5 text) (hyphen_then text 7 (omega (arith, long)) second.1 since_day)) in
    none_in 4 text (no_bars_of (slice_range text 0 4) numbers.0) (hyphen_then text 4 (omega (arith, long)) first.1 since_month)

pub date_read : {E : Type 0} (o : Option ℕ) (d : ℕ) (error : E) → Ok d ≡ ok_or o error → o ≡ Some d
date_read (Some date) d error e = let same : d ≡ date = cc in rw same refl
date_read None d error e = cc

pub date_end : (text : List ℕ) (d : ℕ) → 10 ≤ length text → date_of (take 10 text) ≡ Some d → (10 < length text → is_bar (get_or text 10 0) ≡ true)
    → position_or_len is_bar text ≡ 10
date_end text d long e bar =
    end_is text 10 long (date_bars (take 10 text) d (length-take-le 10 text long) e) bar

-- texts

pub printable_more : (text : List ℕ) (i : ℕ) → i < length text → list_all is_printable (take i text) ≡ true → is_printable (get_or text i 0) ≡ true
    → list_all is_printable (take (i + 1) text) ≡ true
printable_more text i h e f =
    rw (take_more text i 0 h) (list_all-append is_printable (take i text) (get_or text i 0 ∷ []) ∙ rw (e, f) refl)

pub below_printable : (b : ℕ) → (nat_le 0x20 b && nat_le b 0x7B) ≡ true → is_printable b ≡ true
below_printable b e =
    let parts = and_parts (nat_le 0x20 b) (nat_le b 0x7B) e in
    let high : b ≤ 0x7B = grind (arith, nat_tests) in
    and_from (nat_le 0x20 b) (nat_le b 0x7E) parts.0 (le-leb b 0x7E (omega (arith, high)))

pub below_other : (b : ℕ) → (nat_le 0x20 b && nat_le b 0x7B) ≡ true → is_bar b ≡ false
below_other b e = grind (arith, nat_tests)

pub ruleset below = (below_printable, below_other)

-- the same of a flag that stays false once a byte is not printable
pub flag_more : (text : List ℕ) (i : ℕ) (so_far : Bool) → i < length text → (so_far ≡ true → list_all is_printable (take i text) ≡ true)
    → (so_far && is_printable (get_or text i 0)) ≡ true → list_all is_printable (take (i + 1) text) ≡ true
flag_more text i so_far h before e =
    let parts = and_parts so_far (is_printable (get_or text i 0)) e in
    printable_more text i h (before parts.0) parts.1

none_unprintable : (bytes : List ℕ) → list_all is_printable bytes ≡ true → position_or_len (λ byte. not (is_printable byte)) bytes ≡ length bytes
none_unprintable [] e = refl
none_unprintable (b ∷ bytes) e =
    let one : 1 + position_or_len (λ byte. not (is_printable byte)) bytes ≡ suc (position_or_len (λ byte. not (is_printable byte)) bytes) = omega arith in
    let parts = and_parts (is_printable b) (list_all is_printable bytes) e in
    rw (parts.0, one) (ap suc (none_unprintable bytes parts.1))

none_at : (n : ℕ) → ◌≡◌ {A = Option ℕ} (cond (nat_lt n n) (Some n) None) None
none_at n = rw (le-ltb n n (le_refl n)) refl

pub all_printable : (bytes : List ℕ) → list_all is_printable bytes ≡ true → AllPrintable bytes
all_printable bytes e = rw (none_unprintable bytes e) (none_at (length bytes))

pub found_end : (text : List ℕ) (end : ℕ) → position (λ byte. byte == 124) text ≡ Some end → position_or_len is_bar text ≡ end
found_end text end e = (cond_some _ _ _ e).1

pub ruleset long = (found_end)

pub flag_all : (text : List ℕ) (i : ℕ) (so_far : Bool) → length text ≤ i → (so_far ≡ true → list_all is_printable (take i text) ≡ true)
    → so_far ≡ true → AllPrintable text
flag_all text i so_far h before e =
    let all : list_all is_printable text ≡ true = rw (← take_all i text h) (before e) in
    all_printable text all

-- what columns hold

pub date_holds : (text : List ℕ) (d : ℕ) → date_of text ≡ Some d → kind_field Date text ≡ Ok (value.Date d)
date_holds text d e = rw e refl

held_text : (text : List ℕ) (b : Bool) → b ≡ true → ◌≡◌ {A = Result Value LineFault} (cond b (Ok (value.Text text)) (Err TextTooLong)) (Ok (value.Text text))
held_text text b e = rw e refl

pub text_holds : (most : ℕ) (text : List ℕ) (end : ℕ) → end ≤ length text → end ≤ most → AllPrintable (take end text)
    → kind_field (Text most) (take end text) ≡ Ok (value.Text (take end text))
text_holds most text end inside short e =
    let size : length (take end text) ≡ end = length-take-le end text inside in
    rw e (held_text (take end text) (nat_le (length (take end text)) most) (le-leb (length (take end text)) most (omega (arith, size, short))))

pub ruleset holds = (date_holds, text_holds)

pub ruleset texts = (all_printable, end_is, printable_more, none_more, flag_more)
