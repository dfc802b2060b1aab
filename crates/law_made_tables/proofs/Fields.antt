-- The fields of made lines, and what a line of them says.
use Rattle.std.proofs.Common.{◌≡◌, ℕ, ◌-◌, ◌*◌, ◌^◌, ◌<◌, ◌≤◌, Bool, true, false, not, cond, ◌&&◌, ◌==◌, List, [], ◌∷◌, ◌++◌, length, map, drop, take, refl, sym, ap, ◌∙◌, arith, append_assoc, append-nil, length-append, ℤ, pos, negsuc, Result, Ok, Err, inr}
use Rattle.std.specs.Prelude.{nat_le, nat_lt, unsigned_abs}
use Rattle.std.specs.Fmt.{decimal}
use Rattle.std.specs.List.{All, list_all, list_any, zip, join_with_byte}
use Rattle.std.proofs.Math.Seq.{take-append_seam, drop-append_seam}
use Rattle.std.proofs.lemmas.Bool.{and_parts, lt-ltb, le-leb}
use Rattle.std.proofs.lemmas.Bool.Decides.{nat_tests}
use Rattle.std.proofs.lemmas.List.{length-map}
use Rattle.std.proofs.lemmas.List.Elements.{All-nil, All-cons}
use Rattle.base_text.specs.Printable.{AllPrintable, is_printable}
use Rattle.base_text.proofs.Printables.{append_printable}
use Rattle.base_decimal.specs.Decimal.{fits}
use Rattle.base_decimal.specs.Written.{decimal_read, decimal_written}
use Rattle.base_decimal.proofs.RoundTrip.{reads_back}
use Rattle.base_refusals.specs.declared.line.LineFault.{LineFault}
use Rattle.base_refusals.specs.declared.line.LineFault.TheVariants.{NumberTooWide, TextTooLong}
use Rattle.base_value.specs.declared.value.Value.{Value}
use Rattle.base_value.specs.declared.value.Value.TheVariants as value
use Rattle.base_schema.specs.declared.column.ColumnKind.{ColumnKind}
use Rattle.base_schema.specs.declared.column.ColumnKind.TheVariants.{Key, Whole, Decimal, Date, Text}
use Rattle.base_schema.specs.declared.column.LineColumn.{LineColumn}
use Rattle.base_schema.specs.LineForm.{LineForm}
use Rattle.store_file_reader.specs.Field.{kind_field, spells_null, column_value, date_field}
use Rattle.store_file_reader.specs.File.{line_row}
use Rattle.store_file_reader.specs.Line.{is_bar, line_text, row_of, without_end}
use Rattle.store_file_reader.specs.LineLaws.{value_said}
use Rattle.store_file_reader.specs.Natural.{IsNatural}
use Rattle.store_file_reader.specs.Reading.{is_unended}
use Rattle.store_file_reader.proofs.FieldLaws.{values_to}
use Rattle.store_file_reader.proofs.Nulls.{not_null, value_of_other}
use Rattle.store_file_reader.proofs.LineCuts.{unended-nil, unended-append, unended-cons}
use Rattle.store_file_reader.proofs.PlainNumbers.{key_holds, whole_holds}
use Rattle.app_sample_data.specs.Fields.{field, money, date_text}
use Rattle.app_sample_data.specs.Lines.{fields}
use Rattle.law_made_tables.proofs.Dates.{made_date, date_read, day_is_text}
use Rattle.law_made_tables.proofs.Texts.{IsText, is_plain, text_more, short_decimal, money_text}

-- A field of a made line: a key or a whole number, an amount, a text for a column of n bytes, or a
-- date.
pub data Made : Type 0 where
  key : (n : ℕ) → Made
  whole : (n : ℕ) → Made
  amount : (c : ℤ) → Made
  text : (most : ℕ) (bytes : List ℕ) → Made
  date : (days : ℕ) → Made

-- its bytes
abbrev pub made_bytes : Made → List ℕ
made_bytes (key n) = decimal n
made_bytes (whole n) = decimal n
made_bytes (amount c) = money c
made_bytes (text most bytes) = bytes
made_bytes (date days) = date_text days

-- its column's kind
abbrev pub made_kind : Made → ColumnKind
made_kind (key n) = Key
made_kind (whole n) = Whole
made_kind (amount c) = Decimal
made_kind (text most bytes) = Text most
made_kind (date days) = Date

-- the columns are of the kinds that the fields are for
abbrev pub AreOf : List Made → List LineColumn → Type 0
AreOf ms columns = map (λ column. column.kind) columns ≡ map made_kind ms

-- its value
abbrev pub made_value : Made → Value
made_value (key n) = value.Number 0 (pos n)
made_value (whole n) = value.Number 0 (pos n)
made_value (amount c) = value.Number 2 c
made_value (text most bytes) = value.Text bytes
made_value (date days) = value.Date (made_date days)

-- a text that fits its column, and is short
pub record IsShort (most : ℕ) (bytes : List ℕ) : Type 0 where
  pub size : ℕ
  pub is : IsText size bytes
  pub within : size ≤ most
  pub short : size ≤ 30

-- its column can hold it
abbrev pub IsMade : Made → Type 0
IsMade (key n) = n < 10 ^ 12
IsMade (whole n) = n < 10 ^ 12
IsMade (amount c) = unsigned_abs c < 10 ^ 12
IsMade (text most bytes) = IsShort most bytes
IsMade (date days) = days ≤ 4000

-- each of them is so
abbrev pub AreMade : List Made → Type 0
AreMade [] = Unit {0}
AreMade (m ∷ ms) = IsMade m × AreMade ms

-- the bytes of each

pub bytes_text : (m : Made) → IsMade m → IsText 30 (made_bytes m)
bytes_text (key n) h = text_more 12 30 _ (omega arith) (short_decimal n h)
bytes_text (whole n) h = text_more 12 30 _ (omega arith) (short_decimal n h)
bytes_text (amount c) h = text_more 16 30 _ (omega arith) (money_text c h)
bytes_text (text most bytes) h = text_more h.size 30 bytes h.short h.is
bytes_text (date days) h = text_more 10 30 _ (omega arith) (day_is_text days)

-- the value of each

none_below : (n : ℕ) → nat_lt n 0 ≡ false
none_below n = grind (arith, nat_tests)

written : (n : ℕ) → decimal_written (pos n) 0 ≡ decimal n
written n = rw (none_below n) refl

whole_read : (n : ℕ) → n < 10 ^ 12 → decimal_read (decimal n) 0 ≡ Ok (pos n)
whole_read n h = ap (λ bytes. decimal_read bytes 0) (sym (written n)) ∙ reads_back (pos n) 0 (lt-ltb n (2 ^ 127) (omega arith)) (omega arith)

natural : (n : ℕ) → n < 10 ^ 12 → IsNatural (pos n)
natural n h = record { sign = none_below n; narrow = lt-ltb n (2 ^ 63) (omega arith) }

fits_amount : (c : ℤ) → unsigned_abs c < 10 ^ 12 → fits c ≡ true
fits_amount (pos n) h = lt-ltb n (2 ^ 127) (omega arith)
fits_amount (negsuc n) h = lt-ltb n (2 ^ 127) (omega arith)

amount_read : (c : ℤ) → unsigned_abs c < 10 ^ 12 → decimal_read (money c) 2 ≡ Ok c
amount_read c h = reads_back c 2 (fits_amount c h) (omega arith)

held : (b : Bool) (v : Value) (fault : LineFault) → b ≡ true → ◌≡◌ {A = Result Value LineFault} (cond b (Ok v) (Err fault)) (Ok v)
held b v fault e = rw e refl

amount_holds : (c : ℤ) → unsigned_abs c < 10 ^ 12 → kind_field Decimal (money c) ≡ Ok (value.Number 2 c)
amount_holds c h = rw (amount_read c h) (held _ (value.Number 2 c) NumberTooWide (lt-ltb (unsigned_abs c) (2 ^ 63) (omega arith)))

date_holds : (days : ℕ) → days ≤ 4000 → kind_field Date (date_text days) ≡ Ok (value.Date (made_date days))
date_holds days h = ap date_field (date_read days h)

one_printable : (b : ℕ) → is_printable b ≡ true → AllPrintable (b ∷ [])
one_printable b e = rw e refl

printable : (bytes : List ℕ) → list_all is_plain bytes ≡ true → AllPrintable bytes
printable [] e = refl
printable (b ∷ bytes) e =
    let parts = and_parts (is_plain b) (list_all is_plain bytes) e in
    let no_slash = and_parts (is_printable b && not (b == 124)) (not (b == 92)) parts.0 in
    append_printable (b ∷ []) bytes (one_printable b (and_parts (is_printable b) (not (b == 124)) no_slash.0).0) (printable bytes parts.1)

text_holds : (most : ℕ) (bytes : List ℕ) → IsShort most bytes → kind_field (Text most) bytes ≡ Ok (value.Text bytes)
text_holds most bytes h =
    rw (printable bytes h.is.plain) (held (nat_le (length bytes) most) (value.Text bytes) TextTooLong (le-leb (length bytes) most (omega (arith, h.is.short, h.within))))

kind_said : (m : Made) → IsMade m → kind_field (made_kind m) (made_bytes m) ≡ Ok (made_value m)
kind_said (key n) h = key_holds (decimal n) (pos n) (whole_read n h) (natural n h)
kind_said (whole n) h = whole_holds (decimal n) (pos n) (whole_read n h) (natural n h)
kind_said (amount c) h = amount_holds c h
kind_said (text most bytes) h = text_holds most bytes h
kind_said (date days) h = date_holds days h

not_plain : ◌≡◌ {A = Bool} false true → ⊥
not_plain e = cc

not_null_bytes : (bytes : List ℕ) → list_all is_plain bytes ≡ true → spells_null bytes ≡ false
not_null_bytes bytes e = not_null bytes (spells_null bytes) refl (λ is. not_plain (ap (list_all is_plain) (sym is) ∙ e))

said : (column : LineColumn) (m : Made) → column.kind ≡ made_kind m → IsMade m → column_value column (made_bytes m) ≡ Ok (made_value m)
said column m e h =
    value_of_other column (made_bytes m) (Ok (made_value m)) (not_null_bytes (made_bytes m) (bytes_text m h).plain)
    (ap (λ kind. kind_field kind (made_bytes m)) e ∙ kind_said m h)

-- plain bytes

plain_bar : (b : ℕ) → is_plain b ≡ true → is_bar b ≡ false
plain_bar b e = grind (arith, nat_tests)

plain_end : (b : ℕ) → is_plain b ≡ true → (b == 10) ≡ false
plain_end b e = grind (arith, nat_tests)

no_bar : (bytes : List ℕ) → list_all is_plain bytes ≡ true → list_any is_bar bytes ≡ false
no_bar [] e = refl
no_bar (b ∷ bytes) e =
    let parts = and_parts (is_plain b) (list_all is_plain bytes) e in
    rw (plain_bar b parts.0, no_bar bytes parts.1) refl

unended : (bytes : List ℕ) → list_all is_plain bytes ≡ true → is_unended bytes ≡ true
unended [] e = unended-nil
unended (b ∷ bytes) e =
    let parts = and_parts (is_plain b) (list_all is_plain bytes) e in
    unended-cons b bytes (plain_end b parts.0) (unended bytes parts.1)

-- all fields of a line

-- the line without its end
abbrev pub body : List Made → List ℕ
body ms = fields (map made_bytes ms)

bars : (ms : List Made) → AreMade ms → All (λ bytes. list_any is_bar bytes ≡ false) (map made_bytes ms)
bars [] h = All-nil (λ bytes. list_any is_bar bytes ≡ false)
bars (m ∷ ms) h = All-cons (λ bytes. list_any is_bar bytes ≡ false) (made_bytes m) (map made_bytes ms) (no_bar (made_bytes m) (bytes_text m h.0).plain) (bars ms h.1)

all_said : (columns : List LineColumn) (ms : List Made) → AreOf ms columns → AreMade ms → map value_said (zip columns (map made_bytes ms)) ≡ map Ok (map made_value ms)
all_said [] [] e h = refl
all_said [] (m ∷ ms) e h = cc
all_said (column ∷ columns) [] e h = cc
all_said (column ∷ columns) (m ∷ ms) e h =
    let here : column.kind ≡ made_kind m = cc in
    let others : AreOf ms columns = cc in
    λ i. said column m here h.0 i ∷ all_said columns ms others h.1 i

joined : (m : Made) (ms : List Made) → body (m ∷ ms) ≡ join_with_byte 124 (map made_bytes (m ∷ ms)) ++ 124 ∷ []
unfolding field
joined m [] = append-nil (made_bytes m ++ 124 ∷ [])
joined m (n ∷ ms) =
    ap (λ rest. (made_bytes m ++ 124 ∷ []) ++ rest) (joined n ms)
    ∙ append_assoc (made_bytes m) (124 ∷ []) (join_with_byte 124 (map made_bytes (n ∷ ms)) ++ 124 ∷ [])
    ∙ sym (append_assoc (made_bytes m) (124 ∷ join_with_byte 124 (map made_bytes (n ∷ ms))) (124 ∷ []))

lengths : (columns : List LineColumn) (ms : List Made) → AreOf ms columns → length (map made_bytes ms) ≡ length columns
lengths columns ms e =
    length-map ms made_bytes ∙ sym (length-map ms made_kind) ∙ sym (ap length e) ∙ length-map columns (λ column. column.kind)

pub body_unended : (ms : List Made) → AreMade ms → is_unended (body ms) ≡ true
unfolding field
body_unended [] h = unended-nil
body_unended (m ∷ ms) h =
    unended-append (made_bytes m ++ 124 ∷ []) (body ms) (unended-append (made_bytes m) (124 ∷ []) (unended (made_bytes m) (bytes_text m h.0).plain) (unended-cons 124 [] refl unended-nil)) (body_unended ms h.1)

pub body_short : (ms : List Made) → AreMade ms → length (body ms) ≤ 31 * length ms
unfolding field
body_short [] h = omega arith
body_short (m ∷ ms) h =
    omega (arith, length-append (made_bytes m ++ 124 ∷ []) (body ms), length-append (made_bytes m) (124 ∷ []), (bytes_text m h.0).short, body_short ms h.1)

-- the end of a line

last_is : (front : List ℕ) (b : ℕ) → drop (length (front ++ b ∷ []) - 1) (front ++ b ∷ []) ≡ b ∷ []
last_is front b =
    let n : length (front ++ b ∷ []) - 1 ≡ length front = omega (arith, length-append front (b ∷ [])) in
    rw n (drop-append_seam front (b ∷ []))

front_is : (front : List ℕ) (b : ℕ) → take (length (front ++ b ∷ []) - 1) (front ++ b ∷ []) ≡ front
front_is front b =
    let n : length (front ++ b ∷ []) - 1 ≡ length front = omega (arith, length-append front (b ∷ [])) in
    rw n (take-append_seam front (b ∷ []))

without_last : (front : List ℕ) → without_end 10 (front ++ 10 ∷ []) ≡ front
without_last front = rw (last_is front 10) (front_is front 10)

without_other : (front : List ℕ) → without_end 13 (front ++ 124 ∷ []) ≡ front ++ 124 ∷ []
without_other front = rw (last_is front 124) refl

line_is : (m : Made) (ms : List Made) → line_text (body (m ∷ ms) ++ 10 ∷ []) ≡ body (m ∷ ms)
line_is m ms =
    ap (without_end 13) (without_last (body (m ∷ ms)) ∙ joined m ms) ∙ without_other (join_with_byte 124 (map made_bytes (m ∷ ms))) ∙ sym (joined m ms)

-- the row of a line
pub row_read : (form : LineForm) (m : Made) (ms : List Made) → AreOf (m ∷ ms) form.columns → AreMade (m ∷ ms)
    → line_row form (body (m ∷ ms) ++ 10 ∷ []) ≡ Ok (map made_value (m ∷ ms))
row_read form m ms columns h =
    ap (row_of form.columns) (line_is m ms)
    ∙ values_to form.columns (body (m ∷ ms)) (omega (arith, lengths form.columns (m ∷ ms) columns)) (map made_value (m ∷ ms)) (record {
      fields = map made_bytes (m ∷ ms);
      parted = record {
        as_many = lengths form.columns (m ∷ ms) columns;
        no_bar = bars (m ∷ ms) h;
        parted = inr (joined m ms);
      };
      said = all_said form.columns (m ∷ ms) columns h;
    })
