-- Bytes that no line's cut meets: no bar, no LF, no CR.
use Rattle.std.proofs.Common.{◌≡◌, ℕ, zero, suc, ◌+◌, ◌-◌, ◌/◌, ◌%◌, ◌^◌, ◌<◌, Bool, true, false, not, cond, ◌&&◌, ◌||◌, ◌==◌, List, [], ◌∷◌, ◌++◌, length, take, drop, refl, sym, ap, ◌∙◌, arith, length-append, ℤ, pos, Some, None}
use Rattle.std.specs.Prelude.{nat_lt, int_lt, unsigned_abs}
use Rattle.std.specs.Char.{is_ascii_digit}
use Rattle.std.specs.Fmt.{decimal}
use Rattle.std.specs.List.{list_all, list_any, prefix_len}
use Rattle.std.specs.Str.{all_ascii_digits}
use Rattle.std.specs.Str.Parse.{digits_value}
use Rattle.std.proofs.Math.Nat.{mod-lt, div-le_self}
use Rattle.std.proofs.Math.Seq.{take-append_seam, drop-append_seam}
use Rattle.std.proofs.lemmas.Bool.{and_parts, and_from}
use Rattle.std.proofs.lemmas.Bool.Decides.{nat_tests}
use Rattle.std.proofs.lemmas.Fmt.{decimal_is_IsNumeral_wide}
use Rattle.std.proofs.lemmas.List.Folds.{list_all-append}
use Rattle.std.proofs.lemmas.Str.Parse.{numerals_by_value, tells_all_ascii_digits, IsNumeralModel}
use Rattle.base_text.specs.Printable.{is_printable, AllPrintable}
use Rattle.base_decimal.specs.Written.{decimal_written, last_digits, size_written}
use Rattle.store_file_reader.specs.Line.{is_bar, without_end}
use Rattle.store_file_reader.specs.Reading.{is_unended}
use Rattle.store_file_reader.proofs.LineCuts.{unended-nil, unended-cons}

-- no bar, no LF, no CR
abbrev pub is_clean : ℕ → Bool
is_clean b = not (b == 124) && (not (b == 10) && not (b == 13))

clean_bar : (b : ℕ) → is_clean b ≡ true → is_bar b ≡ false
clean_bar b e = grind (arith, nat_tests)

clean_end : (b : ℕ) → is_clean b ≡ true → (b == 10) ≡ false
clean_end b e = grind (arith, nat_tests)

clean_return : (b : ℕ) → is_clean b ≡ true → (13 == b) ≡ false
clean_return b e = grind (arith, nat_tests)

pub no_bar : (bytes : List ℕ) → list_all is_clean bytes ≡ true → list_any is_bar bytes ≡ false
no_bar [] e = refl
no_bar (b ∷ bytes) e =
    let parts = and_parts (is_clean b) (list_all is_clean bytes) e in
    rw (clean_bar b parts.0, no_bar bytes parts.1) refl

pub unended : (bytes : List ℕ) → list_all is_clean bytes ≡ true → is_unended bytes ≡ true
unended [] e = unended-nil
unended (b ∷ bytes) e =
    let parts = and_parts (is_clean b) (list_all is_clean bytes) e in
    unended-cons b bytes (clean_end b parts.0) (unended bytes parts.1)

-- digits

digit_clean : (d : ℕ) → is_ascii_digit d ≡ true → is_clean d ≡ true
digit_clean d h = grind (arith, nat_tests)

digits_clean : (ds : List ℕ) → all_ascii_digits ds ≡ true → list_all is_clean ds ≡ true
digits_clean [] e = refl
digits_clean (d ∷ ds) e =
    let parts = and_parts (is_ascii_digit d) (all_ascii_digits ds) e in
    and_from _ _ (digit_clean d parts.0) (digits_clean ds parts.1)

own : IsNumeralModel (λ ds. all_ascii_digits ds ≡ true) (digits_value 10)
own = numerals_by_value _ tells_all_ascii_digits

decimal_clean : (n : ℕ) → n < 10 ^ 64 → list_all is_clean (decimal n) ≡ true
decimal_clean n h = digits_clean (decimal n) (own.from (decimal n) (decimal_is_IsNumeral_wide n h).0.1)

last_digit : (n : ℕ) → is_clean (48 + n % 10) ≡ true
last_digit n = let low : n % 10 < 10 = mod-lt n (omega arith) in grind (arith, nat_tests)

pub last_digits_clean : (places n : ℕ) → list_all is_clean (last_digits places n) ≡ true
last_digits_clean zero n = refl
last_digits_clean (suc places) n = and_from _ _ (last_digit (n / 10 ^ places)) (last_digits_clean places n)

pub clean_append : (xs ys : List ℕ) → list_all is_clean xs ≡ true → list_all is_clean ys ≡ true → list_all is_clean (xs ++ ys) ≡ true
clean_append xs ys e f = list_all-append is_clean xs ys ∙ and_from _ _ e f

size_clean : (n places : ℕ) → n < 10 ^ 64 → list_all is_clean (size_written n places) ≡ true
size_clean n zero h = decimal_clean n h
size_clean n (suc places) h =
    let less = div-le_self n (10 ^ suc places) in
    clean_append (decimal (n / 10 ^ suc places)) (46 ∷ last_digits (suc places) n) (decimal_clean (n / 10 ^ suc places) (omega (arith, less)))
    (last_digits_clean (suc places) n)

sign_clean : (b : Bool) → list_all is_clean (cond b (45 ∷ []) []) ≡ true
sign_clean true = refl
sign_clean false = refl

pub number_clean : (c : ℤ) (places : ℕ) → unsigned_abs c < 10 ^ 64 → list_all is_clean (decimal_written c places) ≡ true
number_clean c places h =
    clean_append (cond (int_lt c (pos 0)) (45 ∷ []) []) (size_written (unsigned_abs c) places) (sign_clean (int_lt c (pos 0))) (size_clean (unsigned_abs c) places h)

-- printable bytes

no_place : (t : Bool) (x : ℕ) → cond t (Some x) None ≡ None → t ≡ false
no_place true x h = cc
no_place false x h = refl

both_more : (p n : ℕ) → nat_lt (1 + p) (suc n) ≡ nat_lt p n
both_more p n = grind (arith, nat_tests)

first_more : (n : ℕ) → nat_lt 0 (suc n) ≡ true
first_more n = grind (arith, nat_tests)

no_fewer : (bytes : List ℕ) → nat_lt (prefix_len (λ byte. not (not (is_printable byte))) bytes) (length bytes) ≡ false → AllPrintable bytes
no_fewer bytes h = rw h refl

fewer : (bytes : List ℕ) → AllPrintable bytes → nat_lt (prefix_len (λ byte. not (not (is_printable byte))) bytes) (length bytes) ≡ false
fewer bytes h = no_place _ _ h

len_yes : (b : ℕ) (bytes : List ℕ) → is_printable b ≡ true → prefix_len (λ byte. not (not (is_printable byte))) (b ∷ bytes) ≡ 1 + prefix_len (λ byte. not (not (is_printable byte))) bytes
len_yes b bytes e = ap (λ t. cond (not (not t)) (1 + prefix_len (λ byte. not (not (is_printable byte))) bytes) 0) e

len_no : (b : ℕ) (bytes : List ℕ) → is_printable b ≡ false → prefix_len (λ byte. not (not (is_printable byte))) (b ∷ bytes) ≡ 0
len_no b bytes e = ap (λ t. cond (not (not t)) (1 + prefix_len (λ byte. not (not (is_printable byte))) bytes) 0) e

head_printable : (t : Bool) (b : ℕ) (bytes : List ℕ) → is_printable b ≡ t → AllPrintable (b ∷ bytes) → (t ≡ true) × AllPrintable bytes
head_printable true b bytes e h =
    (refl, no_fewer bytes (sym (both_more _ _) ∙ ap (λ k. nat_lt k (suc (length bytes))) (sym (len_yes b bytes e)) ∙ fewer (b ∷ bytes) h))
head_printable false b bytes e h =
    let bad : true ≡ false = sym (first_more (length bytes)) ∙ ap (λ k. nat_lt k (suc (length bytes))) (sym (len_no b bytes e)) ∙ fewer (b ∷ bytes) h in cc

printable_clean : (b : ℕ) → is_printable b ≡ true → is_bar b ≡ false → is_clean b ≡ true
printable_clean b e f = grind (arith, nat_tests)

or_parts : (a b : Bool) → (a || b) ≡ false → (a ≡ false) × (b ≡ false)
or_parts true b e = cc
or_parts false b e = (refl, e)

pub text_clean : (bytes : List ℕ) → AllPrintable bytes → list_any is_bar bytes ≡ false → list_all is_clean bytes ≡ true
text_clean [] p e = refl
text_clean (b ∷ bytes) p e =
    let first = head_printable (is_printable b) b bytes refl p in
    let bars = or_parts (is_bar b) (list_any is_bar bytes) e in
    and_from _ _ (printable_clean b first.0 bars.0) (text_clean bytes first.1 bars.1)

-- ends of lines

last_is : (front : List ℕ) (b : ℕ) → drop (length (front ++ b ∷ []) - 1) (front ++ b ∷ []) ≡ b ∷ []
last_is front b =
    let n : length (front ++ b ∷ []) - 1 ≡ length front = omega (arith, length-append front (b ∷ [])) in
    rw n (drop-append_seam front (b ∷ []))

front_is : (front : List ℕ) (b : ℕ) → take (length (front ++ b ∷ []) - 1) (front ++ b ∷ []) ≡ front
front_is front b =
    let n : length (front ++ b ∷ []) - 1 ≡ length front = omega (arith, length-append front (b ∷ [])) in
    rw n (take-append_seam front (b ∷ []))

pub without_last : (front : List ℕ) → without_end 10 (front ++ 10 ∷ []) ≡ front
without_last front = rw (last_is front 10) (front_is front 10)

pub without_other : (front : List ℕ) (b : ℕ) → (13 == b) ≡ false → without_end 13 (front ++ b ∷ []) ≡ front ++ b ∷ []
without_other front b e = rw (last_is front b, e) refl

-- a list's last byte
record Last (bytes : List ℕ) : Type 0 where
  front : List ℕ
  byte : ℕ
  is : bytes ≡ front ++ byte ∷ []
  clean : is_clean byte ≡ true

last_of : (b : ℕ) (bytes : List ℕ) → list_all is_clean (b ∷ bytes) ≡ true → Last (b ∷ bytes)
last_of b [] e = record { front = []; byte = b; is = refl; clean = (and_parts (is_clean b) true e).0 }
last_of b (c ∷ bytes) e =
    let rest = last_of c bytes (and_parts (is_clean b) (list_all is_clean (c ∷ bytes)) e).1 in
    record { front = b ∷ rest.front; byte = rest.byte; is = ap (λ (l : List ℕ). b ∷ l) rest.is; clean = rest.clean }

-- clean bytes end with no CR
pub without_return : (bytes : List ℕ) → list_all is_clean bytes ≡ true → without_end 13 bytes ≡ bytes
without_return [] e = refl
without_return (b ∷ bytes) e =
    let last = last_of b bytes e in
    ap (without_end 13) last.is ∙ without_other last.front last.byte (clean_return last.byte last.clean) ∙ sym last.is
