-- What is put between quotes is some printable text with each quote in it twice.
use Rattle.std.proofs.Common.{◌≡◌, ℕ, zero, suc, ◌-◌, ◌<◌, ◌≤◌, ◌^◌, ◌/◌, Bool, true, false, cond, eqb, not, List, [], ◌∷◌, ◌++◌, length, map, Option, Some, None, pos, negsuc, refl, sym, ap, subst, arith, append_assoc}
use Rattle.std.specs.Prelude.{slice_index_or, int_lt, position}
use Rattle.std.specs.Char.{is_ascii_digit}
use Rattle.std.specs.Fmt.{decimal}
use Rattle.std.specs.List.{list_all}
use Rattle.std.specs.Str.{all_ascii_digits}
use Rattle.std.proofs.lemmas.Bool.Decides.{nat_tests}
use Rattle.std.proofs.lemmas.Grind.{flat_map-append}
use Rattle.std.proofs.Math.Nat.{div-le_self}
use Rattle.std.proofs.Math.Seq.{take-length}
use Rattle.base_text.specs.Printable.{is_printable, AllPrintable}
use Rattle.base_text.proofs.Printables.{append_printable, part_printable}
use Rattle.base_decimal.specs.Written.{last_digits, size_written, decimal_written}
use Rattle.sql_ast.specs.declared.statement.TemplateValue.{TemplateValue}
use Rattle.sql_ast.specs.declared.statement.TemplateValue.TheVariants as value
use Rattle.sql_lexer.proofs.Truths.{and_left, and_right}
use Rattle.sql_templates.specs.Parts.{is_plain, text_with}
use Rattle.sql_templates.specs.Templates.{doubled, put, put_value, place_with}
use Rattle.sql_templates.specs.Writable.{IsWritable, AreWritable}
use Rattle.sql_templates.proofs.Fronts.{never}
use Rattle.sql_templates.proofs.Numbers.{decimal_digits, last_digits_digits}
use Rattle.sql_templates.proofs.Quoted.{IsDoubled}

doubled-append : (u v : List ℕ) → doubled (u ++ v) ≡ doubled u ++ doubled v
doubled-append u v = flat_map-append (λ b. cond (eqb b 39) (39 ∷ b ∷ []) (b ∷ [])) u v

pub doubled_both : (w x : List ℕ) → IsDoubled w → IsDoubled x → IsDoubled (w ++ x)
doubled_both w x h g = record {
  plain = h.plain ++ g.plain;
  is = rw (h.is, g.is) (sym (doubled-append h.plain g.plain));
  printable = append_printable w x h.printable g.printable;
}

pub doubled_none : IsDoubled []
doubled_none = record { plain = []; is = refl; printable = refl }

one_printable : (b : ℕ) → is_printable b ≡ true → AllPrintable (b ∷ [])
one_printable b e = rw (e) refl

-- a byte that is no quote stands for itself
pub doubled_byte : (b : ℕ) → is_plain b ≡ true → IsDoubled (b ∷ [])
doubled_byte b e = record { plain = b ∷ []; is = by (eqb b 39) refl; printable = one_printable b (and_left _ _ e) }
  where
    by : (t : Bool) → eqb b 39 ≡ t → b ∷ [] ≡ cond t (39 ∷ b ∷ []) (b ∷ []) ++ []
    by true q = never (let r = and_right _ _ e in subst (λ z. not z ≡ true) q r)
    by false q = refl

-- plain bytes stand for themselves
pub doubled_plain : (w : List ℕ) → list_all is_plain w ≡ true → IsDoubled w
doubled_plain [] e = doubled_none
doubled_plain (b ∷ bs) e = doubled_both (b ∷ []) bs (doubled_byte b (and_left _ _ e)) (doubled_plain bs (and_right _ _ e))

pub plain_is : (w : List ℕ) → list_all is_plain w ≡ true → doubled w ≡ w
plain_is [] e = refl
plain_is (b ∷ bs) e = by (eqb b 39) refl (plain_is bs (and_right _ _ e))
  where
    by : (t : Bool) → eqb b 39 ≡ t → doubled bs ≡ bs → cond t (39 ∷ b ∷ []) (b ∷ []) ++ doubled bs ≡ b ∷ bs
    by true q h = never (let r = and_right _ _ (and_left _ _ e) in subst (λ z. not z ≡ true) q r)
    by false q h = ap (λ x. b ∷ x) h

digit_plain : (d : ℕ) → is_ascii_digit d ≡ true → is_plain d ≡ true
digit_plain d h = grind (arith, nat_tests)

pub digits_plain : (ds : List ℕ) → all_ascii_digits ds ≡ true → list_all is_plain ds ≡ true
digits_plain [] h = refl
digits_plain (d ∷ ds) h = rw (digit_plain d (and_left (is_ascii_digit d) (all_ascii_digits ds) h), digits_plain ds (and_right (is_ascii_digit d) (all_ascii_digits ds) h)) refl

-- the place of one byte, where it is not printable
abbrev odd : Bool → Option ℕ
odd z = position {X = ℕ} (λ x. not z) (0 ∷ [])

first_printable : (b : ℕ) → AllPrintable (b ∷ []) → is_printable b ≡ true
first_printable b h = by (is_printable b) refl h
  where
    by : (t : Bool) → is_printable b ≡ t → AllPrintable (b ∷ []) → t ≡ true
    by true e h = refl
    by false e h = absurd (let some : Some 0 ≡ None = subst (λ z. odd z ≡ None) e h in cc)

printable_head : (b : ℕ) (bs : List ℕ) → AllPrintable (b ∷ bs) → (is_printable b ≡ true) × AllPrintable bs
printable_head b bs h =
    (first_printable b (part_printable (b ∷ bs) 0 1 h), subst AllPrintable (take-length bs) (part_printable (b ∷ bs) 1 (length bs) h))

printable_doubled : (u : List ℕ) → AllPrintable u → AllPrintable (doubled u)
printable_doubled [] h = refl
printable_doubled (b ∷ bs) h =
    let parts = printable_head b bs h in
    append_printable (cond (eqb b 39) (39 ∷ b ∷ []) (b ∷ [])) (doubled bs) (by (eqb b 39) parts.0) (printable_doubled bs parts.1)
  where
    by : (t : Bool) → is_printable b ≡ true → AllPrintable (cond t (39 ∷ b ∷ []) (b ∷ []))
    by true e = append_printable (39 ∷ []) (b ∷ []) refl (one_printable b e)
    by false e = one_printable b e

size_doubled : (n places : ℕ) → n < 2 ^ 128 → IsDoubled (size_written n places)
size_doubled n zero h = doubled_plain (decimal n) (digits_plain (decimal n) (decimal_digits n (omega (arith, h))))
size_doubled n (suc places) h =
    let less : n / 10 ^ suc places ≤ n = div-le_self n (10 ^ suc places) in
    let whole = doubled_plain (decimal (n / 10 ^ suc places)) (digits_plain (decimal (n / 10 ^ suc places)) (decimal_digits (n / 10 ^ suc places) (omega (arith, less, h)))) in
    let rest = doubled_plain (last_digits (suc places) n) (digits_plain (last_digits (suc places) n) (last_digits_digits (suc places) n)) in
    doubled_both (decimal (n / 10 ^ suc places)) (46 ∷ last_digits (suc places) n) whole (doubled_both (46 ∷ []) (last_digits (suc places) n) (doubled_byte 46 refl) rest)

put_doubled : (v : TemplateValue) → IsWritable v → IsDoubled (put v)
put_doubled (value.Text text) h = record { plain = text; is = refl; printable = printable_doubled text h }
put_doubled (value.Number (pos n) places) h =
    let small : n < 2 ^ 128 = (let fit = h.0 in grind (arith, nat_tests)) in
    subst IsDoubled (sym (unsigned n places)) (size_doubled n places small)
  where
    unsigned : (n places : ℕ) → decimal_written (pos n) places ≡ size_written n places
    unsigned n places = rw (none n) refl
      where
        none : (n : ℕ) → int_lt (pos n) (pos 0) ≡ false
        none n = grind (arith, nat_tests)
put_doubled (value.Number (negsuc n) places) h =
    let small : suc n < 2 ^ 128 = (let fit = h.0 in grind (arith, nat_tests)) in
    doubled_both (45 ∷ []) (size_written (suc n) places) (doubled_byte 45 refl) (size_doubled (suc n) places small)

pub value_doubled : (values : List TemplateValue) → AreWritable values → (n : ℕ) → IsDoubled (slice_index_or (map put values) n [])
value_doubled [] h n = doubled_none
value_doubled (v ∷ values) h zero = put_doubled v h.0
value_doubled (v ∷ values) h (suc n) = value_doubled values h.1 n

-- a text with values put in is doubled, and stands before what comes after it
pub record IsText (values : List TemplateValue) (place : Option ℕ) (text : List ℕ) : Type 0 where
  pub bytes : List ℕ
  pub is : (tail : List ℕ) → text_with values place text tail ≡ bytes ++ tail
  pub doubled : IsDoubled bytes

module _ (values : List TemplateValue) (h : AreWritable values) where
  put_at : (n : ℕ) → IsDoubled (put_value values n)
  put_at n = value_doubled values h (n - 1)

  pub text_is : (place : Option ℕ) (text : List ℕ) → list_all is_plain text ≡ true → IsText values place text
  text_is None [] e = record { bytes = []; is = λ tail. refl; doubled = doubled_none }
  text_is (Some n) [] e = record { bytes = put_value values n; is = λ tail. refl; doubled = put_at n }
  text_is None (b ∷ bs) e = by (eqb b 58) (text_is (Some 0) bs (and_right (is_plain b) (list_all is_plain bs) e)) (text_is None bs (and_right (is_plain b) (list_all is_plain bs) e)) refl
    where
      by : (t : Bool) → IsText values (Some 0) bs → IsText values None bs → eqb b 58 ≡ t → IsText values None (b ∷ bs)
      by true opened copied q = record { bytes = opened.bytes; is = λ tail. rw (q) (opened.is tail); doubled = opened.doubled }
      by false opened copied q = record {
        bytes = b ∷ copied.bytes;
        is = λ tail. rw (q) (ap (λ x. b ∷ x) (copied.is tail));
        doubled = doubled_both (b ∷ []) copied.bytes (doubled_byte b (and_left (is_plain b) (list_all is_plain bs) e)) copied.doubled;
      }
  text_is (Some n) (b ∷ bs) e =
      let rest = and_right (is_plain b) (list_all is_plain bs) e in
      by (text_is (Some (place_with n b)) bs rest) (text_is (Some 0) bs rest) (text_is None bs rest) (is_ascii_digit b) (eqb b 58) refl refl
    where
      by : IsText values (Some (place_with n b)) bs → IsText values (Some 0) bs → IsText values None bs
          → (d t : Bool) → is_ascii_digit b ≡ d → eqb b 58 ≡ t → IsText values (Some n) (b ∷ bs)
      by more opened copied true t p q = record { bytes = more.bytes; is = λ tail. rw (p) (more.is tail); doubled = more.doubled }
      by more opened copied false true p q = record {
        bytes = put_value values n ++ opened.bytes;
        is = λ tail. rw (p, q, opened.is tail) (sym (append_assoc (put_value values n) opened.bytes tail));
        doubled = doubled_both (put_value values n) opened.bytes (put_at n) opened.doubled;
      }
      by more opened copied false false p q = record {
        bytes = put_value values n ++ b ∷ copied.bytes;
        is = λ tail. rw (p, q, copied.is tail) (sym (append_assoc (put_value values n) (b ∷ copied.bytes) tail));
        doubled = doubled_both (put_value values n) (b ∷ copied.bytes) (put_at n)
            (doubled_both (b ∷ []) copied.bytes (doubled_byte b (and_left (is_plain b) (list_all is_plain bs) e)) copied.doubled);
      }
