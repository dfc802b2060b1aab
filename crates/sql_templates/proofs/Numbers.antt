-- A number as answers print it is one token.
use Rattle.std.proofs.Common.{◌≡◌, ℕ, zero, suc, ◌+◌, ◌-◌, ◌*◌, ◌/◌, ◌%◌, ◌^◌, ◌<◌, ◌≤◌, Bool, true, false, cond, eqb, not, ◌&&◌, List, [], ◌∷◌, ◌++◌, length, take, drop, filter, Some, Ok, pos, refl, sym, ap, subst, ◌∙◌, arith, append_assoc, append-nil, length-append, mul_comm}
use Rattle.std.specs.Prelude.{nat_lt}
use Rattle.std.specs.Char.{digit_value, is_ascii_digit}
use Rattle.std.specs.Fmt.{decimal}
use Rattle.std.specs.List.{prefix_len}
use Rattle.std.specs.Str.{all_ascii_digits}
use Rattle.std.specs.Str.Parse as parse
use Rattle.std.proofs.lemmas.Bool.Decides.{nat_tests}
use Rattle.std.proofs.lemmas.Fmt.{decimal_is_IsNumeral_wide}
use Rattle.std.proofs.lemmas.Str.Parse.{numerals_by_value, tells_all_ascii_digits, IsNumeralModel}
use Rattle.std.proofs.Math.Arith.{mod-mul}
use Rattle.std.proofs.Math.Nat.{div-add-mod, div-le_self, pow-suc, mod-lt}
use Rattle.std.proofs.Math.Seq.{drop-append_seam, take-append_seam}
use Rattle.std.proofs.lemmas.List.Folds.{list_all-append}
use Rattle.base_decimal.specs.Written.{last_digits, size_written}
use Rattle.base_decimal.proofs.Digits.{value_join}
use Rattle.base_decimal.proofs.Powers.{power_above}
use Rattle.sql_lexer.specs.declared.front.Form.TheVariants as form
use Rattle.sql_lexer.specs.declared.kind.Kind.TheVariants as k
use Rattle.sql_lexer.specs.declared.token.Content.TheVariants as content
use Rattle.sql_lexer.specs.declared.token.Token.{Token}
use Rattle.sql_lexer.specs.Bytes.{is_blank, is_letter}
use Rattle.sql_lexer.specs.Forms.{made, number_made, coefficient, scale, digits_value}
use Rattle.sql_lexer.specs.Fronts.{number_len, front_of}
use Rattle.sql_lexer.specs.Lexing.{Lexes, gap_len, glued, starts_letter}
use Rattle.sql_lexer.proofs.Truths.{and_left, and_right}
use Rattle.sql_templates.specs.Cutting.{head_of}
use Rattle.sql_templates.proofs.Fronts.{never}
use Rattle.sql_templates.proofs.Cutting.{token_step}

own : IsNumeralModel (λ ds. all_ascii_digits ds ≡ true) (parse.digits_value 10)
own = numerals_by_value _ tells_all_ascii_digits

pub decimal_digits : (n : ℕ) → n < 10 ^ 64 → all_ascii_digits (decimal n) ≡ true
decimal_digits n h = own.from (decimal n) (decimal_is_IsNumeral_wide n h).0.1

decimal_value : (n : ℕ) → n < 10 ^ 64 → parse.digits_value 10 (decimal n) ≡ n
decimal_value n h = (decimal_is_IsNumeral_wide n h).1

pub decimal_some : (n : ℕ) → n < 10 ^ 64 → 0 < length (decimal n)
decimal_some n h = (decimal_is_IsNumeral_wide n h).0.0

digit_is : (d : ℕ) → d < 10 → is_ascii_digit (48 + d) ≡ true
digit_is d h = grind (arith, nat_tests)

pub last_digits_digits : (places n : ℕ) → all_ascii_digits (last_digits places n) ≡ true
last_digits_digits zero n = refl
last_digits_digits (suc places) n = rw (digit_is (n / 10 ^ places % 10) (mod-lt (n / 10 ^ places) (omega arith))) (last_digits_digits places n)

pub length-last_digits : (places n : ℕ) → length (last_digits places n) ≡ places
length-last_digits zero n = refl
length-last_digits (suc places) n = ap suc (length-last_digits places n)

-- no digit and no point comes first
abbrev pub ends_here : List ℕ → Bool
ends_here r = not (is_ascii_digit (head_of r)) && (not (eqb (head_of r) 46) && not (is_letter (head_of r)))

not_true : (t : Bool) → not t ≡ true → t ≡ false
not_true true e = never e
not_true false e = refl

ends : (r : List ℕ) → ends_here r ≡ true → (is_ascii_digit (head_of r) ≡ false) × (eqb (head_of r) 46 ≡ false) × (is_letter (head_of r) ≡ false)
ends r e =
    let others = and_right _ _ e in
    (not_true _ (and_left _ _ e), not_true _ (and_left _ _ others), not_true _ (and_right _ _ others))

number_len_end : (r : List ℕ) → ends_here r ≡ true → number_len r ≡ 0
number_len_end [] e = refl
number_len_end (b ∷ bs) e = let h = ends (b ∷ bs) e in rw (h.0, h.1) refl

prefix_end : (r : List ℕ) → ends_here r ≡ true → prefix_len is_ascii_digit r ≡ 0
prefix_end [] e = refl
prefix_end (b ∷ bs) e = let h = ends (b ∷ bs) e in rw (h.0) refl

number_len_digits : (ds r : List ℕ) → all_ascii_digits ds ≡ true → number_len (ds ++ r) ≡ length ds + number_len r
number_len_digits [] r h = omega arith
number_len_digits (d ∷ ds) r h = rw (and_left (is_ascii_digit d) (all_ascii_digits ds) h, number_len_digits ds r (and_right (is_ascii_digit d) (all_ascii_digits ds) h)) (omega arith)

prefix_digits : (ds r : List ℕ) → all_ascii_digits ds ≡ true → prefix_len is_ascii_digit (ds ++ r) ≡ length ds + prefix_len is_ascii_digit r
prefix_digits [] r h = omega arith
prefix_digits (d ∷ ds) r h = rw (and_left (is_ascii_digit d) (all_ascii_digits ds) h, prefix_digits ds r (and_right (is_ascii_digit d) (all_ascii_digits ds) h)) (omega arith)

filter_digits : (ds r : List ℕ) → all_ascii_digits ds ≡ true → filter is_ascii_digit (ds ++ r) ≡ ds ++ filter is_ascii_digit r
filter_digits [] r h = refl
filter_digits (d ∷ ds) r h = rw (and_left (is_ascii_digit d) (all_ascii_digits ds) h) (ap (λ x. d ∷ x) (filter_digits ds r (and_right (is_ascii_digit d) (all_ascii_digits ds) h)))

-- the lexer's value of digits is std's
value_is : (n : ℕ) (ds : List ℕ) → all_ascii_digits ds ≡ true → digits_value n ds ≡ parse.digits_value_after 10 n ds
value_is n [] h = refl
value_is n (d ∷ ds) h =
    let one : 10 * n + (d - 48) ≡ n * 10 + digit_value d = digit d n (and_left _ _ h) in
    ap (λ m. digits_value m ds) one ∙ value_is (n * 10 + digit_value d) ds (and_right _ _ h)
  where
    digit : (d n : ℕ) → is_ascii_digit d ≡ true → 10 * n + (d - 48) ≡ n * 10 + digit_value d
    digit d n h = grind (arith, nat_tests)

digit_letter : (b : ℕ) → is_ascii_digit b ≡ true → is_letter b ≡ false
digit_letter b h = grind (arith, nat_tests)

digit_gap : (d : ℕ) (y : List ℕ) → is_ascii_digit d ≡ true → gap_len (d ∷ y) ≡ 0
digit_gap d y h = by y
  where
    blank : is_blank d ≡ false
    blank = grind (arith, nat_tests)

    minus : eqb d 45 ≡ false
    minus = grind (arith, nat_tests)

    by : (y : List ℕ) → gap_len (d ∷ y) ≡ 0
    by [] = rw (blank) refl
    by (c ∷ cs) = rw (blank, minus) refl

starts_end : (r : List ℕ) → ends_here r ≡ true → starts_letter r ≡ false
starts_end [] e = refl
starts_end (b ∷ bs) e = (ends (b ∷ bs) e).2

-- the token of digits that are spelled so: w is their tail
module _ (start d : ℕ) (w r : List ℕ) (us : List Token) (value places : ℕ) (first : is_ascii_digit d ≡ true) where
  spelled_step : number_len (w ++ r) ≡ length w → coefficient (d ∷ w) ≡ value → scale (d ∷ w) ≡ places → value < 2 ^ 127 → places ≤ 18
      → ends_here r ≡ true → Lexes (start + suc (length w)) r us
      → Lexes start (d ∷ (w ++ r)) (record { kind = k.Number; content = content.Number (pos value) places; start = start; len = suc (length w) } ∷ us)
  spelled_step long c s small few e l =
      token_step start d (w ++ r) form.Number (suc (length w)) k.Number (content.Number (pos value) places) us (digit_gap d (w ++ r) first) front made_is free rest
    where
      front : front_of (d ∷ (w ++ r)) ≡ Some (form.Number, suc (length w))
      front = rw (digit_letter d first, first, long) refl

      taken : take (suc (length w)) (d ∷ (w ++ r)) ≡ d ∷ w
      taken = ap (λ x. d ∷ x) (take-append_seam w r)

      dropped : drop (suc (length w)) (d ∷ (w ++ r)) ≡ r
      dropped = drop-append_seam w r

      few_is : nat_lt 18 places ≡ false
      few_is = grind (arith, nat_tests)

      small_is : nat_lt value (2 ^ 127) ≡ true
      small_is = grind (arith, nat_tests)

      made_is : made form.Number (take (suc (length w)) (d ∷ (w ++ r))) ≡ Ok (k.Number, content.Number (pos value) places)
      made_is = ap (made form.Number) taken ∙ ap (λ v. number_made v (scale (d ∷ w))) c ∙ ap (number_made value) s ∙ rw (few_is, small_is) refl

      free : glued form.Number (drop (suc (length w)) (d ∷ (w ++ r))) ≡ false
      free = ap starts_letter dropped ∙ starts_end r e

      rest : Lexes (start + suc (length w)) (drop (suc (length w)) (d ∷ (w ++ r))) us
      rest = subst (λ x. Lexes (start + suc (length w)) x us) (sym dropped) l

-- the token of a number
pub record IsNumberToken (start : ℕ) (w r : List ℕ) (value places : ℕ) (us : List Token) : Type 0 where
  pub t : Token
  pub kind : t.kind ≡ k.Number
  pub content : t.content ≡ content.Number (pos value) places
  pub lexes : Lexes start (w ++ r) (t ∷ us)

module _ (start : ℕ) (r : List ℕ) (us : List Token) (n : ℕ) (small : n < 2 ^ 127) (e : ends_here r ≡ true) where
  -- a number without a point
  whole_token : (w : List ℕ) → all_ascii_digits w ≡ true → 0 < length w → parse.digits_value 10 w ≡ n → Lexes (start + length w) r us → IsNumberToken start w r n 0 us
  whole_token [] h some v l = absurd (omega (arith, some))
  whole_token (d ∷ ds) h some v l = record {
    t = record { kind = k.Number; content = content.Number (pos n) 0; start = start; len = suc (length ds) };
    kind = refl;
    content = refl;
    lexes = spelled_step start d ds r us n 0 (and_left (is_ascii_digit d) (all_ascii_digits ds) h) long c s small (omega arith) e l;
  }
    where
      long : number_len (ds ++ r) ≡ length ds
      long = number_len_digits ds r (and_right (is_ascii_digit d) (all_ascii_digits ds) h) ∙ (let none : number_len r ≡ 0 = number_len_end r e in omega (arith, none))

      kept : filter is_ascii_digit (d ∷ ds) ≡ d ∷ ds
      kept = ap (filter is_ascii_digit) (sym (append-nil (d ∷ ds))) ∙ filter_digits (d ∷ ds) [] h ∙ append-nil (d ∷ ds)

      c : coefficient (d ∷ ds) ≡ n
      c = ap (digits_value 0) kept ∙ value_is 0 (d ∷ ds) h ∙ v

      run : prefix_len is_ascii_digit (d ∷ ds) ≡ length (d ∷ ds) + 0
      run = ap (prefix_len is_ascii_digit) (sym (append-nil (d ∷ ds))) ∙ prefix_digits (d ∷ ds) [] h

      s : scale (d ∷ ds) ≡ 0
      s = omega (arith, run)

  -- a number with a point
  point_token : (w ls : List ℕ) → all_ascii_digits w ≡ true → 0 < length w → all_ascii_digits ls ≡ true → 0 < length ls → length ls ≤ 18
      → parse.digits_value_after 10 0 (w ++ ls) ≡ n → Lexes (start + length (w ++ 46 ∷ ls)) r us → IsNumberToken start (w ++ 46 ∷ ls) r n (length ls) us
  point_token [] ls h some g more few v l = absurd (omega (arith, some))
  point_token (d ∷ ds) ls h some g more few v l = record {
    t = record { kind = k.Number; content = content.Number (pos n) (length ls); start = start; len = suc (length (ds ++ 46 ∷ ls)) };
    kind = refl;
    content = refl;
    lexes = spelled_step start d (ds ++ 46 ∷ ls) r us n (length ls) (and_left (is_ascii_digit d) (all_ascii_digits ds) h) long c s small few e l;
  }
    where
      run : prefix_len is_ascii_digit (ls ++ r) ≡ length ls
      run = prefix_digits ls r g ∙ (let none : prefix_len is_ascii_digit r ≡ 0 = prefix_end r e in omega (arith, none))

      fraction : number_len (46 ∷ (ls ++ r)) ≡ 1 + length ls
      fraction = by (length ls) more run
        where
          no_zero : (m : ℕ) → cond (eqb (suc m) 0) 0 (1 + suc m) ≡ 1 + suc m
          no_zero m = by_test (eqb (suc m) 0) refl
            where
              by_test : (t : Bool) → eqb (suc m) 0 ≡ t → cond t 0 (1 + suc m) ≡ 1 + suc m
              by_test true q = absurd (grind (arith, nat_tests))
              by_test false q = refl

          by : (m : ℕ) → 0 < m → prefix_len is_ascii_digit (ls ++ r) ≡ m → cond (eqb (prefix_len is_ascii_digit (ls ++ r)) 0) 0 (1 + prefix_len is_ascii_digit (ls ++ r)) ≡ 1 + m
          by zero lt q = absurd (omega (arith, lt))
          by (suc m) lt q = rw (q) (no_zero m)

      long : number_len ((ds ++ 46 ∷ ls) ++ r) ≡ length (ds ++ 46 ∷ ls)
      long = ap number_len (append_assoc ds (46 ∷ ls) r) ∙ number_len_digits ds (46 ∷ (ls ++ r)) (and_right (is_ascii_digit d) (all_ascii_digits ds) h)
          ∙ ap (λ m. length ds + m) fraction ∙ omega (arith, length-append ds (46 ∷ ls))

      whole : List ℕ
      whole = d ∷ ds

      all : all_ascii_digits (d ∷ (ds ++ ls)) ≡ true
      all = list_all-append is_ascii_digit (d ∷ ds) ls ∙ rw (h, g) refl

      fraction_kept : filter is_ascii_digit ls ≡ ls
      fraction_kept = ap (filter is_ascii_digit) (sym (append-nil ls)) ∙ filter_digits ls [] g ∙ append-nil ls

      kept : filter is_ascii_digit (d ∷ (ds ++ 46 ∷ ls)) ≡ d ∷ (ds ++ ls)
      kept = filter_digits (d ∷ ds) (46 ∷ ls) h ∙ ap (λ x. d ∷ (ds ++ x)) fraction_kept

      c : coefficient (d ∷ (ds ++ 46 ∷ ls)) ≡ n
      c = ap (digits_value 0) kept ∙ value_is 0 (d ∷ (ds ++ ls)) all ∙ v

      front_run : prefix_len is_ascii_digit (d ∷ (ds ++ 46 ∷ ls)) ≡ length (d ∷ ds) + 0
      front_run = prefix_digits (d ∷ ds) (46 ∷ ls) h

      s : scale (d ∷ (ds ++ 46 ∷ ls)) ≡ length ls
      s = omega (arith, front_run, length-append ds (46 ∷ ls))

regroup : (v e p r : ℕ) → (v * 10 + e) * p + r ≡ v * (p * 10) + (e * p + r)
regroup v e p r = grind arith

digit_back : (d : ℕ) → d < 10 → digit_value (48 + d) ≡ d
digit_back d h = grind (arith, nat_tests)

value_last_digits : (places n v : ℕ) → parse.digits_value_after 10 v (last_digits places n) ≡ v * 10 ^ places + n % 10 ^ places
value_last_digits zero n v = omega arith
value_last_digits (suc places) n v =
    let low : n / 10 ^ places % 10 < 10 = mod-lt (n / 10 ^ places) (omega arith) in
    let parts : n % (10 * 10 ^ places) ≡ n / 10 ^ places % 10 * 10 ^ places + n % 10 ^ places = mod-mul n (omega arith) (power_above places) in
    ap (λ d. parse.digits_value_after 10 (v * 10 + d) (last_digits places n)) (digit_back (n / 10 ^ places % 10) low)
    ∙ value_last_digits places n (v * 10 + n / 10 ^ places % 10)
    ∙ regroup v (n / 10 ^ places % 10) (10 ^ places) (n % 10 ^ places)
    ∙ rw (pow-suc 10 places, mul_comm (10 ^ places) 10, parts) refl

pub number_token : (start n places : ℕ) (r : List ℕ) (us : List Token) → n < 2 ^ 127 → places ≤ 18 → ends_here r ≡ true
    → Lexes (start + length (size_written n places)) r us → IsNumberToken start (size_written n places) r n places us
number_token start n zero r us small few e l =
    let wide : n < 10 ^ 64 = omega (arith, small) in
    whole_token start r us n small e (decimal n) (decimal_digits n wide) (decimal_some n wide) (decimal_value n wide) l
number_token start n (suc places) r us small few e l =
    subst (λ p. IsNumberToken start (size_written n (suc places)) r n p us) (length-last_digits (suc places) n)
    (point_token start r us n small e (decimal w) ls (decimal_digits w wide) (decimal_some w wide) (last_digits_digits (suc places) n)
    (omega (arith, length-last_digits (suc places) n)) (omega (arith, few, length-last_digits (suc places) n)) value l)
  where
    w : ℕ
    w = n / 10 ^ suc places

    ls : List ℕ
    ls = last_digits (suc places) n

    wide : n / 10 ^ suc places < 10 ^ 64
    wide = let less = div-le_self n (10 ^ suc places) in omega (arith, less, small)

    value : parse.digits_value_after 10 0 (decimal (n / 10 ^ suc places) ++ last_digits (suc places) n) ≡ n
    value = value_join 0 (decimal (n / 10 ^ suc places)) (last_digits (suc places) n)
        ∙ value_last_digits (suc places) n (parse.digits_value 10 (decimal (n / 10 ^ suc places)))
        ∙ ap (λ v. v * 10 ^ suc places + n % 10 ^ suc places) (decimal_value (n / 10 ^ suc places) wide)
        ∙ ap (λ v. v + n % 10 ^ suc places) (mul_comm (n / 10 ^ suc places) (10 ^ suc places))
        ∙ div-add-mod n (10 ^ suc places)
