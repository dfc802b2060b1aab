-- The steps of the loops over a token's bytes.
use Rattle.std.proofs.Common.{◌≡◌, ℕ, ◌+◌, ◌-◌, ◌*◌, ◌^◌, ◌<◌, ◌≤◌, Bool, true, false, not, cond, eqb, ◌&&◌, List, [], ◌∷◌, length, drop, get_or, filter, Option, Some, None, refl, sym, ap, ◌∙◌, arith, drop-cons, add-one}
use Rattle.std.specs.Prelude.{nat_lt}
use Rattle.std.specs.Option.{option_map}
use Rattle.std.specs.Char.{is_ascii_digit}
use Rattle.std.proofs.lemmas.Bool.Decides.{nat_tests}
use Rattle.sql_lexer.specs.Forms.{digits_value, unquoted}
use Rattle.sql_lexer.specs.Fronts.{text_len}
use Rattle.sql_lexer.specs.Making.{value_in}

map_more : (o : Option ℕ) (at : ℕ) → option_map (λ n. n + at) (option_map (λ n. n + 1) o) ≡ option_map (λ n. n + (at + 1)) o
map_more None at = refl
map_more (Some n) at = ap Some (omega arith)

-- a text's bytes, one more
pub text_more : (seen : Bool) (b : ℕ) (bs : List ℕ) (at : ℕ) → seen && not (eqb b 39) ≡ false → option_map (λ n. n + at) (text_len seen (b ∷ bs)) ≡ option_map (λ n. n + (at + 1)) (text_len (not seen && eqb b 39) bs)
text_more true b bs at h = by (eqb b 39) h
  where
    by : (t : Bool) → not t ≡ false → option_map (λ n. n + at) (cond t (option_map (λ n. n + 1) (text_len false bs)) (Some 0)) ≡ option_map (λ n. n + (at + 1)) (text_len false bs)
    by true e = map_more (text_len false bs) at
    by false e = absurd (let never : true ≡ false = e in cc)
text_more false b bs at h = map_more (text_len (eqb b 39) bs) at

pub text_stops : (seen : Bool) (b : ℕ) (bs : List ℕ) (at : ℕ) → seen && not (eqb b 39) ≡ true → option_map (λ n. n + at) (text_len seen (b ∷ bs)) ≡ Some at
text_stops true b bs at h = by (eqb b 39) h
  where
    by : (t : Bool) → not t ≡ true → option_map (λ n. n + at) (cond t (option_map (λ n. n + 1) (text_len false bs)) (Some 0)) ≡ Some at
    by true e = absurd (let never : false ≡ true = e in cc)
    by false e = ap Some (omega arith)
text_stops false b bs at h = absurd (let never : false ≡ true = h in cc)

pub text_ends : (seen : Bool) (at : ℕ) → option_map (λ n. n + at) (text_len seen []) ≡ cond seen (Some at) None
text_ends true at = ap Some (omega arith)
text_ends false at = refl

-- ---- digits

filter_step : (b : ℕ) (bs : List ℕ) (n : ℕ) → is_ascii_digit b ≡ true → digits_value n (filter is_ascii_digit (b ∷ bs)) ≡ digits_value (10 * n + (b - 48)) (filter is_ascii_digit bs)
filter_step b bs n h = rw h refl

pub digit_more : (b : ℕ) (bs : List ℕ) (n m : ℕ) → is_ascii_digit b ≡ true → m ≡ 10 * n + (b - 48) → digits_value n (filter is_ascii_digit (b ∷ bs)) ≡ digits_value m (filter is_ascii_digit bs)
digit_more b bs n m h e = filter_step b bs n h ∙ ap (λ (x : ℕ). digits_value x (filter is_ascii_digit bs)) (sym e)

pub digit_skipped : (b : ℕ) (bs : List ℕ) (n : ℕ) → is_ascii_digit b ≡ false → digits_value n (filter is_ascii_digit (b ∷ bs)) ≡ digits_value n (filter is_ascii_digit bs)
digit_skipped b bs n h = rw h refl

pub digits_rise : (n : ℕ) (ds : List ℕ) → n ≤ digits_value n ds
digits_rise n [] = omega arith
digits_rise n (d ∷ ds) = let l = digits_rise (10 * n + (d - 48)) ds in omega arith

pub value_none : (n : ℕ) → 2 ^ 127 ≤ n → value_in n ≡ None
value_none n le = by (nat_lt n (2 ^ 127)) refl
  where
    by : (t : Bool) → nat_lt n (2 ^ 127) ≡ t → cond t (Some n) None ≡ None
    by true e = absurd (let l : n < 2 ^ 127 = grind (arith, nat_tests) in omega arith)
    by false e = refl

pub value_some : (n : ℕ) → n < 2 ^ 127 → value_in n ≡ Some n
value_some n lt = by (nat_lt n (2 ^ 127)) refl
  where
    by : (t : Bool) → nat_lt n (2 ^ 127) ≡ t → cond t (Some n) None ≡ Some n
    by true e = refl
    by false e = absurd (let l : 2 ^ 127 ≤ n = grind (arith, nat_tests) in omega arith)

-- ---- a text without its quotes

pub quote_seen : (b : ℕ) (bs : List ℕ) → eqb b 39 ≡ true → unquoted false (b ∷ bs) ≡ unquoted true bs
quote_seen b bs h = rw h refl

pub byte_kept : (seen : Bool) (b : ℕ) (bs : List ℕ) → not seen && eqb b 39 ≡ false → unquoted seen (b ∷ bs) ≡ b ∷ unquoted false bs
byte_kept true b bs h = refl
byte_kept false b bs h = rw h refl

pub opened : (bytes : List ℕ) (i : ℕ) → i < length bytes → drop i bytes ≡ get_or bytes i 0 ∷ drop (i + 1) bytes
opened bytes i lt = rw (drop-cons bytes i 0, add-one) refl

pub opened_first : (bytes : List ℕ) → 0 < length bytes → bytes ≡ get_or bytes 0 0 ∷ drop 1 bytes
opened_first [] lt = absurd (omega arith)
opened_first (b ∷ bs) lt = refl
