-- Lines cut from the front of a text.
use Rattle.std.proofs.Common.{◌≡◌, ℕ, suc, ◌+◌, ◌<◌, ◌≤◌, Bool, true, false, not, cond, ◌&&◌, ◌==◌, List, [], ◌∷◌, ◌++◌, length, take, drop, get_or, refl, sym, ◌∙◌, ap, arith, Some, None}
use Rattle.std.specs.Prelude.{nat_lt}
use Rattle.std.specs.List.{position, position_or_len, list_all, onto_first}
use Rattle.std.proofs.lemmas.List.Sums.{split_at_first, passes_at_first}
use Rattle.std.proofs.lemmas.List.Folds.{list_all-append}
use Rattle.std.proofs.lemmas.Bool.{ltb-true, ltb-false, eqb-true}
use Rattle.std.proofs.lemmas.List.{take_more, take_all}
use Rattle.std.proofs.lemmas.Option.{cond_some}
use Rattle.store_file_reader.specs.File.{cut_lines}
use Rattle.store_file_reader.specs.Reading.{is_unended}

and_left : (a b : Bool) → (a && b) ≡ true → a ≡ true
and_left true b e = refl
and_left false b e = e

and_right : (a b : Bool) → (a && b) ≡ true → b ≡ true
and_right true b e = e
and_right false b e = cc

not_true : (a : Bool) → not a ≡ true → a ≡ false
not_true true e = cc
not_true false e = refl

-- a byte that ends no line, before others that end none
first_unended : (b : ℕ) (bytes : List ℕ) → is_unended (b ∷ bytes) ≡ true → (b == 10) ≡ false
unfolding is_unended
first_unended b bytes e = not_true (b == 10) (and_left (not (b == 10)) (list_all (λ byte. not (byte == 10)) bytes) e)

rest_unended : (b : ℕ) (bytes : List ℕ) → is_unended (b ∷ bytes) ≡ true → is_unended bytes ≡ true
unfolding is_unended
rest_unended b bytes e = and_right (not (b == 10)) (list_all (λ byte. not (byte == 10)) bytes) e

pub unended-nil : is_unended [] ≡ true
unfolding is_unended
unended-nil = refl

pub unended-append : (xs ys : List ℕ) → is_unended xs ≡ true → is_unended ys ≡ true → is_unended (xs ++ ys) ≡ true
unfolding is_unended
unended-append xs ys e f = list_all-append (λ byte. not (byte == 10)) xs ys ∙ rw (e, f) refl

-- a line that ends is cut off
pub cut_lines-ended : (front more : List ℕ) → is_unended front ≡ true → cut_lines (front ++ 10 ∷ more) ≡ (front ++ 10 ∷ []) ∷ cut_lines more
cut_lines-ended [] more e = refl
cut_lines-ended (b ∷ front) more e =
    rw (first_unended b front e, cut_lines-ended front more (rest_unended b front e)) refl

-- a text without an end is one line
pub cut_lines-rest : (b : ℕ) (rest : List ℕ) → is_unended (b ∷ rest) ≡ true → cut_lines (b ∷ rest) ≡ (b ∷ rest) ∷ []
cut_lines-rest b [] e = rw (first_unended b [] e) refl
cut_lines-rest b (c ∷ rest) e =
    rw (first_unended b (c ∷ rest) e, cut_lines-rest c rest (rest_unended b (c ∷ rest) e)) refl

-- the first line of what begins without an end has at least that
pub record BeginsWith (front : List ℕ) (lines : List (List ℕ)) : Type 0 where
  pub more : List ℕ
  pub others : List (List ℕ)
  pub is : lines ≡ (front ++ more) ∷ others

onto : (b : ℕ) (lines : List (List ℕ)) → BeginsWith (b ∷ []) (onto_first b lines)
onto b [] = record { more = []; others = []; is = refl }
onto b (l ∷ ls) = record { more = l; others = ls; is = refl }

pub cut_lines-begins : (b : ℕ) (front more : List ℕ) → is_unended (b ∷ front) ≡ true → BeginsWith (b ∷ front) (cut_lines ((b ∷ front) ++ more))
cut_lines-begins b [] more e = rw (first_unended b [] e) (onto b (cut_lines more))
cut_lines-begins b (c ∷ front) more e =
    let inner : BeginsWith (c ∷ front) (cut_lines ((c ∷ front) ++ more)) = cut_lines-begins c front more (rest_unended b (c ∷ front) e) in
    record {
      more = inner.more;
      others = inner.others;
      is = rw (first_unended b (c ∷ front) e, inner.is) refl;
    }

-- what stands before the first LF has none
before_end : (n b : ℕ) (text : List ℕ) → is_unended (take n text) ≡ true → (b == 10) ≡ false → is_unended (take (1 + n) (b ∷ text)) ≡ true
unfolding is_unended
before_end n b text h e =
    let s : 1 + n ≡ suc n = omega arith in
    rw (s, e) h

at_first : (t : Bool) (b : ℕ) (text : List ℕ) → (b == 10) ≡ t
    → is_unended (take (position_or_len (λ byte. byte == 10) text) text) ≡ true
    → is_unended (take (position_or_len (λ byte. byte == 10) (b ∷ text)) (b ∷ text)) ≡ true
at_first true b text e h = rw e unended-nil
at_first false b text e h = rw e (before_end (position_or_len (λ byte. byte == 10) text) b text h e)

front_unended : (text : List ℕ) → is_unended (take (position_or_len (λ byte. byte == 10) text) text) ≡ true
front_unended [] = unended-nil
front_unended (b ∷ text) = at_first (b == 10) b text refl (front_unended text)

-- a text that has an LF, in parts
pub record Parts (text : List ℕ) (end : ℕ) : Type 0 where
  pub front : List ℕ
  pub unended : is_unended front ≡ true
  pub line : take (end + 1) text ≡ front ++ 10 ∷ []
  pub whole : text ≡ front ++ 10 ∷ drop (end + 1) text

pub parts : (text : List ℕ) (end : ℕ) → position (λ byte. byte == 10) text ≡ Some end → Parts text end
parts text end e =
    let found : (nat_lt (position_or_len (λ byte. byte == 10) text) (length text) ≡ true) × (position_or_len (λ byte. byte == 10) text ≡ end) = cond_some _ _ _ e in
    let within : position_or_len (λ byte. byte == 10) text < length text = ltb-true _ _ found.0 in
    let lf : get_or text end 0 ≡ 10 = rw (← found.1) (eqb-true _ _ (passes_at_first (λ byte. byte == 10) text 0 within)) in
    let inside : end < length text = omega (arith, within, found.1) in
    record {
      front = take end text;
      unended = rw (← found.1) (front_unended text);
      line = take_more text end 0 inside ∙ ap (λ b. take end text ++ b ∷ []) lf;
      whole = rw (← lf, ← found.1) (split_at_first (λ byte. byte == 10) text 0 within);
    }

none_from : (b : Bool) (a : ℕ) → cond b (Some a) None ≡ None → b ≡ false
none_from true a e = cc
none_from false a e = refl

-- a text that has no LF
pub unended_none : (text : List ℕ) → position (λ byte. byte == 10) text ≡ None → is_unended text ≡ true
unended_none text e =
    let past : length text ≤ position_or_len (λ byte. byte == 10) text = ltb-false _ _ (none_from _ _ e) in
    let all : take (position_or_len (λ byte. byte == 10) text) text ≡ text = take_all _ text past in
    ap is_unended (sym all) ∙ front_unended text

pub unended-cons : (b : ℕ) (bytes : List ℕ) → (b == 10) ≡ false → is_unended bytes ≡ true → is_unended (b ∷ bytes) ≡ true
unfolding is_unended
unended-cons b bytes e f = rw (e, f) refl
