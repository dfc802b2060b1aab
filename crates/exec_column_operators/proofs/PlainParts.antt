-- A text without a part of a pattern that stands for itself is not like the pattern.
use Rattle.std.proofs.Common.{◌≡◌, ℕ, zero, suc, ◌+◌, ◌<◌, ◌≤◌, arith, refl, sym, ◌∙◌, ap, subst, List, [], ◌∷◌, ◌++◌, length, take, drop, Bool, true, false, not, ◌&&◌, ◌||◌, ◌==◌, None, Some, Option, if◌then◌else◌, get_or}
use Rattle.std.proofs.lemmas.List.{take-append-drop, length-drop, drop-drop, get_or-drop}
use Rattle.std.specs.List.{list_any}
use Rattle.std.specs.Option.{is_some}
use Rattle.std.proofs.lemmas.Bool.{false_from_ne_true, eqb-true}
use Rattle.memchr.specs.Find.{OccursAt, FindsNeedle}
use Rattle.base_value.specs.declared.value.Value.{Value}
use Rattle.base_value.specs.declared.value.Value.TheVariants.{Text as TextOf}
use Rattle.base_value.specs.declared.truth.Truth.TheVariants.{False as Never}
use Rattle.base_text.specs.Pattern.{some_rest, one_byte, is_like}
use Rattle.base_text.specs.Parts.{fits, has_no_percent, IsNoFit}
use Rattle.base_text.proofs.Likes.{fits_long}
use Rattle.expr_operators.specs.Operators.{liked}
use Rattle.exec_column_operators.specs.Parts.{is_plain, IsPlainPart}

both : (a b : Bool) → (a && b) ≡ true → (a ≡ true) × (b ≡ true)
both true b h = (refl, h)
both false b h = cc

not_so : (a : Bool) → not a ≡ true → a ≡ false
not_so true h = sym h
not_so false h = refl

neither : (a b : Bool) → not (a || b) ≡ true → (a ≡ false) × (not b ≡ true)
neither true b h = cc
neither false b h = (refl, h)

-- no byte is this one
abbrev has_no : ℕ → List ℕ → Bool
has_no mark part = not (list_any (λ byte. byte == mark) part)

no_percent : (part : List ℕ) → has_no 37 part ≡ true → has_no_percent part ≡ true
no_percent [] h = refl
no_percent (b ∷ part) h =
    let parts : ((b == 37) ≡ false) × (has_no 37 part ≡ true) = neither (b == 37) (list_any (λ byte. byte == 37) part) h in
    rw (parts.0) (no_percent part parts.1)

and_less : (a b c : Bool) → (a && b) ≡ false → (b ≡ false → c ≡ false) → (a && c) ≡ false
and_less true b c h g = g h
and_less false b c h g = refl

and-false : (a : Bool) → (a && false) ≡ false
and-false true = refl
and-false false = refl

-- a part that doesn't fit, before the rest of a pattern
unlike_here : (part after text : List ℕ) → has_no_percent part ≡ true → fits part text ≡ false → is_like (part ++ after) text ≡ false
unfolding is_like
unlike_here [] after text h misses = cc
unlike_here (mark ∷ part) after [] h misses =
    let plain : (mark == 37) ≡ false = not_so (mark == 37) (both (not (mark == 37)) (has_no_percent part) h).0 in
    rw plain refl
unlike_here (mark ∷ part) after (byte ∷ text) h misses =
    let parts : (not (mark == 37) ≡ true) × (has_no_percent part ≡ true) = both (not (mark == 37)) (has_no_percent part) h in
    let plain : (mark == 37) ≡ false = not_so (mark == 37) parts.0 in
    rw plain (and_less (mark == 95 || mark == byte) (fits part text) (is_like (part ++ after) text) misses (λ none. unlike_here part after text parts.1 none))

-- a test that fails at all rests
no_rest : (test : List ℕ → Bool) (text : List ℕ) → ((n : ℕ) → n ≤ length text → test (drop n text) ≡ false) → some_rest test text ≡ false
unfolding some_rest
no_rest test [] misses = misses 0 (omega arith)
no_rest test (b ∷ text) misses =
    let here : test (b ∷ text) ≡ false = misses 0 (omega arith) in
    rw (here, no_rest test text (λ n h. misses (suc n) (omega arith))) refl

no_byte : (mark : ℕ) (test : List ℕ → Bool) (text : List ℕ) → ((n : ℕ) → n ≤ length text → test (drop n text) ≡ false) → one_byte mark test text ≡ false
no_byte mark test [] misses = refl
no_byte mark test (b ∷ text) misses =
    let later : test text ≡ false = misses 1 (omega arith) in
    rw later (and-false (mark == 95 || mark == b))

either_way : (percent a b : Bool) → a ≡ false → b ≡ false → (if percent then a else b) ≡ false
either_way true a b p q = p
either_way false a b p q = q

-- where a part fits nowhere, it fits nowhere in a rest
no_fit_later : (part text : List ℕ) (n : ℕ) → n ≤ length text → IsNoFit part text → IsNoFit part (drop n text)
no_fit_later part text n le misses place h =
    subst (λ t. fits part t ≡ false) (sym (drop-drop place n text)) (misses (n + place) (omega (arith, length-drop n text)))

-- a part that fits nowhere, anywhere in a pattern
unlike_without : (before part after text : List ℕ) → has_no_percent part ≡ true → IsNoFit part text → is_like (before ++ (part ++ after)) text ≡ false
unfolding is_like
unlike_without [] part after text h misses = unlike_here part after text h (misses 0 (omega arith))
unlike_without (mark ∷ before) part after text h misses =
    let rests : (n : ℕ) → n ≤ length text → is_like (before ++ (part ++ after)) (drop n text) ≡ false =
    λ n le. unlike_without before part after (drop n text) h (no_fit_later part text n le misses) in
    either_way (mark == 37) (some_rest (is_like (before ++ (part ++ after))) text) (one_byte mark (is_like (before ++ (part ++ after))) text)
    (no_rest (is_like (before ++ (part ++ after))) text rests) (no_byte mark (is_like (before ++ (part ++ after))) text rests)

-- a part that fits stands there, byte by byte
plain_reads : (part text : List ℕ) → has_no 95 part ≡ true → fits part text ≡ true → (j : ℕ) → j < length part → get_or text j 0 ≡ get_or part j 0
plain_reads [] text h fit j less = absurd (omega arith)
plain_reads (b ∷ part) [] h fit j less = cc
plain_reads (b ∷ part) (c ∷ text) h fit zero less =
    let plain : (b == 95) ≡ false = (neither (b == 95) (list_any (λ byte. byte == 95) part) h).0 in
    let one : (b == 95 || b == c) ≡ true = (both (b == 95 || b == c) (fits part text) fit).0 in
    sym (eqb-true b c (rw plain at one))
plain_reads (b ∷ part) (c ∷ text) h fit (suc j) less =
    plain_reads part text (neither (b == 95) (list_any (λ byte. byte == 95) part) h).1
    (both (b == 95 || b == c) (fits part text) fit).1 j (omega arith)

occurs : (part text : List ℕ) (place : ℕ) → is_plain part ≡ true → place ≤ length text → fits part (drop place text) ≡ true → OccursAt text part place
occurs part text place h le fit = record {
  fits = omega (arith, fits_long part (drop place text) fit, length-drop place text);
  reads = λ j less. sym (get_or-drop place text j 0) ∙ plain_reads part (drop place text) (both (has_no 37 part) (has_no 95 part) h).1 fit j less;
}

pub unlike_part : (pattern part text : List ℕ) → IsPlainPart pattern part → FindsNeedle text part 0 None → is_like pattern text ≡ false
unlike_part pattern part text is none =
    ap (λ p. is_like p text) is.is
    ∙ unlike_without is.before part is.after text (no_percent part (both (has_no 37 part) (has_no 95 part) is.plain).0)
    (λ place le. false_from_ne_true (fits part (drop place text)) (λ fit. none place (omega arith) (omega arith) (occurs part text place is.plain le fit)))

nothing_found : (found : Option ℕ) → is_some found ≡ false → found ≡ None
nothing_found None h = refl
nothing_found (Some place) h = cc

-- LIKE of a text in which the part isn't found
pub unlike_value : (pattern part text : List ℕ) (x : Value) (found : Option ℕ) → TextOf text ≡ x → IsPlainPart pattern part → FindsNeedle text part 0 found → is_some found ≡ false → Never ≡ liked pattern x
unlike_value pattern part text x found at is finds h =
    let none : FindsNeedle text part 0 None = subst (λ f. FindsNeedle text part 0 f) (nothing_found found h) finds in
    subst (λ v. Never ≡ liked pattern v) at (rw (unlike_part pattern part text is none) refl)

-- a run of a pattern's bytes, with what stands before and after it
pub run_part : (pattern : List ℕ) (from n : ℕ) → is_plain (take n (drop from pattern)) ≡ true → IsPlainPart pattern (take n (drop from pattern))
run_part pattern from n h = record {
  before = take from pattern;
  after = drop n (drop from pattern);
  is = sym (ap (λ r. take from pattern ++ r) (take-append-drop n (drop from pattern)) ∙ take-append-drop from pattern);
  plain = h;
}

-- nothing is a part of each pattern
pub no_run : (pattern : List ℕ) → IsPlainPart pattern (take 0 pattern)
no_run pattern = record { before = []; after = pattern; is = refl; plain = refl }
