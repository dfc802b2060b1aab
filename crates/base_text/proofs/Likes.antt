-- Laws of LIKE by parts.
use Rattle.std.proofs.Common.{◌≡◌, ℕ, zero, suc, ◌+◌, ◌-◌, ◌<◌, ◌≤◌, arith, refl, sym, ◌∙◌, ap, subst, List, [], ◌∷◌, ◌++◌, length, take, drop, get_or, drop-cons, add-one, zero-add, append-nil, Bool, true, false, not, ◌&&◌, ◌||◌, ◌==◌, ◌⊎◌, inl, inr}
use Rattle.std.proofs.Math.Bool.{and-true}
use Rattle.std.proofs.lemmas.List.{take-append-drop, length-drop, length-take, drop-drop, take_all}
use Rattle.std.proofs.lemmas.Bool.{cases_lt}
use Rattle.base_text.specs.Pattern.{some_rest, is_empty, is_like}
use Rattle.base_text.specs.Parts.{fits, has_no_percent, IsNoFit, IsFirstFit, IsPercent}

both : (a b : Bool) → (a && b) ≡ true → (a ≡ true) × (b ≡ true)
both true b h = (refl, h)
both false b h = cc

not_so : (a : Bool) → not a ≡ true → a ≡ false
not_so true h = sym h
not_so false h = refl

and_assoc : (a b c : Bool) → (a && (b && c)) ≡ ((a && b) && c)
and_assoc true b c = refl
and_assoc false b c = refl

and-false : (a : Bool) → (a && false) ≡ false
and-false true = refl
and-false false = refl

or-false : (a : Bool) → (a || false) ≡ a
or-false true = refl
or-false false = refl

or-true : (a : Bool) → (a || true) ≡ true
or-true true = refl
or-true false = refl

-- the second adds nothing where it implies the first
or_less : (a b : Bool) → (b ≡ true → a ≡ true) → (a || b) ≡ a
or_less true b h = refl
or_less false true h = sym (h refl)
or_less false false h = refl

pub no_percent_more : (ps : List ℕ) (i : ℕ) → i < length ps → has_no_percent (take i ps) ≡ true → (get_or ps i 0 == 37) ≡ false → has_no_percent (take (i + 1) ps) ≡ true
no_percent_more [] i h p q = absurd (omega arith)
no_percent_more (m ∷ ps) zero h p q = rw q refl
no_percent_more (m ∷ ps) (suc i) h p q =
    let parts : (not (m == 37) ≡ true) × (has_no_percent (take i ps) ≡ true) = both _ _ p in
    let rest : has_no_percent (take (suc i) ps) ≡ true = rw add-one at (no_percent_more ps i (omega arith) parts.1 q) in
    rw add-one (rw parts.0 rest)

pub fits_short : (ps text : List ℕ) → length text < length ps → fits ps text ≡ false
fits_short [] text h = absurd (omega arith)
fits_short (m ∷ ps) [] h = refl
fits_short (m ∷ ps) (b ∷ text) h = rw (fits_short ps text (omega arith)) (and-false (m == 95 || m == b))

pub fits_long : (ps text : List ℕ) → fits ps text ≡ true → length ps ≤ length text
fits_long [] text h = omega arith
fits_long (m ∷ ps) [] h = cc
fits_long (m ∷ ps) (b ∷ text) h =
    let rest : length ps ≤ length text = fits_long ps text (both (m == 95 || m == b) (fits ps text) h).1 in omega arith

pub fits_more : (ps text : List ℕ) (i : ℕ) → i < length ps → i < length text → fits (drop i ps) (drop i text) ≡ ((get_or ps i 0 == 95 || get_or ps i 0 == get_or text i 0) && fits (drop (i + 1) ps) (drop (i + 1) text))
fits_more ps text i h k = rw (add-one, drop-cons ps i 0, drop-cons text i 0) refl

-- a part before the rest of a pattern
part_before : (part rest text : List ℕ) → has_no_percent part ≡ true → is_like (part ++ rest) text ≡ (fits part text && is_like rest (drop (length part) text))
unfolding is_like
part_before [] rest text h = refl
part_before (mark ∷ part) rest [] h =
    let plain : (mark == 37) ≡ false = not_so (mark == 37) (both (not (mark == 37)) (has_no_percent part) h).0 in
    rw plain refl
part_before (mark ∷ part) rest (byte ∷ text) h =
    let plain : (mark == 37) ≡ false = not_so (mark == 37) (both (not (mark == 37)) (has_no_percent part) h).0 in
    rw (plain, part_before part rest text (both (not (mark == 37)) (has_no_percent part) h).1) (and_assoc (mark == 95 || mark == byte) (fits part text) (is_like rest (drop (length part) text)))

part_alone : (part text : List ℕ) → has_no_percent part ≡ true → is_like part text ≡ (fits part text && is_empty (drop (length part) text))
unfolding is_like
part_alone part text h = ap (λ p. is_like p text) (sym (append-nil part)) ∙ part_before part [] text h

is_empty_none : (xs : List ℕ) → length xs ≡ 0 → is_empty xs ≡ true
is_empty_none [] h = refl
is_empty_none (x ∷ xs) h = absurd (omega arith)

is_empty_some : (xs : List ℕ) → 0 < length xs → is_empty xs ≡ false
is_empty_some [] h = absurd (omega arith)
is_empty_some (x ∷ xs) h = refl

-- a pattern of one part is met by a text of its length
pub like_alone : (part text : List ℕ) → has_no_percent part ≡ true → length text ≡ length part → is_like part text ≡ fits part text
like_alone part text h e =
    part_alone part text h
    ∙ ap (λ b. fits part text && b) (is_empty_none (drop (length part) text) (omega (arith, length-drop (length part) text)))
    ∙ and-true (fits part text)

pub unlike_short : (part text : List ℕ) → has_no_percent part ≡ true → length text < length part → is_like part text ≡ false
unlike_short part text h short = part_alone part text h ∙ ap (λ b. b && is_empty (drop (length part) text)) (fits_short part text short)

pub unlike_long : (part text : List ℕ) → has_no_percent part ≡ true → length part < length text → is_like part text ≡ false
unlike_long part text h long =
    part_alone part text h
    ∙ ap (λ b. fits part text && b) (is_empty_some (drop (length part) text) (omega (arith, length-drop (length part) text)))
    ∙ and-false (fits part text)

-- the last part of a pattern, after a `%`, stands at the text's end
pub no_last : (part text : List ℕ) → has_no_percent part ≡ true → length text < length part → some_rest (is_like part) text ≡ false
unfolding some_rest
no_last part [] h short = unlike_short part [] h short
no_last part (b ∷ text) h short = rw (unlike_short part (b ∷ text) h short, no_last part text h (omega arith)) refl

drop_none : (n : ℕ) → drop {A = ℕ} n [] ≡ []
drop_none zero = refl
drop_none (suc n) = refl

pub last_at_end : (part text : List ℕ) → has_no_percent part ≡ true → length part ≤ length text → some_rest (is_like part) text ≡ fits part (drop (length text - length part) text)
unfolding some_rest
last_at_end part [] h le = like_alone part [] h (omega arith) ∙ ap (fits part) (sym (drop_none (0 - length part)))
last_at_end part (b ∷ text) h le = elim (cases_lt (length text) (length part)) [
  | inl short ↦
      let whole : 0 ≡ suc (length text) - length part = omega arith in
      rw (no_last part text h short)
      (or-false (is_like part (b ∷ text)) ∙ like_alone part (b ∷ text) h (omega arith)
      ∙ ap (λ k. fits part (drop k (b ∷ text))) whole)
  | inr long ↦
      let more : suc (length text - length part) ≡ suc (length text) - length part = omega arith in
      rw (unlike_long part (b ∷ text) h (omega arith))
      (last_at_end part text h long ∙ ap (λ k. fits part (drop k (b ∷ text))) more)
]

or_split : (a b : Bool) → (a || b) ≡ true → (a ≡ true) ⊎ (b ≡ true)
or_split true b h = inl refl
or_split false b h = inr h

one_later : (n b : ℕ) (text : List ℕ) → drop 1 (drop n (b ∷ text)) ≡ drop n text
one_later n b text = drop-drop 1 n (b ∷ text) ∙ rw add-one refl

-- what passes at a rest of a text's rest passes at a rest of the text
some_rest_further : (test : List ℕ → Bool) (text : List ℕ) (n : ℕ) → some_rest test (drop n text) ≡ true → some_rest test text ≡ true
unfolding some_rest
some_rest_further test text zero h = h
some_rest_further test [] (suc n) h = h
some_rest_further test (b ∷ text) (suc n) h = rw (some_rest_further test text n h) (or-true (test (b ∷ text)))

-- the test of a part and of what stands after the next `%`
abbrev behind : List ℕ → List ℕ → List ℕ → Bool
behind part rest text = fits part text && some_rest (is_like rest) (drop (length part) text)

behind_is : (part rest text : List ℕ) → has_no_percent part ≡ true → is_like (part ++ 37 ∷ rest) text ≡ behind part rest text
unfolding is_like
behind_is part rest text h = part_before part (37 ∷ rest) text h

some_rest_alike : (f g : List ℕ → Bool) (text : List ℕ) → ((t : List ℕ) → f t ≡ g t) → some_rest f text ≡ some_rest g text
unfolding some_rest
some_rest_alike f g [] h = h []
some_rest_alike f g (b ∷ text) h = rw (h (b ∷ text), some_rest_alike f g text h) refl

-- where a part fits, all later places of it leave less
leaves_less : (part rest text : List ℕ) → some_rest (behind part rest) text ≡ true → some_rest (is_like rest) (drop (length part) text) ≡ true
unfolding some_rest
leaves_less part rest [] h = (both (fits part []) (some_rest (is_like rest) (drop (length part) [])) h).1
leaves_less part rest (b ∷ text) h = elim (or_split (behind part rest (b ∷ text)) (some_rest (behind part rest) text) h) [
  | inl here ↦ (both (fits part (b ∷ text)) (some_rest (is_like rest) (drop (length part) (b ∷ text))) here).1
  | inr later ↦ some_rest_further (is_like rest) (drop (length part) (b ∷ text)) 1
      (rw (one_later (length part) b text) (leaves_less part rest text later))
]

first_here : (part rest text : List ℕ) → fits part text ≡ true → some_rest (behind part rest) text ≡ some_rest (is_like rest) (drop (length part) text)
unfolding some_rest
first_here part rest [] fit = rw fit refl
first_here part rest (b ∷ text) fit =
    rw fit (or_less (some_rest (is_like rest) (drop (length part) (b ∷ text))) (some_rest (behind part rest) text)
    (λ later. leaves_less part rest (b ∷ text) (rw later (or-true (behind part rest (b ∷ text))))))

first_counts : (part rest text : List ℕ) (place : ℕ) → IsFirstFit part text place → some_rest (behind part rest) text ≡ some_rest (is_like rest) (drop (place + length part) text)
unfolding some_rest
first_counts part rest text zero first = first_here part rest text first.fit ∙ ap (λ n. some_rest (is_like rest) (drop n text)) (sym (zero-add (length part)))
first_counts part rest [] (suc place) first = absurd (omega (arith, first.inside))
first_counts part rest (b ∷ text) (suc place) first =
    let later : IsFirstFit part text place = record { inside = omega (arith, first.inside); fit = first.fit; first = λ k h. first.first (suc k) (omega arith) } in
    let more : suc (place + length part) ≡ suc place + length part = omega arith in
    rw (first.first 0 (omega arith)) (first_counts part rest text place later ∙ ap (λ n. some_rest (is_like rest) (drop n (b ∷ text))) more)

none_counts : (part rest text : List ℕ) → IsNoFit part text → some_rest (behind part rest) text ≡ false
unfolding some_rest
none_counts part rest [] never = rw (never 0 (omega arith)) refl
none_counts part rest (b ∷ text) never = rw (never 0 (omega arith), none_counts part rest text (λ k h. never (suc k) (omega arith))) refl

-- the pattern by its first `%`, at place n
pattern_parts : (pattern : List ℕ) (n : ℕ) → n < length pattern → get_or pattern n 0 ≡ 37 → pattern ≡ take n pattern ++ 37 ∷ drop (n + 1) pattern
pattern_parts pattern n h e =
    sym (take-append-drop n pattern) ∙ ap (λ r. take n pattern ++ r) (drop-cons pattern n 0 h ∙ rw (e, add-one) refl)

pub length_part : (pattern : List ℕ) (n : ℕ) → n < length pattern → length (take n pattern) ≡ n
length_part pattern n h = omega (arith, length-take n pattern)

pub like_parted : (pattern text : List ℕ) (n : ℕ) → IsPercent pattern n → is_like pattern text ≡ (fits (take n pattern) text && some_rest (is_like (drop (n + 1) pattern)) (drop n text))
like_parted pattern text n at =
    ap (λ q. is_like q text) (pattern_parts pattern n at.inside at.there)
    ∙ behind_is (take n pattern) (drop (n + 1) pattern) text at.before
    ∙ ap (λ k. fits (take n pattern) text && some_rest (is_like (drop (n + 1) pattern)) (drop k text)) (length_part pattern n at.inside)

rest_parted : (pattern text : List ℕ) (n : ℕ) → IsPercent pattern n → some_rest (is_like pattern) text ≡ some_rest (behind (take n pattern) (drop (n + 1) pattern)) text
rest_parted pattern text n at =
    some_rest_alike (is_like pattern) (behind (take n pattern) (drop (n + 1) pattern)) text
    (λ t. ap (λ q. is_like q t) (pattern_parts pattern n at.inside at.there) ∙ behind_is (take n pattern) (drop (n + 1) pattern) t at.before)

pub part_found : (pattern text : List ℕ) (n place : ℕ) → IsPercent pattern n → IsFirstFit (take n pattern) text place → some_rest (is_like pattern) text ≡ some_rest (is_like (drop (n + 1) pattern)) (drop (place + n) text)
part_found pattern text n place at first =
    rest_parted pattern text n at
    ∙ first_counts (take n pattern) (drop (n + 1) pattern) text place first
    ∙ ap (λ k. some_rest (is_like (drop (n + 1) pattern)) (drop (place + k) text)) (length_part pattern n at.inside)

pub part_missing : (pattern text : List ℕ) (n : ℕ) → IsPercent pattern n → IsNoFit (take n pattern) text → some_rest (is_like pattern) text ≡ false
part_missing pattern text n at never =
    rest_parted pattern text n at ∙ none_counts (take n pattern) (drop (n + 1) pattern) text never

-- the rest of a slice from a place on
pub rest_all : (n : ℕ) (text : List ℕ) → take (length text - n) (drop n text) ≡ drop n text
rest_all n text = take_all _ (drop n text) (subst (λ (k : ℕ). length text - n ≤ k → k ≤ length text - n) (sym (length-drop n text)) (λ h. h) (omega (arith, length-drop n text)))

-- where the front fits, the rest of the pattern decides; else nothing does
pub front_fits : (pattern text p t : List ℕ) (n : ℕ) (f r : Bool) → p ≡ pattern → t ≡ text → IsPercent p n → f ≡ fits (take n p) t → f ≡ true → r ≡ some_rest (is_like (take (length p - (n + 1)) (drop (n + 1) p))) (take (length t - n) (drop n t)) → r ≡ is_like pattern text
front_fits pattern text p t n f r ep et at e fit h =
    h
    ∙ ap (λ q. some_rest (is_like q) (take (length t - n) (drop n t))) (rest_all (n + 1) p)
    ∙ ap (some_rest (is_like (drop (n + 1) p))) (rest_all n t)
    ∙ ap (λ b. b && some_rest (is_like (drop (n + 1) p)) (drop n t)) (sym fit ∙ e)
    ∙ sym (like_parted p t n at)
    ∙ ap (λ q. is_like q t) ep ∙ ap (is_like pattern) et

pub front_fails : (pattern text p t : List ℕ) (n : ℕ) (f : Bool) → p ≡ pattern → t ≡ text → IsPercent p n → f ≡ fits (take n p) t → f ≡ false → f ≡ is_like pattern text
front_fails pattern text p t n f ep et at e no_fit =
    no_fit
    ∙ ap (λ b. b && some_rest (is_like (drop (n + 1) p)) (drop n t)) (sym no_fit ∙ e)
    ∙ sym (like_parted p t n at)
    ∙ ap (λ q. is_like q t) ep ∙ ap (is_like pattern) et
