-- Parts of printable bytes.
use Rattle.std.proofs.Common.{◌≡◌, ℕ, zero, suc, ◌+◌, ◌-◌, min, arith, refl, sym, ◌∙◌, ap, List, [], ◌∷◌, ◌++◌, length, take, drop, Bool, true, false, not, cond, Some, None}
use Rattle.std.specs.Prelude.{nat_lt}
use Rattle.std.specs.List.{prefix_len}
use Rattle.std.proofs.lemmas.Bool.Decides.{nat_tests}
use Rattle.std.proofs.lemmas.List.{drop-take, drop_min, take_min, length-take}
use Rattle.base_text.specs.Printable.{is_printable, AllPrintable}
use Rattle.base_text.specs.Pattern.{places}

no_place : (t : Bool) (x : ℕ) → cond t (Some x) None ≡ None → t ≡ false
no_place true x h = cc
no_place false x h = refl

both_more : (p n : ℕ) → nat_lt (1 + p) (suc n) ≡ nat_lt p n
both_more p n = grind (arith, nat_tests)

first_more : (n : ℕ) → nat_lt 0 (suc n) ≡ true
first_more n = grind (arith, nat_tests)

no_fewer : (bytes : List ℕ) → nat_lt (prefix_len (λ byte. not (not (is_printable byte))) bytes) (length bytes) ≡ false → AllPrintable bytes
no_fewer bytes h = rw h refl

fewer : (bytes : List ℕ) → AllPrintable bytes → nat_lt (prefix_len (λ byte. not (not (is_printable byte))) bytes) (length bytes) ≡ false
fewer bytes h = no_place _ _ h

-- the first byte and the others
len_yes : (b : ℕ) (bytes : List ℕ) → is_printable b ≡ true → prefix_len (λ byte. not (not (is_printable byte))) (b ∷ bytes) ≡ 1 + prefix_len (λ byte. not (not (is_printable byte))) bytes
len_yes b bytes e = ap (λ t. cond (not (not t)) (1 + prefix_len (λ byte. not (not (is_printable byte))) bytes) 0) e

len_no : (b : ℕ) (bytes : List ℕ) → is_printable b ≡ false → prefix_len (λ byte. not (not (is_printable byte))) (b ∷ bytes) ≡ 0
len_no b bytes e = ap (λ t. cond (not (not t)) (1 + prefix_len (λ byte. not (not (is_printable byte))) bytes) 0) e

head_printable : (t : Bool) (b : ℕ) (bytes : List ℕ) → is_printable b ≡ t → AllPrintable (b ∷ bytes) → (t ≡ true) × AllPrintable bytes
head_printable true b bytes e h =
    (refl, no_fewer bytes (sym (both_more _ _) ∙ ap (λ k. nat_lt k (suc (length bytes))) (sym (len_yes b bytes e)) ∙ fewer (b ∷ bytes) h))
head_printable false b bytes e h =
    let bad : true ≡ false = sym (first_more (length bytes)) ∙ ap (λ k. nat_lt k (suc (length bytes))) (sym (len_no b bytes e)) ∙ fewer (b ∷ bytes) h in cc

more_printable : (b : ℕ) (bytes : List ℕ) → is_printable b ≡ true → AllPrintable bytes → AllPrintable (b ∷ bytes)
more_printable b bytes e h =
    no_fewer (b ∷ bytes) (ap (λ k. nat_lt k (suc (length bytes))) (len_yes b bytes e) ∙ both_more _ _ ∙ fewer bytes h)

pub append_printable : (bytes more : List ℕ) → AllPrintable bytes → AllPrintable more → AllPrintable (bytes ++ more)
append_printable [] more h k = k
append_printable (b ∷ bytes) more h k =
    let parts : (is_printable b ≡ true) × AllPrintable bytes = head_printable (is_printable b) b bytes refl h in
    more_printable b (bytes ++ more) parts.0 (append_printable bytes more parts.1 k)

drop_printable : (bytes : List ℕ) (i : ℕ) → AllPrintable bytes → AllPrintable (drop i bytes)
drop_printable bytes zero h = h
drop_printable [] (suc i) h = h
drop_printable (b ∷ bytes) (suc i) h = drop_printable bytes i (head_printable (is_printable b) b bytes refl h).1

take_printable : (bytes : List ℕ) (n : ℕ) → AllPrintable bytes → AllPrintable (take n bytes)
take_printable bytes zero h = refl
take_printable [] (suc n) h = h
take_printable (b ∷ bytes) (suc n) h =
    let parts : (is_printable b ≡ true) × AllPrintable bytes = head_printable (is_printable b) b bytes refl h in
    more_printable b (take n bytes) parts.0 (take_printable bytes n parts.1)

pub part_printable : (bytes : List ℕ) (i n : ℕ) → AllPrintable bytes → AllPrintable (take n (drop i bytes))
part_printable bytes i n h = take_printable (drop i bytes) n (drop_printable bytes i h)

-- the ends of the part, kept within the text
pub places_is : (a b : ℕ) (bytes : List ℕ) → take (min (a + b - 1) (length bytes) - min (a - 1) (min (a + b - 1) (length bytes))) (drop (min (a - 1) (min (a + b - 1) (length bytes))) bytes) ≡ places a b bytes
places_is a b bytes =
    let last = min (a + b - 1) (length bytes) in
    let first = min (a - 1) (min (a + b - 1) (length bytes)) in
    let span : first + (last - first) ≡ last = omega arith in
    let here : last ≡ length (take (a + b - 1) bytes) = sym (length-take (a + b - 1) bytes) in
    sym (drop-take first (last - first) bytes)
    ∙ ap (λ n. drop first (take n bytes)) span
    ∙ ap (drop first) (take_min (a + b - 1) bytes)
    ∙ ap (λ n. drop (min (a - 1) n) (take (a + b - 1) bytes)) here
    ∙ drop_min (a - 1) (take (a + b - 1) bytes)
