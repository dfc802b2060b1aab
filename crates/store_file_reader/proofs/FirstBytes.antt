-- The first place of a byte, as a search tells it.
use Rattle.std.proofs.Common.{◌≡◌, ℕ, ◌<◌, ◌==◌, Bool, true, false, cond, List, length, position, arith, le_refl, Option, Some, None, refl}
use Rattle.std.specs.Prelude.{nat_lt}
use Rattle.std.specs.List.{position_or_len}
use Rattle.std.proofs.lemmas.Bool.{lt-ltb, le-ltb}
use Rattle.std.proofs.lemmas.List.Sums.{position_or_len_is}
use Rattle.memchr.specs.Find.{IsFirstByte, is_byte}

isnt : (t : Bool) → ¬ (t ≡ true) → t ≡ false
isnt true none = absurd (none refl)
isnt false none = refl

some_at : (i n : ℕ) → i < n → Some i ≡ cond (nat_lt i n) (Some i) None
some_at i n h = rw (lt-ltb i n h) refl

none_at : (n : ℕ) → ◌≡◌ {A = Option ℕ} None (cond (nat_lt n n) (Some n) None)
none_at n = rw (le-ltb n n (le_refl n)) refl

pub first_byte : (sought : ℕ) (text : List ℕ) (r : Option ℕ) → IsFirstByte (is_byte sought) text r → r ≡ position (λ byte. byte == sought) text
first_byte sought text None nowhere =
    let all : position_or_len (λ byte. byte == sought) text ≡ length text =
    position_or_len_is (λ byte. byte == sought) text (length text) 0 (omega arith) (λ k less. isnt _ (nowhere k (omega arith) less)) (λ more. absurd (omega (arith, more))) in
    rw all (none_at (length text))
first_byte sought text (Some place) found =
    let is : position_or_len (λ byte. byte == sought) text ≡ place =
    position_or_len_is (λ byte. byte == sought) text place 0 (omega (arith, found.0.high)) (λ k less. isnt _ (found.0.before k (omega arith) less)) (λ more. found.1) in
    rw is (some_at place (length text) found.0.high)
