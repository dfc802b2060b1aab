use Rattle.std.proofs.Common.{◌≡◌, ◌∙◌, ◌+◌, ◌-◌, ◌*◌, ◌/◌, ◌<◌, ◌≤◌, ◌^◌, true, ap, sym, refl, arith, drop, filter, get_or, List, ℕ}
use Rattle.std.proofs.lemmas.Bool.Decides.{nat_tests}
use Rattle.std.specs.Char.{is_ascii_digit}
use Rattle.sql_lexer.specs.Forms.{digits_value, coefficient}
use Rattle.sql_lexer.proofs.Steps.{digit_more, digits_rise, value_none, opened}
use Rattle.sql_lexer.proofs.content.coefficient.Goals as goal

too_large : (n d : ℕ) → (2 ^ 127 - 1 - d) / 10 < n → d ≤ 9 → 2 ^ 127 ≤ 10 * n + d
too_large n d h le = omega arith

digit_small : (b : ℕ) → is_ascii_digit b ≡ true → b - 48 ≤ 9
digit_small b h = grind (arith, nat_tests)

pub returns-then-value-digit : goal.returns-then-value-digit
returns-then-value-digit c =
    let bytes = c.args.bytes.now in
    let i = c.digits.b-index in
    let b = get_or bytes i 0 in
    let more : ℕ = 10 * c.digits.value + (b - 48) in
    let digit = sym c.is_ascii_digit.ensures.value ∙ c.if-not-is_ascii_digit.false in
    let so_far : coefficient bytes ≡ digits_value more (filter is_ascii_digit (drop (i + 1) bytes)) =
    c.digits.invariant.so_far ∙ ap (λ (w : List ℕ). digits_value c.digits.value (filter is_ascii_digit w)) (opened bytes i c.digits-test.true) ∙ digit_more b (drop (i + 1) bytes) c.digits.value more digit refl in
    let large : 2 ^ 127 ≤ more = too_large c.digits.value (b - 48) c.if-value-digit.true (digit_small b digit) in
    sym (value_none (coefficient bytes) (omega (arith, so_far, digits_rise more (filter is_ascii_digit (drop (i + 1) bytes)))))
