-- The number of a trial, as it is read.
use Rattle.std.proofs.Common.{◌≡◌, ℕ, ◌<◌, ◌≤◌, ◌^◌, List, Bool, true, false, None, Some, ap, cond, refl, subst}
use Rattle.std.specs.Str.Parse.{IsNumeral, digits_value, without_leading_plus}
use Rattle.clap.proofs.ValueTestLemmas.{Accepts-accepts, accepts-Accepts}
use Rattle.clap.specs.ValueTests.{is_unsigned_in}
use Rattle.clap.specs.Values.{IsUnsignedIn}
use Rattle.clap.specs.declared.builder.value_parser.ValueParser.TheVariants as parser
use Rattle.app_inputs.specs.Words.{trial_number}

-- a number that was read and is in the range
pub read_number : (text : List ℕ) (n : ℕ) → IsNumeral 10 (without_leading_plus text) × (digits_value 10 (without_leading_plus text) < 2 ^ 64) → n ≡ digits_value 10 (without_leading_plus text) → 1 ≤ n → n ≤ 1000
    → Some n ≡ trial_number text
read_number text n (numeral, below) is low high =
    let fits : is_unsigned_in 1 1000 text ≡ true = Accepts-accepts false (parser.Unsigned 1 1000) text (numeral, below, subst (λ k. 1 ≤ k) is low, subst (λ k. k ≤ 1000) is high) in
    rw fits (ap Some is)

-- a text that is no such number
pub no_number : (text : List ℕ) → (IsUnsignedIn 1 1000 text → ⊥) → None ≡ trial_number text
no_number text none = at (is_unsigned_in 1 1000 text) refl
  where
    at : (fits : Bool) → is_unsigned_in 1 1000 text ≡ fits → None ≡ cond fits (Some (digits_value 10 (without_leading_plus text))) None
    at true fits = absurd (none (accepts-Accepts false (parser.Unsigned 1 1000) text fits))
    at false fits = refl
