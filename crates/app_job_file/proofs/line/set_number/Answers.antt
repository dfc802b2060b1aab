use Rattle.std.proofs.Common.{rules, ◌≡◌, ◌<◌, ◌≤◌, ◌^◌, arith, length, subst, sym, true}
use Rattle.std.specs.Char.{is_ascii_digit}
use Rattle.std.specs.List.{list_all}
use Rattle.std.specs.Str.Parse.{IsNumeral, digits_value, without_leading_plus}
use Rattle.std.proofs.lemmas.Bool.Decides.{nat_tests}
use Rattle.app_job_file.proofs.Digits.{digits_utf8, is_number}
use Rattle.app_job_file.proofs.line.set_number.Goals as goal

pub returns-in_default : goal.returns-in_default
returns-in_default c =
    let all : list_all is_ascii_digit c.args.digits.now ≡ true = search rules in
    absurd (c.in_default.ensures.cases.0 (digits_utf8 c.args.digits.now all))

pub returns-in_default-parse : goal.returns-in_default-parse
returns-in_default-parse c =
    let ds = c.args.digits.now in
    let all : list_all is_ascii_digit ds ≡ true = search rules in
    let some : 0 < length ds = search rules in
    let few : length ds ≤ 9 = search rules in
    absurd (c.in_default-parse.ensures.value.0
    (subst (λ l. IsNumeral 10 (without_leading_plus l) × (digits_value 10 (without_leading_plus l) < 2 ^ 32)) (sym c.in-Ok.ensures.cases.0) (is_number ds some few all)))
