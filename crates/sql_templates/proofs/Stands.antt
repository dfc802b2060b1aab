-- What the tokens of values may stand for.
use Rattle.std.proofs.Common.{◌≡◌, ℕ, ◌<◌, ◌≤◌, ◌^◌, Bool, true, false, ◌&&◌, length, List, [], pos, refl, sym, ap, ◌∙◌, arith}
use Rattle.std.specs.Prelude.{codes, nat_le}
use Rattle.std.specs.Fmt.{decimal}
use Rattle.std.specs.Str.{all_ascii_digits}
use Rattle.std.proofs.lemmas.Bool.Decides.{nat_tests}
use Rattle.std.proofs.lemmas.Fmt.{length-decimal-le_wide}
use denote.Enum.Bare.{sameb}
use Rattle.sql_lexer.specs.contracts.kind.Kind.{the_type}
use Rattle.sql_lexer.specs.declared.kind.Kind.{Kind}
use Rattle.sql_lexer.specs.declared.kind.Kind.TheVariants as k
use Rattle.sql_lexer.specs.declared.token.Content.{Content}
use Rattle.sql_lexer.specs.declared.token.Content.TheVariants as content
use Rattle.sql_lexer.specs.declared.token.Token.{Token}
use Rattle.sql_lexer.specs.Kinds.{is}
use Rattle.sql_parser_steps.specs.Values.{is_count, is_digits, is_small_whole, content_text, all_digits}
use Rattle.sql_templates.specs.Cutting.{bare}
use Rattle.sql_templates.proofs.Fronts.{never}
use Rattle.sql_templates.proofs.Numbers.{decimal_digits, decimal_some}
use Rattle.sql_templates.proofs.Parts.{IsLoose}
use Rattle.sql_templates.proofs.Readings.{StandsFor}

abbrev counts : Kind → Content → Bool
counts j c = sameb the_type j k.Number && is_small_whole c

abbrev is_short : List ℕ → Bool
is_short bytes = nat_le 1 (length bytes) && nat_le (length bytes) 6

abbrev has_digits : Kind → Content → Bool
has_digits j c = sameb the_type j k.Text && (is_short (content_text c) && all_digits (content_text c))

count_is : (t : Token) → is_count t ≡ counts t.kind t.content
unfolding is
count_is t = refl

digits_is : (t : Token) → is_digits t ≡ has_digits t.kind t.content
unfolding is
digits_is t = refl

same_count : (t u : Token) → u.kind ≡ t.kind → u.content ≡ t.content → is_count u ≡ is_count t
same_count t u e f = count_is u ∙ ap (λ x. counts x u.content) e ∙ ap (counts t.kind) f ∙ sym (count_is t)

same_digits : (t u : Token) → u.kind ≡ t.kind → u.content ≡ t.content → is_digits u ≡ is_digits t
same_digits t u e f = digits_is u ∙ ap (λ x. has_digits x u.content) e ∙ ap (has_digits t.kind) f ∙ sym (digits_is t)

-- a text is no count
no_count : (bytes : List ℕ) → is_count (bare k.Text (content.Text bytes)) ≡ false
unfolding is
no_count bytes = refl

no_digits : is_digits (bare k.Text (content.Text [])) ≡ false
unfolding is
no_digits = refl

point_no_count : is_count (bare k.Number (content.Number (pos 0) 1)) ≡ false
unfolding is
point_no_count = refl

number_no_digits : is_digits (bare k.Number (content.Number (pos 0) 1)) ≡ false
unfolding is
number_no_digits = refl

-- the digits of a number of at most six of them
small_digits : (n : ℕ) → n ≤ 999_999 → is_digits (bare k.Text (content.Text (decimal n))) ≡ true
unfolding is
small_digits n h = by (length (decimal n)) (all_ascii_digits (decimal n)) (decimal_some n wide) (length-decimal-le_wide 6 n (omega arith) (omega (arith, h)) wide) (decimal_digits n wide)
  where
    wide : n < 10 ^ 64
    wide = omega (arith, h)

    by : (l : ℕ) (b : Bool) → 0 < l → l ≤ 6 → b ≡ true → (nat_le 1 l && nat_le l 6) && b ≡ true
    by l b lt le e = grind (arith, nat_tests)

pub stands_loose : IsLoose StandsFor
stands_loose = record {
  alike = λ t u e f. record { kind = e; count = λ h. same_count t u e f ∙ h; digits = λ h. same_digits t u e f ∙ h };
  text = λ u e. record { kind = e; count = λ h. never (sym (no_count []) ∙ h); digits = λ h. never (sym no_digits ∙ h) };
  digits = λ u s. record {
    kind = s.kind;
    count = λ h. never (sym (no_count (codes "1")) ∙ h);
    digits = λ h. same_digits (bare k.Text (content.Text (decimal s.number))) u s.kind s.content ∙ small_digits s.number s.small;
  };
  number = λ u e. record { kind = e; count = λ h. never (sym point_no_count ∙ h); digits = λ h. never (sym number_no_digits ∙ h) };
}
