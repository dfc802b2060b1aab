-- Tokens that pass a test of more than their kind.
use Rattle.std.proofs.Common.{◌≡◌, Bool, true, false, ◌||◌, ◌&&◌, [], ◌∷◌, refl, pos}
use Rattle.sql_lexer.specs.declared.kind.Kind.{Kind}
use Rattle.sql_lexer.specs.declared.kind.Kind.TheVariants as k
use Rattle.sql_lexer.specs.declared.token.Token.{Token}
use Rattle.sql_lexer.specs.declared.token.Content.TheVariants as content
use Rattle.sql_lexer.specs.Kinds.{is}
use Rattle.sql_grammar_laws.specs.Lines.{One}
use Rattle.sql_grammar_laws.specs.Marks.{plain}
use Rattle.sql_grammar_laws.specs.Readings.{one}
use Rattle.sql_grammar_laws.proofs.Lawful.{Line, line_one}
use Rattle.sql_parser_steps.specs.Kinds.{kinds}
use Rattle.sql_parser_steps.specs.Values.{is_count, is_digits}

kind_first : (k : Kind) (t : Token) (b : Bool) → is k t && b ≡ true → is k t || false ≡ true
kind_first k t b h = by (is k t) h
  where
    by : (a : Bool) → a && b ≡ true → a || false ≡ true
    by true e = refl
    by false e = e

abbrev zero_token : Token
zero_token = record { kind = k.Number; content = content.Number (pos 0) 0; start = 0; len = 1 }

abbrev one_digit : Token
one_digit = record { kind = k.Text; content = content.Text (48 ∷ []); start = 0; len = 3 }

zero_passes : is_count zero_token ≡ true
unfolding is
zero_passes = refl

digit_passes : is_digits one_digit ≡ true
unfolding is
digit_passes = refl

pub line_count : {P S : Type 0} → Line kinds P S (k.Number ∷ []) [] (One is_count) (one is_count)
line_count = line_one is_count (λ t h. kind_first k.Number t _ h) (record { marks = plain zero_token ∷ []; value = zero_token; part = (zero_passes, refl) })

pub line_digits : {P S : Type 0} → Line kinds P S (k.Text ∷ []) [] (One is_digits) (one is_digits)
line_digits = line_one is_digits (λ t h. kind_first k.Text t _ h) (record { marks = plain one_digit ∷ []; value = one_digit; part = (digit_passes, refl) })
