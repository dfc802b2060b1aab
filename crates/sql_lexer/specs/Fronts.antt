-- The longest token at the front, computed.
use Rattle.std.specs.Prelude.{ℕ, suc, ◌+◌, Bool, true, false, ◌==◌, if◌then◌else◌, List, [], ◌∷◌}
use Rattle.std.specs.Prelude.{Option, Some, None}
use Rattle.std.specs.Option.{option_map}
use Rattle.std.specs.List.{prefix_len}
use Rattle.std.specs.Char.{is_ascii_digit}
use Rattle.sql_lexer.specs.declared.kind.Kind.{Kind}
use Rattle.sql_lexer.specs.declared.front.Form.{Form}
use Rattle.sql_lexer.specs.declared.front.Form.TheVariants as form
use Rattle.sql_lexer.specs.Bytes.{is_letter, is_word}
use Rattle.sql_lexer.specs.Forms.{symbol, long_symbol}

-- how many bytes a point and its digits take, if digits follow it
abbrev pub fraction_len : List ℕ → ℕ
fraction_len [] = 0
fraction_len (b ∷ bs) =
    if b == 46 then (if prefix_len is_ascii_digit bs == 0 then 0 else 1 + prefix_len is_ascii_digit
    bs) else 0

-- how many bytes of a text come after its opening quote, if it ends
abbrev pub text_len : Bool → List ℕ → Option ℕ
text_len true [] = Some 0
text_len false [] = None
text_len true (b ∷ bs) = if b == 39 then option_map (λ n. n + 1) (text_len false bs) else Some 0
text_len false (b ∷ bs) = option_map (λ n. n + 1) (text_len (b == 39) bs)

-- how many bytes of a number come after its first digit
abbrev pub number_len : List ℕ → ℕ
number_len [] = 0
number_len (b ∷ bs) = if is_ascii_digit b then 1 + number_len bs else fraction_len (b ∷ bs)

-- the symbol of two bytes, or else the one of one byte
abbrev pub longer : Option Kind → Option Kind → Option (Form × ℕ)
longer (Some kind) o = Some (form.Symbol kind, 2)
longer None (Some kind) = Some (form.Symbol kind, 1)
longer None None = None

-- the longest symbol at the front, whose first byte is b
abbrev pub symbol_front : ℕ → List ℕ → Option (Form × ℕ)
symbol_front b [] = longer None (symbol b)
symbol_front b (c ∷ cs) = longer (long_symbol b c) (symbol b)

-- a text, of one byte more than come after its opening quote
abbrev pub text_front : Option ℕ → Option (Form × ℕ)
text_front None = None
text_front (Some n) = Some (form.Text, suc n)

-- the longest token at the front, its form and its number of bytes
abbrev pub front_of : List ℕ → Option (Form × ℕ)
front_of [] = None
front_of (b ∷ bs) =
    if is_letter b then Some (form.Word, suc (prefix_len is_word bs))
    else (if is_ascii_digit b then Some (form.Number, suc (number_len bs))
    else (if b == 39 then text_front (text_len false bs)
    else (if fraction_len (b ∷ bs) == 0 then symbol_front b bs else Some
    (form.Number, fraction_len (b ∷ bs)))))
