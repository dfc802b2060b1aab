-- The forms of tokens: which bytes are a token, and what they mean.
use Rattle.std.specs.Prelude.{◌≡◌, ℕ, ◌+◌, ◌-◌, ◌*◌, ◌^◌, ◌≤◌, Bool, true, false, ◌||◌, ◌&&◌}
use Rattle.std.specs.Prelude.{if◌then◌else◌, ◌==◌, List, [], ◌∷◌, length, take, drop, filter, map}
use Rattle.std.specs.Prelude.{nat_lt, Option, Some, None, Result, Ok, Err, pos}
use Rattle.std.specs.List.{prefix_len}
use Rattle.std.specs.Char.{is_ascii_digit, to_ascii_lowercase}
use Rattle.sql_lexer.specs.declared.kind.Kind.{Kind}
use Rattle.sql_lexer.specs.declared.kind.Kind.TheVariants as k
use Rattle.sql_lexer.specs.declared.token.Content.{Content}
use Rattle.sql_lexer.specs.declared.token.Content.TheVariants as content
use Rattle.sql_lexer.specs.declared.fault.LexRefusal.{LexRefusal}
use Rattle.sql_lexer.specs.declared.fault.LexRefusal.TheVariants.{BadByte, NumberTooWide}
use Rattle.sql_lexer.specs.declared.fault.LexRefusal.TheVariants.{ScaleTooWide}
use Rattle.sql_lexer.specs.declared.front.Form.{Form}
use Rattle.sql_lexer.specs.declared.front.Form.TheVariants as form
use Rattle.base_text.specs.Printable.{first_unprintable}
use Rattle.sql_lexer.specs.Bytes.{is_letter, is_word}
use Rattle.sql_lexer.specs.Words.{reserved_kind}

-- each element passes the test
abbrev pub all_are : (ℕ → Bool) → List ℕ → Bool
all_are test [] = true
all_are test (b ∷ bs) = test b && all_are test bs

-- at least one digit, and nothing else
abbrev pub are_digits : List ℕ → Bool
are_digits [] = false
are_digits (b ∷ bs) = is_ascii_digit b && all_are is_ascii_digit bs

-- what may come after a number's first digit: more digits, then perhaps a point and at least one
-- digit
abbrev pub ends_number : List ℕ → Bool
ends_number [] = true
ends_number (b ∷ bs) = (is_ascii_digit b && ends_number bs) || (b == 46 && are_digits bs)

-- digits, then perhaps a point and at least one digit; or a point and at least one digit
abbrev pub is_number : List ℕ → Bool
is_number [] = false
is_number (b ∷ bs) = (is_ascii_digit b && ends_number bs) || (b == 46 && are_digits bs)

-- what may come after a text's opening quote: it ends with the first quote that no other one
-- follows at once. `true` stands where such a quote has just been seen.
abbrev pub ends_text : Bool → List ℕ → Bool
ends_text seen [] = seen
ends_text true (b ∷ bs) = b == 39 && ends_text false bs
ends_text false (b ∷ bs) = ends_text (b == 39) bs

-- a symbol of one byte
abbrev pub symbol : ℕ → Option Kind
symbol b =
    if b == 40 then Some k.OpenParen
    else (if b == 41 then Some k.CloseParen
    else (if b == 44 then Some k.Comma
    else (if b == 59 then Some k.Semicolon
    else (if b == 46 then Some k.Point
    else (if b == 42 then Some k.Star
    else (if b == 43 then Some k.Plus
    else (if b == 45 then Some k.Minus
    else (if b == 47 then Some k.Slash
    else (if b == 61 then Some k.Equal
    else (if b == 60 then Some k.Less
    else (if b == 62 then Some k.Greater
    else None)))))))))))

-- a symbol of two bytes
abbrev pub long_symbol : ℕ → ℕ → Option Kind
long_symbol b c =
    if b == 60 && c == 62 then Some k.NotEqual
    else (if b == 60 && c == 61 then Some k.LessOrEqual
    else (if b == 62 && c == 61 then Some k.GreaterOrEqual
    else None))

-- the symbol that these bytes are, all of them
abbrev pub symbol_of : List ℕ → Option Kind
symbol_of [] = None
symbol_of (b ∷ []) = symbol b
symbol_of (b ∷ c ∷ []) = long_symbol b c
symbol_of (b ∷ c ∷ d ∷ ds) = None

-- These bytes are a token of this form.
abbrev pub IsToken : Form → List ℕ → Type 0
IsToken form.Word [] = ⊥
IsToken form.Word (b ∷ bs) = (is_letter b ≡ true) × (all_are is_word bs ≡ true)
IsToken form.Number bs = is_number bs ≡ true
IsToken form.Text [] = ⊥
IsToken form.Text (b ∷ bs) = (b ≡ 39) × (ends_text false bs ≡ true)
IsToken (form.Symbol kind) bs = symbol_of bs ≡ Some kind

-- a quote comes next
abbrev pub starts_quote : List ℕ → Bool
starts_quote [] = false
starts_quote (b ∷ bs) = b == 39

-- a text doesn't end before a quote: the two are one doubled quote
abbrev pub goes_on : Form → List ℕ → Bool
goes_on form.Word rest = false
goes_on form.Number rest = false
goes_on form.Text rest = starts_quote rest
goes_on (form.Symbol kind) rest = false

-- A token of this form and of n bytes is at the front.
pub record IsFront (f : Form) (n : ℕ) (bytes : List ℕ) : Type 0 where
  pub within : n ≤ length bytes
  pub is : IsToken f (take n bytes)
  pub ends : goes_on f (drop n bytes) ≡ false

-- A token of this form and of n bytes is at the front, and none of more.
pub record IsLongest (f : Form) (n : ℕ) (bytes : List ℕ) : Type 0 where
  pub front : IsFront f n bytes
  pub longest : (g : Form) (m : ℕ) → IsFront g m bytes → m ≤ n

-- no token is at the front
abbrev pub IsNone : List ℕ → Type 0
IsNone bytes = (f : Form) (m : ℕ) → IsFront f m bytes → ⊥

-- ---- what a token's bytes mean

-- the number that digits write, after those that wrote n
abbrev pub digits_value : ℕ → List ℕ → ℕ
digits_value n [] = n
digits_value n (d ∷ ds) = digits_value (10 * n + (d - 48)) ds

-- a number's digits, without its point
abbrev pub coefficient : List ℕ → ℕ
coefficient bytes = digits_value 0 (filter is_ascii_digit bytes)

-- how many digits stand after the point
abbrev pub scale : List ℕ → ℕ
scale bytes = length bytes - (prefix_len is_ascii_digit bytes + 1)

-- a text's bytes, each doubled quote once, from those after its opening quote; `true` as above
abbrev pub unquoted : Bool → List ℕ → List ℕ
unquoted seen [] = []
unquoted true (b ∷ bs) = b ∷ unquoted false bs
unquoted false (b ∷ bs) = if b == 39 then unquoted true bs else b ∷ unquoted false bs

-- a reserved word has its own kind, another word is a name, in lower case
abbrev pub word_made : Option Kind → List ℕ → Kind × Content
word_made (Some kind) word = (kind, content.Nothing)
word_made None word = (k.Name, content.Text word)

-- a number with n digits after the point: more than 18 of them are refused first, then a
-- value of 2^127 or more
abbrev pub number_made : ℕ → ℕ → Result (Kind × Content) (LexRefusal × ℕ)
number_made value places =
    if nat_lt 18 places then Err (ScaleTooWide, 0)
    else (if nat_lt value (2 ^ 127) then Ok (k.Number, content.Number (pos value) places)
    else Err (NumberTooWide, 0))

-- a text without its quotes; refused at its first byte that no text may have, if there is one
abbrev pub text_made : Option ℕ → List ℕ → Result (Kind × Content) (LexRefusal × ℕ)
text_made (Some place) bytes = Err (BadByte, place)
text_made None bytes = Ok (k.Text, content.Text (unquoted false (drop 1 bytes)))

-- the kind and content of a token, or what it is refused for and at which of its bytes
abbrev pub made : Form → List ℕ → Result (Kind × Content) (LexRefusal × ℕ)
made form.Word bytes =
    Ok (word_made (reserved_kind (map to_ascii_lowercase bytes)) (map to_ascii_lowercase bytes))
made form.Number bytes = number_made (coefficient bytes) (scale bytes)
made form.Text bytes = text_made (first_unprintable bytes) bytes
made (form.Symbol kind) bytes = Ok (kind, content.Nothing)
