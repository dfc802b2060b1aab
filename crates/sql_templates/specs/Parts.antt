-- A template as its plain bytes and its holes.
use Rattle.std.specs.Prelude.{ℕ, zero, suc, Bool, true, false, not, ◌==◌, ◌&&◌, if◌then◌else◌, List}
use Rattle.std.specs.Prelude.{[], ◌∷◌, ◌++◌, length, Option, Some, None, pos, slice_get, codes}
use Rattle.std.specs.Char.{is_ascii_digit}
use Rattle.std.specs.List.{list_all, list_any}
use Rattle.std.specs.Option.{option_and_then, option_map}
use Rattle.std.specs.Str.{bytes_eq}
use Rattle.base_text.specs.Printable.{is_printable}
use Rattle.sql_ast.specs.declared.statement.TemplateValue.{TemplateValue}
use Rattle.sql_lexer.specs.declared.kind.Kind.TheVariants as k
use Rattle.sql_lexer.specs.declared.token.Content.TheVariants as content
use Rattle.sql_lexer.specs.declared.token.Token.{Token}
use Rattle.sql_lexer.specs.Bytes.{is_letter}
use Rattle.sql_templates.specs.declared.kind.ValueKind.{ValueKind}
use Rattle.sql_templates.specs.declared.kind.ValueKind.TheVariants.{Number, Whole}
use Rattle.sql_templates.specs.Cutting.{head_of, bare, cut}
use Rattle.sql_templates.specs.Templates.{place_with, put_value}

-- what stands between plain bytes: the bytes of a text between quotes, or the number of a place
-- outside quotes
pub data Hole : Type 0 where
  quoted : (text : List ℕ) → Hole
  place : (number : ℕ) → Hole

-- plain bytes, and then holes, each with the plain bytes after it
pub record Parts : Type 0 where
  pub first : List ℕ
  pub holes : List (Hole × List ℕ)

-- a byte before all
abbrev pub with_byte : ℕ → Parts → Parts
with_byte b p = record { first = b ∷ p.first; holes = p.holes }

-- a hole before all
abbrev pub with_hole : Hole → Parts → Parts
with_hole h p = record { first = []; holes = (h, p.first) ∷ p.holes }

-- a byte of a quoted text before the parts
abbrev pub with_quoted : ℕ → List ℕ × Parts → List ℕ × Parts
with_quoted b p = (b ∷ p.0, p.1)

-- The parts of a template: outside quotes and places, inside quotes, and in the digits of a place.
unfoldable mutual
  -- the parts of bytes that stand outside quotes and places
  pub outside : List ℕ → Parts
  outside [] = record { first = []; holes = [] }
  outside (b ∷ bs) =
      if b == 39 then with_hole (quoted (inside bs).0) (inside bs).1
      else if b == 58 then digits 0 bs else with_byte b (outside bs)

  -- the bytes up to the quote that closes a text, and the parts after it
  pub inside : List ℕ → List ℕ × Parts
  inside [] = ([], record { first = []; holes = [] })
  inside (b ∷ bs) = if b == 39 then ([], outside bs) else with_quoted b (inside bs)

  -- the parts from within a place, of which the digits so far make this number
  pub digits : ℕ → List ℕ → Parts
  digits n [] = record { first = []; holes = (place n, []) ∷ [] }
  digits n (b ∷ bs) =
      if is_ascii_digit b then digits (place_with n b) bs else with_hole (place n)
      (with_byte b (outside bs))

-- A quoted text with the values put in, and then these bytes. `Some` has the number so far of a
-- place.
abbrev pub text_with : List TemplateValue → Option ℕ → List ℕ → List ℕ → List ℕ
text_with values None [] tail = tail
text_with values (Some n) [] tail = put_value values n ++ tail
text_with values None (b ∷ bs) tail = if b == 58 then text_with values (Some 0) bs tail else b
    ∷ text_with values None bs tail
text_with values (Some n) (b ∷ bs) tail =
    if is_ascii_digit b then text_with values (Some (place_with n b)) bs tail
    else put_value values n
    ++ (if b == 58 then text_with values (Some 0) bs tail else b ∷ text_with values None bs
    tail)

-- a hole with the values put in, and then these bytes
abbrev pub hole_with : List TemplateValue → Hole → List ℕ → List ℕ
hole_with values (quoted text) tail = 39 ∷ text_with values None text (39 ∷ tail)
hole_with values (place n) tail = put_value values n ++ tail

-- holes with the values put in, each with its plain bytes
abbrev pub holes_with : List TemplateValue → List (Hole × List ℕ) → List ℕ
holes_with values [] = []
holes_with values (h ∷ hs) = hole_with values h.0 (h.1 ++ holes_with values hs)

-- the kind of the place of this number
abbrev pub kind_at : List ValueKind → ℕ → Option ValueKind
kind_at kinds zero = None
kind_at kinds (suc n) = slice_get kinds n

-- the kind is that of a number
abbrev pub is_numeric : Option ValueKind → Bool
is_numeric (Some Number) = true
is_numeric (Some Whole) = true
is_numeric other = false

-- the kind is that of a whole number
abbrev pub is_whole : Option ValueKind → Bool
is_whole (Some Whole) = true
is_whole other = false

-- a byte that a quoted text of a template may have
abbrev pub is_plain : ℕ → Bool
is_plain b = is_printable b && not (b == 39)

-- A token that what is put between quotes may stand for: the text itself where nothing is put in, a
-- digit where only a whole number is, and else a text of which nothing is known.
abbrev pub quoted_token : List ValueKind → List ℕ → Option Token
quoted_token kinds text =
    if not (list_all is_plain text) then None
    else if not (list_any (λ b. b == 58) text) then Some (bare k.Text (content.Text text))
    else if bytes_eq text (codes ":1")
    && is_whole (kind_at kinds 1) then Some (bare k.Text (content.Text (codes "1")))
    else Some (bare k.Text (content.Text []))

-- a token that what is put into a hole may stand for
abbrev pub hole_token : List ValueKind → Hole → Option Token
hole_token kinds (quoted text) = quoted_token kinds text
hole_token kinds (place n) =
    if is_numeric (kind_at kinds n) then Some (bare k.Number (content.Number (pos 0) 1)) else None

-- no digit, point or letter comes first
abbrev pub ends_number : List ℕ → Bool
ends_number bytes = not (is_ascii_digit (head_of bytes))
    && (not (head_of bytes == 46) && not (is_letter (head_of bytes)))

-- the plain bytes after a hole end what is put into it
abbrev pub ends_hole : Hole → List ℕ → Bool
ends_hole hole [] = false
ends_hole (quoted text) (b ∷ bs) = not (b == 39)
ends_hole (place n) (b ∷ bs) = ends_number (b ∷ bs)

-- the tokens of plain bytes before others
abbrev pub joined_tokens : Option (List Token) → Option (List Token) → Option (List Token)
joined_tokens front back = option_and_then (λ ts. option_map (λ us. ts ++ us) back) front

-- tokens for which those of holes and their plain bytes may stand
abbrev pub holes_tokens : List ValueKind → List (Hole × List ℕ) → Option (List Token)
holes_tokens kinds [] = Some []
holes_tokens kinds (h ∷ hs) =
    if ends_hole h.0 h.1
    then option_and_then
    (λ t. option_map (λ ts. t ∷ ts)
    (joined_tokens (cut (length h.1) h.1) (holes_tokens kinds hs))) (hole_token kinds h.0)
    else None

-- tokens for which those of a template with any fitting values may stand
abbrev pub sample_tokens : List ValueKind → Parts → Option (List Token)
sample_tokens kinds p = joined_tokens (cut (length p.first) p.first) (holes_tokens kinds p.holes)
