-- Tokens of closed bytes, of which only kind and content matter.
use Rattle.std.specs.Prelude.{ℕ, zero, suc, Bool, true, not, ◌==◌, ◌&&◌, nat_lt, if◌then◌else◌}
use Rattle.std.specs.Prelude.{List, [], ◌∷◌, length, take, drop, Option, Some, None, Result, Ok}
use Rattle.std.specs.Prelude.{Err}
use Rattle.std.specs.Option.{option_map}
use Rattle.sql_lexer.specs.declared.fault.LexRefusal.{LexRefusal}
use Rattle.sql_lexer.specs.declared.front.Form.{Form}
use Rattle.sql_lexer.specs.declared.front.Form.TheVariants as form
use Rattle.sql_lexer.specs.declared.kind.Kind.{Kind}
use Rattle.sql_lexer.specs.declared.kind.Kind.TheVariants as k
use Rattle.sql_lexer.specs.declared.token.Content.{Content}
use Rattle.sql_lexer.specs.declared.token.Content.TheVariants as content
use Rattle.sql_lexer.specs.declared.token.Token.{Token}
use Rattle.sql_lexer.specs.Bytes.{is_blank}
use Rattle.sql_lexer.specs.Forms.{made}
use Rattle.sql_lexer.specs.Fronts.{front_of}
use Rattle.sql_lexer.specs.Lexing.{glued, is_comment}

-- the first byte, or 0 where there is none
abbrev pub head_of : List ℕ → ℕ
head_of [] = 0
head_of (b ∷ bs) = b

-- a token that stands nowhere
abbrev pub bare : Kind → Content → Token
bare kind content = record { kind = kind; content = content; start = 0; len = 0 }

-- the token before the others
abbrev pub before : Token → Option (List Token) → Option (List Token)
before t others = option_map (λ ts. t ∷ ts) others

-- what was made of a token's bytes, before the others
abbrev pub with_made : Result (Kind × Content) (LexRefusal × ℕ) → Option (List Token)
    → Option (List Token)
with_made (Ok (kind, content)) others = before (bare kind content) others
with_made (Err refusal) others = None

-- a token of this form stays what it is, whatever stands after these bytes that come after it; b is
-- its first byte
abbrev pub is_safe : Form → ℕ → List ℕ → Bool
is_safe form.Word b rest = true
is_safe form.Number b rest = not (head_of rest == 46) && not (b == 46)
is_safe form.Text b rest = true
is_safe (form.Symbol kind) b rest = true

-- the token at the front and those after it, which `more` cuts, where it stays what it is whatever
-- stands after the bytes
abbrev pub cut_front : (List ℕ → Option (List Token)) → ℕ → List ℕ → Option (Form × ℕ)
    → Option (List Token)
cut_front more b bs None = None
cut_front more b bs (Some (f, n)) =
    if nat_lt n (length (b ∷ bs))
    && (is_safe f b (drop n (b ∷ bs)) && not (glued f (drop n (b ∷ bs))))
    then with_made (made f (take n (b ∷ bs))) (more (drop n (b ∷ bs))) else None

-- a byte that is the last one: a blank, or an opening parenthesis
abbrev pub cut_last : ℕ → Option (List Token)
cut_last b = if is_blank b then Some [] else if b
    == 40 then Some (bare k.OpenParen content.Nothing ∷ []) else None

-- The tokens of bytes that end with a blank or an opening parenthesis, where the last one stays
-- what it is whatever stands after them. The number bounds the tokens and blanks.
unfoldable pub cut : ℕ → List ℕ → Option (List Token)
cut fuel [] = Some []
cut zero (b ∷ bs) = None
cut (suc fuel) (b ∷ []) = cut_last b
cut (suc fuel) (b ∷ c ∷ cs) =
    if is_blank b then cut fuel (c ∷ cs)
    else if is_comment (b ∷ c ∷ cs) then None
    else cut_front (cut fuel) b (c ∷ cs) (front_of (b ∷ c ∷ cs))
