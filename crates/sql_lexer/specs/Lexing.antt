-- The tokens of a script, the longest from the left, or its first refusal.
use Rattle.std.specs.Prelude.{◌≡◌, ℕ, ◌+◌, ◌<◌, ◌≤◌, Bool, true, false, not, ◌==◌, ◌&&◌, ◌⊎◌}
use Rattle.std.specs.Prelude.{if◌then◌else◌, List, [], ◌∷◌, take, drop, Ok, Err}
use Rattle.std.specs.List.{prefix_len}
use Rattle.sql_lexer.specs.declared.kind.Kind.{Kind}
use Rattle.sql_lexer.specs.declared.token.Content.{Content}
use Rattle.sql_lexer.specs.declared.token.Token.{Token}
use Rattle.sql_lexer.specs.declared.fault.LexRefusal.{LexRefusal}
use Rattle.sql_lexer.specs.declared.fault.LexRefusal.TheVariants.{BadByte, OpenText}
use Rattle.sql_lexer.specs.declared.front.Form.{Form}
use Rattle.sql_lexer.specs.declared.front.Form.TheVariants as form
use Rattle.sql_lexer.specs.Bytes.{is_blank, is_letter}
use Rattle.sql_lexer.specs.Forms.{IsLongest, IsNone, made}

-- two minuses begin a comment
abbrev pub is_comment : List ℕ → Bool
is_comment [] = false
is_comment (b ∷ []) = false
is_comment (b ∷ c ∷ bs) = b == 45 && c == 45

-- how many bytes at the front part tokens: a blank, or a comment up to its line's end
abbrev pub gap_len : List ℕ → ℕ
gap_len [] = 0
gap_len (b ∷ bs) =
    if is_blank b then 1 else
    (if is_comment (b ∷ bs) then prefix_len (λ x. not (x == 10)) (b ∷ bs) else 0)

-- a letter or an underscore comes next
abbrev pub starts_letter : List ℕ → Bool
starts_letter [] = false
starts_letter (b ∷ bs) = is_letter b

-- a letter directly after a number
abbrev pub glued : Form → List ℕ → Bool
glued form.Word rest = false
glued form.Number rest = starts_letter rest
glued form.Text rest = false
glued (form.Symbol kind) rest = false

-- for a byte that no token begins with: an opening quote of a text that doesn't end, or another
-- byte
abbrev pub refusal_at : ℕ → LexRefusal
refusal_at b = if b == 39 then OpenText else BadByte

-- The bytes from a place on are these tokens.
pub data Lexes : ℕ → List ℕ → List Token → Type 0 where
  done : {at : ℕ} → Lexes at [] []
  gap : {at : ℕ} {bytes : List ℕ} {ts : List Token} → 0 < gap_len bytes
      → Lexes (at + gap_len bytes) (drop (gap_len bytes) bytes) ts → Lexes at bytes ts
  token : {at : ℕ} {bytes : List ℕ} {ts : List Token} (f : Form) (n : ℕ) (kind : Kind)
      (content : Content) → gap_len bytes ≡ 0 → IsLongest f n bytes
      → made f (take n bytes) ≡ Ok (kind, content) → glued f (drop n bytes) ≡ false
      → Lexes (at + n) (drop n bytes) ts
      → Lexes at bytes (record { kind = kind; content = content; start = at; len = n } ∷ ts)

-- The bytes from a place on have this refusal first, at this place.
pub data Refuses : ℕ → List ℕ → LexRefusal → ℕ → Type 0 where
  here : {at b : ℕ} {bs : List ℕ} → gap_len (b ∷ bs) ≡ 0 → IsNone (b ∷ bs)
      → Refuses at (b ∷ bs) (refusal_at b) at
  within : {at : ℕ} {bytes : List ℕ} (f : Form) (n : ℕ) (r : LexRefusal) (k : ℕ) → gap_len bytes ≡ 0
      → IsLongest f n bytes → made f (take n bytes) ≡ Err (r, k) → Refuses at bytes r (at + k)
  after_number : {at : ℕ} {bytes : List ℕ} (f : Form) (n : ℕ) (kind : Kind) (content : Content)
      → gap_len bytes ≡ 0 → IsLongest f n bytes
      → made f (take n bytes) ≡ Ok (kind, content) → glued f (drop n bytes) ≡ true
      → Refuses at bytes BadByte (at + n)
  after_gap : {at : ℕ} {bytes : List ℕ} {r : LexRefusal} {place : ℕ} → 0 < gap_len bytes
      → Refuses (at + gap_len bytes) (drop (gap_len bytes) bytes) r place → Refuses at bytes r place
  after_token : {at : ℕ} {bytes : List ℕ} {r : LexRefusal} {place : ℕ} (f : Form) (n : ℕ)
      (kind : Kind) (content : Content) → gap_len bytes ≡ 0 → IsLongest f n bytes
      → made f (take n bytes) ≡ Ok (kind, content) → glued f (drop n bytes) ≡ false
      → Refuses (at + n) (drop n bytes) r place → Refuses at bytes r place

-- This token is the next one, from the bytes at this place on.
pub record Cuts (at : ℕ) (bytes : List ℕ) (t : Token) : Type 0 where
  pub f : Form
  pub start : t.start ≡ at
  pub longest : IsLongest f t.len bytes
  pub made : made f (take t.len bytes) ≡ Ok (t.kind, t.content)
  pub free : glued f (drop t.len bytes) ≡ false

-- The tokens stand one after the other, from the first place to the last.
abbrev pub InOrder : ℕ → ℕ → List Token → Type 0
InOrder low high [] = low ≤ high
InOrder low high (t ∷ ts) = (low ≤ t.start) × (0 < t.len) × InOrder (t.start + t.len) high ts

-- The bytes from a place on are tokens, or have a first refusal.
abbrev pub HasAnswer : ℕ → List ℕ → Type 0
HasAnswer at bytes = ((ts : List Token) × Lexes at bytes ts)
    ⊎ ((r : LexRefusal) × (place : ℕ) × Refuses at bytes r place)

-- every text has tokens or a first refusal
abbrev pub SomeAnswer : Type 0
SomeAnswer = (at : ℕ) (bytes : List ℕ) → HasAnswer at bytes

-- a text has one list of tokens
abbrev pub OneTokens : Type 0
OneTokens = (at : ℕ) (bytes : List ℕ) (ts us : List Token) → Lexes at bytes ts → Lexes at bytes us
    → ts ≡ us

-- a text has one first refusal
abbrev pub OneRefusal : Type 0
OneRefusal = (at : ℕ) (bytes : List ℕ) (r q : LexRefusal) (m n : ℕ) → Refuses at bytes r m
    → Refuses at bytes q n → (r ≡ q) × (m ≡ n)

-- no text has tokens and a refusal
abbrev pub NeverBoth : Type 0
NeverBoth = (at : ℕ) (bytes : List ℕ) (ts : List Token) (r : LexRefusal) (n : ℕ) → Lexes at bytes ts
    → Refuses at bytes r n → ⊥
