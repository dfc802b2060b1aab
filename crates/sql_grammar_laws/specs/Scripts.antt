-- What a script of statements is, and which refusals stand at which token. A grammar says which
-- marked tokens spell one statement with its end; a script is any number of them.
use Rattle.std.specs.Prelude.{◌≡◌, ℕ, zero, suc, ◌<◌, ◌≤◌, List, [], ◌∷◌, ◌++◌, ◌⊎◌, length, take}
use Rattle.std.specs.Prelude.{Option, Some, None, Ok}
use Rattle.sql_grammar_laws.specs.declared.fault.SyntaxFault.{SyntaxFault}
use Rattle.sql_grammar_laws.specs.declared.fault.SyntaxFault.TheVariants.{Unexpected, TooDeep, TooWide}
use Rattle.sql_grammar_laws.specs.Marks.{Mark, Limit, deep, wide, tokens}
use Rattle.sql_grammar_laws.specs.Lines.{Part, Then}
use Rattle.sql_grammar_laws.specs.Readings.{Reading, both}

-- A grammar with statements of any height: how deep they nest.
abbrev pub Grammar : Type 0 → Type 0 → Type 1
Grammar T S = ℕ → Part T S

-- one statement after the other, of at most this height
abbrev pub Script : {T S : Type 0} → Grammar T S → ℕ → List S → List (Mark T) → Type 0
Script G h [] ms = ms ≡ []
Script G h (s ∷ ss) ms = Then {B = Unit {0}} (λ x _. x) (G h) (λ ns _. Script G h ss ns) ms s

-- These tokens, so marked, spell these statements.
pub record Spells {T S : Type 0} (G : ℕ → List (Mark T) → S → Type 0) (ts : List T)
    (ms : List (Mark T)) (ss : List S) : Type 0 where
  pub height : ℕ
  pub script : Script G height ss ms
  pub text : tokens ms ≡ ts

-- These tokens are a script with these statements.
pub record IsScript {T S : Type 0} (G : ℕ → List (Mark T) → S → Type 0) (ts : List T) (ss : List S)
    : Type 0 where
  pub marks : List (Mark T)
  pub spells : Spells G ts marks ss

-- the limit that the token of this number passes
abbrev pub passes_at : {T : Type 0} → ℕ → List (Mark T) → Option Limit
passes_at n [] = None
passes_at zero (m ∷ ms) = m.passes
passes_at (suc n) (m ∷ ms) = passes_at n ms

-- Some script begins with these tokens.
pub record CanBegin {T S : Type 0} (G : ℕ → List (Mark T) → S → Type 0) (front : List T) : Type 0
  where
    pub more : List T
    pub statements : List S
    pub whole : IsScript G (front ++ more) statements

-- The least n such that no script begins with the first n + 1 tokens. Where the tokens only stop
-- too early, their number.
pub record IsUnexpected {T S : Type 0} (G : ℕ → List (Mark T) → S → Type 0) (ts : List T) (n : ℕ)
    : Type 0 where
  pub within : n ≤ length ts
  pub least : CanBegin G (take n ts)
  pub none : (more : List T) (ss : List S) → (n < length ts) ⊎ (more ≡ [])
      → IsScript G (take (suc n) ts ++ more) ss → ⊥

-- In some script that begins with the tokens so far, the last of them passes this limit.
pub record Passes {T S : Type 0} (G : ℕ → List (Mark T) → S → Type 0) (l : Limit) (ts : List T)
    (n : ℕ) : Type 0 where
  pub within : n < length ts
  pub more : List T
  pub statements : List S
  pub marks : List (Mark T)
  pub whole : Spells G (take (suc n) ts ++ more) marks statements
  pub here : passes_at n marks ≡ Some l

-- The refusal stands at this token.
abbrev pub Stands : {T S : Type 0} → Grammar T S → SyntaxFault → List T → ℕ → Type 0
Stands G Unexpected ts n = IsUnexpected G ts n
Stands G TooDeep ts n = Passes G deep ts n
Stands G TooWide ts n = Passes G wide ts n

-- a refusal's number among those of scripts
abbrev pub rank : SyntaxFault → ℕ
rank Unexpected = 5
rank TooDeep = 6
rank TooWide = 8

-- The first of all: at the earliest token, there the one of the least number.
pub record IsFirst {T S : Type 0} (G : ℕ → List (Mark T) → S → Type 0) (r : SyntaxFault)
    (ts : List T) (n : ℕ) : Type 0 where
  pub stands : Stands G r ts n
  pub first : (q : SyntaxFault) (m : ℕ) → Stands G q ts m → (n < m) ⊎ ((n ≡ m) × (rank r ≤ rank q))

-- The tokens are a script with these statements and no others, and no refusal stands at any of
-- them.
pub record IsRead {T S : Type 0} (G : ℕ → List (Mark T) → S → Type 0) (ts : List T) (ss : List S)
    : Type 0 where
  pub is : IsScript G ts ss
  pub only : (others : List S) → IsScript G ts others → others ≡ ss
  pub none : (q : SyntaxFault) (m : ℕ) → Stands G q ts m → ⊥

-- Reading statements to the end of the tokens. The number bounds the statements; the count of the
-- tokens is always enough.
unfoldable pub statements : {T S : Type 0} → Reading T S → ℕ → Reading T (List S)
statements p zero ts = (Ok [], ts)
statements p (suc n) [] = (Ok [], [])
statements p (suc n) (t ∷ ts) = both (λ s ss. s ∷ ss) p (statements p n) (t ∷ ts)
