-- What holds of a reading of a grammar's texts: what it takes is in the grammar, it looks one token
-- ahead, and it takes all.
use Rattle.std.specs.Prelude.{◌≡◌, ℕ, List, [], ◌∷◌, ◌++◌, Option, Some, None, Result, Ok, Err}
use Rattle.sql_grammar_laws.specs.declared.fault.SyntaxFault.{SyntaxFault}
use Rattle.sql_grammar_laws.specs.declared.fault.SyntaxFault.TheVariants.{Unexpected, TooDeep, TooWide}
use Rattle.sql_grammar_laws.specs.Marks.{Mark, Limit, refusal_of, tokens}
use Rattle.sql_grammar_laws.specs.Readings.{Outcome}

-- the refused token, where it can stand there
abbrev pub shown : {T : Type 0} → SyntaxFault → List T → List T
shown Unexpected ts = []
shown TooDeep [] = []
shown TooDeep (t ∷ ts) = t ∷ []
shown TooWide [] = []
shown TooWide (t ∷ ts) = t ∷ []

-- a limit is passed at a token
abbrev pub IsThere : {T : Type 0} → SyntaxFault → List T → Type 0
IsThere Unexpected ts = Unit {0}
IsThere TooDeep [] = ⊥
IsThere TooDeep (t ∷ ts) = Unit {0}
IsThere TooWide [] = ⊥
IsThere TooWide (t ∷ ts) = Unit {0}

-- These tokens begin something of the grammar.
pub record Begins {T A : Type 0} (G : List (Mark T) → A → Type 0) (front : List T) : Type 0 where
  pub tail : List T
  pub marks : List (Mark T)
  pub value : A
  pub part : G marks value
  pub text : tokens marks ≡ front ++ tail

-- The tokens up to the rest are a text of the grammar.
pub record Takes {T A : Type 0} (G : List (Mark T) → A → Type 0) (ts : List T) (a : A)
    (rest : List T) : Type 0 where
  pub marks : List (Mark T)
  pub part : G marks a
  pub text : ts ≡ tokens marks ++ rest

-- The tokens up to the rest begin a text of the grammar; for a limit, with the refused token.
pub record Stops {T A : Type 0} (G : List (Mark T) → A → Type 0) (ts : List T) (r : SyntaxFault)
    (rest : List T) : Type 0 where
  pub front : List T
  pub text : ts ≡ front ++ rest
  pub begins : Begins G (front ++ shown r rest)
  pub there : IsThere r rest

-- A value read has a text of the grammar before the rest; a refusal stands after tokens that begin
-- one.
abbrev pub Meets : {T A : Type 0} → (List (Mark T) → A → Type 0) → List T → Outcome T A → Type 0
Meets G ts (Ok a, rest) = Takes G ts a rest
Meets G ts (Err r, rest) = Stops G ts r rest

-- What is read is in the grammar, and what was read before a refusal begins something that is.
pub record Sound {T A : Type 0} (G : List (Mark T) → A → Type 0) (p : List T → Outcome T A) : Type 0
  where
    pub at : (ts : List T) → Meets G ts (p ts)

-- something of the grammar
pub record Sample {T A : Type 0} (G : List (Mark T) → A → Type 0) : Type 0 where
  pub marks : List (Mark T)
  pub value : A
  pub part : G marks value

-- What is read, up to a token, depends on the tokens up to this one alone.
pub record Stable {T A : Type 0} (p : List T → Outcome T A) : Type 0 where
  -- what is left is the end of what was given
  pub ends : (ts : List T) (r : Result A SyntaxFault) (us : List T) → p ts ≡ (r, us)
      → (front : List T) × (ts ≡ front ++ us)
  pub same : (front : List T) (x : T) (u v : List T) (r : Result A SyntaxFault)
      → p (front ++ x ∷ u) ≡ (r, x ∷ u) → p (front ++ x ∷ v) ≡ (r, x ∷ v)

-- the limit as a refusal at these tokens, where one is passed; else the outcome
abbrev pub passing : {T A : Type 0} → Option Limit → List T → Outcome T A → Outcome T A
passing None ts o = o
passing (Some l) ts o = (Err (refusal_of l), ts)

-- the first limit that marked tokens pass, else what comes of the rest
abbrev pub verdict : {T A : Type 0} → List (Mark T) → List T → Outcome T A → Outcome T A
verdict [] rest o = o
verdict (m ∷ ms) rest o = passing m.passes (m.token ∷ (tokens ms ++ rest)) (verdict ms rest o)

-- What is in the grammar is read, up to the first token at which it passes a limit. F says what may
-- come next.
pub record Complete {T A : Type 0} (G : List (Mark T) → A → Type 0) (p : List T → Outcome T A)
    (F : List T → Type 0) : Type 0 where
  pub at : (ms : List (Mark T)) (a : A) (rest : List T) → G ms a → F rest
      → p (tokens ms ++ rest) ≡ verdict ms rest (Ok a, rest)

-- something stands before its end
pub record NonEmpty {T A : Type 0} (G : List (Mark T) → A → Type 0) : Type 0 where
  pub never : (a : A) → G [] a → ⊥

-- A reading of statements: sound for statements of some height, stable, complete for those of each
-- height.
pub record IsReadBy {T S : Type 0} (G : ℕ → List (Mark T) → S → Type 0) (p : List T → Outcome T S)
    : Type 0 where
  pub height : ℕ
  pub sound : Sound (G height) p
  pub stable : Stable p
  pub complete : (h : ℕ) → Complete (G h) p (λ _. Unit {0})
  pub nonempty : (h : ℕ) → NonEmpty (G h)
