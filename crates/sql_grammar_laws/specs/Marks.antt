-- A token, and the limit that its place in a script passes, if there is one.
use Rattle.std.specs.Prelude.{ℕ, zero, suc, List, [], ◌∷◌, Option, Some, None}
use Rattle.sql_grammar_laws.specs.declared.fault.SyntaxFault.{SyntaxFault}
use Rattle.sql_grammar_laws.specs.declared.fault.SyntaxFault.TheVariants.{TooDeep, TooWide}

-- The limits that a token may pass: `deep` opens a level too many, `wide` begins an element too
-- many.
pub data Limit : Type 0 where
  deep : Limit
  wide : Limit

-- a passed limit as a refusal
abbrev pub refusal_of : Limit → SyntaxFault
refusal_of deep = TooDeep
refusal_of wide = TooWide

-- A token, and the limit that it passes at its place, if it passes one.
pub record Mark (T : Type 0) : Type 0 where
  pub token : T
  pub passes : Option Limit

-- the tokens without their marks
abbrev pub tokens : {T : Type 0} → List (Mark T) → List T
tokens [] = []
tokens (m ∷ ms) = m.token ∷ tokens ms

-- the token passes no limit
abbrev pub plain : {T : Type 0} → T → Mark T
plain t = record { token = t; passes = None }

-- The token opens one more level: it passes the limit where there is no room for one.
abbrev pub opening : {T : Type 0} → ℕ → T → Mark T
opening zero t = record { token = t; passes = Some deep }
opening (suc room) t = plain t

-- Where both limits are passed at one token, the depth counts.
abbrev pub or_wide : Option Limit → Option Limit
or_wide None = Some wide
or_wide (Some r) = Some r

-- the text of an element of a list that has room for n more
abbrev pub element : {T : Type 0} → ℕ → List (Mark T) → List (Mark T)
element (suc room) ms = ms
element zero [] = []
element zero (m ∷ ms) = record { token = m.token; passes = or_wide m.passes } ∷ ms
