-- Tokens that stand beside others.
use Rattle.std.specs.Prelude.{◌≡◌, List, [], ◌∷◌}
use Rattle.sql_lexer.specs.declared.token.Token.{Token}

-- the tokens at each place are so to one another, and neither list is longer
abbrev pub Beside : (Token → Token → Type 0) → List Token → List Token → Type 0
Beside R [] [] = Unit {0}
Beside R [] (u ∷ us) = ⊥
Beside R (t ∷ ts) [] = ⊥
Beside R (t ∷ ts) (u ∷ us) = R t u × Beside R ts us

-- the second token is of the first one's kind
abbrev pub IsOfKind : Token → Token → Type 0
IsOfKind t u = u.kind ≡ t.kind
