-- What rules assume of the functions that read the parts which lead back to themselves: a function
-- reads a part at one level, or at each level below one.
use Rattle.std.specs.Prelude.{ℕ, ◌<◌, List, Result}
use Rattle.std.specs.declared.alloc.Global.{Global}
use denote.Ref.{MutBor}
use Rattle.sql_grammar_laws.specs.declared.SyntaxError.{SyntaxError}
use Rattle.sql_grammar_laws.specs.Readings.{Reading, Reads}
use Rattle.sql_lexer.specs.declared.token.Token.{Token}

-- The function may be called where `room` levels may still be opened, and then reads the part
-- there.
pub record At {A : Type 0} (part : ℕ → Reading Token A) (room : ℕ)
    (pre : Global → MutBor (List Token) → ℕ → Type 0)
    (post : Global → MutBor (List Token) → ℕ → Result A SyntaxError → MutBor (List Token) → Type 0)
    : Type 0 where
  pub callable : (alloc : Global) (old : MutBor (List Token)) → pre alloc old room
  pub reads : (alloc : Global) (old new : MutBor (List Token)) (r : Result A SyntaxError)
      → post alloc old room r new → Reads (part room old.now) r new.now

-- The function may be called wherever fewer levels may be opened, and then reads the part there.
pub record Below {A : Type 0} (part : ℕ → Reading Token A) (room : ℕ)
    (pre : Global → MutBor (List Token) → ℕ → Type 0)
    (post : Global → MutBor (List Token) → ℕ → Result A SyntaxError → MutBor (List Token) → Type 0)
    : Type 0 where
  pub callable : (alloc : Global) (old : MutBor (List Token)) (n : ℕ) → n < room → pre alloc old n
  pub reads : (alloc : Global) (old new : MutBor (List Token)) (n : ℕ) (r : Result A SyntaxError)
      → n < room → post alloc old n r new → Reads (part n old.now) r new.now
