-- What a function that makes a token ensures.
use Rattle.std.specs.Prelude.{◌≡◌, ℕ, ◌+◌, ◌^◌, nat_lt, if◌then◌else◌, Option, Some, None, Result}
use Rattle.std.specs.Prelude.{Ok, Err}
use Rattle.sql_lexer.specs.declared.kind.Kind.{Kind}
use Rattle.sql_lexer.specs.declared.token.Content.{Content}
use Rattle.sql_lexer.specs.declared.fault.LexRefusal.{LexRefusal}
use Rattle.sql_lexer.specs.declared.fault.LexFault.{LexFault}
use Rattle.sql_lexer.specs.declared.fault.LexFault.TheVariants as faults

-- a coefficient that fits
abbrev pub value_in : ℕ → Option ℕ
value_in n = if nat_lt n (2 ^ 127) then Some n else None

-- The kind and content, or the refusal at its place in the script, unless memory runs out.
abbrev pub Makes : Result (Kind × Content) (LexRefusal × ℕ) → Result (Kind × Content) LexFault → ℕ
    → Type 0
Makes made (Ok t) at = made ≡ Ok t
Makes made (Err faults.OutOfMemory) at = Unit {0}
Makes made (Err (faults.Refused r place)) at = (k : ℕ) × (made ≡ Err (r, k)) × (place ≡ at + k)
