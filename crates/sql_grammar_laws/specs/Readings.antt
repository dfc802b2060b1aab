-- Reading from left to right: the value or the first refusal, and the tokens after the value or
-- from the refused one on.
use Rattle.std.specs.Prelude.{◌≡◌, ℕ, zero, suc, ◌==◌, Bool, false, if◌then◌else◌, List, [], ◌∷◌}
use Rattle.std.specs.Prelude.{length, Result, Ok, Err}
use Rattle.sql_grammar_laws.specs.declared.fault.SyntaxFault.{SyntaxFault}
use Rattle.sql_grammar_laws.specs.declared.fault.SyntaxFault.TheVariants.{Unexpected, TooDeep, TooWide}
use Rattle.sql_grammar_laws.specs.declared.fault.SyntaxError.{SyntaxError}
use Rattle.sql_grammar_laws.specs.declared.fault.SyntaxError.TheVariants as stops

-- What comes of reading: a value with the tokens after it, or a refusal with the tokens from the
-- refused one on.
abbrev pub Outcome : Type 0 → Type 0 → Type 0
Outcome T A = Result A SyntaxFault × List T

-- a way to read: what comes of each list of tokens
abbrev pub Reading : Type 0 → Type 0 → Type 0
Reading T A = List T → Outcome T A

-- where a value was read, what comes of the tokens after it; a refusal stays
abbrev pub and_then : {T A B : Type 0} → Outcome T A → (A → Reading T B) → Outcome T B
and_then (Ok a, ts) f = f a ts
and_then (Err r, ts) f = (Err r, ts)

-- there is a next token, and it passes the test
abbrev pub starts : {T : Type 0} → (T → Bool) → List T → Bool
starts test [] = false
starts test (t ∷ ts) = test t

-- one token that passes the test; another one, or none at all, is unexpected
abbrev pub one : {T : Type 0} → (T → Bool) → Reading T T
one test [] = (Err Unexpected, [])
one test (t ∷ ts) = if test t then (Ok t, ts) else (Err Unexpected, t ∷ ts)

-- the token, where there is room for one more level; where there is none, it opens one too many
abbrev pub allow : {T : Type 0} → ℕ → T → Reading T T
allow zero t ts = (Err TooDeep, t ∷ ts)
allow (suc room) t ts = (Ok t, ts)

-- one token that passes the test and opens a level
abbrev pub opens : {T : Type 0} → ℕ → (T → Bool) → Reading T T
opens room test [] = (Err Unexpected, [])
opens room test (t ∷ ts) = if test t then allow room t ts else (Err Unexpected, t ∷ ts)

-- this value, and no token is read
abbrev pub nothing : {T A : Type 0} → A → Reading T A
nothing a ts = (Ok a, ts)

-- what comes is refused as unexpected, whatever it is
abbrev pub never : {T A : Type 0} → Reading T A
never ts = (Err Unexpected, ts)

-- one after the other; their values are put together
abbrev pub both : {T A B C : Type 0} → (A → B → C) → Reading T A → Reading T B → Reading T C
both f p q ts = and_then (p ts) (λ a us. and_then (q us) (λ b vs. (Ok (f a b), vs)))

-- the same, its value seen by f
abbrev pub mapped : {T A B : Type 0} → (A → B) → Reading T A → Reading T B
mapped f p ts = and_then (p ts) (λ a us. (Ok (f a), us))

-- by the first where the next token passes the test, else by the second
abbrev pub either : {T A : Type 0} → (T → Bool) → Reading T A → Reading T A → Reading T A
either test p q ts = if starts test ts then p ts else q ts

-- an element that is one too many: refused at its first token, for what it is refused there or as
-- one too many
abbrev pub crowded : {T A : Type 0} → List T → Outcome T A → Outcome T A
crowded ts (Ok a, us) = (Err TooWide, ts)
crowded ts (Err r, us) = if length us == length ts then (Err r, ts) else (Err TooWide, ts)

-- reading an element that is one too many
abbrev pub crowd : {T A : Type 0} → Reading T A → Reading T A
crowd p ts = crowded ts (p ts)

-- elements, each after what joins it to those before, which begins with a token that passes the
-- test
unfoldable pub links : {T A B D : Type 0} → (T → Bool) → Reading T D → (D → A → B) → Reading T A → ℕ
    → Reading T (List B)
links test join link p zero =
    either test (both (λ b bs. b ∷ bs) (both link join (crowd p)) (nothing [])) (nothing [])
links test join link p (suc room) =
    either test (both (λ b bs. b ∷ bs) (both link join p) (links test join link p room))
    (nothing [])

-- ---- what a function that reads ensures: the outcome, unless memory runs out

-- The function answered this outcome, its value or its refusal and what is left; or memory ran out.
abbrev pub Reads : {T A : Type 0} → Outcome T A → Result A SyntaxError → List T → Type 0
Reads outcome (Ok a) rest = outcome ≡ (Ok a, rest)
Reads outcome (Err stops.OutOfMemory) rest = Unit {0}
Reads outcome (Err (stops.Refused r)) rest = outcome ≡ (Err r, rest)

-- a stop as the answer of a function that gives one alone
abbrev pub is_err : {A : Type 0} → SyntaxError → Result A SyntaxError
is_err e = Err e
