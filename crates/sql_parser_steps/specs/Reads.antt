-- What the functions of the parser ensure.
use Rattle.std.specs.Prelude.{Result, Ok, Err}
use Rattle.std.specs.Borrow.{Bor}
use Rattle.sql_grammar_laws.specs.declared.SyntaxError.{SyntaxError}

-- what a reference that is read points to
abbrev pub seen : {A : Type 0} → Result (Bor A) SyntaxError → Result A SyntaxError
seen (Ok r) = Ok r.now
seen (Err e) = Err e
