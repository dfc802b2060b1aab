-- Parentheses after a word: what fails at the closing one.
use Rattle.std.proofs.Common.{◌≡◌, ℕ, zero, suc, ◌-◌, Bool, true, false, cond, List, [], ◌∷◌, Result, Ok, Err, refl, ap, ◌∙◌, arith}
use Rattle.sql_grammar_laws.specs.declared.SyntaxFault.{SyntaxFault}
use Rattle.sql_grammar_laws.specs.declared.SyntaxFault.TheVariants.{Unexpected, TooDeep}
use Rattle.sql_grammar_laws.specs.declared.SyntaxError.{SyntaxError}
use Rattle.sql_grammar_laws.specs.declared.SyntaxError.TheVariants as stops
use Rattle.sql_grammar_laws.specs.Readings.{Outcome, Reading, one, opens, both, Reads, is_err}
use Rattle.sql_lexer.specs.declared.kind.Kind.{Kind}
use Rattle.sql_lexer.specs.declared.kind.Kind.TheVariants as k
use Rattle.sql_lexer.specs.declared.token.Token.{Token}
use Rattle.sql_lexer.specs.Kinds.{is}
use Rattle.sql_ast.specs.declared.tree.Expr.{Expr}
use Rattle.sql_parser_steps.specs.Values.{first, second}
use Rattle.sql_parser_steps.specs.Readings.{part_at, inner_part}

abbrev out : {A : Type 0} → Result A SyntaxFault → List Token → Outcome Token A
out r ts = (r, ts)

err_ok : {A : Type 0} (r : SyntaxFault) (a : A) (ts us : List Token) → out {A = A} (Err r) ts ≡ out (Ok a) us → ⊥
err_ok {A} r a ts us e = let never : Err r ≡ Ok a = ap (λ (o : Outcome Token A). o.0) e in cc

no_room : (test : Token → Bool) (ts us : List Token) (o : Token) → opens 0 test ts ≡ out (Ok o) us → ⊥
no_room test [] us o h = err_ok Unexpected o [] us h
no_room test (t ∷ ts) us o h = by (test t) h
  where
    by : (b : Bool) → cond b (out {A = Token} (Err TooDeep) (t ∷ ts)) (out (Err Unexpected) (t ∷ ts)) ≡ out (Ok o) us → ⊥
    by true e = err_ok TooDeep o (t ∷ ts) us e
    by false e = err_ok Unexpected o (t ∷ ts) us e

-- what stands inside, where a level was opened
pub inner_is : (room : ℕ) (test : Token → Bool) (ts us : List Token) (o : Token) → opens room test ts ≡ (Ok o, us) → inner_part 1023 room ≡ part_at 1023 (room - 1)
inner_is zero test ts us o h = absurd (no_room test ts us o h)
inner_is (suc room) test ts us o h = let e : room ≡ suc room - 1 = omega arith in ap (part_at 1023) e

pub call_fails : (room : ℕ) (word : Kind) (inside : Reading Token Expr → Reading Token Expr) (ts us vs xs ys : List Token) (w o : Token) (a : Expr)
    → one (is word) ts ≡ (Ok w, us) → opens room (is k.OpenParen) us ≡ (Ok o, vs) → inside (part_at 1023 (room - 1)) vs ≡ (Ok a, xs) → (e : SyntaxError) → Reads (one (is k.CloseParen) xs) (is_err {A = Token} e) ys
    → Reads (both second (one (is word)) (both second (opens room (is k.OpenParen)) (both first (inside (inner_part 1023 room)) (one (is k.CloseParen)))) ts) (is_err {A = Expr} e) ys
call_fails room word inside ts us vs xs ys w o a h g f stops.OutOfMemory r = tt
call_fails room word inside ts us vs xs ys w o a h g f (stops.Refused q) r =
    let same : inside (inner_part 1023 room) vs ≡ (Ok a, xs) = ap (λ (p : Reading Token Expr). inside p vs) (inner_is room (is k.OpenParen) us vs o g) ∙ f in
    rw (h, g, same, r) refl
