use Rattle.std.proofs.Common.{◌≡◌, ℕ, ◌∷◌, ◌++◌, Option, None, sym, subst, ap, ◌∙◌}
use Rattle.sql_templates.specs.Templates.{filled}
use Rattle.sql_templates.proofs.Bytes.{value_ends}
use Rattle.sql_templates.proofs.filling.put_byte.Goals as goal

-- src/filling.rt:100:1
pub returns-in_ok-now-in-None-clause-text : goal.returns-in_ok-now-in-None-clause-text
returns-in_ok-now-in-None-clause-text c = λ rest.
    let P : Option ℕ → Type 0 = λ p. c.args.script.now.items ++ filled c.args.values.now p (c.args.byte ∷ rest) ≡ c.put_plain.new.script.items ++ filled c.args.values.now c.in_ok-now-in-None.now rest in
    subst P (sym c.in-None.is) (c.in_ok-now-in-None.ensures.text c.args.values.now rest)

-- src/filling.rt:100:1
pub returns-in_ok-now-in-Some-clause-text : goal.returns-in_ok-now-in-Some-clause-text
returns-in_ok-now-in-Some-clause-text c = λ rest.
    let P : Option ℕ → Type 0 = λ p. c.args.script.now.items ++ filled c.args.values.now p (c.args.byte ∷ rest) ≡ c.put_plain-in-Some.new.script.items ++ filled c.args.values.now c.in_ok-now-in-Some.now rest in
    subst P (sym c.in-Some.is)
    (value_ends c.args.values.now c.in-Some.number c.args.byte c.args.script.now.items rest (sym c.is_ascii_digit.ensures.value ∙ c.if-is_ascii_digit.false)
    ∙ ap (λ x. x ++ filled c.args.values.now None (c.args.byte ∷ rest)) (sym c.in_ok-push_value-in-Some.ensures)
    ∙ c.in_ok-now-in-Some.ensures.text c.args.values.now rest)
