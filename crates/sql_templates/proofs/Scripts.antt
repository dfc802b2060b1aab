-- The text that a query is filled to is a script.
use Rattle.std.proofs.Common.{◌≡◌, ℕ, suc, ◌-◌, ◌≤◌, true, List, [], ◌∷◌, length, None, Ok, Err, refl, sym, ap, subst, ◌∙◌, arith}
use Rattle.std.proofs.lemmas.Bool.{leb-true}
use Rattle.sql_grammar_laws.specs.Readings.{Outcome}
use Rattle.sql_grammar_laws.specs.Scripts.{IsRead, statements}
use Rattle.sql_grammar_laws.proofs.Verdict.{read_is}
use Rattle.sql_ast.specs.declared.statement.Statement.{Statement}
use Rattle.sql_ast.specs.declared.statement.TemplateValue.{TemplateValue}
use Rattle.sql_lexer.specs.declared.token.Token.{Token}
use Rattle.sql_parser.specs.Grammar.{Ended}
use Rattle.sql_parser_steps.specs.Readings.{ended_at}
use Rattle.sql_parser.specs.Script.{Sql, max_script}
use Rattle.sql_parser.proofs.Levels.{is_read}
use Rattle.sql_templates.specs.Laws.{FilledIsScript}
use Rattle.sql_templates.specs.Templates.{template_of}
use Rattle.sql_templates.specs.Writable.{AreWritable}
use Rattle.sql_templates.proofs.Filled.{IsFilledQuery, query_filled, query_beside}
use Rattle.sql_templates.proofs.Fronts.{never}
use Rattle.sql_templates.proofs.Lines.{follow_ended_at}
use Rattle.sql_templates.proofs.Readings.{StandsFor, StandFor, Follow, follow_statements}
use Rattle.sql_templates.proofs.Samples.{is_value, are_read, is_read_of, sample_read, template_short}
use Rattle.sql_templates.proofs.Short.{longest, are_short, filled_short}
use Rattle.sql_templates.proofs.Stands.{stands_loose}

same_length : (ts us : List Token) → StandFor ts us → length ts ≡ length us
same_length [] [] h = refl
same_length [] (u ∷ us) h = absurd h
same_length (t ∷ ts) [] h = absurd h
same_length (t ∷ ts) (u ∷ us) h = ap suc (same_length ts us h.1)

-- tokens that may stand for others that are read are read
stand_read : (ts us : List Token) → StandFor ts us → are_read ts ≡ true → (ss : List Statement) × IsRead Sql us ss
stand_read ts us h e =
    by (statements (ended_at 1023 64) (length ts) ts) (statements (ended_at 1023 64) (length us) us) e refl
    (subst (λ n. Follow (statements (ended_at 1023 64) (length ts) ts) (statements (ended_at 1023 64) n us)) (same_length ts us h)
    ((follow_statements (follow_ended_at 64) (length ts)).at ts us h))
  where
    by : (o q : Outcome Token (List Statement)) → is_value o.0 ≡ true → statements (ended_at 1023 64) (length us) us ≡ q → Follow o q → (ss : List Statement) × IsRead Sql us ss
    by (Err r, vs) q e is f = never e
    by (Ok ss, vs) (Err r, ws) e is f = absurd f
    by (Ok ss, vs) (Ok rs, ws) e is f = (rs, read_is (Ended 1023 64) (ended_at 1023 64) (is_read 1023 64) us rs ws is)

text_short : (number : ℕ) (values : List TemplateValue) (text : List ℕ) → AreWritable values → IsFilledQuery number values text → length text ≤ max_script
text_short number values text w f =
    let t = template_of number in
    let short = are_short t.kinds values f.filled.count f.filled.fit w in
    let most : longest t.text ≤ max_script = leb-true _ _ (template_short (number - 1) f.within) in
    omega (arith, most, filled_short values short None t.text, ap length f.filled.is)

pub filled_is_script : FilledIsScript
filled_is_script number values text w e =
    let f = query_filled number values text e in
    let h = query_beside StandsFor stands_loose number values text w f in
    let sampled : are_read h.sample ≡ true = sym (ap is_read_of h.is_sample) ∙ sample_read (number - 1) f.within in
    let r = stand_read h.sample h.tokens h.beside sampled in
    (r.0, record { short = text_short number values text w f; tokens = h.tokens; lexes = h.lexes; read = r.1 })
