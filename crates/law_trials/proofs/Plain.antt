-- No refresh stands in the text that a query is filled to.
use Rattle.std.proofs.Common.{◌≡◌, ℕ, zero, suc, ◌-◌, ◌<◌, Bool, true, false, not, ◌&&◌, ◌||◌, List, [], ◌∷◌, ◌++◌, length, Option, Some, None, Ok, refl, ap, sym, subst, ◌∙◌, arith, ◌⊎◌, inl, inr}
use Rattle.std.specs.Prelude.{slice_index_or}
use Rattle.std.specs.List.{list_all, list_any}
use Rattle.std.proofs.lemmas.Bool.{and_parts, and_from}
use Rattle.std.proofs.lemmas.List.Folds.{list_all-append}
use denote.Enum.Bare.{sameb}
use Rattle.sql_grammar_laws.specs.Lines.{Then}
use Rattle.sql_grammar_laws.specs.Marks.{Mark, plain, tokens}
use Rattle.sql_grammar_laws.specs.Scripts.{Script}
use Rattle.sql_grammar_laws.proofs.Sound.{tokens-append}
use Rattle.sql_ast.specs.declared.statement.Statement.{Statement}
use Rattle.sql_ast.specs.declared.statement.TemplateValue.{TemplateValue}
use Rattle.sql_ast.specs.declared.tree.Block.{Block}
use Rattle.sql_lexer.specs.Kinds.{is}
use Rattle.sql_lexer.specs.Lexing.{Lexes}
use Rattle.sql_lexer.specs.contracts.kind.Kind.{the_type}
use Rattle.sql_lexer.specs.declared.kind.Kind.TheVariants as k
use Rattle.sql_lexer.specs.declared.token.Token.{Token}
use Rattle.sql_lexer.proofs.OneAnswer.{one_tokens}
use Rattle.sql_parser.specs.Grammar.{EndedLine, InnerQuery, Query, StatementLine}
use Rattle.sql_parser.specs.Script.{IsReadScript, Sql}
use Rattle.sql_templates.specs.Cutting.{cut}
use Rattle.sql_templates.specs.Laws.{HasTokens}
use Rattle.sql_templates.specs.Parts.{outside, sample_tokens}
use Rattle.sql_templates.specs.Standing.{Beside, IsOfKind}
use Rattle.sql_templates.specs.Templates.{Template, filled_query, no_template, template_of, templates}
use Rattle.sql_templates.specs.Writable.{AreWritable}
use Rattle.sql_templates.proofs.Filled.{filled_is_tokens, query_filled}
use Rattle.app_run.specs.JobInputs.{is_refresh}

-- no token that a refresh begins with
abbrev is_other : Token → Bool
is_other t = not (is k.Refresh t)

-- no such token is among those of a template
abbrev are_other : Option (List Token) → Bool
are_other None = true
are_other (Some ts) = list_all is_other ts

abbrev has_others : Template → Bool
has_others t = are_other (sample_tokens t.kinds (outside t.text))

all_have : list_all has_others templates ≡ true
unfolding outside cut is
all_have = refl

at_each : (p : Template → Bool) (ts : List Template) → list_all p ts ≡ true → (n : ℕ) → n < length ts → p (slice_index_or ts n no_template) ≡ true
at_each p [] h n lt = absurd (omega (arith, lt))
at_each p (t ∷ ts) h zero lt = (and_parts (p t) (list_all p ts) h).0
at_each p (t ∷ ts) h (suc n) lt = at_each p ts (and_parts (p t) (list_all p ts) h).1 n (omega (arith, lt))

kind_other : (t u : Token) → u.kind ≡ t.kind → is_other t ≡ true → is_other u ≡ true
unfolding is
kind_other t u e h = ap (λ x. not (sameb the_type x k.Refresh)) e ∙ h

beside_other : (ts us : List Token) → Beside IsOfKind ts us → list_all is_other ts ≡ true → list_all is_other us ≡ true
beside_other [] [] h e = refl
beside_other [] (u ∷ us) h e = absurd h
beside_other (t ∷ ts) [] h e = absurd h
beside_other (t ∷ ts) (u ∷ us) h e =
    let parts = and_parts (is_other t) (list_all is_other ts) e in
    and_from _ _ (kind_other t u h.0 parts.0) (beside_other ts us h.1 parts.1)

-- the marked tokens begin no refresh
abbrev AreOther : List (Mark Token) → Type 0
AreOther ms = list_all is_other (tokens ms) ≡ true

both_other : (ms front back : List (Mark Token)) → ms ≡ front ++ back → AreOther ms → AreOther front × AreOther back
both_other ms front back e h =
    and_parts (list_all is_other (tokens front)) (list_all is_other (tokens back))
    (sym (list_all-append is_other (tokens front) (tokens back)) ∙ ap (list_all is_other) (sym (tokens-append front back)) ∙ ap (λ m. list_all is_other (tokens m)) (sym e) ∙ h)

no_refresh : (t : Token) (ms : List (Mark Token)) → is k.Refresh t ≡ true → ms ≡ plain t ∷ [] → AreOther ms → ⊥
no_refresh t ms e f h =
    let one : (is_other t && true) ≡ true = ap (λ m. list_all is_other (tokens m)) (sym f) ∙ h in
    let here : is_other t ≡ true = (and_parts (is_other t) true one).0 in
    let not_here : is_other t ≡ false = ap not e in
    cc

line_other : (wide room : ℕ) (query inner : List (Mark Token) → Block → Type 0) (ms : List (Mark Token)) (s : Statement) → StatementLine wide room query inner ms s → AreOther ms → is_refresh s ≡ false
line_other wide room query inner ms s (inl g) h = ap is_refresh g.value
line_other wide room query inner ms s (inr (inl g)) h = ap is_refresh g.value
line_other wide room query inner ms s (inr (inr (inl g))) h = ap is_refresh g.value
line_other wide room query inner ms s (inr (inr (inr (inl g)))) h = ap is_refresh (g.value ∙ g.second.value)
line_other wide room query inner ms s (inr (inr (inr (inr (inl g))))) h = absurd (no_refresh g.a g.front g.first.0 g.first.1 (both_other ms g.front g.back g.text h).0)
line_other wide room query inner ms s (inr (inr (inr (inr (inr g))))) h = ap is_refresh (g.value ∙ g.second.value)

ended_other : (wide room : ℕ) (query inner : List (Mark Token) → Block → Type 0) (ms : List (Mark Token)) (s : Statement) → EndedLine wide room query inner ms s → AreOther ms → is_refresh s ≡ false
ended_other wide room query inner ms s e h =
    ap is_refresh e.value ∙ line_other wide room query inner e.front e.a e.first (both_other ms e.front e.back e.text h).0

script_other : (height : ℕ) (ss : List Statement) (ms : List (Mark Token)) → Script Sql height ss ms → AreOther ms → list_any is_refresh ss ≡ false
script_other height [] ms e h = refl
script_other height (s ∷ ss) ms e h =
    let parts = both_other ms e.front e.back e.text h in
    let here : is_refresh s ≡ false = ap is_refresh e.value ∙ ended_other 1023 64 (Query height 1023 64) (InnerQuery height 1023 64) e.front e.a e.first parts.0 in
    let later : list_any is_refresh ss ≡ false = script_other height ss e.back e.second parts.1 in
    rw (here, later) refl

-- no refresh is among the statements of a filled text
pub filled_plain : (number : ℕ) (values : List TemplateValue) (text : List ℕ) (ss : List Statement) → AreWritable values → filled_query number values ≡ Ok text → IsReadScript text ss → list_any is_refresh ss ≡ false
filled_plain number values text ss w e read =
    let has : HasTokens number text = filled_is_tokens number values text w e in
    let others : has_others (template_of number) ≡ true = at_each has_others templates all_have (number - 1) (query_filled number values text e).within in
    let sample : list_all is_other has.sample ≡ true = sym (ap are_other has.is_sample) ∙ others in
    let same : has.tokens ≡ read.tokens = one_tokens 0 text has.tokens read.tokens has.lexes read.lexes in
    let found : list_all is_other read.tokens ≡ true = ap (list_all is_other) (sym same) ∙ beside_other has.sample has.tokens has.kinds sample in
    let spells = read.read.is.spells in
    script_other spells.height ss read.read.is.marks spells.script (ap (list_all is_other) spells.text ∙ found)
