-- The text that a query is filled to has tokens.
use Rattle.std.proofs.Common.{◌≡◌, ℕ, zero, suc, ◌+◌, ◌-◌, ◌<◌, Bool, true, false, cond, eqb, List, [], ◌∷◌, length, Option, Some, None, Ok, Err, refl, sym, subst, ◌∙◌, arith}
use Rattle.std.specs.Prelude.{is_some, slice_index_or}
use Rattle.std.proofs.lemmas.Bool.Decides.{nat_tests}
use Rattle.base_refusals.specs.declared.statement.TemplateRefusal.TheVariants.{NoSuchQuery, WrongCount, WrongKind}
use Rattle.sql_ast.specs.declared.statement.TemplateValue.{TemplateValue}
use Rattle.sql_lexer.specs.declared.token.Token.{Token}
use Rattle.sql_lexer.specs.Lexing.{Lexes}
use Rattle.sql_templates.specs.declared.kind.ValueKind.{ValueKind}
use Rattle.sql_templates.specs.Laws.{FilledIsTokens}
use Rattle.sql_templates.specs.Parts.{outside, sample_tokens}
use Rattle.sql_templates.specs.Standing.{Beside, IsOfKind}
use Rattle.sql_templates.specs.Templates.{Template, templates, template_of, no_template, is_query, fits, first_misfit, filled, filled_template, filled_query, unless_misfit}
use Rattle.sql_templates.specs.Writable.{AreWritable}
use Rattle.sql_templates.proofs.Fronts.{never}
use Rattle.sql_templates.proofs.Parts.{Fit, IsLoose, parts_lexed}
use Rattle.sql_templates.proofs.Queries.{IsGood, AreGood, all_good}

-- ---- what is filled

all_fit : (p : ℕ) (kinds : List ValueKind) (values : List TemplateValue) → length values ≡ length kinds → first_misfit p kinds values ≡ None → Fit kinds values
all_fit p [] values l e = tt
all_fit p (kind ∷ kinds) [] l e = absurd (omega (arith, l))
all_fit p (kind ∷ kinds) (v ∷ values) l e = by (all_fit (p + 1) kinds values (omega (arith, l))) (fits kind v) refl e
  where
    by : (first_misfit (p + 1) kinds values ≡ None → Fit kinds values) → (t : Bool) → fits kind v ≡ t → cond t (first_misfit (p + 1) kinds values) (Some p) ≡ None → (fits kind v ≡ true) × Fit kinds values
    by more true q e = (q, more e)
    by more false q e = absurd (let no : Some p ≡ None = e in cc)

-- what is known of a text that a template is filled to
pub record IsFilled (t : Template) (values : List TemplateValue) (text : List ℕ) : Type 0 where
  pub count : length values ≡ length t.kinds
  pub fit : Fit t.kinds values
  pub is : text ≡ filled values None t.text

template_filled : (t : Template) (values : List TemplateValue) (text : List ℕ) → filled_template t values ≡ Ok text → IsFilled t values text
template_filled t values text e = by (eqb (length values) (length t.kinds)) (first_misfit 1 t.kinds values) refl refl e
  where
    by : (q : Bool) (m : Option ℕ) → eqb (length values) (length t.kinds) ≡ q → first_misfit 1 t.kinds values ≡ m
        → cond q (unless_misfit m (filled values None t.text)) (Err WrongCount) ≡ Ok text → IsFilled t values text
    by false m eq em e = absurd (let no : Err WrongCount ≡ Ok text = e in cc)
    by true (Some p) eq em e = absurd (let no : Err (WrongKind p) ≡ Ok text = e in cc)
    by true None eq em e =
        let same : filled values None t.text ≡ text = cc in
        let count : length values ≡ length t.kinds = grind (arith, nat_tests) in
        record { count = count; fit = all_fit 1 t.kinds values count em; is = sym same }

-- what is known of a text that a query is filled to: its template is one of the 22
pub record IsFilledQuery (number : ℕ) (values : List TemplateValue) (text : List ℕ) : Type 0 where
  pub within : number - 1 < 22
  pub filled : IsFilled (template_of number) values text

pub query_filled : (number : ℕ) (values : List TemplateValue) (text : List ℕ) → filled_query number values ≡ Ok text → IsFilledQuery number values text
query_filled number values text e = by (is_query number) refl e
  where
    below : (n : ℕ) → is_query n ≡ true → n - 1 < 22
    below n h = grind (arith, nat_tests)

    by : (q : Bool) → is_query number ≡ q → cond q (filled_template (template_of number) values) (Err NoSuchQuery) ≡ Ok text → IsFilledQuery number values text
    by false q e = absurd (let no : Err NoSuchQuery ≡ Ok text = e in cc)
    by true q e = record { within = below number q; filled = template_filled (template_of number) values text e }

good_at : (ts : List Template) → AreGood ts → (n : ℕ) → n < length ts → IsGood (slice_index_or ts n no_template)
good_at [] h n lt = absurd (omega (arith, lt))
good_at (t ∷ ts) h zero lt = h.0
good_at (t ∷ ts) h (suc n) lt = good_at ts h.1 n (omega (arith, lt))

-- A filled text has tokens, which stand beside the template's sample tokens by the relation R.
pub record HasBeside (R : Token → Token → Type 0) (t : Template) (text : List ℕ) : Type 0 where
  pub sample : List Token
  pub is_sample : sample_tokens t.kinds (outside t.text) ≡ Some sample
  pub tokens : List Token
  pub lexes : Lexes 0 text tokens
  pub beside : Beside R sample tokens

module _ (R : Token → Token → Type 0) (loose : IsLoose R) where
  template_beside : (t : Template) (values : List TemplateValue) (text : List ℕ) → AreWritable values → IsGood t → IsFilled t values text → HasBeside R t text
  template_beside t values text w good f = by (sample_tokens t.kinds (outside t.text)) refl good.tokens
    where
      by : (o : Option (List Token)) → sample_tokens t.kinds (outside t.text) ≡ o → is_some o ≡ true → HasBeside R t text
      by None s some = never some
      by (Some ts) s some =
          let r = parts_lexed R loose t.kinds values f.fit w (outside t.text) ts s in
          record { sample = ts; is_sample = s; tokens = r.found; lexes = subst (λ x. Lexes 0 x r.found) (sym (f.is ∙ good.parts values)) r.lexes; beside = r.beside }

  pub query_beside : (number : ℕ) (values : List TemplateValue) (text : List ℕ) → AreWritable values → IsFilledQuery number values text → HasBeside R (template_of number) text
  query_beside number values text w f = template_beside (template_of number) values text w (good_at templates all_good (number - 1) f.within) f.filled

loose : IsLoose IsOfKind
loose = record { alike = λ t u e f. e; text = λ u e. e; digits = λ u s. s.kind; number = λ u e. e }

pub filled_is_tokens : FilledIsTokens
filled_is_tokens number values text w e =
    let h = query_beside IsOfKind loose number values text w (query_filled number values text e) in
    record { sample = h.sample; is_sample = h.is_sample; tokens = h.tokens; lexes = h.lexes; kinds = h.beside }
