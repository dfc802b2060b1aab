-- What is computed of each of the 22 templates.
use Rattle.std.proofs.Common.{◌≡◌, true, List, [], ◌∷◌, ◌++◌, None, refl}
use Rattle.std.specs.Prelude.{is_some}
use Rattle.sql_ast.specs.declared.statement.TemplateValue.{TemplateValue}
use Rattle.sql_templates.specs.Cutting.{cut}
use Rattle.sql_templates.specs.Parts.{outside, holes_with, sample_tokens}
use Rattle.sql_templates.specs.Templates.{Template, templates, filled}

-- What holds of a template: it is its parts, and these are tokens.
pub record IsGood (t : Template) : Type 0 where
  pub parts : (values : List TemplateValue) → filled values None t.text ≡ (outside t.text).first ++ holes_with values (outside t.text).holes
  pub tokens : is_some (sample_tokens t.kinds (outside t.text)) ≡ true

-- each of the templates is so
abbrev pub AreGood : List Template → Type 0
AreGood [] = Unit {0}
AreGood (t ∷ ts) = IsGood t × AreGood ts

pub all_good : AreGood templates
unfolding outside cut
all_good = (record { parts = λ values. refl; tokens = refl }, (record { parts = λ values. refl; tokens = refl }, (record { parts = λ values. refl; tokens = refl }, (record { parts = λ values. refl; tokens = refl }, (record { parts = λ values. refl; tokens = refl }, (record { parts = λ values. refl; tokens = refl }, (record { parts = λ values. refl; tokens = refl }, (record { parts = λ values. refl; tokens = refl }, (record { parts = λ values. refl; tokens = refl }, (record { parts = λ values. refl; tokens = refl }, (record { parts = λ values. refl; tokens = refl }, (record { parts = λ values. refl; tokens = refl }, (record { parts = λ values. refl; tokens = refl }, (record { parts = λ values. refl; tokens = refl }, (record { parts = λ values. refl; tokens = refl }, (record { parts = λ values. refl; tokens = refl }, (record { parts = λ values. refl; tokens = refl }, (record { parts = λ values. refl; tokens = refl }, (record { parts = λ values. refl; tokens = refl }, (record { parts = λ values. refl; tokens = refl }, (record { parts = λ values. refl; tokens = refl }, (record { parts = λ values. refl; tokens = refl }, tt))))))))))))))))))))))
