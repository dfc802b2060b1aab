-- What the script of a trial stands for.
use Rattle.std.proofs.Common.{◌≡◌, ℕ, Bool, true, false, ◌||◌, List, [], ◌∷◌, ◌++◌, Result, Ok, Err, refl, ap, sym, subst, ◌∙◌}
use Rattle.std.specs.List.{list_all, list_any}
use Rattle.std.proofs.lemmas.Bool.{and_parts}
use Rattle.std.proofs.lemmas.List.Folds.{list_any-append}
use Rattle.app_sessions.specs.Expansion.{ExpandAll, Expands, ExpandsText, text_or_none}
use Rattle.sql_templates.specs.Templates.{filled_query}
use Rattle.sql_templates.proofs.Scripts.{filled_is_script}
use Rattle.base_refusals.specs.declared.statement.TemplateRefusal.{TemplateRefusal}
use Rattle.sql_ast.specs.declared.statement.Statement.{Statement}
use Rattle.sql_ast.specs.declared.statement.Statement.TheVariants.{Run}
use Rattle.sql_ast.specs.declared.statement.TemplateValue.{TemplateValue}
use Rattle.app_run.specs.JobInputs.{is_refresh}
use Rattle.law_trials.proofs.Plain.{filled_plain}
use Rattle.law_trials.proofs.Runs.{is_run, writable}

-- what a statement stands for, no refresh among it
record IsExpanded (s : Statement) : Type 0 where
  steps : List Statement
  expands : Expands s steps
  plain : list_any is_refresh steps ≡ false

by_text : (number : ℕ) (values : List TemplateValue) (r : Result (List ℕ) TemplateRefusal) → is_run (Run number values) ≡ true → filled_query number values ≡ r → IsExpanded (Run number values)
by_text number values (Ok text) e f =
    let w = writable values e in
    let script = filled_is_script number values text w f in
    record {
      steps = script.0;
      expands = subst (λ r. ExpandsText (text_or_none r) (Run number values) script.0) (sym f) script.1;
      plain = filled_plain number values text script.0 w f script.1;
    }
by_text number values (Err why) e f = record {
  steps = Run number values ∷ [];
  expands = subst (λ r. ExpandsText (text_or_none r) (Run number values) (Run number values ∷ [])) (sym f) refl;
  plain = refl;
}

run_expanded : (s : Statement) → is_run s ≡ true → IsExpanded s
run_expanded (Run number values) e = by_text number values (filled_query number values) e refl
run_expanded s e = cc

-- what statements stand for, no refresh among it
pub record AreExpanded (ss : List Statement) : Type 0 where
  pub steps : List Statement
  pub expand : ExpandAll ss steps
  pub plain : list_any is_refresh steps ≡ false

pub runs_expanded : (ss : List Statement) → list_all is_run ss ≡ true → AreExpanded ss
runs_expanded [] e = record { steps = []; expand = refl; plain = refl }
runs_expanded (s ∷ ss) e =
    let parts = and_parts (is_run s) (list_all is_run ss) e in
    let first = run_expanded s parts.0 in
    let rest = runs_expanded ss parts.1 in
    record {
      steps = first.steps ++ rest.steps;
      expand = (first.steps, rest.steps, first.expands, rest.expand, refl);
      plain = list_any-append is_refresh first.steps rest.steps ∙ rw (first.plain, rest.plain) refl;
    }
