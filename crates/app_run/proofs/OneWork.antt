-- The inputs of a session are one, but for which refusal of its script they name.
use Rattle.std.proofs.Common.{◌≡◌, ◌≢◌, ◌∙◌, ◌⊎◌, ℕ, List, [], ◌∷◌, ◌++◌, Option, None, Some, ap, inl, inr, refl, subst, sym}
use Rattle.std.specs.Result.{result_err}
use Rattle.std.specs.declared.result.Result.{Result}
use Rattle.std.specs.declared.result.Result.TheVariants.{Ok, Err}
use Rattle.app_sessions.specs.Expansion.{ExpandAll, ExpandsText, run_text}
use Rattle.sql_ast.specs.declared.statement.Statement.{Statement}
use Rattle.sql_parser.proofs.Whole.{bytes_once, read_or_refused}
use Rattle.base_io.specs.Outside.{Folder}
use Rattle.app_run.specs.SessionInputs.{AreInputs, AreSteps, ExpandsTo, work_of}
use Rattle.app_jobs.specs.Works.{Work}
use Rattle.app_inputs.specs.Inputs.{BadInput, IsScriptOf, and_then, file_bytes, script_limit}
use Rattle.app_inputs.specs.declared.input_error.InputFault.TheVariants as fault

one_expansion : (text : Option (List ℕ)) (s : Statement) (a b : List Statement) → ExpandsText text s a → ExpandsText text s b → a ≡ b
one_expansion (Some text) s a b x y = bytes_once text a b x y
one_expansion None s a b x y = x ∙ sym y

-- a script's statements stand for one list of statements
expand_once : (statements a b : List Statement) → ExpandAll statements a → ExpandAll statements b → a ≡ b
expand_once [] a b x y = x ∙ sym y
expand_once (s ∷ ss) a b (first, rest, one, all, is) (other, later, one', all', is') =
    is ∙ ap (λ l. l ++ rest) (one_expansion (run_text s) s first other one one') ∙ ap (λ l. other ++ l) (expand_once ss rest later all all') ∙ sym is'

-- two results are the same, or both are refusals of a script at a byte
abbrev pub AreAlike : {A : Type 0} → Result A BadInput → Result A BadInput → Type 0
AreAlike {A} a b = (a ≡ b) ⊎ ((first : BadInput) × (second : BadInput) × (a ≡ Err first) × (b ≡ Err second) × (first.fault ≢ fault.Absent) × (second.fault ≢ fault.Absent))

no_absence : (refused : BadInput) (name : List ℕ) (r : _) (place : ℕ) → refused ≡ record { name = name; fault = fault.Byte r place } → refused.fault ≢ fault.Absent
no_absence refused name r place is = λ e. let wrong : fault.Byte r place ≡ fault.Absent = sym (ap (λ (b : BadInput). b.fault) is) ∙ e in cc

pub scripts_alike : (name : List ℕ) (bytes : Result (List ℕ) BadInput) (a b : Result (List Statement) BadInput) → IsScriptOf name bytes a → IsScriptOf name bytes b → AreAlike a b
scripts_alike name (Err refused) a b x y = inl (x ∙ sym y)
scripts_alike name (Ok bytes) (Ok a) (Ok b) x y = inl (ap Ok (bytes_once bytes a b x y))
scripts_alike name (Ok bytes) (Ok a) (Err b) x (r, place, refuses, is) = absurd (read_or_refused bytes a r place x refuses)
scripts_alike name (Ok bytes) (Err a) (Ok b) (r, place, refuses, is) y = absurd (read_or_refused bytes b r place y refuses)
scripts_alike name (Ok bytes) (Err a) (Err b) (r, place, refuses, is) (r', place', refuses', is') =
    inr (a, b, refl, refl, no_absence a name r place is, no_absence b name r' place' is')

steps_alike : (one other a b : Result (List Statement) BadInput) → AreAlike one other → ExpandsTo one a → ExpandsTo other b → AreAlike a b
steps_alike (Ok one) other (Ok a) b (inl e) x y = at other (sym e) y
  where
    at : (o : Result (List Statement) BadInput) → o ≡ Ok one → ExpandsTo o b → AreAlike (Ok a) b
    at o is stands = given b (subst (λ r. ExpandsTo r b) is stands)
      where
        given : (c : Result (List Statement) BadInput) → ExpandsTo (Ok one) c → AreAlike (Ok a) c
        given (Ok c) z = inl (ap Ok (expand_once one a c x z))
        given (Err c) z = absurd z
steps_alike (Ok one) other (Err a) b alike x y = absurd x
steps_alike (Err one) other a b (inl e) x y = inl (x ∙ sym (subst (λ r. ExpandsTo r b) (sym e) y))
steps_alike (Ok one) other (Ok a) b (inr (first, second, is, is', p, q)) x y = absurd (cc)
steps_alike (Err one) other a b (inr (first, second, is, is', p, q)) x y =
    inr (first, second, x ∙ is, subst (λ r. ExpandsTo r b) is' y, p, q)

-- the statements that a script of a folder stands for are alike
pub script_steps_alike : (script : List ℕ) (folder : Folder) (a b : Result (List Statement) BadInput) → AreSteps folder script a → AreSteps folder script b → AreAlike a b
script_steps_alike script folder a b (read, is, stands) (read', is', stands') =
    steps_alike read read' a b (scripts_alike script (file_bytes script_limit folder script) read read' is is') stands stands'

-- what is worked on, from the steps
works_alike : (dir : List ℕ) (folder : Folder) (a b : Result (List Statement) BadInput) → AreAlike a b → AreAlike (and_then a (work_of dir folder)) (and_then b (work_of dir folder))
works_alike dir folder a b (inl e) = inl (ap (λ r. and_then r (work_of dir folder)) e)
works_alike dir folder a b (inr (first, second, is, is', p, q)) =
    inr (first, second, ap (λ r. and_then r (work_of dir folder)) is, ap (λ r. and_then r (work_of dir folder)) is', p, q)

-- a session's inputs are alike
pub inputs_alike : (dir script : List ℕ) (folder : Folder) (a b : Result Work BadInput) → AreInputs dir script folder a → AreInputs dir script folder b → AreAlike a b
inputs_alike dir script folder a b (steps, has, made) (steps', has', made') =
    let alike = works_alike dir folder steps steps' (script_steps_alike script folder steps steps' has has') in
    subst (λ x. AreAlike x b) (sym made) (subst (λ y. AreAlike (and_then steps (work_of dir folder)) y) (sym made') alike)
