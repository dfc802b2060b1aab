-- An accepted command prints one text, with one status.
use Rattle.std.proofs.Common.{◌≡◌, ◌≢◌, ◌∙◌, ◌⊎◌, ℕ, List, None, Some, ap, inl, inr, subst, sym}
use Rattle.std.specs.Result.{result_err}
use Rattle.std.specs.declared.result.Result.{Result}
use Rattle.std.specs.declared.result.Result.TheVariants.{Ok, Err}
use Rattle.base_io.specs.Outside.{Folder}
use Rattle.base_schema.specs.State.{State}
use Rattle.app_run.specs.SessionInputs.{AreInputs}
use Rattle.app_jobs.specs.Works.{Work}
use Rattle.app_inputs.specs.Inputs.{BadInput, state_in}
use Rattle.app_run.specs.Laws.{TextLaw}
use Rattle.app_run.specs.Meaning.{MeansCheck, MeansSession}
use Rattle.app_inputs.specs.Printing.{PrintsOf}
use Rattle.app_jobs.specs.Turns.{session_status, session_text}
use Rattle.app_inputs.specs.Words.Command.{check, explain, session, throughput, trial}
use Rattle.app_inputs.specs.declared.input_error.InputFault.TheVariants as fault
use Rattle.app_inputs.specs.declared.status.Status.{Status}
use Rattle.app_run.proofs.OneWork.{inputs_alike}

-- inputs of which none is refused print one text
one_text : {A : Type 0} → (Means : A → List ℕ → Status → Type 0) → ((a : A) (text other : List ℕ) (s r : Status) → Means a text s → Means a other r → (text ≡ other) × (s ≡ r))
    → (inputs : Result A BadInput) (text other : List ℕ) (s r : Status) → None ≡ result_err inputs → PrintsOf Means inputs text s → PrintsOf Means inputs other r → (text ≡ other) × (s ≡ r)
one_text Means one (Ok a) text other s r none x y = one a text other s r x y
one_text Means one (Err refused) text other s r none x y = absurd (cc)

-- alike inputs, of which the one is not refused, are the same
same_inputs : (a b : Result Work BadInput) → None ≡ result_err b
    → (a ≡ b) ⊎ ((first : BadInput) × (second : BadInput) × (a ≡ Err first) × (b ≡ Err second) × (first.fault ≢ fault.Absent) × (second.fault ≢ fault.Absent)) → a ≡ b
same_inputs a b none (inl e) = e
same_inputs a b none (inr (first, second, one, two, p, q)) = absurd (cc)

pub text_law : TextLaw
text_law (explain script) folder disk text other s r one accepted x y = absurd one
text_law (throughput dir job) folder disk text other s r one accepted x y = absurd one
text_law (trial number) folder disk text other s r one accepted x y = absurd one
text_law (check dir) folder disk text other s r one (accepted, told) x y =
    one_text MeansCheck (λ state a b p q m n. (m.0 ∙ sym n.0, m.1 ∙ sym n.1)) (state_in dir folder) text other s r accepted x y
text_law (session dir script) folder disk text other s r only ((inputs, are, none), told) (one, is, x) (two, is', y) =
    let first = same_inputs one inputs none (inputs_alike dir script folder one inputs is are) in
    let second = same_inputs two inputs none (inputs_alike dir script folder two inputs is' are) in
    one_text MeansSession (λ work a b p q m n. (m.0 ∙ sym n.0, m.1 ∙ sym n.1)) inputs text other s r none
    (subst (λ (i : Result Work BadInput). PrintsOf MeansSession i text s) first x) (subst (λ (i : Result Work BadInput). PrintsOf MeansSession i other r) second y)
