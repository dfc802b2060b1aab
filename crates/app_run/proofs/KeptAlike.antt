-- What a told journal keeps is one, or it is refused for another fault than absence.
use Rattle.std.proofs.Common.{◌≡◌, ◌≢◌, ◌∙◌, ℕ, List, Option, None, Some, ap, inl, inr, refl, sym}
use Rattle.std.specs.declared.result.Result.{Result}
use Rattle.std.specs.declared.result.Result.TheVariants.{Ok, Err}
use Rattle.base_schema.specs.State.{State}
use Rattle.store_state.specs.Refresh.{Change}
use Rattle.app_inputs.specs.Inputs.{BadInput}
use Rattle.app_inputs.specs.declared.input_error.InputFault.TheVariants as fault
use Rattle.app_jobs.specs.Journals.{IsKept, IsToldFor, Named}
use Rattle.app_jobs.proofs.KeptOnce.{never, of_journal, of_untold, one_kept}
use Rattle.app_run.proofs.OneWork.{AreAlike}

-- so a told journal is kept or refused alike
pub kept_alike : (journal : Option (List ℕ)) (base : State) (named : Named) (a b : Result (List Change) BadInput) → IsToldFor journal named → IsKept journal base named a → IsKept journal base named b → AreAlike a b
kept_alike None base named a b told x y = inl (x ∙ sym y)
kept_alike (Some name) base None a b told x y = absurd told
kept_alike (Some name) base (Some files) (Ok xs) (Ok ys) told x y = inl (ap Ok (one_kept (files name) xs ys x.0 y.0))
kept_alike (Some name) base (Some files) (Ok xs) (Err r) told x y = absurd (never base (files name) xs r.fault x.0 x.1 y.1)
kept_alike (Some name) base (Some files) (Err r) (Ok ys) told x y = absurd (never base (files name) ys r.fault y.0 y.1 x.1)
kept_alike (Some name) base (Some files) (Err r) (Err q) told x y = inr (r, q, refl, refl, of_journal base (files name) r.fault x.1, of_journal base (files name) q.fault y.1)

pub kept_not_absent : (journal : Option (List ℕ)) (base : State) (named : Named) (r : BadInput) → IsKept journal base named (Err r) → r.fault ≢ fault.Absent
kept_not_absent None base named r x = absurd (cc)
kept_not_absent (Some name) base None r x = of_untold base r.fault x.1
kept_not_absent (Some name) base (Some files) r x = of_journal base (files name) r.fault x.1
