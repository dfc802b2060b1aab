-- What is written of a request's text.
use Rattle.std.proofs.Common.{◌≡◌, ℕ, List, Option, Some, subst, sym}
use Rattle.std.specs.Io.KnownBytes.{Appends}
use Rattle.base_io.specs.Outside.{Folder}
use Rattle.app_inputs.specs.Printing.{IsAnswer}
use Rattle.app_inputs.specs.declared.status.Status.{Status}
use Rattle.app_show_plan.specs.Asked.{Asked}
use Rattle.app_show_plan.specs.Printed.{Prints}

-- an answer means that the whole text of what was asked is written, with its status
pub answered : (asks : Option Asked) (a : Asked) (held : Option Folder) (text written : List ℕ) (s result : Status)
    (before after : Option (List ℕ)) → asks ≡ Some a → Prints (Some a) held text s → written ≡ text
    → (IsAnswer result → (result ≡ s) × Appends before after written) → IsAnswer result
    → (t : List ℕ) × Prints asks held t result × Appends before after t
answered asks a held text written s result before after is prints same whole answer = (
  text,
  subst (λ (k : Option Asked). Prints k held text result) (sym is)
      (subst (λ (x : Status). Prints (Some a) held text x) (sym (whole answer).0) prints),
  subst (λ (t : List ℕ). Appends before after t) same (whole answer).1,
)
