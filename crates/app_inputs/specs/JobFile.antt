-- What the file of a job holds.
use Rattle.std.specs.Prelude.{◌≡◌, ⊤, ℕ, List, Option, None, Some}
use Rattle.std.specs.declared.result.Result.{Result}
use Rattle.std.specs.declared.result.Result.TheVariants.{Ok, Err}
use Rattle.app_job_file.specs.Files.{JobParts, job_of, parts_of}
use Rattle.app_job_file.specs.declared.job.Job.{Job}
use Rattle.app_job_file.specs.declared.refusal.RefusedLine.{RefusedLine}
use Rattle.app_inputs.specs.Inputs.{BadInput}
use Rattle.app_inputs.specs.declared.input_error.InputFault.TheVariants as fault

-- the job that was read of its file, or the line for which it is refused
abbrev pub job_or_refusal : List ℕ → Result JobParts RefusedLine → Result JobParts BadInput
job_or_refusal name (Ok parts) = Ok parts
job_or_refusal name (Err refused) = Err (record { name = name; fault = fault.JobLine refused })

-- the job of a file, if it is there
abbrev pub job_in : List ℕ → Option (List ℕ) → Result JobParts BadInput
job_in name None = Err (record { name = name; fault = fault.Absent })
job_in name (Some bytes) = job_or_refusal name (job_of bytes)

-- the job of a file, where the bytes that were left of it are known, or the line for which it is
-- refused
abbrev pub IsJobOf : Option (List ℕ) → Result Job RefusedLine → Type 0
IsJobOf None read = ⊤
IsJobOf (Some bytes) (Ok job) = job_of bytes ≡ Ok (parts_of job)
IsJobOf (Some bytes) (Err line) = job_of bytes ≡ Err line
