use Rattle.std.proofs.Common.{◌≡◌, drop}
use Rattle.app_run.specs.JobInputs.{refresh_start}
use Rattle.app_run.proofs.job_input.refresh_start.Given as goal

abbrev pub invariant-loop-token : goal.invariant-loop-token
invariant-loop-token l = refresh_start l.end (drop l.token-index l.tokens) ≡ refresh_start l.end l.tokens
