use Rattle.std.proofs.Common.{◌≡◌, ◌++◌, drop}
use Rattle.app_inputs.specs.Inputs.{mentions_of}
use Rattle.app_inputs.proofs.refreshes.mentions_of.Given as goal

abbrev pub invariant-loop-statement : goal.invariant-loop-statement
invariant-loop-statement l = l.mentions.items ++ mentions_of (drop l.statement-index l.steps) ≡ mentions_of l.steps
