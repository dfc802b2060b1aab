use Rattle.std.proofs.Common.{◌≡◌, ◌++◌, drop}
use Rattle.app_plan_text.specs.Lines.{inputs_text}
use Rattle.app_plan_text.proofs.line.push_inputs.Given as goal

abbrev pub invariant-loop-input : goal.invariant-loop-input
invariant-loop-input l =
    l.text.items ++ inputs_text (drop l.input-index l.inputs) ≡ l.fn.text.items ++ inputs_text l.inputs
