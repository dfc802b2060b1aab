use Rattle.std.proofs.Common.{◌≡◌, ◌++◌, drop}
use Rattle.sql_templates.specs.Templates.{doubled}
use Rattle.sql_templates.proofs.filling.push_doubled.Given as goal

abbrev pub invariant-loop-byte : goal.invariant-loop-byte
invariant-loop-byte l = l.script.items ++ doubled (drop l.byte-index l.text) ≡ l.fn.script.items ++ doubled l.text
