use Rattle.std.proofs.Common.{◌≡◌, ◌++◌, ◌≤◌, drop, None}
use Rattle.std.specs.Prelude.{IfSome}
use Rattle.sql_templates.specs.Templates.{filled}
use Rattle.sql_templates.proofs.filling.with_values.Given as goal

abbrev pub invariant-bytes : goal.invariant-bytes
invariant-bytes l = (filled l.values None l.template ≡ l.script.items ++ filled l.values l.place (drop l.byte-index l.template)) × IfSome l.place (λ n. n ≤ 99)
