use Rattle.std.proofs.Common.{◌≡◌, ◌++◌, drop, false}
use Rattle.sql_lexer.specs.Forms as forms
use Rattle.sql_lexer.proofs.content.unquoted.Given as goal

abbrev pub invariant-bytes : goal.invariant-bytes
invariant-bytes l = forms.unquoted false l.bytes ≡ l.found.items ++ forms.unquoted l.seen (drop l.b-index l.bytes)
