use Rattle.std.proofs.Common.{◌≡◌, ◌<◌, ◌^◌, drop, filter}
use Rattle.std.specs.Char.{is_ascii_digit}
use Rattle.sql_lexer.specs.Forms as forms
use Rattle.sql_lexer.proofs.content.coefficient.Given as goal

abbrev pub invariant-digits : goal.invariant-digits
invariant-digits l = record {
  fits : l.value < 2 ^ 127;
  so_far : forms.coefficient l.bytes ≡ forms.digits_value l.value (filter is_ascii_digit (drop l.b-index l.bytes));
}
