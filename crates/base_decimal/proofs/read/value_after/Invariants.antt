use Rattle.std.proofs.Common.{◌≡◌, ◌^◌, ◌<◌, drop, true}
use Rattle.std.specs.Str.{all_ascii_digits}
use Rattle.std.specs.Str.Parse.{digits_value_after}
use Rattle.base_decimal.proofs.read.value_after.Given as goal

abbrev pub invariant-loop-digit : goal.invariant-loop-digit
invariant-loop-digit l = record {
  digits : all_ascii_digits (drop l.digit-index l.digits) ≡ true;
  fits : l.value < 2 ^ 128;
  value : digits_value_after 10 l.fn.before l.digits ≡ digits_value_after 10 l.value (drop l.digit-index l.digits);
}
