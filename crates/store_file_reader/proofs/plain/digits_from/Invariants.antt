use Rattle.std.proofs.Common.{◌≡◌, ◌^◌, ◌<◌, take, true}
use Rattle.std.specs.Str.{all_ascii_digits}
use Rattle.std.specs.Str.Parse.{digits_value_after}
use Rattle.store_file_reader.proofs.plain.digits_from.Given as goal

abbrev pub invariant-loop-place : goal.invariant-loop-place
invariant-loop-place l = record {
  digits : all_ascii_digits (take l.place l.text) ≡ true;
  fits : l.value < 2 ^ 63;
  value : l.value ≡ digits_value_after 10 l.fn.before (take l.place l.text);
}
