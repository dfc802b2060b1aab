use Rattle.std.proofs.Common.{arith, refl}
use Rattle.std.proofs.lemmas.Fmt.{decimal_digit}
use Rattle.std.specs.Fmt.{digits}
use Rattle.app_result_text.proofs.laws.examples_hold.Goals as goal

pub returns-clause-answers : goal.returns-clause-answers
returns-clause-answers c = record {
  first = rw (decimal_digit 1 (omega arith), decimal_digit 0 (omega arith), decimal_digit 2 (omega arith)) refl;
  minus_half = rw (decimal_digit 0 (omega arith)) refl;
  zero = rw (decimal_digit 0 (omega arith)) refl;
  small = rw (decimal_digit 0 (omega arith)) refl;
  third = rw (decimal_digit 0 (omega arith)) refl;
  whole = rw (decimal_digit 7 (omega arith)) refl;
  date = refl;
  null = refl;
  escaped = refl;
  null_in_a_text = refl;
  empty = refl;
  rows = refl;
  none = refl;
}

pub returns-clause-lines : goal.returns-clause-lines
unfolding digits
returns-clause-lines c = record {
  done = refl;
  accepted = refl;
  bind = refl;
  view = refl;
  template = refl;
  fault = refl;
  place = refl;
  order = refl;
  twice = refl;
  stray = refl;
  key = refl;
  line = refl;
  malformed = refl;
  orders = refl;
  lineitem = refl;
  unknown = refl;
  gone = refl;
}
