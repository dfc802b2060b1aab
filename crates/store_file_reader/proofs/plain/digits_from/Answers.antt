use Rattle.std.proofs.Common.{rules}
use Rattle.store_file_reader.proofs.PlainNumbers.{digits_more, value_more}
use Rattle.store_file_reader.proofs.plain.digits_from.Goals as goal

pub loop-place-preserved : goal.loop-place-preserved
loop-place-preserved c = record {
  digits = digits_more c.args.text.now c.loop-place.place c.loop-place-test.true c.loop-place.invariant.digits (search rules);
  fits = search rules;
  value = value_more c.args.text.now c.args.before c.loop-place.place c.loop-place.value c.loop-place-test.true (search rules) c.loop-place.invariant.value;
}
