use Rattle.std.proofs.Common.{◌≡◌, ◌∙◌, ap, arith, length}
use Rattle.std.specs.Fmt.{decimal}
use Rattle.app_result_text.proofs.Digits.{below_one, with_point}
use Rattle.app_result_text.proofs.decimal.push_size.Goals as goal

pub returns-then-digits-places : goal.returns-then-digits-places
returns-then-digits-places c =
    let digits : c.as_bytes-digits.result.now ≡ decimal c.args.size = c.as_bytes-digits.ensures.value ∙ c.format.ensures.text in
    rw (← with_point c.args.places c.args.size (omega (arith, c.if-places-eq0.false)) (omega (arith, ap length digits, c.if-digits-places.true)) (omega (arith, c.ranges.size.fits)), ← digits) c.push_parted.ensures

pub returns : goal.returns
returns c =
    let digits : c.as_bytes-digits.result.now ≡ decimal c.args.size = c.as_bytes-digits.ensures.value ∙ c.format.ensures.text in
    rw (← below_one c.args.places c.args.size (omega (arith, c.if-places-eq0.false)) (omega (arith, ap length digits, c.if-digits-places.false)) (omega (arith, c.ranges.size.fits)), ← digits) c.push_fraction.ensures
