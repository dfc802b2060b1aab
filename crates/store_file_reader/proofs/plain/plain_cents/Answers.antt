use Rattle.std.proofs.Common.{arith, rules, ◌+◌}
use Rattle.std.proofs.lemmas.List.{length-drop, take_rest}
use Rattle.store_file_reader.proofs.FieldEnds.{cents_end}
use Rattle.store_file_reader.proofs.PlainNumbers.{cents_is}
use Rattle.store_file_reader.proofs.plain.plain_cents.Goals as goal

pub returns-clause-value : goal.returns-clause-value
returns-clause-value c =
    let rest = take_rest c.args.text.now (c.in_ok-whole.point + 1) in
    let two = c.if-places-ne2.false in
    let past = c.if-point-eq0.false in
    let inside = rw (two, rest) at c.in_ok-value.ensures.inside in
    let digits = rw (two, rest) at c.in_ok-value.ensures.digits in
    let value = rw (two, rest) at c.in_ok-value.ensures.value in
    cents_is c.args.text.now c.in_ok-whole.point c.in_ok-value.value c.in_ok-whole.whole
    (omega (arith, past))
    (omega (arith, inside, length-drop (c.in_ok-whole.point + 1) c.args.text.now))
    c.if-text-point-ne46.false
    c.in_ok-whole.ensures.digits
    digits
    c.in_ok-whole.ensures.value
    value
    c.in_ok-value.ensures.small

pub returns-clause-end : goal.returns-clause-end
returns-clause-end c =
    let rest = take_rest c.args.text.now (c.in_ok-whole.point + 1) in
    let two = c.if-places-ne2.false in
    let inside = rw (two, rest) at c.in_ok-value.ensures.inside in
    let digits = rw (two, rest) at c.in_ok-value.ensures.digits in
    cents_end c.args.text.now c.in_ok-whole.point
    (omega (arith, inside, length-drop (c.in_ok-whole.point + 1) c.args.text.now))
    c.if-text-point-ne46.false
    c.in_ok-whole.ensures.digits
    digits
    (search rules)
