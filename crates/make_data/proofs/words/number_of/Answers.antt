use Rattle.std.proofs.Common.{◌≡◌, ◌∙◌, ap, arith, sym}
use Rattle.std.specs.Fmt.{decimal}
use Rattle.make_data.proofs.Numbers.{is_read, told_apart}
use Rattle.make_data.proofs.words.number_of.Goals.{else-is_plain-via-then-is_plain+then-number-ge1+else-number-le1000, else-is_plain-via-then-is_plain+else-number-ge1, else-is_plain-via-else-is_plain}
use Rattle.make_data.proofs.words.number_of.Goals as goal

pub returns-in_default : goal.returns-in_default
returns-in_default c = λ n is. c.in_default.ensures.value.0 (is_read c.args.word.now n is.1 is.2).0

pub returns : goal.returns
returns c = λ n is.
    let same : c.in-Ok.number ≡ n = c.in-Ok.ensures.value.0.1 ∙ (is_read c.args.word.now n is.1 is.2).1 in
    elim c.else-is_plain.branch [ else-is_plain-via-then-is_plain+then-number-ge1+else-number-le1000 w ↦ absurd (omega arith) | else-is_plain-via-then-is_plain+else-number-ge1 w ↦ absurd (omega arith) | else-is_plain-via-else-is_plain w ↦ told_apart _ _ (c.as_bytes.ensures.value ∙ c.format.ensures.text ∙ ap decimal same ∙ sym is.2 ∙ sym c.as_bytes-2.ensures.value) w.if-is_plain.ensures ]
