use Rattle.std.proofs.Common.{◌∙◌, ◌+◌, ap, sym, arith, drop, List, ℕ, get_or, Bool}
use Rattle.std.specs.Option.{option_map}
use Rattle.sql_lexer.specs.Fronts.{text_len}
use Rattle.sql_lexer.proofs.Steps.{text_more, opened}
use Rattle.sql_lexer.proofs.front.text_len.Goals as goal

pub bytes-preserved : goal.bytes-preserved
bytes-preserved c =
    let bytes = c.args.bytes.now in
    let b = get_or bytes c.bytes.b-index 0 in
    let rest = ap (λ (w : List ℕ). option_map (λ n. n + c.bytes.at) (text_len c.bytes.seen w)) (opened bytes c.bytes.b-index c.bytes-test.true) in
    let more = text_more c.bytes.seen b (drop (c.bytes.b-index + 1) bytes) c.bytes.at (sym c.has_ended.ensures ∙ c.if-has_ended.false) in
    let seen = ap (λ (t : Bool). option_map (λ n. n + (c.bytes.at + 1)) (text_len t (drop (c.bytes.b-index + 1) bytes))) (sym c.may_end-seen.ensures) in
    record { place = omega (arith, c.bytes.invariant.place); so_far = c.bytes.invariant.so_far ∙ rest ∙ more ∙ seen }
