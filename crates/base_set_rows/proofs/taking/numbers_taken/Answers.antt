use Rattle.std.proofs.Common.{◌≡◌, ◌<◌, get_or, arith, ap, ◌∙◌, take, drop}
use Rattle.std.proofs.lemmas.List.{get_or_default}
use Rattle.base_set_rows.specs.SetOperations.{copies}
use Rattle.base_set_rows.specs.Numbered.{AreTimes}
use Rattle.base_set_rows.proofs.Steps.{none_taken, taken_more, more_below, to_the_end}
use Rattle.base_set_rows.proofs.taking.numbers_taken.Goals as goal

pub loop-n-init : goal.loop-n-init
loop-n-init c = none_taken c.args.kind c.args.all c.args.split c.args.count c.args.numbers.now _ c.new-taken.ensures.items

pub loop-n-preserved : goal.loop-n-preserved
loop-n-preserved c =
    let n = c.loop-n.n in
    let left = c.in_ok-left.left.items in
    let right = c.in_ok-right.right.items in
    let ln : n < c.args.count = c.loop-n-test.true in
    let l : AreTimes (take c.args.split c.args.numbers.now) c.args.count left = c.in_ok-left.ensures in
    let r : AreTimes (drop c.args.split c.args.numbers.now) c.args.count right = to_the_end c.args.numbers.now c.args.split c.args.count right c.in_ok-right.ensures in
    let ll = l.long in let rl = r.long in
    let a = c.index.ensures ∙ get_or_default left n c.index.result.now 0 (omega (arith, ln, ll)) in
    let b = c.index-in-loop-n.ensures ∙ get_or_default right n c.index-in-loop-n.result.now 0 (omega (arith, ln, rl)) in
    let t : c.copies-times.result ≡ copies c.args.kind c.args.all (get_or left n 0) (get_or right n 0) =
    c.copies-times.ensures ∙ ap (λ x. copies c.args.kind c.args.all x c.index-in-loop-n.result.now) a ∙ ap (λ x. copies c.args.kind c.args.all (get_or left n 0) x) b in (
      taken_more c.args.kind c.args.all c.args.split c.args.numbers.now left right c.args.count n c.copies-times.result c.loop-n.taken.items c.put_copies.new.numbers.items ln l r t c.loop-n.invariant.0 c.in_ok-put_copies.ensures,
      more_below c.args.count n c.copies-times.result c.loop-n.taken.items c.put_copies.new.numbers.items ln c.loop-n.invariant.1 c.in_ok-put_copies.ensures,
    )
