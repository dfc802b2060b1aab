use Rattle.std.proofs.Common.{rules, ◌≡◌, List, map, sym, ap, subst, ◌∙◌, arith, length, get_or}
use Rattle.std.specs.Prelude.{IfOk}
use Rattle.std.specs.Fork.{slice_chunk}
use Rattle.std.specs.Global.{Vec}
use Rattle.std.proofs.lemmas.List.{length-map, get_or-map}
use Rattle.base_columns.specs.Lists.{one_list}
use Rattle.exec_hash_group.specs.PartGroups.{part_arguments, scale_of}
use Rattle.exec_hash_group.specs.States.{HaveTaken}
use Rattle.exec_threads.proofs.MadeParts.{made_at, items_have}
use Rattle.exec_parallel_scan.proofs.MergedParts.{all_have}
use Rattle.exec_parallel_scan.proofs.merged.all_states.Goals as goal

pub returns : goal.returns
returns g c =
    let parts = c.args.parts.now in
    let a = c.args.aggregate.now in
    let F = g.A.Accumulator.aggregate (scale_of a) in
    let made = c.in_ok-made.made.items in
    let xs = c.in_ok-states.states.items in
    let is = c.in_ok-states.ensures in
    let long : length made ≡ length xs = ap length is ∙ length-map xs _ in
    let sss : List (List g.row.A.Denot) = map (λ l. l.items) xs in
    let ls : length sss ≡ length xs = length-map xs (λ l. l.items) in
    let Have = HaveTaken g.A.Accumulator.has_taken g.A.Accumulator.terms F in
    subst (λ ss. Have (part_arguments a parts) ss) (sym c.in_ok-all.ensures)
    (all_have g.A.Accumulator.has_taken g.A.Accumulator.terms F a 1 parts sss (omega arith) (ls ∙ sym long ∙ c.in_ok-made.ensures.len)
    (λ n l. items_have (λ ss. Have (part_arguments a (slice_chunk parts 1 n)) ss) xs n (omega (arith, l, ls))
    (λ d. made_at (λ w. Have (part_arguments a (slice_chunk parts 1 n)) w.items) made xs n d is (omega (arith, l, ls))
    (λ e. let k = (c.in_ok-made.ensures.each n e (omega (arith, l, ls, long))).1 in
    let m = k.call in
    let h : IfOk (get_or made n e) (λ w. Have (part_arguments a k.argument.now) w.items) = search rules in
    subst (λ ps. IfOk (get_or made n e) (λ w. Have (part_arguments a ps) w.items)) k.argument_is.value h))))
