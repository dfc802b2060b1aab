use Rattle.std.proofs.Common.{rules, ◌≡◌, ap, sym, subst, ◌∙◌, arith, get_or, length}
use Rattle.std.specs.Prelude.{IfOk}
use Rattle.std.specs.Fork.{slice_chunk}
use Rattle.base_columns.specs.Bags.{bag_rows}
use Rattle.exec_parallel_scan.specs.Stages.{staged, AreStaged}
use Rattle.exec_parallel_scan.proofs.PartRows.{part_has, parts_joined}
use Rattle.exec_parallel_scan.proofs.StageRows.{staged-none, staged_batches-append}
use Rattle.exec_parallel_scan.proofs.bags.staged_bag.Goals as goal

pub returns-clause-rows : goal.returns-clause-rows
returns-clause-rows g c =
    let stages = c.args.stages.now in
    let batches = c.batches-batches.result.now in
    let size = c.part_len-size.result in
    let parts = c.in_ok-parts.parts.items in
    parts_joined (λ bs. staged stages (bag_rows bs)) size batches parts c.in_ok-bag.bag.rows (staged_batches-append stages) (staged-none stages)
    (λ n d h.
    let k = (c.in_ok-parts.ensures.each n d h).1 in
    let m = k.call in
    let e : IfOk (get_or parts n d) (λ b. AreStaged stages k.argument.now b.items) = search rules in
    part_has (staged stages (bag_rows (slice_chunk batches size n))) (AreStaged stages (slice_chunk batches size n)) (get_or parts n d) (λ made are. are.rows)
    (subst (λ bs. IfOk (get_or parts n d) (λ b. AreStaged stages bs b.items)) k.argument_is.value e))
    c.part_len-size.ensures c.in_ok-parts.ensures.len c.in_ok-bag.ensures.rows
    ∙ ap (staged stages) (sym c.batches-batches.ensures.rows)
