use Rattle.std.proofs.Common.{rules, ◌≡◌, ◌*◌, subst, ◌∙◌, arith, get_or, length}
use Rattle.std.specs.Prelude.{IfOk}
use Rattle.std.specs.Fork.{slice_chunk}
use Rattle.base_row_laws.specs.Rows.{scanned}
use Rattle.base_columns.specs.Lists.{one_list}
use Rattle.exec_parallel_scan.specs.Stages.{staged, AreScanned}
use Rattle.exec_parallel_scan.proofs.PartRows.{part_has, part_wide, parts_joined}
use Rattle.exec_parallel_scan.proofs.StageRows.{chunk_gives, staged-none, staged_pieces-append}
use Rattle.exec_parallel_scan.proofs.scan.scan_parts.Goals as goal

pub joined-requires : goal.joined-requires
joined-requires g c = λ n d h.
    let stages = c.args.stages.now in
    let parts = c.in_ok-parts.parts.items in
    let k = (c.in_ok-parts.ensures.each n d h).1 in
    let m = k.call in
    let e : IfOk (get_or parts n d) (λ b. AreScanned stages k.argument.now b.items) = search rules in
    part_wide c.args.width (AreScanned stages k.argument.now) (get_or parts n d)
    (λ made are. are.wide c.args.width (chunk_gives stages c.args.width c.part_len-size.result (n * c.part_len-size.result) c.args.pieces.now k.argument.now c.requires k.argument_is)) e

pub returns-clause-rows : goal.returns-clause-rows
returns-clause-rows g c =
    let stages = c.args.stages.now in
    let pieces = c.args.pieces.now in
    let size = c.part_len-size.result in
    let parts = c.in_ok-parts.parts.items in
    parts_joined (λ ps. staged stages (scanned (one_list ps))) size pieces parts c.in_ok-bag.bag.rows (staged_pieces-append stages) (staged-none stages)
    (λ n d h.
    let k = (c.in_ok-parts.ensures.each n d h).1 in
    let m = k.call in
    let e : IfOk (get_or parts n d) (λ b. AreScanned stages k.argument.now b.items) = search rules in
    part_has (staged stages (scanned (one_list (slice_chunk pieces size n)))) (AreScanned stages (slice_chunk pieces size n)) (get_or parts n d) (λ made are. are.rows)
    (subst (λ ps. IfOk (get_or parts n d) (λ b. AreScanned stages ps b.items)) k.argument_is.value e))
    c.part_len-size.ensures c.in_ok-parts.ensures.len c.in_ok-bag.ensures.rows
