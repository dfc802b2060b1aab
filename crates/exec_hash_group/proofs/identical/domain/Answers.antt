use Rattle.std.proofs.Common.{◌≡◌, length, ap, sym, replicate, ◌∙◌, arith}
use Rattle.base_value.specs.declared.truth.Standing.TheVariants.{AtTrue}
use Rattle.exec_hash_group.proofs.KeyCells.{keys_below, picked_long, picked_width, picked_domain}
use Rattle.exec_hash_group.proofs.identical.domain.Goals as goal

pub at_places-requires : goal.at_places-requires
at_places-requires c =
    keys_below c.args.rows.now.rows c.args.by.now c.as_slice-2.result.now c.as_slice-3.result.now
    (c.as_slice-2.ensures.value ∙ c.in_ok-keys.ensures) (c.as_slice-3.ensures.value ∙ c.in_ok-numbered.ensures.firsts)

pub of_true-requires : goal.of_true-requires
of_true-requires c =
    let n : c.len.result ≡ length c.in_ok-numbered.numbered.firsts.items = omega arith in
    picked_long c.as_slice-2.result.now c.in_ok-firsts.firsts.items c.as_slice-3.result.now c.len.result c.in_ok-firsts.ensures (n ∙ ap length (sym c.as_slice-3.ensures.value))

pub returns-clause-width : goal.returns-clause-width
returns-clause-width c =
    c.in_ok-bag.ensures.width ∙ ap (λ r. r.width) c.of_true.ensures
    ∙ picked_width c.args.rows.now.rows c.args.by.now c.as_slice-2.result.now c.in_ok-firsts.firsts.items c.as_slice-3.result.now (replicate c.len.result AtTrue)
    (c.as_slice-2.ensures.value ∙ c.in_ok-keys.ensures) c.in_ok-firsts.ensures

pub returns-clause-rows : goal.returns-clause-rows
returns-clause-rows c =
    let n : c.len.result ≡ length c.in_ok-numbered.numbered.firsts.items = omega arith in
    c.in_ok-bag.ensures.rows ∙ ap (λ r. r.rows) c.of_true.ensures
    ∙ picked_domain c.args.rows.now.rows c.args.by.now c.as_slice-2.result.now c.in_ok-firsts.firsts.items c.as_slice-3.result.now c.len.result
    (c.as_slice-2.ensures.value ∙ c.in_ok-keys.ensures) (c.as_slice-3.ensures.value ∙ c.in_ok-numbered.ensures.firsts) c.in_ok-firsts.ensures (n ∙ ap length (sym c.as_slice-3.ensures.value))
