use Rattle.std.proofs.Common.{◌≤◌, replicate, ap, sym, ◌∙◌, arith}
use Rattle.base_value.specs.declared.value.Value.TheVariants.{Null}
use Rattle.exec_hash_group.proofs.KeyCells.{no_column}
use Rattle.exec_hash_group.proofs.grouping.key_column.Goals as goal

pub returns : goal.returns
returns c =
    let le : c.args.bag.now.width ≤ c.args.j = omega (arith, c.width.ensures.value) in
    c.in_ok-column.ensures ∙ ap (λ n. replicate n Null) c.len.ensures ∙ sym (no_column c.args.bag.now.rows c.args.bag.now.width c.args.j c.width.ensures.wide le)
