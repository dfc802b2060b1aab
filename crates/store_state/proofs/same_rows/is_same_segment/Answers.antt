use Rattle.std.proofs.Common.{◌≡◌, length, ap, subst, sym, ◌∙◌, arith}
use Rattle.std.specs.List.{All}
use Rattle.base_columns.specs.Batches.{column_at}
use Rattle.store_state.proofs.SameRows.{same_columns}
use Rattle.store_state.proofs.same_rows.is_same_segment.Goals as goal

pub returns : goal.returns
returns c same =
    let batch = c.batch-batch.result.now in
    let other = c.batch-other.result.now in
    let width : other.width ≡ batch.width =
    omega (arith, c.if-width.false, c.width.ensures.value, c.width-2.ensures.value) in
    same_columns batch.width c.args.first.now c.args.second.now c.batch-batch.ensures.width
    (subst (λ n. All (λ row. length row ≡ n) c.args.second.now) width c.batch-other.ensures.width)
    (omega (arith, c.if-len.false, c.len.ensures.value, c.len-2.ensures.value))
    (λ j less. ap (λ rows. column_at rows j) (sym c.batch-batch.ensures.rows)
    ∙ c.have_same_columns.ensures same j less
    ∙ ap (λ rows. column_at rows j) c.batch-other.ensures.rows)
