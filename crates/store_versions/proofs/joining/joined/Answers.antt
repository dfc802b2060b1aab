use Rattle.std.proofs.Common.{◌≡◌, ℕ, ◌++◌, length, ap, subst, sym, ◌∙◌}
use Rattle.std.specs.List.{All}
use Rattle.store_state.proofs.PartLists.{rows_more}
use Rattle.store_versions.proofs.Neighbours.{All-part}
use Rattle.store_versions.proofs.joining.joined.Goals as goal

pub put_part-requires-clause-width : goal.put_part-requires-clause-width
put_part-requires-clause-width c =
    subst (λ (n : ℕ). All (λ row. length row ≡ n) c.part-item.result)
    (sym c.loop-part.invariant.width)
    (All-part (λ row. length row ≡ c.args.width) c.args.parts.now c.loop-part.part-index
    c.part-item.result c.loop-part-test.true c.part-item.is c.requires)

pub loop-part-preserved : goal.loop-part-preserved
loop-part-preserved c = record {
  joining = c.in_ok-put_part.ensures.joining;
  width = c.in_ok-put_part.ensures.width ∙ c.loop-part.invariant.width;
  rows = c.in_ok-put_part.ensures.rows
      ∙ ap (λ rows. rows ++ c.part-item.result) c.loop-part.invariant.rows
      ∙ sym (rows_more c.args.parts.now c.loop-part.part-index c.part-item.result
      c.loop-part-test.true c.part-item.is);
}
