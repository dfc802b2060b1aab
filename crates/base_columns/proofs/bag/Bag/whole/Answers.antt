use Rattle.std.proofs.Common.{◌∙◌, ap, sym}
use Rattle.base_row_laws.specs.Ranked.{Relation}
use Rattle.base_value.specs.declared.value.Value.{Value}
use Rattle.base_columns.specs.Bags.{bag_rows}
use Rattle.base_columns.proofs.BagLists.{one_batch, bag-width, bag-rows}
use Rattle.base_columns.proofs.WiderRows.{whole_made}
use Rattle.base_columns.proofs.bag.Bag.whole.Goals as goal

pub returns-then-batches-eq1-clause-rows : goal.returns-then-batches-eq1-clause-rows
returns-then-batches-eq1-clause-rows c =
    ap (λ (r : Relation Value). r.rows) c.in_ok-only.ensures ∙ sym (one_batch c.as_slice-batches.result.now c.index-batches-0.result c.if-batches-eq1.true c.index-batches-0.is)
    ∙ ap bag_rows c.as_slice-batches.ensures.value ∙ sym (bag-rows c.self.inside.width c.self.inside.batches.items) ∙ ap (λ (r : Relation Value). r.rows) c.self.view_is

pub with_standings-requires : goal.with_standings-requires
with_standings-requires c =
    (whole_made (bag_rows c.as_slice-batches.result.now) c.self.inside.width c.in_ok-columns.columns.items c.in_ok-standings.standings (rw c.as_slice-batches.ensures.value c.self.invariant.2)
    c.in_ok-columns.ensures c.in_ok-standings.ensures).0

pub returns-clause-width : goal.returns-clause-width
returns-clause-width c =
    ap (λ (r : Relation Value). r.width) c.with_standings.ensures
    ∙ (whole_made (bag_rows c.as_slice-batches.result.now) c.self.inside.width c.in_ok-columns.columns.items c.in_ok-standings.standings (rw c.as_slice-batches.ensures.value c.self.invariant.2)
    c.in_ok-columns.ensures c.in_ok-standings.ensures).1
    ∙ sym (bag-width c.self.inside.width c.self.inside.batches.items) ∙ ap (λ (r : Relation Value). r.width) c.self.view_is

pub returns-clause-rows : goal.returns-clause-rows
returns-clause-rows c =
    ap (λ (r : Relation Value). r.rows) c.with_standings.ensures
    ∙ (whole_made (bag_rows c.as_slice-batches.result.now) c.self.inside.width c.in_ok-columns.columns.items c.in_ok-standings.standings (rw c.as_slice-batches.ensures.value c.self.invariant.2)
    c.in_ok-columns.ensures c.in_ok-standings.ensures).2
    ∙ ap bag_rows c.as_slice-batches.ensures.value ∙ sym (bag-rows c.self.inside.width c.self.inside.batches.items) ∙ ap (λ (r : Relation Value). r.rows) c.self.view_is
