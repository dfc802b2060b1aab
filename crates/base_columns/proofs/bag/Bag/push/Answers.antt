use Rattle.std.proofs.Common.{◌∙◌, ap, sym, ◌+◌, length}
use Rattle.base_row_laws.specs.Ranked.{Relation}
use Rattle.base_value.specs.declared.value.Value.{Value}
use Rattle.base_columns.proofs.BagLists.{bag_kept, bag-width}
use Rattle.base_columns.proofs.bag.Bag.push.Goals as goal

pub invariant_of-self-2 : goal.invariant_of-self-2
invariant_of-self-2 c =
    bag_kept c.self.inside.width c.in_ok-count.count c.self.inside.batches.items c.push.new.self.items c.args.batch c.self.invariant.0 c.self.invariant.2
    (c.requires ∙ sym (ap (λ (r : Relation Value). r.width) c.self.view_is) ∙ bag-width c.self.inside.width c.self.inside.batches.items) c.count_with.ensures.wide
    (c.in_ok-count.ensures.value ∙ ap (λ n. n + length c.args.batch.rows) c.self.invariant.1) c.in_ok-push.ensures.items
