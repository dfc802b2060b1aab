use Rattle.std.proofs.Common.{◌++◌, ap, sym, ◌∙◌, arith, take}
use Rattle.std.proofs.lemmas.List.{take_all}
use Rattle.exec_hash_group.specs.PartGroups.{part_keys}
use Rattle.exec_hash_group.proofs.PartLists.{keys_more}
use Rattle.exec_hash_group.proofs.parts.keys_bag.Goals as goal

pub push-requires : goal.push-requires
push-requires c =
    ap (λ b. b.width) c.in_ok-keys.ensures ∙ ap (λ p. p.keys.width) c.part-item.is ∙ c.requires c.loop-part.part-index c.part-item.result c.loop-part-test.true ∙ sym c.loop-part.invariant.0

pub loop-part-preserved : goal.loop-part-preserved
loop-part-preserved c = (
  c.in_ok-push.ensures.width ∙ c.loop-part.invariant.0,
  c.in_ok-push.ensures.ok ∙ ap (λ l. l ++ c.in_ok-keys.keys.rows) c.loop-part.invariant.1 ∙ ap (λ b. part_keys (take c.loop-part.part-index c.args.parts.now) ++ b.rows) c.in_ok-keys.ensures
      ∙ sym (keys_more c.args.parts.now c.loop-part.part-index c.part-item.result c.loop-part-test.true c.part-item.is),
)

pub returns-clause-rows : goal.returns-clause-rows
returns-clause-rows c = c.loop-part.invariant.1 ∙ ap part_keys (take_all c.loop-part.part-index c.args.parts.now (omega arith))
