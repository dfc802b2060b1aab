use Rattle.std.proofs.Common.{rules}
use Rattle.plan_predicate_sinking.proofs.BelowGroups.{groups_lowered, groups_whole}
use Rattle.plan_predicate_sinking.proofs.below.lowered_by_keys.Goals as goal

pub returns-then-is_empty : goal.returns-then-is_empty
returns-then-is_empty c =
    groups_whole c.args.n c.args.by.now c.args.conditions _ c.new-covered.ensures

pub returns : goal.returns
returns c =
    groups_lowered c.args.n c.args.by.now c.in_ok-keys.keys _ c.args.conditions _ _ _
    (λ i. search (rules, i)) c.in_ok-keys.ensures c.as_slice.ensures c.as_slice-2.ensures
    c.in_ok-parts.ensures
