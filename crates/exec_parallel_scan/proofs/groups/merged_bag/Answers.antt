use Rattle.std.proofs.Common.{◌≡◌, ◌<◌, ◌^◌, ◌++◌, ℕ, List, map, sym, ap, subst, ◌∙◌, length}
use Rattle.base_columns.specs.Lists.{AreBelow}
use Rattle.exec_hash_group.specs.PartGroups.{merged_column}
use Rattle.exec_parallel_scan.proofs.MergedParts.{merged_long, merged_width, merged_rows}
use Rattle.exec_parallel_scan.proofs.groups.merged_bag.Goals as goal

pub put_merged-requires-clause-long : goal.put_merged-requires-clause-long
put_merged-requires-clause-long g c κs within = ap length c.as_slice-numbers.ensures.value ∙ c.in_ok-merged.ensures.long

pub put_merged-requires-clause-small : goal.put_merged-requires-clause-small
put_merged-requires-clause-small g c κs within = subst (λ ns. length ns < 2 ^ 32) (sym c.as_slice-numbers.ensures.value) c.in_ok-merged.ensures.few

pub put_merged-requires-clause-below : goal.put_merged-requires-clause-below
put_merged-requires-clause-below g c κs within = subst (AreBelow c.in_ok-merged.merged.count) (sym c.as_slice-numbers.ensures.value) c.in_ok-merged.ensures.below

pub of-batch-requires : goal.of-batch-requires
of-batch-requires g c =
    merged_long c.args.by.now c.args.aggregates.now c.args.parts.now c.in_ok-merged.merged.keys.items c.put_merged.new.columns.items c.in_ok-merged.merged.least.items c.in_ok-merged.merged.numbers.items
    c.in_ok-merged.merged.count c.in_ok-merged.ensures
    (c.in_ok-put_merged.ensures ∙ ap (λ ns. c.in_ok-merged.merged.keys.items ++ map (merged_column c.args.parts.now ns c.in_ok-merged.merged.count) c.args.aggregates.now) c.as_slice-numbers.ensures.value)

pub returns-clause-width : goal.returns-clause-width
returns-clause-width g c =
    c.in_ok-bag.ensures.width ∙ ap (λ b. b.width) c.of-batch.ensures
    ∙ merged_width c.args.by.now c.args.aggregates.now c.args.parts.now c.in_ok-merged.merged.keys.items c.put_merged.new.columns.items c.in_ok-merged.merged.least.items c.in_ok-merged.merged.numbers.items
    c.in_ok-merged.merged.count c.in_ok-merged.ensures
    (c.in_ok-put_merged.ensures ∙ ap (λ ns. c.in_ok-merged.merged.keys.items ++ map (merged_column c.args.parts.now ns c.in_ok-merged.merged.count) c.args.aggregates.now) c.as_slice-numbers.ensures.value)

pub returns-clause-rows : goal.returns-clause-rows
returns-clause-rows g c =
    c.in_ok-bag.ensures.rows ∙ ap (λ b. b.rows) c.of-batch.ensures
    ∙ merged_rows c.args.by.now c.args.aggregates.now c.args.parts.now c.in_ok-merged.merged.keys.items c.put_merged.new.columns.items c.in_ok-merged.merged.least.items c.in_ok-merged.merged.numbers.items
    c.in_ok-merged.merged.count c.in_ok-merged.ensures
    (c.in_ok-put_merged.ensures ∙ ap (λ ns. c.in_ok-merged.merged.keys.items ++ map (merged_column c.args.parts.now ns c.in_ok-merged.merged.count) c.args.aggregates.now) c.as_slice-numbers.ensures.value)
