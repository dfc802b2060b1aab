use Rattle.std.proofs.Common.{◌∙◌, ◌++◌, ◌∷◌, [], ap, slice_index_or}
use Rattle.base_value.specs.declared.value.Value.TheVariants.{Null}
use Rattle.store_kept_views.specs.Output.{value_in}
use Rattle.store_kept_views.specs.RowGroups.{row_of}
use Rattle.store_kept_views.proofs.Shows.{row_more}
use Rattle.store_kept_views.proofs.columns.put_page_values.Goals as goal

pub loop-i-preserved : goal.loop-i-preserved
loop-i-preserved c =
    row_more (value_in c.args.plan.now c.args.place) c.args.builder.now c.loop-i.builder c.push.new.self c.args.page.now c.loop-i.i c.key.result.now c.group.result c.key.ensures c.group.ensures c.loop-i.invariant
    (c.in_ok-push.ensures.ok ∙ ap (λ v. c.loop-i.builder ++ v ∷ []) (c.in_ok-value.ensures
    ∙ ap (λ ags. slice_index_or (row_of ags c.key.result.now c.group.result).values c.args.place Null) c.as_slice-aggregates.ensures))
