use Rattle.std.proofs.Common.{◌∙◌, ◌++◌, ◌∷◌, [], SFits, ap, slice_index_or, w64}
use Rattle.std.specs.Prelude.{map}
use Rattle.std.proofs.lemmas.Int.{to_z-of_z}
use Rattle.std.proofs.lemmas.List.{map-append}
use Rattle.base_value.specs.declared.value.Value.TheVariants.{Null, Number}
use Rattle.store_kept_views.specs.Output.{value_in}
use Rattle.store_kept_views.specs.RowGroups.{row_of}
use Rattle.store_kept_views.proofs.Shows.{row_more}
use Rattle.store_kept_views.proofs.columns.put_numbers.Goals as goal

pub loop-i-preserved : goal.loop-i-preserved
loop-i-preserved c =
    let fits : SFits w64 c.in-Some.number = record { sfits = (rw c.in-Some.is at c.number_at.type_inv).1.1.1.1.0.1 } in
    let items = c.in_ok-push.ensures.items ∙ ap (λ z. c.loop-i.numbers.items ++ z ∷ []) (to_z-of_z w64 c.in-Some.number fits) in
    row_more (value_in c.args.plan.now c.args.place) (map (Number c.args.scale) c.args.numbers.now.items) (map (Number c.args.scale) c.loop-i.numbers.items) (map (Number c.args.scale) c.push.new.self.items)
    c.args.page.now c.loop-i.i c.key.result.now c.group-group.result c.key.ensures c.group-group.ensures c.loop-i.invariant
    (ap (λ l. map (Number c.args.scale) l) items ∙ map-append (Number c.args.scale) c.loop-i.numbers.items (c.in-Some.number ∷ [])
    ∙ ap (λ v. map (Number c.args.scale) c.loop-i.numbers.items ++ v ∷ []) (c.in-Some.ensures
    ∙ ap (λ ags. slice_index_or (row_of ags c.key.result.now c.group-group.result).values c.args.place Null) c.as_slice-aggregates.ensures))
