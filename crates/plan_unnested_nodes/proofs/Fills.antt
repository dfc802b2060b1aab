-- A fill over the groups that were put just before.
use Rattle.std.proofs.Common.{◌≡◌, ℕ, ◌+◌, ◌<◌, List, [], ◌∷◌, ◌++◌, refl, sym, ap, ◌∙◌, arith, length}
use Rattle.std.specs.Prelude.{IsTrue, Some, slice_get}
use Rattle.std.specs.List.{range_with_len}
use Rattle.base_value.specs.declared.value.Value.{Value}
use Rattle.plan_algebra.specs.declared.aggregate.Aggregate.{Aggregate}
use Rattle.plan_algebra.specs.declared.node.Node.{Node}
use Rattle.plan_algebra.specs.declared.node.Node.TheVariants as node
use Rattle.plan_algebra.specs.Aggregates.{aggregates_of}
use Rattle.plan_algebra.specs.Plans.{plan_width, fits}
use Rattle.plan_algebra.proofs.Fits.{fill_fits}
use Rattle.plan_unnested_nodes.specs.Growth.{IsPut}
use Rattle.plan_unnested_nodes.proofs.Grown.{same_plan, put_more, put_last, kept_width}

last_get : (ns : List Node) (n : Node) → slice_get (ns ++ n ∷ []) (length ns) ≡ Some n
last_get [] n = refl
last_get (m ∷ ns) n = last_get ns n

pub fill_suits : (old now : List Node) (rows groups domain width : ℕ) (by : List ℕ) (computed aggregates : List Aggregate) (empty : List Value)
    → domain < length old → plan_width old domain ≡ width → by ≡ range_with_len 0 width → computed ≡ aggregates → empty ≡ aggregates_of aggregates []
    → groups ≡ length old → now ≡ old ++ node.Group rows by computed ∷ [] → IsTrue (fits now (node.Fill groups domain empty))
fill_suits old now rows groups domain width by computed aggregates empty h w columns same none number nodes =
    let p : IsPut old now (node.Group rows by computed) groups = record { number = number; nodes = nodes } in
    let l : length now ≡ groups + 1 = put_last p in
    let kept : plan_width now domain ≡ plan_width old domain = kept_width domain (put_more (same_plan old) p) h in
    fill_fits now groups domain rows by computed empty (omega (arith, l)) (omega (arith, l, number))
    (ap (λ ns. slice_get ns groups) nodes ∙ ap (slice_get (old ++ node.Group rows by computed ∷ [])) number ∙ last_get old (node.Group rows by computed))
    (columns ∙ ap (range_with_len 0) (sym w ∙ sym kept))
    (none ∙ ap (λ a. aggregates_of a []) (sym same))
