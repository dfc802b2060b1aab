use Rattle.std.proofs.Common.{◌≡◌, true, map, Some}
use Rattle.std.specs.Prelude.{take, is_some}
use Rattle.std.specs.List.{list_all}
use Rattle.plan_kept_queries.specs.Forms.{own_place}
use Rattle.plan_kept_queries.proofs.form.own_places.Given as goal

abbrev pub invariant-loop-input : goal.invariant-loop-input
invariant-loop-input l = (list_all (λ i. is_some (own_place i)) (take l.input-index l.inputs) ≡ true)
    × (map Some l.places ≡ map own_place (take l.input-index l.inputs))
