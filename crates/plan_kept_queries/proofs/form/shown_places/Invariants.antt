use Rattle.std.proofs.Common.{◌≡◌, true}
use Rattle.std.specs.Prelude.{take, is_some}
use Rattle.std.specs.List.{list_all}
use Rattle.plan_kept_queries.specs.Forms.{AreShown, shown_place}
use Rattle.plan_kept_queries.proofs.form.shown_places.Given as goal

abbrev pub invariant-loop-e : goal.invariant-loop-e
invariant-loop-e l = (list_all (λ e. is_some (shown_place e)) (take l.e-index l.list) ≡ true)
    × AreShown (take l.e-index l.list) l.places
