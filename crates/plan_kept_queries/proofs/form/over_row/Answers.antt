use Rattle.std.proofs.Common.{List, ℕ, map, sym, ◌∙◌, ◌≡◌, Some}
use Rattle.std.specs.Prelude.{is_some}
use Rattle.std.specs.List.{list_all}
use Rattle.plan_kept_queries.specs.Forms.{IsOver, is_over_row, own_place}
use Rattle.plan_kept_queries.proofs.FormsOpened.{over_of}
use Rattle.plan_kept_queries.proofs.FormLists.{over_made}
use Rattle.plan_kept_queries.proofs.FormLoops.{residual}
use Rattle.plan_kept_queries.proofs.form.over_row.Goals as goal

pub returns-in_err-places : goal.returns-in_err-places
returns-in_err-places c =
    residual (list_all (λ i. is_some (own_place i)) c.as_slice.result.now) (is_over_row c.args.e.now)
    (λ (places : List ℕ). map own_place c.as_slice.result.now ≡ map Some places) (IsOver c.args.e.now)
    c.in_err-places.field-0.0 c.from_residual.result c.from_residual.ensures.1 (λ f. sym (over_of c.args.e.now c.as_slice.result.now c.as_slice.ensures) ∙ f) c.in_err-places.ensures

pub returns : goal.returns
returns c = (
  sym (over_of c.args.e.now c.as_slice.result.now c.as_slice.ensures) ∙ c.in_ok-places.ensures.0,
  over_made c.args.e.now c.as_slice.result.now c.in_ok-places.places c.as_slice-2.result.now c.get.result.now c.in_ok-new.new c.in_ok-boxed.boxed c.as_slice.ensures c.in_ok-places.ensures.1
      c.as_slice-2.ensures c.get.ensures c.in_ok-new.ensures.meaning c.in_ok-boxed.ensures,
)
