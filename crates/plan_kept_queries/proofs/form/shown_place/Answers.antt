use Rattle.std.proofs.Common.{ap, sym, ◌∙◌, ◌≡◌, ℕ, Some}
use Rattle.std.specs.Prelude.{is_some}
use Rattle.plan_kept_queries.specs.Forms.{IsShown, own_place, shown_place}
use Rattle.plan_kept_queries.proofs.FormsOpened.{no_column}
use Rattle.plan_kept_queries.proofs.FormLists.{no_place, place_is, shown_is}
use Rattle.plan_kept_queries.proofs.FormLoops.{found_as}
use Rattle.plan_kept_queries.proofs.form.shown_place.Goals as goal

pub returns-in_default : goal.returns-in_default
returns-in_default c = ap (λ o. is_some o) (no_column c.args.e.now (λ k is. c.in_default.not-Column k (c.get.ensures ∙ is)))

pub returns-in-Some : goal.returns-in-Some
returns-in-Some c =
    let is = sym c.get.ensures ∙ c.in-Column.is in
    let there = sym c.in-Some.ensures.value in
    found_as (is_some (own_place c.in-Some.input.now)) (is_some (shown_place c.args.e.now)) (λ (place : ℕ). own_place c.in-Some.input.now ≡ Some place) (IsShown c.args.e.now) c.own_place.result
    (ap (λ o. is_some o) (place_is c.args.e.now c.in-Column.k c.in-Some.input.now is there))
    (λ place own. shown_is c.args.e.now c.in-Column.k c.in-Some.input.now place is there own)
    c.own_place.ensures

pub returns-in-None : goal.returns-in-None
returns-in-None c = ap (λ o. is_some o) (no_place c.args.e.now c.in-Column.k (sym c.get.ensures ∙ c.in-Column.is) (sym c.in-None.ensures.value))
