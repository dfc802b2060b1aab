-- Groups that follow an accepted refresh, and the rows that they show.
use Rattle.std.proofs.Common.{◌≡◌, ◌∙◌, ℕ, List, Option, Some, None, Ok, subst, sym, ap}
use Rattle.std.proofs.Common.{length}
use Rattle.std.specs.Prelude.{slice_get}
use Rattle.base_refusals.specs.declared.refresh.Cause.{Cause}
use Rattle.base_row_laws.specs.Bags.{SameBag}
use Rattle.base_row_laws.specs.Ranked.{Ranked}
use Rattle.base_schema.specs.State.{State, table_rows}
use Rattle.base_value.specs.declared.value.Value.{Value}
use Rattle.plan_algebra.specs.declared.kept_plan.KeptPlan.{KeptPlan}
use Rattle.plan_algebra.specs.KeptPlans.{query_rows}
use Rattle.store_kept_views.specs.Kept.{KeptRows, kept}
use Rattle.store_state.specs.Moves.{AreMoved}
use Rattle.store_state.specs.Refresh.{Change, after, cause_of, changed, unless_cause}

left_by : (cause : Option Cause) (made state : State) → unless_cause cause made ≡ Ok state → made ≡ state
left_by None made state e = cc
left_by (Some cause) made state e = cc

-- the rows that an accepted refresh moves lead to the state that it leaves
pub moved_to : (tables before added removed state : State) (change : Change) → tables ≡ before → after before change ≡ Ok state
    → AreMoved before added removed (changed before change) → AreMoved tables added removed state
moved_to tables before added removed state change are leaves moved =
    subst (λ t. AreMoved t added removed state) (sym are)
    (subst (AreMoved before added removed) (left_by (cause_of before change) (changed before change) state leaves) moved)

-- the rows of a view whose plan is the one that is asked for
pub view_shown : (held : KeptRows) (plans : List KeptPlan) (state : State) (number : ℕ)
    (own asked : KeptPlan) → held ≡ kept plans state → slice_get held.plans number ≡ Some own
    → own ≡ asked → (bag : List (Ranked Value))
    → ((plan : KeptPlan) → slice_get held.plans number ≡ Some plan
    → SameBag bag (query_rows plan (table_rows held.tables plan.table)))
    → SameBag bag (query_rows asked (table_rows state asked.table))
view_shown held plans state number own asked right at same bag shows =
    subst (λ p. SameBag bag (query_rows p (table_rows state p.table))) same
    (subst (λ s. SameBag bag (query_rows own (table_rows s own.table)))
    (ap (λ (k : KeptRows). k.tables) right) (shows own at))

pub view_wide : (own asked : KeptPlan) → own ≡ asked → (width : ℕ) → width ≡ length own.list
    → width ≡ length asked.list
view_wide own asked same width is = is ∙ ap (λ (p : KeptPlan). length p.list) same
