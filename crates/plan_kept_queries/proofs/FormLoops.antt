-- The parts of a query, one by one.
use Rattle.std.proofs.Common.{◌≡◌, ℕ, ◌+◌, ◌<◌, List, [], ◌∷◌, ◌++◌, map, Bool, true, false, ◌&&◌, sym, ◌∙◌, ap, subst}
use Rattle.std.specs.Prelude.{slice_index_or, take, Result, Ok, Err}
use Rattle.std.specs.Result.{IsErrAnd}
use Rattle.std.proofs.lemmas.Result.{err_from_is_err_and}
use Rattle.std.specs.List.{list_all}
use lib.ListN.{get_or, length}
use Rattle.std.proofs.lemmas.List.{map-append, take_more}
use Rattle.std.proofs.lemmas.List.Folds.{list_all_more, list_all_at}
use Rattle.base_value.specs.declared.value.Value.TheVariants.{Null}
use Rattle.sql_bound_query.specs.declared.query.BoundAggregate.{BoundAggregate}
use Rattle.sql_bound_query.specs.declared.query.BoundExpr.{BoundExpr}
use Rattle.sql_bound_query.specs.Meaning.{expr_meaning, aggregate_meaning}
use Rattle.plan_algebra.specs.declared.kept_plan.KeptAggregate.{KeptAggregate}
use Rattle.plan_algebra.specs.KeptPlans.{item_of}
use Rattle.plan_kept_queries.specs.declared.form.KeptPlanError.{KeptPlanError}
use Rattle.plan_kept_queries.specs.declared.form.KeptPlanError.TheVariants.{NotKept, OutOfMemory}
use Rattle.plan_kept_queries.specs.Forms.{IsFound, IsItem, AreItems, IsShown, AreShown}

module _ {X : Type 0} (xs : List X) (i : ℕ) (x : X) (less : i < length xs) (is : x ≡ get_or xs i x) where
  pub all_more : (p : X → Bool) → list_all p (take i xs) ≡ true → p x ≡ true → list_all p (take (i + 1) xs) ≡ true
  all_more p before here = list_all_more p xs i x less ∙ ap (λ b. b && p (get_or xs i x)) before ∙ ap p (sym is) ∙ here

  pub all_stop : (p : X → Bool) → p x ≡ false → list_all p xs ≡ false
  all_stop p here = list_all_at p xs i x less (ap p (sym is) ∙ here)

  pub map_more : {Y Z : Type 0} (f : X → Y) (g : Z → Y) (zs : List Z) (z : Z) → map g zs ≡ map f (take i xs) → g z ≡ f x → map g (zs ++ z ∷ []) ≡ map f (take (i + 1) xs)
  map_more f g zs z before here =
      map-append g zs (z ∷ []) ∙ ap (λ l. l ++ g z ∷ []) before ∙ ap (λ y. map f (take i xs) ++ y ∷ []) here
      ∙ ap (λ y. map f (take i xs) ++ f y ∷ []) is
      ∙ sym (map-append f (take i xs) (get_or xs i x ∷ [])) ∙ ap (map f) (sym (take_more xs i x less))

pub items_more : (old : List BoundAggregate) (new : List KeptAggregate) (i : ℕ) (a : BoundAggregate) (n : KeptAggregate) → i < length old → a ≡ get_or old i a
    → AreItems (take i old) new → IsItem a n → AreItems (take (i + 1) old) (new ++ n ∷ [])
items_more old new i a n less is before here state =
    map_more old i a less is (λ a. aggregate_meaning state a []) item_of new n (before state) (here state)

pub shown_more : (list : List BoundExpr) (places : List ℕ) (i : ℕ) (x : BoundExpr) (place : ℕ) → i < length list → x ≡ get_or list i x
    → AreShown (take i list) places → IsShown x place → AreShown (take (i + 1) list) (places ++ place ∷ [])
shown_more list places i x place less is before here state row =
    map_more list i x less is (λ e. (expr_meaning state e).value (row ∷ [])) (λ c. slice_index_or row c Null) places place (before state row) (here state row)

-- what comes of a part that was not found
pub not_found : {X Y : Type 0} (a b : Bool) (P : X → Type 0) (Q : Y → Type 0) (error : KeptPlanError) → (a ≡ false → b ≡ false) → IsFound a P (Err error) → IsFound b Q (Err error)
not_found a b P Q NotKept f there = f there
not_found a b P Q OutOfMemory f there = tt

-- the same of what `?` returns, and of what another call returns
pub residual : {X Y : Type 0} (a b : Bool) (P : X → Type 0) (Q : Y → Type 0) (error : KeptPlanError) (r : Result Y KeptPlanError) → IsErrAnd r (λ e. e ≡ error)
    → (a ≡ false → b ≡ false) → IsFound a P (Err error) → IsFound b Q r
residual a b P Q error r returned f there =
    let p = err_from_is_err_and r returned in
    subst (λ x. IsFound b Q x) (sym (p.1 ∙ ap (λ e. Err e) p.2)) (not_found a b P Q error f there)

pub found_as : {X : Type 0} (a b : Bool) (P Q : X → Type 0) (r : Result X KeptPlanError) → b ≡ a → ((x : X) → P x → Q x) → IsFound a P r → IsFound b Q r
found_as a b P Q (Ok x) same f there = (same ∙ there.0, f x there.1)
found_as a b P Q (Err NotKept) same f there = same ∙ there
found_as a b P Q (Err OutOfMemory) same f there = tt
