-- The views of a session stay well typed.
use Rattle.std.proofs.Common.{◌≡◌, ℕ, zero, suc, List, [], ◌∷◌, ◌++◌, subst, sym, take, drop}
use Rattle.std.specs.Prelude.{Result, Ok, Err, Some, remove}
use Rattle.base_row_laws.specs.Bags.{Each}
use Rattle.base_row_laws.proofs.Lists.{Each-append}
use Rattle.expr_scalar.specs.declared.kind.Kind.{Kind}
use Rattle.sql_bound_query.specs.declared.query.BoundQuery.{BoundQuery}
use Rattle.sql_bound_query.specs.Typing.{IsWellTyped}
use Rattle.sql_ast.specs.declared.statement.Query.{Query}
use Rattle.sql_ast.specs.declared.tree.Block.{Block}
use Rattle.sql_binder_steps.specs.declared.view.View.{View}
use Rattle.sql_binder.specs.Binding.{bound_query, bound_view}
use Rattle.sql_binder_steps.specs.Steps.{Name}
use Rattle.sql_binder_laws.specs.WellTyped.{ViewsAreTyped, header_kinds}
use Rattle.sql_binder_laws.proofs.TypedTrees.{bound_is_well_typed, view_is_well_typed}

-- one view more
pub typed_with : (views now : List View) (name : Name) (names : List Name) (q : Block) (v : View)
    → ViewsAreTyped views → bound_view name names q views ≡ Ok v → now ≡ views ++ v ∷ []
    → ViewsAreTyped now
typed_with views now name names q v typed is e =
    subst ViewsAreTyped (sym e)
    (Each-append (λ (x : View). IsWellTyped x.block (header_kinds x.columns)) views (v ∷ []) typed
    (view_is_well_typed name names q views v typed is, tt))

-- one view more, of which a number is said too
pub typed_kept : (views now : List View) (number : ℕ) (name : Name) (q : Block) (v : View)
    → ViewsAreTyped views → bound_view name [] q [] ≡ Ok v
    → now ≡ views ++ record v { kept = Some number } ∷ [] → ViewsAreTyped now
typed_kept views now number name q v typed is e =
    subst ViewsAreTyped (sym e)
    (Each-append (λ (x : View). IsWellTyped x.block (header_kinds x.columns)) views
    (record v { kept = Some number } ∷ []) typed
    (view_is_well_typed name [] q [] v tt is, tt))

module _ {X : Type 0} (P : X → Type 0) where
  first_each : (n : ℕ) (xs : List X) → Each P xs → Each P (take n xs)
  first_each zero xs all = tt
  first_each (suc n) [] all = tt
  first_each (suc n) (x ∷ xs) all = (all.0, first_each n xs all.1)

  rest_each : (n : ℕ) (xs : List X) → Each P xs → Each P (drop n xs)
  rest_each zero xs all = all
  rest_each (suc n) [] all = tt
  rest_each (suc n) (x ∷ xs) all = rest_each n xs all.1

-- one view less
pub typed_without : (views now : List View) (place : ℕ) → ViewsAreTyped views
    → now ≡ remove views place → ViewsAreTyped now
typed_without views now place typed e =
    let P : View → Type 0 = λ x. IsWellTyped x.block (header_kinds x.columns) in
    subst ViewsAreTyped (sym e)
    (Each-append P (take place views) (drop (suc place) views) (first_each P place views typed)
    (rest_each P (suc place) views typed))

-- a query that is bound over them is well typed
pub typed_bound : (q : Query) (views : List View) (bound : BoundQuery) → ViewsAreTyped views
    → bound_query q views ≡ Ok bound → (kinds : List Kind) × IsWellTyped bound.block kinds
typed_bound q views bound typed is = bound_is_well_typed q views bound typed (record { is = is })
