-- The aggregates of groups, each of the values at which the group's number stands.
use Rattle.std.specs.Prelude.{◌≡◌, ℕ, zero, suc, ◌+◌, ◌≤◌, List, [], ◌∷◌, ◌++◌, length, Some}
use Rattle.std.specs.Prelude.{slice_get}
use Rattle.base_row_laws.specs.TableLaws.{with_number}
use Rattle.base_value.specs.declared.value.Value.{Value}
use Rattle.exec_accumulators.specs.Accumulators.{OfValues}

-- an aggregate of the values at which each of `count` numbers stands, counted from n
abbrev pub values_by_number : OfValues → List ℕ → List Value → ℕ → ℕ → List Value
values_by_number aggregate numbers values n zero = []
values_by_number aggregate numbers values n (suc count) = aggregate (with_number numbers values n)
    ∷ values_by_number aggregate numbers values (suc n) count

-- P of each element at its place
abbrev pub AtEach : {X : Type 0} → (ℕ → X → Type 0) → List X → Type 0
AtEach {X} P xs = (i : ℕ) (x : X) → slice_get xs i ≡ Some x → P i x

-- The accumulator at a place has taken one value more; the others are as they were.
pub record PutAt {S : Type 0} (has_taken : S → OfValues → List Value → Type 0) (terms : S → ℕ)
    (place : ℕ) (value : Value) (old new : List S) : Type 0 where
  pub count : length new ≡ length old
  pub others : (i : ℕ) → (i ≡ place → ⊥) → slice_get new i ≡ slice_get old i
  pub terms_at : (s t : S) → slice_get old place ≡ Some s → slice_get new place ≡ Some t
      → terms t ≤ terms s + 1
  pub taken_at : (s t : S) → slice_get old place ≡ Some s → slice_get new place ≡ Some t
      → (aggregate : OfValues) (vs : List Value) → has_taken s aggregate vs
      → has_taken t aggregate (vs ++ value ∷ [])

-- each value is the aggregate of what the accumulator at its place has taken
pub record AreValues {S : Type 0} (has_taken : S → OfValues → List Value → Type 0) (states : List S)
    (values : List Value) : Type 0 where
  pub count : length values ≡ length states
  pub value_at : (i : ℕ) (s : S) (v : Value) → slice_get states i ≡ Some s
      → slice_get values i ≡ Some v
      → (aggregate : OfValues) (vs : List Value) → has_taken s aggregate vs → v ≡ aggregate vs
