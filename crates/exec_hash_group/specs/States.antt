-- What the accumulators of groups have taken, and how others are merged into them.
use Rattle.std.specs.Prelude.{◌≡◌, ℕ, ◌+◌, ◌<◌, ◌≤◌, ◌^◌, List, [], ◌++◌, length, Some, slice_get}
use Rattle.std.specs.Prelude.{slice_index_or}
use Rattle.base_value.specs.declared.value.Value.{Value}
use Rattle.exec_accumulators.specs.Accumulators.{OfValues}

-- each accumulator has taken the values of the list at its place, for an aggregate of them
pub record HaveTaken {S : Type 0} (has_taken : S → OfValues → List Value → Type 0) (terms : S → ℕ)
    (aggregate : OfValues) (lists : List (List Value)) (states : List S) : Type 0 where
  pub count : length states ≡ length lists
  pub few : (i : ℕ) (s : S) → slice_get states i ≡ Some s → terms s < 2 ^ 32
  pub taken : (i : ℕ) (s : S) → slice_get states i ≡ Some s
      → has_taken s aggregate (slice_index_or lists i [])

-- The accumulator at a place has taken what another has; the others are as they were.
pub record MergedAt {S : Type 0} (has_taken : S → OfValues → List Value → Type 0) (terms : S → ℕ)
    (place : ℕ) (other : S) (old new : List S) : Type 0 where
  pub count : length new ≡ length old
  pub others : (i : ℕ) → (i ≡ place → ⊥) → slice_get new i ≡ slice_get old i
  pub terms_at : (s t : S) → slice_get old place ≡ Some s → slice_get new place ≡ Some t
      → terms t ≤ terms s + terms other
  pub taken_at : (s t : S) → slice_get old place ≡ Some s → slice_get new place ≡ Some t
      → (aggregate : OfValues) (vs ws : List Value) → has_taken s aggregate vs
      → has_taken other aggregate ws → has_taken t aggregate (vs ++ ws)
