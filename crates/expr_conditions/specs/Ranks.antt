-- Runs of columns, and what conditions say as ranks.
use Rattle.std.specs.Prelude.{ℕ, List, [], ◌∷◌, ◌++◌, zero, suc, min, ◌≡◌, ◌<◌, ◌≤◌, ◌⊎◌}
use Rattle.std.specs.List.{All}
use Rattle.base_row_laws.specs.Bags.{top}
use Rattle.base_row_laws.specs.Ranked.{true_rank}
use Rattle.base_value.specs.declared.value.Value.{Value}
use Rattle.base_value.specs.Truth.{truth_rank}
use Rattle.expr_scalar.specs.declared.expr.Expr.{Expr}
use Rattle.expr_scalar.specs.Meaning.{truth, values}
use Rattle.expr_scalar.specs.Rename.{gathered}
use Rattle.expr_scalar.specs.Used.{used}

-- the n columns from k on
abbrev pub columns_from : ℕ → ℕ → List ℕ
columns_from k zero = []
columns_from k (suc n) = k ∷ columns_from (suc k) n

-- the place of a condition's truth in the chain
unfoldable pub rank_of : Expr → List Value → ℕ
rank_of e row = truth_rank (truth e row)

-- what a condition says of a row under the domain row d
unfoldable pub says : Expr → List Value → List Value → ℕ
says e d r = rank_of e (d ++ r)

-- the least of what conditions say
abbrev pub all_rank : List Expr → List Value → ℕ
all_rank [] row = true_rank
all_rank (e ∷ es) row = min (rank_of e row) (all_rank es row)

-- the least of what they say of a row under the domain row d
unfoldable pub all_say : List Expr → List Value → List Value → ℕ
all_say es d r = all_rank es (d ++ r)

-- new is old and after it the conjuncts of what e says of the row of these columns
pub record PutInto (places : List ℕ) (e : Expr) (old new : List Expr) : Type 0 where
  pub says : (row : List Value) → all_rank new row
      ≡ min (all_rank old row) (rank_of e (gathered places row))

-- the same of conditions
pub record PutAll (places : List ℕ) (es old new : List Expr) : Type 0 where
  pub says : (row : List Value) → all_rank new row
      ≡ min (all_rank old row) (all_rank es (gathered places row))

-- the columns that an expression uses are below a limit
abbrev pub ReadsBelow : ℕ → Expr → Type 0
ReadsBelow limit e = All (λ c. c < limit) (used e)

-- the conditions es, read at these columns, in two parts, of which the first reads columns below
-- the limit only
pub record IsParted (places : List ℕ) (limit : ℕ) (es covered rest : List Expr) : Type 0 where
  pub says : (row : List Value) → min (all_rank covered row) (all_rank rest row)
      ≡ all_rank es (gathered places row)
  pub below : All (ReadsBelow limit) covered

-- expressions that say of a row what es say of the row of these columns
pub record AreRenamed (places : List ℕ) (es new : List Expr) : Type 0 where
  pub values : (row : List Value) → values new row ≡ values es (gathered places row)

-- an expression was put after the covered ones, and then it reads columns below the limit only, or
-- after the others
abbrev pub PutPart : ℕ → Expr → List Expr → List Expr → List Expr → List Expr → Type 0
PutPart limit e covered now rest then =
    (ReadsBelow limit e × (now ≡ covered ++ e ∷ []) × (then ≡ rest))
    ⊎ ((now ≡ covered) × (then ≡ rest ++ e ∷ []))

-- e says of each row at most what k says
pub record IsBelow (k e : Expr) : Type 0 where
  pub says : (row : List Value) → rank_of e row ≤ rank_of k row

-- the same of an AND
pub record IsBelowAll (k : Expr) (es : List Expr) : Type 0 where
  pub says : (row : List Value) → all_rank es row ≤ rank_of k row

-- the same of an OR
pub record IsBelowAny (k : Expr) (es : List Expr) : Type 0 where
  pub says : (row : List Value) → top (λ x. rank_of x row) es ≤ rank_of k row

-- Conditions were put after the others that, read at these columns, the OR of the parts implies.
pub record PutImplied (places : List ℕ) (parts old new : List Expr) : Type 0 where
  pub says : (row : List Value) → let n = top (λ x. rank_of x (gathered places row)) parts in
      min (all_rank new row) n ≡ min (all_rank old row) n
  pub less : (row : List Value) → all_rank new row ≤ all_rank old row
