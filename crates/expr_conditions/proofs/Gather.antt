-- The row of runs of columns.
use Rattle.std.proofs.Common.{◌≡◌, ℕ, ◌+◌, List, [], ◌∷◌, ◌++◌, refl, sym, ◌∙◌, ap, arith, zero, suc, length, drop, slice_index_or}
use Rattle.std.proofs.lemmas.List.{append_assoc, append-nil, map-append, length-append}
use Rattle.base_value.specs.declared.value.Value.{Value}
use Rattle.base_value.specs.declared.value.Value.TheVariants.{Null}
use Rattle.expr_scalar.specs.Rename.{gathered}
use Rattle.expr_conditions.specs.Ranks.{columns_from}

pub gather_append : (p q : List ℕ) (r : List Value) → gathered (p ++ q) r ≡ gathered p r ++ gathered q r
unfolding gathered
gather_append p q r = map-append _ p q

later : (k n : ℕ) (y : Value) (r : List Value) → gathered (columns_from (suc k) n) (y ∷ r) ≡ gathered (columns_from k n) r
unfolding gathered
later k zero y r = refl
later k (suc n) y r = ap (λ l. slice_index_or r k Null ∷ l) (later (suc k) n y r)

front : (x t : List Value) → gathered (columns_from 0 (length x)) (x ++ t) ≡ x
unfolding gathered
front [] t = refl
front (y ∷ x) t = ap (λ l. y ∷ l) (later 0 (length x) y (x ++ t) ∙ front x t)

gather_run : (u x t : List Value) → gathered (columns_from (length u) (length x)) (u ++ (x ++ t)) ≡ x
gather_run [] x t = front x t
gather_run (y ∷ u) x t = later (length u) (length x) y (u ++ (x ++ t)) ∙ gather_run u x t

pub gather_at : (k n : ℕ) (r u x t : List Value) → r ≡ u ++ (x ++ t) → length u ≡ k → length x ≡ n → gathered (columns_from k n) r ≡ x
gather_at k n r u x t is lu lx =
    ap (gathered (columns_from k n)) is ∙ ap (λ m. gathered (columns_from m n) (u ++ (x ++ t))) (sym lu) ∙ ap (λ m. gathered (columns_from (length u) m) (u ++ (x ++ t))) (sym lx) ∙ gather_run u x t
