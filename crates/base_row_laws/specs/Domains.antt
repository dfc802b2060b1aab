-- Domains, and what it is for a node's rows to be those of nested loops under each domain row.
use Rattle.std.specs.Prelude.{◌≡◌, ℕ, ◌≤◌, List, [], ◌∷◌, Bool, true, not, ◌&&◌, map, length}
use Rattle.std.specs.List.{filter, flat_map}
use Rattle.base_row_laws.specs.Ranked.{Ranked, true_rank}
use Rattle.base_row_laws.specs.Bags.{SameBag, Each, has}
use Rattle.base_row_laws.specs.Rows.{same_row, starts, starts_any, after}

-- the values of each row
abbrev pub values_of : {V : Type 0} → List (Ranked V) → List (List V)
values_of ds = map (λ e. e.values) ds

-- each row has n values or more
abbrev pub Wide : {V : Type 0} → ℕ → List (Ranked V) → Type 0
Wide n xs = Each (λ x. n ≤ length x.values) xs

-- under(D, T): each row of D before each row that T gives under it, at that row's standing
abbrev pub under : {V : Type 0} → List (List V) → (List V → List (Ranked V)) → List (Ranked V)
under D T = flat_map (λ d. map (after d) (T d)) D

module _ {V : Type 0} (same : V → V → Bool) where
  -- no two of the rows are identical
  abbrev pub no_two : List (List V) → Bool
  no_two [] = true
  no_two (d ∷ D) = not (has (same_row same) d D) && no_two D

  -- the rows that begin with one of the rows D
  abbrev pub meeting : List (List V) → List (Ranked V) → List (Ranked V)
  meeting D xs = filter (λ x. starts_any same D x.values) xs

-- A domain: rows of n values, no two identical, each at True.
pub record IsDomain {V : Type 0} (same : V → V → Bool) (n : ℕ) (ds : List (Ranked V)) : Type 0 where
  pub widths : Each (λ e. length e.values ≡ n) ds
  pub standings : Each (λ e. e.standing ≡ true_rank) ds
  pub apart : no_two same (values_of ds) ≡ true

-- Among xs, the rows that begin with d are, as a bag, the rows ts after d. Of rows that begin
-- otherwise nothing is said.
pub record Meets {V : Type 0} (same : V → V → Bool) (d : List V)
    (xs ts : List (Ranked V)) : Type 0 where
  pub same_bag : SameBag (filter (λ x. starts same d x.values) xs) (map (after d) ts)
  pub wide : Wide (length d) xs

-- The node's rows xs answer the nested loops L over the domain ds: each domain row e meets in xs
-- the rows that L gives under e.
abbrev pub Answers : {V : Type 0} → (V → V → Bool) → List (Ranked V) → List (Ranked V)
    → (List V → List (Ranked V)) → Type 0
Answers same ds xs L = Each (λ e. Meets same e.values xs (L e.values)) ds
