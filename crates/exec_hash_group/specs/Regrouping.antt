-- Groups of the parts of a list, put together: each key once, with the elements of all parts.
use Rattle.std.specs.Prelude.{◌≡◌, ℕ, zero, suc, List, [], ◌∷◌, Bool, map}
use Rattle.std.specs.List.{filter}
use Rattle.base_row_laws.specs.Bags.{each_once, classes}
use Rattle.base_row_laws.specs.TableLaws.{with_number}
use Rattle.base_columns.specs.Lists.{one_list}

-- the elements of each of `count` numbers, counted from n
abbrev pub lists_by_number : {X : Type 0} → List ℕ → List X → ℕ → ℕ → List (List X)
lists_by_number numbers xs n zero = []
lists_by_number numbers xs n (suc count) = with_number numbers xs n
    ∷ lists_by_number numbers xs (suc n) count

-- the groups of a list by identical keys, in the order of the keys' first places: keys and elements
abbrev pub groups_by : {K R : Type 0} → (K → K → Bool) → (R → K) → List R → List (K × List R)
groups_by same key xs = classes same key (λ k ys. (k, ys)) xs

-- the elements of all these groups
abbrev pub members : {K R : Type 0} → List (K × List R) → List R
members gs = one_list (map (λ g. g.1) gs)

-- These groups, of which some may have the same key, have each key at the same places as a list,
-- and the same elements of each key.
pub record AreOfParts {K R : Type 0} (same : K → K → Bool) (key : R → K) (gs : List (K × List R))
    (xs : List R) : Type 0 where
  pub keys_are : each_once same (map (λ g. g.0) gs) ≡ each_once same (map key xs)
  pub members_are : (k : K) → members (filter (λ g. same g.0 k) gs)
      ≡ filter (λ x. same (key x) k) xs
