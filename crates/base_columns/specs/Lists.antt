-- Lists taken by place.
use Rattle.std.specs.Prelude.{◌≡◌, ℕ, ◌<◌, List, [], ◌∷◌, ◌++◌, Bool, true, false}
use Rattle.std.specs.Prelude.{cond, map, nat_le, slice_index_or}
use Rattle.std.specs.List.{All}

-- the elements at these places
abbrev pub gathered : {A : Type 0} → A → List A → List ℕ → List A
gathered d xs places = map (λ i. slice_index_or xs i d) places

-- each place is one of a list of that length
abbrev pub AreBelow : ℕ → List ℕ → Type 0
AreBelow n places = All (λ i. i < n) places

-- the elements at these places, whatever stands for one that isn't there
abbrev pub IsGathered : {A : Type 0} → List A → List ℕ → List A → Type 0
IsGathered {A} xs places ys = (d : A) → ys ≡ gathered d xs places

-- the lists, one after the other
abbrev pub one_list : {A : Type 0} → List (List A) → List A
one_list [] = []
one_list (xs ∷ more) = xs ++ one_list more

-- one element more, whichever it is
pub record IsLonger {A : Type 0} (xs ys : List A) : Type 0 where
  pub more : A
  pub is : ys ≡ xs ++ more ∷ []

-- one element more, whichever it is, or the same elements
abbrev pub IsPadded : {A : Type 0} → Bool → List A → List A → Type 0
IsPadded true xs ys = IsLonger xs ys
IsPadded false xs ys = ys ≡ xs

-- the same places, but 0 where a place isn't one of a list of that length
abbrev pub inside : ℕ → List ℕ → List ℕ
inside n places = map (λ i. cond (nat_le n i) 0 i) places
