-- Tokens by their kinds: what a part of a grammar begins with, and what may not come after it.
use Rattle.std.specs.Prelude.{◌≡◌, Bool, true, false, not, ◌||◌, ◌&&◌, List, [], ◌∷◌}
use Rattle.std.specs.List.{list_any}

-- a test for tokens of each kind, and a test for equal kinds
pub record Kinds (T K : Type 0) : Type 0 where
  pub is : K → T → Bool
  pub same : K → K → Bool
  -- a token has one kind
  pub one_kind : (j k : K) (t : T) → is j t ≡ true → is k t ≡ true → same j k ≡ true
  -- equal kinds have the same tokens
  pub alike : (j k : K) (t : T) → same j k ≡ true → is k t ≡ true → is j t ≡ true
  -- each kind has a token
  pub token : K → T
  pub token_is : (k : K) → is k (token k) ≡ true

-- a token of one of these kinds
abbrev pub among : {T K : Type 0} → Kinds T K → List K → T → Bool
among c ks t = list_any (λ k. c.is k t) ks

-- the kind is none of these
abbrev pub differs : {T K : Type 0} → Kinds T K → K → List K → Bool
differs c k [] = true
differs c k (j ∷ js) = not (c.same k j) && differs c k js

-- none of the kinds is one of those
abbrev pub apart : {T K : Type 0} → Kinds T K → List K → List K → Bool
apart c [] js = true
apart c (k ∷ ks) js = differs c k js && apart c ks js

-- the kind is one of these
abbrev pub has : {T K : Type 0} → Kinds T K → List K → K → Bool
has c [] k = false
has c (j ∷ js) k = c.same j k || has c js k

-- each of the kinds is one of those
abbrev pub within : {T K : Type 0} → Kinds T K → List K → List K → Bool
within c [] js = true
within c (k ∷ ks) js = has c js k && within c ks js
