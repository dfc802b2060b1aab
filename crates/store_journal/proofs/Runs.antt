-- Appends one after the other.
use Rattle.std.proofs.Common.{◌≡◌, ⊎_elim, ℕ, zero, suc, ◌≤◌, ◌<◌, List, [], ◌∷◌, ◌++◌, length, get_or, take, drop, refl, sym, ◌∙◌, ap, subst, arith, append_assoc}
use Rattle.std.specs.Prelude.{map}
use Rattle.std.specs.List.{AllByRecursion}
use Rattle.store_journal.specs.Format.{IsEntry, StandsFor}
use Rattle.store_journal.specs.Journal.{WithOrWithout, StandsForSome}

module _ {T : Type 0} (f : T → List ℕ) where
  pub length-payloads : (vs : List T) → length (map f vs) ≡ length vs
  length-payloads [] = refl
  length-payloads (v ∷ vs) = ap suc (length-payloads vs)

  -- what is left from one of them on
  pub left_at : (vs : List T) (i : ℕ) (v : T) → i < length vs → v ≡ get_or vs i v → drop i (map f vs) ≡ f v ∷ drop (suc i) (map f vs)
  left_at [] i v less is = absurd (omega (arith, less))
  left_at (u ∷ vs) zero v less is = ap (λ (x : T). f x ∷ map f vs) (sym is)
  left_at (u ∷ vs) (suc i) v less is = left_at vs i v (omega (arith, less)) is

  -- what was before the next one
  pub before_next : (vs : List T) (i : ℕ) (v : T) → i < length vs → v ≡ get_or vs i v → take (suc i) (map f vs) ≡ take i (map f vs) ++ f v ∷ []
  before_next [] i v less is = absurd (omega (arith, less))
  before_next (u ∷ vs) zero v less is = ap (λ (x : T). f x ∷ []) (sym is)
  before_next (u ∷ vs) (suc i) v less is = ap (λ (l : List (List ℕ)). f u ∷ l) (before_next vs i v (omega (arith, less)) is)

fits-drop : (K : List ℕ → Type 0) (i : ℕ) (ps : List (List ℕ)) → AllByRecursion (IsEntry K) ps → AllByRecursion (IsEntry K) (drop i ps)
fits-drop K zero ps fits = fits
fits-drop K (suc i) [] fits = tt
fits-drop K (suc i) (p ∷ ps) fits = fits-drop K i ps fits.1

-- each of them is an entry's payload
pub fits_at : {T : Type 0} (K : List ℕ → Type 0) (f : T → List ℕ) (vs : List T) (i : ℕ) (v : T) → i < length vs → v ≡ get_or vs i v → AllByRecursion (IsEntry K) (map f vs) → IsEntry K (f v)
fits_at K f vs i v less is fits = (subst (λ (l : List (List ℕ)). AllByRecursion (IsEntry K) l) (left_at f vs i v less is) (fits-drop K i (map f vs) fits)).0

module _ (K : List ℕ → Type 0) (ps tried : List (List ℕ)) (i : ℕ) (p : List ℕ) (less : i < length tried) (next : take (suc i) tried ≡ take i tried ++ p ∷ []) where
  pub one_more : (ps ++ take i tried) ++ p ∷ [] ≡ ps ++ take (suc i) tried
  one_more = append_assoc ps (take i tried) (p ∷ []) ∙ ap (λ (l : List (List ℕ)). ps ++ l) (sym next)

  -- with the next one or without
  pub some_of : (least : ℕ) (c : List ℕ) → least ≤ i → WithOrWithout K (ps ++ take i tried) p c → StandsForSome K least ps tried c
  some_of least c low left = ⊎_elim
      (λ s. record { count = i; enough = low; most = omega (arith, less); stands = s })
      (λ s. record { count = suc i; enough = omega (arith, low); most = omega (arith, less); stands = subst (λ (l : List (List ℕ)). StandsFor K c l) one_more s })
      left
