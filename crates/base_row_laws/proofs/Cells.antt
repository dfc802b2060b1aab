-- The identity of the small cases' cells, and count(*) of them.
use Rattle.std.proofs.Common.{◌≡◌, [], ◌∷◌, true, refl, sym, ap, length}
use Rattle.std.proofs.lemmas.Bool.{true≢false, eqb-true, eq-eqb}
use Rattle.base_row_laws.specs.Bags.{IsIdentity, OfBag}
use Rattle.base_row_laws.specs.Cases.{Cell, same_cell, counted}
use Rattle.base_row_laws.specs.Cases.Cell.{Null, Number, Fault}
use Rattle.base_row_laws.proofs.OfBags.{OfBag-then, OfBag-length}

meets : (v : Cell) → same_cell v v ≡ true
meets Null = refl
meets (Number a) = eq-eqb a a refl
meets (Fault r) = eq-eqb r r refl

tells : (v w : Cell) → same_cell v w ≡ true → v ≡ w
tells Null Null e = refl
tells Null (Number b) e = absurd (true≢false (sym e))
tells Null (Fault g) e = absurd (true≢false (sym e))
tells (Number a) Null e = absurd (true≢false (sym e))
tells (Number a) (Number b) e = ap Number (eqb-true a b e)
tells (Number a) (Fault g) e = absurd (true≢false (sym e))
tells (Fault f) Null e = absurd (true≢false (sym e))
tells (Fault f) (Number b) e = absurd (true≢false (sym e))
tells (Fault f) (Fault g) e = ap Fault (eqb-true f g e)

pub same_cell_is : IsIdentity same_cell
same_cell_is = record { meets = meets; tells = tells }

-- count(*) of these cells
pub counted_bag : OfBag counted
counted_bag = OfBag-then (λ n. Number n ∷ []) (λ ys. length ys) OfBag-length
