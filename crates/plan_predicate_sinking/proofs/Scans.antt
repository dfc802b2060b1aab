-- The tables that trees scan.
use Rattle.std.proofs.Common.{◌≡◌, List, sym, subst}
use Rattle.base_row_laws.specs.Bags.{SameBag}
use Rattle.base_row_laws.proofs.Bags.{SameBag-refl}
use Rattle.plan_algebra.specs.Trees.{Occurrence}

pub as_bags : {p q r s : List Occurrence} → p ≡ q → s ≡ r → SameBag q r → SameBag p s
as_bags {p} {q} {r} {s} i j b =
    subst (λ l. SameBag l s) (sym i) (subst (λ l. SameBag q l) (sym j) b)

pub same_list : {p q : List Occurrence} → p ≡ q → SameBag p q
same_list {p} {q} i = subst (λ l. SameBag p l) i (SameBag-refl p)
