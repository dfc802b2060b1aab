-- Projections, one above another and out of products.
use Rattle.std.proofs.Common.{◌≡◌, List, [], ◌∷◌, ◌++◌, refl, sym, ◌∙◌, ap}
use Rattle.std.specs.Prelude.{map, min}
use Rattle.std.proofs.lemmas.List.{map-append}
use Rattle.base_row_laws.specs.Ranked.{Ranked, ranked}
use Rattle.base_row_laws.specs.Bags.{Each}
use Rattle.base_row_laws.specs.Operators.{project, cross}

module _ {V : Type 0} where
  pub project_twice : (f g : List V → List V) (xs : List (Ranked V)) → project g (project f xs) ≡ project (λ r. g (f r)) xs
  project_twice f g [] = refl
  project_twice f g (x ∷ xs) = ap (λ l. ranked (g (f x.values)) x.standing ∷ l) (project_twice f g xs)

  module _ (f g : List V → List V) where
    abbrev combined : Ranked V → List (Ranked V) → List (Ranked V)
    combined x ys = map (λ y. ranked (x.values ++ y.values) (min x.standing y.standing)) ys

    left_row : (x : Ranked V) (ys : List (Ranked V)) → Each (λ y. g (x.values ++ y.values) ≡ f x.values ++ y.values) ys
        → combined (ranked (f x.values) x.standing) ys ≡ project g (combined x ys)
    left_row x [] all = refl
    left_row x (y ∷ ys) all = let ih = left_row x ys all.1 in let e = all.0 in rw (e, ih)

    pub project_out_of_left : (xs ys : List (Ranked V)) → Each (λ x. Each (λ y. g (x.values ++ y.values) ≡ f x.values ++ y.values) ys) xs
        → cross (project f xs) ys ≡ project g (cross xs ys)
    project_out_of_left [] ys all = refl
    project_out_of_left (x ∷ xs) ys all =
        ap (λ l. l ++ cross (project f xs) ys) (left_row x ys all.0)
        ∙ ap (λ l. project g (combined x ys) ++ l) (project_out_of_left xs ys all.1)
        ∙ sym (map-append (λ z. ranked (g z.values) z.standing) (combined x ys) (cross xs ys))

    right_row : (x : Ranked V) (ys : List (Ranked V)) → Each (λ y. g (x.values ++ y.values) ≡ x.values ++ f y.values) ys
        → combined x (project f ys) ≡ project g (combined x ys)
    right_row x [] all = refl
    right_row x (y ∷ ys) all = let ih = right_row x ys all.1 in let e = all.0 in rw (e, ih)

    pub project_out_of_right : (xs ys : List (Ranked V)) → Each (λ x. Each (λ y. g (x.values ++ y.values) ≡ x.values ++ f y.values) ys) xs
        → cross xs (project f ys) ≡ project g (cross xs ys)
    project_out_of_right [] ys all = refl
    project_out_of_right (x ∷ xs) ys all =
        ap (λ l. l ++ cross xs (project f ys)) (right_row x ys all.0)
        ∙ ap (λ l. project g (combined x ys) ++ l) (project_out_of_right xs ys all.1)
        ∙ sym (map-append (λ z. ranked (g z.values) z.standing) (combined x ys) (cross xs ys))
