-- Lemmas on texts that lie in a dictionary.
use Rattle.std.proofs.Common.{◌≡◌, ℕ, suc, List, [], ◌∷◌, refl, sym, ap, ◌∙◌, subst, arith, length, get_or, map}
use Rattle.std.proofs.lemmas.List.{length-map}
use Rattle.base_value.specs.declared.truth.Truth.{Truth}
use Rattle.base_value.specs.declared.truth.Truth.TheVariants.{False}
use Rattle.base_value.specs.declared.value.Value.{Value}
use Rattle.base_value.specs.declared.value.Value.TheVariants.{Text}
use Rattle.base_columns.specs.Lists.{gathered, AreBelow}
use Rattle.base_columns.proofs.ColumnLists.{map-gathered}
use Rattle.exec_column_operators.specs.Zips.{zip_with}

map-map : {A B C : Type 0} (f : B → C) (g : A → B) (xs : List A) → map f (map g xs) ≡ map (λ x. f (g x)) xs
map-map f g [] = refl
map-map f g (x ∷ xs) = ap (λ ys. f (g x) ∷ ys) (map-map f g xs)

-- as many places as the table has
pub table_below : (texts : List (List ℕ)) (table : List Truth) (f : List ℕ → Truth) (codes : List ℕ) → table ≡ map f texts → AreBelow (length texts) codes → AreBelow (length table) codes
table_below texts table f codes e h = subst (λ n. AreBelow n codes) (sym (ap length e ∙ length-map texts f)) h

-- the truths by code are those of the texts
pub by_code_is : (seen : List Value) (texts : List (List ℕ)) (table found : List Truth) (f : Value → Truth) (codes : List ℕ) → seen ≡ map Text (gathered [] texts codes)
    → AreBelow (length texts) codes → table ≡ map (λ t. f (Text t)) texts → found ≡ gathered False table codes → found ≡ map f seen
by_code_is seen texts table found f codes s h t o =
    o ∙ ap (λ ts. gathered False ts codes) t ∙ sym (map-gathered (λ t. f (Text t)) [] False texts codes h) ∙ sym (map-map f Text (gathered [] texts codes)) ∙ ap (map f) (sym s)

-- a list of one text many times
zip_one : (f : Value → Value → Truth) (xs : List Value) (one : List (List ℕ)) (ones : List ℕ) → length xs ≡ length ones → length one ≡ 1 → AreBelow (length one) ones
    → zip_with f xs (map Text (gathered [] one ones)) ≡ map (λ x. f x (Text (get_or one 0 []))) xs
zip_one f [] one ones e l h = refl
zip_one f (x ∷ xs) one [] e l h = absurd (omega (arith, e))
zip_one f (x ∷ xs) one (i ∷ ones) e l h =
    let z : i ≡ 0 = omega (arith, l, h 0 0 (omega arith)) in
    rw (z, zip_one f xs one ones (omega (arith, e)) l (λ k d m. h (suc k) d (omega (arith, m)))) refl

pub by_codes_are : (xs ys : List Value) (texts one : List (List ℕ)) (table found : List Truth) (f : Value → Value → Truth) (codes ones : List ℕ) → length xs ≡ length ys
    → xs ≡ map Text (gathered [] texts codes) → AreBelow (length texts) codes → ys ≡ map Text (gathered [] one ones) → AreBelow (length one) ones → length one ≡ 1
    → table ≡ map (λ t. f (Text t) (Text (get_or one 0 []))) texts → found ≡ gathered False table codes → found ≡ zip_with f xs ys
by_codes_are xs ys texts one table found f codes ones n ex h ey k l t o =
    let m : length xs ≡ length ones = n ∙ ap length ey ∙ length-map (gathered [] one ones) Text ∙ length-map ones (λ i. get_or one i []) in
    by_code_is xs texts table found (λ x. f x (Text (get_or one 0 []))) codes ex h t o ∙ sym (zip_one f xs one ones m l k) ∙ ap (zip_with f xs) (sym ey)

pub ruleset coded = (table_below)
