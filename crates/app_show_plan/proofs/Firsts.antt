-- Pairs of columns whose right ones are the first, one more.
use Rattle.std.proofs.Common.{◌≡◌, ℕ, zero, suc, ◌+◌, ◌<◌, List, [], ◌∷◌, ◌++◌, map, length, take, get_or, sym, ap, ◌∙◌, arith}
use Rattle.std.proofs.lemmas.List.{map-append, take_more}
use Rattle.std.specs.List.{range_with_len}
use Rattle.base_row_laws.specs.Matched.{right_places}

range_more : (a n j : ℕ) → a + n ≡ j → range_with_len a (n + 1) ≡ range_with_len a n ++ j ∷ []
range_more a zero j e = ap (λ k. k ∷ []) (omega (arith, e))
range_more a (suc n) j e =
    let on : suc n + 1 ≡ suc (n + 1) = omega arith in
    ap (range_with_len a) on ∙ ap (λ l. a ∷ l) (range_more (a + 1) n j (omega (arith, e)))

pub first_more : (matched : List (ℕ × ℕ)) (i : ℕ) (d : ℕ × ℕ) → i < length matched
    → right_places (take i matched) ≡ range_with_len 0 i → (get_or matched i d).1 ≡ i
    → right_places (take (i + 1) matched) ≡ range_with_len 0 (i + 1)
first_more matched i d h are is =
    let pair = get_or matched i d in
    ap right_places (take_more matched i d h)
    ∙ map-append (λ (m : ℕ × ℕ). m.1) (take i matched) (pair ∷ [])
    ∙ ap (λ l. l ++ pair.1 ∷ []) are ∙ ap (λ k. range_with_len 0 i ++ k ∷ []) is
    ∙ sym (range_more 0 i i (omega arith))
