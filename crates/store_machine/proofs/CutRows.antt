-- Rows cut into pieces, piece by piece.
use Rattle.std.proofs.Common.{◌≡◌, ℕ, zero, suc, ◌-◌, ◌<◌, List, [], ◌∷◌, length, take, drop, get_or, min, ap, ◌∙◌, arith}
use Rattle.std.specs.Prelude.{slice_index_or}
use Rattle.std.proofs.lemmas.List.{take_min}
use Rattle.std.proofs.Math.Seq.{drop-nil}
use Rattle.base_value.specs.declared.value.Value.{Value}
use Rattle.store_machine.specs.Machine.{pieces_of}

least_suc : (n m : ℕ) → min (suc n) (suc m) ≡ suc (min n m)
least_suc n m = omega arith

least_zero : (m : ℕ) → min 0 m ≡ 0
least_zero m = omega arith

less_one : (n : ℕ) → suc n - 1 ≡ n
less_one n = omega arith

drop_min : {A : Type 0} (n : ℕ) (xs : List A) → drop (min n (length xs)) xs ≡ drop n xs
drop_min zero xs = ap (λ k. drop k xs) (least_zero (length xs))
drop_min (suc n) [] = drop-nil (min (suc n) 0)
drop_min (suc n) (x ∷ xs) = ap (λ k. drop k (x ∷ xs)) (least_suc n (length xs)) ∙ drop_min n xs

pub first_piece : (lengths : List ℕ) (rows : List (List Value)) → 0 < length lengths
    → take (min (get_or lengths 0 0) (length rows)) rows ≡ slice_index_or (pieces_of lengths rows) 0 []
first_piece [] rows some = absurd (omega (arith, some))
first_piece (n ∷ lengths) rows some = take_min n rows

pub later_piece : (lengths : List ℕ) (rows : List (List Value)) (number : ℕ) → 0 < length lengths → 0 < number
    → slice_index_or (pieces_of (drop 1 lengths) (drop (min (get_or lengths 0 0) (length rows)) rows)) (number - 1) []
    ≡ slice_index_or (pieces_of lengths rows) number []
later_piece [] rows number some more = absurd (omega (arith, some))
later_piece (n ∷ lengths) rows zero some more = absurd (omega (arith, more))
later_piece (n ∷ lengths) rows (suc number) some more =
    ap (λ k. slice_index_or (pieces_of lengths (drop (min n (length rows)) rows)) k []) (less_one number)
    ∙ ap (λ rest. slice_index_or (pieces_of lengths rest) number []) (drop_min n rows)
