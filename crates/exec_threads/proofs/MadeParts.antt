-- What was made of parts, where memory sufficed for all.
use Rattle.std.proofs.Common.{◌≡◌, ℕ, zero, suc, ◌+◌, ◌<◌, List, [], ◌∷◌, ◌∙◌, ap, sym, subst, arith, length, get_or, map}
use Rattle.std.specs.Prelude.{IfOk, Result, Ok}
use Rattle.std.specs.Global.{Vec}
use Rattle.std.specs.List.{AllZip, range_with_len}
use Rattle.std.proofs.lemmas.List.{length-map, get_or-map}
use Rattle.exec_threads.proofs.Chunked.{range-long, range-at}

-- what holds of what was made of a part, where memory sufficed for all
pub made_at : {T E : Type 0} (P : T → Type 0) (made : List (Result T E)) (xs : List T) (n : ℕ) (d : T) → made ≡ map (λ x. Ok x) xs → n < length xs
    → ((e : Result T E) → IfOk (get_or made n e) P) → P (get_or xs n d)
made_at P made xs n d is l h = subst (λ r. IfOk r P) (ap (λ ms. get_or ms n (Ok d)) is ∙ get_or-map (λ x. Ok x) xs n d (Ok d) l) (h (Ok d))

-- the elements of a list of vectors
pub items_have : {T : Type 0} (P : List T → Type 0) (xs : List (Vec T)) (n : ℕ) → n < length xs → ((d : Vec T) → P (get_or xs n d).items) → P (get_or (map (λ v. v.items) xs) n [])
items_have P [] n l h = absurd (omega (arith, l))
items_have P (x ∷ xs) zero l h = h x
items_have P (x ∷ xs) (suc n) l h = items_have P xs n (omega (arith, l)) h

-- of parts that have numbers, how many were made, and what holds of each
module _ {T E : Type 0} (R : ℕ → Result T E → Type 0) (m : ℕ) (xs : List T) (each : AllZip R (range_with_len 0 m) (map (λ x. Ok x) xs)) where
  pub numbered-long : length xs ≡ m
  numbered-long = sym (length-map xs (λ x. Ok x)) ∙ range-long R 0 m (map (λ x. Ok x) xs) each

  pub numbered-at : (n : ℕ) (d : T) → n < length xs → R n (Ok (get_or xs n d))
  numbered-at n d l =
      let z : 0 + n ≡ n = omega arith in
      let made : List (Result T E) = map (λ x. Ok x) xs in
      let long : length made ≡ length xs = length-map xs _ in
      subst (R n) (get_or-map _ xs n d (Ok d) l)
      (subst (λ k. R k (get_or made n (Ok d))) z (range-at R 0 m made each n (Ok d) (omega (arith, l, long))))
