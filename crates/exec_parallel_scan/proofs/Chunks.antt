-- What is made of the chunks of a list, put together, is what is made of the whole.
use native.Mathlib.Nat.{add-mul, one-mul, suc-mul, zero-mul}
use native.Mathlib.Numerals.{add-one}
use Rattle.std.proofs.Common.{◌≡◌, ℕ, zero, suc, ◌+◌, ◌*◌, ◌/◌, ◌%◌, ◌<◌, ◌≤◌, List, [], ◌∷◌, ◌++◌, sym, ap, ◌∙◌, arith, inl, inr, length, take, drop, get_or}
use Rattle.std.specs.Prelude.{min, map}
use Rattle.std.specs.Fork.{slice_chunk}
use Rattle.std.proofs.lemmas.Bool.{cases_lt}
use Rattle.std.proofs.lemmas.Nat.{div-add-mod', mod_below}
use Rattle.std.proofs.lemmas.List.{take_all, take-take, drop-take, take-append-drop}
use Rattle.base_columns.specs.Lists.{one_list}
use Rattle.base_columns.proofs.RowLists.{one_list-more}

-- this number of chunks reaches the end
spans : (count len size : ℕ) → 0 < size → count ≡ len / size + min 1 (len % size) → len ≤ count * size
spans count len size p is =
    let q = len / size in let r = len % size in
    let a : q * size + r ≡ len = div-add-mod' len size in
    let b : r < size = mod_below len size p in
    elim (cases_lt 0 r) [
      | inl h ↦ let e : count ≡ q + 1 = omega arith in let w = ap (λ n. n * size) e ∙ add-mul q 1 size in let o = one-mul size in omega arith
      | inr h ↦ let e : count ≡ q = omega arith in let w = ap (λ n. n * size) e in omega arith
    ]

module _ {X Y : Type 0} (g : List X → List Y) (size : ℕ) (xs : List X) (rs : List (List Y)) (joins : (ys zs : List X) → g (ys ++ zs) ≡ g ys ++ g zs) (none : g [] ≡ [])
    (each : (n : ℕ) → n < length rs → get_or rs n [] ≡ g (slice_chunk xs size n)) where
  so_far : (n : ℕ) → n ≤ length rs → one_list (take n rs) ≡ g (take (n * size) xs)
  so_far zero l = sym none ∙ ap (λ k. g (take k xs)) (sym (zero-mul size))
  so_far (suc n) l =
      let ys = take (n * size + size) xs in
      let a : take (n * size) ys ≡ take (n * size) xs = take-take (n * size) (n * size + size) xs (omega arith) in
      let b : drop (n * size) ys ≡ slice_chunk xs size n = drop-take (n * size) size xs in
      let c : take (n * size) xs ++ slice_chunk xs size n ≡ ys =
      sym (ap (λ k. k ++ slice_chunk xs size n) a) ∙ sym (ap (λ k. take (n * size) ys ++ k) b) ∙ take-append-drop (n * size) ys in
      ap (λ k. one_list (take k rs)) (sym (add-one n)) ∙ one_list-more rs n (omega (arith, l))
      ∙ ap (λ k. k ++ get_or rs n []) (so_far n (omega (arith, l)))
      ∙ ap (λ k. g (take (n * size) xs) ++ k) (each n (omega (arith, l)))
      ∙ sym (joins (take (n * size) xs) (slice_chunk xs size n)) ∙ ap g c ∙ ap (λ k. g (take k xs)) (sym (suc-mul n size))

  -- what is made of the chunks, one after the other
  pub chunks_joined : 0 < size → length rs ≡ length xs / size + min 1 (length xs % size) → one_list rs ≡ g xs
  chunks_joined p e =
      sym (ap one_list (take_all (length rs) rs (omega arith))) ∙ (so_far (length rs) (omega arith) ∙ ap g (take_all (length rs * size) xs (spans (length rs) (length xs) size p e)))

-- an element of a mapped list, whatever stands for one that isn't there
pub mapped_at : {P Y : Type 0} (f : P → List Y) (rs : List P) (n : ℕ) (y : List Y) → n < length rs → ((d : P) → f (get_or rs n d) ≡ y) → get_or (map f rs) n [] ≡ y
mapped_at f [] n y h e = absurd (omega (arith, h))
mapped_at f (r ∷ rs) zero y h e = e r
mapped_at f (r ∷ rs) (suc n) y h e = mapped_at f rs n y (omega (arith, h)) e
