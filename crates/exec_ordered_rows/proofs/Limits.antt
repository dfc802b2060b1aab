-- What lies past a row limit can be dropped early.
use Rattle.std.proofs.Common.{◌≡◌, ℕ, zero, suc, ◌≤◌, List, [], ◌∷◌, ◌++◌, Bool, true, false, refl, sym}
use Rattle.std.proofs.Common.{◌∙◌, ap, arith, inl, inr, map, take}
use Rattle.std.specs.Prelude.{Option, Some, None, Ok, nat_lt}
use Rattle.std.proofs.lemmas.Bool.{cases_Bool}
use Rattle.std.proofs.lemmas.List.{append-nil, append_assoc}
use Rattle.base_row_laws.specs.Aggregates.{IsOrder, InOrder, run}
use Rattle.base_row_laws.specs.Bags.{SameBag, Each}
use Rattle.base_row_laws.specs.Ranked.{Ranked, true_rank}
use Rattle.base_row_laws.proofs.Bags.{weigh-append}
use Rattle.base_row_laws.proofs.Orders.{one_list}
use Rattle.base_value.specs.declared.value.Value.{Value}
use Rattle.base_value.specs.Value.{same_row}
use Rattle.base_value.proofs.Identity.{row_identity}
use Rattle.base_order_limit.specs.declared.key.OrderKey.{OrderKey}
use Rattle.base_order_limit.specs.Answers.{comes_before, inserted, in_order, limited, row_values}
use Rattle.base_order_limit.specs.Answers.{least_rank, finished}
use Rattle.exec_ordered_rows.specs.Limits.{AreEnough}
use Rattle.base_order_limit.proofs.Orders.{answer_is_order}
use Rattle.base_order_limit.proofs.Sorted.{in_order_is, in_order_bag, in_order_alike}

take_less : {X : Type 0} (m k : ℕ) (xs : List X) → m ≤ k → take m (take k xs) ≡ take m xs
take_less zero k xs h = refl
take_less (suc m) zero xs h = absurd (omega arith)
take_less (suc m) (suc k) [] h = refl
take_less (suc m) (suc k) (x ∷ xs) h = ap (λ l. x ∷ l) (take_less m k xs (omega arith))

take_after : {X : Type 0} (n : ℕ) (y : X) (ys : List X) → take n (y ∷ take n ys) ≡ take n (y ∷ ys)
take_after zero y ys = refl
take_after (suc n) y ys = ap (λ l. y ∷ l) (take_less n (suc n) ys (omega arith))

either_order : (xs ys : List (List Value)) → SameBag (xs ++ ys) (ys ++ xs)
either_order xs ys = record {
  weighs = λ h.
      let a = weigh-append h xs ys in let b = weigh-append h ys xs in omega (arith, a, b);
}

module _ (before : List Value → List Value → Bool) where
  -- the rows past the limit don't count when one more is put among the first
  cut_put : (n : ℕ) (z : List Value) (ys : List (List Value))
      → take n (inserted before z (take n ys)) ≡ take n (inserted before z ys)
  cut_put zero z ys = refl
  cut_put (suc n) z [] = refl
  cut_put (suc n) z (y ∷ ys) = elim (cases_Bool (before z y)) [
    | inl t ↦ rw t (ap (λ l. z ∷ l) (take_after n y ys))
    | inr f ↦ rw f (ap (λ l. y ∷ l) (cut_put n z ys))
  ]

  cut_puts : (n : ℕ) (zs xs ys : List (List Value)) → take n xs ≡ take n ys
      → take n (run (inserted before) xs zs) ≡ take n (run (inserted before) ys zs)
  cut_puts n [] xs ys e = e
  cut_puts n (z ∷ zs) xs ys e =
      let a = run (inserted before) xs zs in
      let b = run (inserted before) ys zs in
      sym (cut_put n z a) ∙ ap (λ l. take n (inserted before z l)) (cut_puts n zs xs ys e)
      ∙ cut_put n z b

  put_before : (zs xs : List (List Value))
      → in_order before (zs ++ xs) ≡ run (inserted before) (in_order before xs) zs
  put_before [] xs = refl
  put_before (z ∷ zs) xs = ap (inserted before z) (put_before zs xs)

  each_taken : (P : List Value → Type 0) (n : ℕ) (xs : List (List Value)) → Each P xs
      → Each P (take n xs)
  each_taken P zero xs h = tt
  each_taken P (suc n) [] h = tt
  each_taken P (suc n) (x ∷ xs) h = (h.0, each_taken P n xs h.1)

  taken_in_order : (n : ℕ) (xs : List (List Value)) → InOrder before xs
      → InOrder before (take n xs)
  taken_in_order zero xs h = tt
  taken_in_order (suc n) [] h = tt
  taken_in_order (suc n) (x ∷ xs) h =
      (each_taken (λ y. before x y ≡ true) n xs h.0, taken_in_order n xs h.1)

  in_order_twice : IsOrder before → (xs : List (List Value)) → InOrder before xs
      → in_order before xs ≡ xs
  in_order_twice order xs h =
      one_list same_row before row_identity order (in_order before xs) xs
      (in_order_is before order xs) h (in_order_bag before order xs)

module _ (keys : List OrderKey) where
  abbrev before : List Value → List Value → Bool
  before = comes_before keys

  -- the first rows of those that stand in order, and more
  cut_first : (n : ℕ) (xs more : List (List Value))
      → take n (in_order before (take n (in_order before xs) ++ more))
      ≡ take n (in_order before (xs ++ more))
  cut_first n xs more =
      let order = answer_is_order keys in
      let firsts = take n (in_order before xs) in
      let still : in_order before firsts ≡ firsts = in_order_twice before order firsts
      (taken_in_order before n (in_order before xs) (in_order_is before order xs)) in
      ap (take n) (in_order_alike keys (firsts ++ more) (more ++ firsts) (either_order firsts more)
      ∙ put_before before more firsts ∙ ap (λ l. run (inserted before) l more) still)
      ∙ cut_puts before n more firsts (in_order before xs)
      (take_less n n (in_order before xs) (omega arith))
      ∙ ap (take n) (sym (put_before before more xs)
      ∙ in_order_alike keys (more ++ xs) (xs ++ more) (either_order more xs))

pub cut_is_enough : (keys : List OrderKey) (limit : Option ℕ) (xs ys : List (List Value))
    → ys ≡ limited limit (in_order (comes_before keys) xs) → AreEnough keys limit ys xs
cut_is_enough keys None xs ys e = λ more.
    ap (λ l. in_order (comes_before keys) (l ++ more)) e
    ∙ in_order_alike keys (in_order (comes_before keys) xs ++ more) (xs ++ more)
    (record {
      weighs = λ h. let a = weigh-append h (in_order (comes_before keys) xs) more in
          let b = weigh-append h xs more in
          let c = (in_order_bag (comes_before keys) (answer_is_order keys) xs).weighs h in
          omega (arith, a, b, c);
    })
cut_is_enough keys (Some n) xs ys e = λ more.
    ap (λ l. take n (in_order (comes_before keys) (l ++ more))) e ∙ cut_first keys n xs more

pub all_are_enough : (keys : List OrderKey) (limit : Option ℕ) (xs : List (List Value))
    → AreEnough keys limit xs xs
all_are_enough keys limit xs = λ more. refl

pub enough_more : (keys : List OrderKey) (limit : Option ℕ) (xs ys zs ws : List (List Value))
    → AreEnough keys limit ys xs → AreEnough keys limit ws (ys ++ zs)
    → AreEnough keys limit ws (xs ++ zs)
enough_more keys limit xs ys zs ws a b = λ more.
    b more ∙ ap (λ l. limited limit (in_order (comes_before keys) l)) (append_assoc ys zs more)
    ∙ a (zs ++ more)
    ∙ ap (λ l. limited limit (in_order (comes_before keys) l)) (sym (append_assoc xs zs more))

pub enough_gives : (keys : List OrderKey) (limit : Option ℕ) (xs ys : List (List Value))
    → AreEnough keys limit ys xs
    → limited limit (in_order (comes_before keys) ys)
    ≡ limited limit (in_order (comes_before keys) xs)
enough_gives keys limit xs ys a =
    ap (λ l. limited limit (in_order (comes_before keys) l)) (sym (append-nil ys)) ∙ a []
    ∙ ap (λ l. limited limit (in_order (comes_before keys) l)) (append-nil xs)

-- with no fault the answer is those of the rows that are enough
pub enough_is_finished : (keys : List OrderKey) (limit : Option ℕ) (xs : List (Ranked Value))
    (kept got : List (List Value)) (least : ℕ) → least ≡ true_rank → least ≡ least_rank xs
    → AreEnough keys limit kept (map row_values xs)
    → got ≡ limited limit (in_order (comes_before keys) kept) → finished keys limit xs ≡ Ok got
enough_is_finished keys limit xs kept got least a b enough e =
    let none : nat_lt (least_rank xs) true_rank ≡ false =
    ap (λ n. nat_lt n true_rank) (sym b ∙ a) in
    rw none (ap Ok (sym (enough_gives keys limit (map row_values xs) kept enough) ∙ sym e))
