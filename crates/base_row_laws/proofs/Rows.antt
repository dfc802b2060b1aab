-- Rows: identity, beginnings, and what a selection weighs.
use Rattle.std.proofs.Common.{◌≡◌, ℕ, ◌≤◌, List, [], ◌∷◌, ◌++◌, Bool, true, false, cond, refl, sym, ◌∙◌, ap, arith, length, take, drop}
use Rattle.std.proofs.Math.Dec.{ltb}
use Rattle.std.specs.Prelude.{◌&&◌, min, map}
use Rattle.std.proofs.lemmas.Bool.{true≢false, and_parts}
use Rattle.std.proofs.lemmas.List.{append_assoc, length-append, length-take-le}
use Rattle.base_row_laws.specs.Ranked.{Ranked, ranked}
use Rattle.base_row_laws.specs.Bags.{when, weigh, IsIdentity, Each}
use Rattle.base_row_laws.specs.Rows.{same_row, starts, after, keep}
use Rattle.base_row_laws.specs.Domains.{Wide, Meets}
use Rattle.base_row_laws.specs.Operators.{select}
use Rattle.base_row_laws.proofs.Bags.{when-swap, weigh-ext, weigh-map, weigh-filter, weigh-flat_map}
use Rattle.base_row_laws.proofs.Lists.{Each-flat_map}

pub drop-append : {V : Type 0} (d t : List V) → drop (length d) (d ++ t) ≡ t
drop-append [] t = refl
drop-append (x ∷ d) t = drop-append d t

pub take-append : {V : Type 0} (d t : List V) → take (length d) (d ++ t) ≡ d
take-append [] t = refl
take-append (x ∷ d) t = ap (λ l. x ∷ l) (take-append d t)

pub wide-take : {V : Type 0} (n : ℕ) (r s : List V) → n ≤ length r → n ≤ length (take n r ++ s)
wide-take n r s w = simp (length-append, length-take-le n r w) (omega arith)

pub map-after_after : {V : Type 0} (d l : List V) (xs : List (Ranked V)) → map (after (d ++ l)) xs ≡ map (after d) (map (after l) xs)
map-after_after d l [] = refl
map-after_after d l (x ∷ xs) = rw (append_assoc d l x.values, map-after_after d l xs)

pub map-after_nil : {V : Type 0} (xs : List (Ranked V)) → map (after []) xs ≡ xs
map-after_nil [] = refl
map-after_nil (x ∷ xs) = ap (λ l. x ∷ l) (map-after_nil xs)

pub weigh-keep : {V : Type 0} (h : Ranked V → ℕ) (r : List V) (s : ℕ) → weigh h (keep r s) ≡ when (ltb 1 s) (h (ranked r s))
weigh-keep h r s = elim (ltb 1 s) as (λ b. weigh h (cond b (ranked r s ∷ []) []) ≡ when b (h (ranked r s))) [ true ↦ omega arith | false ↦ refl ]

pub weigh-select : {V : Type 0} (h : Ranked V → ℕ) (c : List V → ℕ) (xs : List (Ranked V)) → weigh h (select c xs) ≡ weigh (λ x. when (ltb 1 (min x.standing (c x.values))) (h (ranked x.values (min x.standing (c x.values))))) xs
weigh-select h c xs = weigh-flat_map h (λ x. keep x.values (min x.standing (c x.values))) xs
    ∙ weigh-ext (λ x. weigh h (keep x.values (min x.standing (c x.values)))) (λ x. when (ltb 1 (min x.standing (c x.values))) (h (ranked x.values (min x.standing (c x.values))))) xs
    (λ x. weigh-keep h x.values (min x.standing (c x.values)))

pub Each-keep : {V : Type 0} (Q : Ranked V → Type 0) (r : List V) (s : ℕ) → Q (ranked r s) → Each Q (keep r s)
Each-keep Q r s q = elim (ltb 1 s) as (λ b. Each Q (cond b (ranked r s ∷ []) [])) [ true ↦ (q, tt) | false ↦ tt ]

module _ {V : Type 0} (same : V → V → Bool) (is : IsIdentity same) where
  pub same_row-refl : (r : List V) → same_row same r r ≡ true
  same_row-refl [] = refl
  same_row-refl (x ∷ r) = rw (is.meets x, same_row-refl r)

  pub same_row-tells : (r s : List V) → same_row same r s ≡ true → r ≡ s
  same_row-tells [] [] e = refl
  same_row-tells [] (y ∷ s) e = absurd (true≢false (sym e))
  same_row-tells (x ∷ r) [] e = absurd (true≢false (sym e))
  same_row-tells (x ∷ r) (y ∷ s) e =
      let p = and_parts (same x y) (same_row same r s) e in let a = is.tells x y p.0 in let b = same_row-tells r s p.1 in cc

  pub same_row_is : IsIdentity (same_row same)
  same_row_is = record { meets = same_row-refl; tells = same_row-tells }

  pub starts_is : (d r : List V) → starts same d r ≡ true → r ≡ d ++ drop (length d) r
  starts_is [] r e = refl
  starts_is (x ∷ d) [] e = absurd (true≢false (sym e))
  starts_is (x ∷ d) (y ∷ r) e =
      let p = and_parts (same x y) (starts same d r) e in let a = is.tells x y p.0 in let b = starts_is d r p.1 in cc

  -- what stands after a row that is wide enough does not matter
  pub starts-wide : (d r s : List V) → length d ≤ length r → starts same d (r ++ s) ≡ starts same d r
  starts-wide [] r s h = refl
  starts-wide (x ∷ d) [] s h = absurd (omega arith)
  starts-wide (x ∷ d) (y ∷ r) s h = ap (λ b. same x y && b) (starts-wide d r s (omega arith))

  pub starts-take : (d r s : List V) → length d ≤ length r → starts same d (take (length d) r ++ s) ≡ starts same d r
  starts-take [] r s w = refl
  starts-take (x ∷ d) [] s w = absurd (omega arith)
  starts-take (x ∷ d) (y ∷ r) s w = ap (λ b. same x y && b) (starts-take d r s (omega arith))

  -- rows of one width: to begin with d is to be d
  pub starts_same : (d r : List V) → length r ≡ length d → starts same d r ≡ same_row same d r
  starts_same [] [] e = refl
  starts_same [] (y ∷ r) e = absurd (omega arith)
  starts_same (x ∷ d) [] e = absurd (omega arith)
  starts_same (x ∷ d) (y ∷ r) e = ap (λ b. same x y && b) (starts_same d r (omega arith))

  -- a row that begins with e begins with d where e does
  pub starts_through : (d e r : List V) → length e ≡ length d → starts same e r ≡ true → starts same d r ≡ starts same d e
  starts_through d e r n t = ap (λ l. starts same d l) (starts_is e r t) ∙ starts-wide d e (drop (length e) r) (omega arith)

  pub starts_long : (e r : List V) → starts same e r ≡ true → length e ≤ length r
  starts_long [] r t = omega arith
  starts_long (x ∷ e) [] t = absurd (true≢false (sym t))
  starts_long (x ∷ e) (y ∷ r) t = let p = and_parts (same x y) (starts same e r) t in let ih = starts_long e r p.1 in omega arith

  pub same_row-behind : (d a b : List V) → same_row same (d ++ a) (d ++ b) ≡ same_row same a b
  same_row-behind [] a b = refl
  same_row-behind (x ∷ d) a b = rw (is.meets x, same_row-behind d a b)

  -- `Meets` by weights, both ways
  pub Meets-weighs : {d : List V} {xs ts : List (Ranked V)} → Meets same d xs ts → (h : Ranked V → ℕ) → weigh (λ x. when (starts same d x.values) (h x)) xs ≡ weigh (λ t. h (after d t)) ts
  Meets-weighs {d} {xs} {ts} m h = sym (weigh-filter h (λ x. starts same d x.values) xs) ∙ m.same_bag.weighs h ∙ weigh-map h (after d) ts

  pub Meets-from : (d : List V) (xs ts : List (Ranked V)) → Wide (length d) xs → ((h : Ranked V → ℕ) → weigh (λ x. when (starts same d x.values) (h x)) xs ≡ weigh (λ t. h (after d t)) ts) → Meets same d xs ts
  Meets-from d xs ts w e = record { wide = w; same_bag = record { weighs = λ h. weigh-filter h (λ x. starts same d x.values) xs ∙ e h ∙ sym (weigh-map h (after d) ts) } }

  -- selection
  pub select_meets : (c : List V → ℕ) (d : List V) (xs ts : List (Ranked V)) → Meets same d xs ts → Meets same d (select c xs) (select (λ t. c (d ++ t)) ts)
  select_meets c d xs ts m = Meets-from d (select c xs) (select (λ t. c (d ++ t)) ts)
      (Each-flat_map (λ x. length d ≤ length x.values) (λ x. length d ≤ length x.values) (λ x. keep x.values (min x.standing (c x.values))) xs m.wide
      (λ x w. Each-keep (λ x. length d ≤ length x.values) x.values (min x.standing (c x.values)) w))
      (λ h.
      let k : Ranked V → ℕ = λ x. when (ltb 1 (min x.standing (c x.values))) (h (ranked x.values (min x.standing (c x.values)))) in
      weigh-select (λ x. when (starts same d x.values) (h x)) c xs
      ∙ weigh-ext (λ x. when (ltb 1 (min x.standing (c x.values))) (when (starts same d x.values) (h (ranked x.values (min x.standing (c x.values)))))) (λ x. when (starts same d x.values) (k x)) xs
      (λ x. when-swap (ltb 1 (min x.standing (c x.values))) (starts same d x.values) (h (ranked x.values (min x.standing (c x.values)))))
      ∙ Meets-weighs m k
      ∙ sym (weigh-select (λ t. h (after d t)) (λ t. c (d ++ t)) ts))
