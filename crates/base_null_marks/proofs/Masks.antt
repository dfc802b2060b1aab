-- Lemmas on masks by words.
use Rattle.std.proofs.Common.{◌≡◌, ℕ, ◌+◌, ◌-◌, ◌*◌, ◌/◌, ◌%◌, ◌^◌, ◌<◌, ◌≤◌, Bool, true, false, cond, List, refl, sym, ap, ◌∙◌, arith, length, get_or, set, ⊎_elim}
use Rattle.std.specs.Prelude.{nat_eq, nat_le, bit_and, ◌&&◌}
use Rattle.std.specs.Int.{bit_at, bit_not, w64}
use Rattle.std.proofs.lemmas.Bool.{cases_lt, cases_eq, eq-eqb, ne_eqb, le-leb, lt-leb}
use Rattle.std.proofs.lemmas.List.{get_or_past, get_or-set_same, get_or-set_other}
use Rattle.std.proofs.lemmas.Nat.{and_le_l}
use Rattle.std.proofs.lemmas.Nat.Bits.{bit_at-zero, bit_at_above, bit_at_clear_same, bit_at_clear_other}
use Rattle.base_null_marks.specs.Marks.{in_word, is_marked, has, marks_of}
use Rattle.base_null_marks.proofs.Words.{has-words}

cleared : ℕ → ℕ → ℕ
cleared w t = bit_and w (bit_not w64 (1 * 2 ^ t % 2 ^ 64))

-- the lowest one cleared makes a word less
pub less_word : (w t : ℕ) → t < 64 → bit_at w t ≡ 1 → bit_and w (2 ^ 64 - 1 - 1 * 2 ^ t % 2 ^ 64) < w
less_word w t h e = ⊎_elim
    (λ (f : bit_and w (2 ^ 64 - 1 - 1 * 2 ^ t % 2 ^ 64) ≡ w).
    absurd (omega (arith, e, sym (ap (λ n. bit_at n t) f) ∙ bit_at_clear_same w64 w t h)))
    (λ (n : bit_and w (2 ^ 64 - 1 - 1 * 2 ^ t % 2 ^ 64) ≡ w → ⊥). omega (arith, n, and_le_l w (2 ^ 64 - 1 - 1 * 2 ^ t % 2 ^ 64)))
    (cases_eq (bit_and w (2 ^ 64 - 1 - 1 * 2 ^ t % 2 ^ 64)) w)

pub no_ones : (start k : ℕ) → in_word 0 start k ≡ false
unfolding in_word
no_ones start k = rw (bit_at-zero (k - start)) (both_false (nat_le start k))
  where
    both_false : (b : Bool) → (b && false) ≡ false
    both_false true = refl
    both_false false = refl

cond_same : {A : Type 0} (b : Bool) (d : A) → cond b d d ≡ d
cond_same true d = refl
cond_same false d = refl

module _ (w t start : ℕ) (h : t < 64) (one : bit_at w t ≡ 1) (fits : w < 2 ^ 64) where
  there : (k : ℕ) → k ≡ start + t → in_word w start k ≡ true
  unfolding in_word
  there k e =
      let a : nat_le start k ≡ true = le-leb start k (omega (arith, e)) in
      let b : k - start ≡ t = omega (arith, e) in
      rw (a, b, one) refl

  other_bit : (j : ℕ) → (j ≡ t → ⊥) → bit_at (bit_and w (2 ^ 64 - 1 - 1 * 2 ^ t % 2 ^ 64)) j ≡ bit_at w j
  other_bit j n = ⊎_elim
      (λ (l : j < 64). bit_at_clear_other w64 w t h j l n)
      (λ (l : 64 ≤ j).
      let m = and_le_l w (2 ^ 64 - 1 - 1 * 2 ^ t % 2 ^ 64) in
      bit_at_above (bit_and w (2 ^ 64 - 1 - 1 * 2 ^ t % 2 ^ 64)) 64 j (omega (arith, m, fits)) l ∙ sym (bit_at_above w 64 j fits l))
      (cases_lt j 64)

  elsewhere : (k : ℕ) → (k ≡ start + t → ⊥) → in_word (bit_and w (2 ^ 64 - 1 - 1 * 2 ^ t % 2 ^ 64)) start k ≡ in_word w start k
  unfolding in_word
  elsewhere k n = ⊎_elim
      (λ (l : k < start). rw (lt-leb start k l) refl)
      (λ (l : start ≤ k). rw (other_bit (k - start) (λ e. n (omega (arith, e, l)))) refl)
      (cases_lt k start)

  pub mask_step : {A : Type 0} (xs ys : List A) (d : A) → ((k : ℕ) → get_or ys k d ≡ cond (nat_eq k (start + t)) d (get_or xs k d)) → (k : ℕ)
      → cond (in_word (bit_and w (2 ^ 64 - 1 - 1 * 2 ^ t % 2 ^ 64)) start k) d (get_or ys k d) ≡ cond (in_word w start k) d (get_or xs k d)
  mask_step xs ys d f k = ⊎_elim
      (λ (e : k ≡ start + t).
      rw (there k e, f k, eq-eqb k (start + t) e) (cond_same (in_word (bit_and w (2 ^ 64 - 1 - 1 * 2 ^ t % 2 ^ 64)) start k) d))
      (λ (n : k ≡ start + t → ⊥). rw (elsewhere k n, f k, ne_eqb k (start + t) n) refl)
      (cases_eq k (start + t))

-- a write at a place, or none past the end
pub written : {A : Type 0} (xs : List A) (d : A) (at : ℕ) → at < length xs → (k : ℕ) → get_or (set xs at d) k d ≡ cond (nat_eq k at) d (get_or xs k d)
written xs d at h k = ⊎_elim
    (λ (e : k ≡ at). rw (e, get_or-set_same xs at d d h, eq-eqb at at refl) refl)
    (λ (n : k ≡ at → ⊥). rw (get_or-set_other xs at k d d n, ne_eqb k at n) refl)
    (cases_eq k at)

pub not_written : {A : Type 0} (xs : List A) (d : A) (at : ℕ) → length xs ≤ at → (k : ℕ) → get_or xs k d ≡ cond (nat_eq k at) d (get_or xs k d)
not_written xs d at h k = ⊎_elim
    (λ (e : k ≡ at). rw (e, get_or_past xs at d h) (sym (cond_same (nat_eq at at) d)))
    (λ (n : k ≡ at → ⊥). rw (ne_eqb k at n) refl)
    (cases_eq k at)

in_below : (w start k : ℕ) → k < start → in_word w start k ≡ false
unfolding in_word
in_below w start k l = rw (lt-leb start k l) refl

in_above : (w start k : ℕ) → w < 2 ^ 64 → start + 64 ≤ k → in_word w start k ≡ false
unfolding in_word
in_above w start k f l =
    let a : nat_le start k ≡ true = le-leb start k (omega (arith, l)) in
    rw (a, bit_at_above w 64 (k - start) f (omega (arith, l))) refl

in_this : (words : List ℕ) (w k : ℕ) → w * 64 ≤ k → k < w * 64 + 64 → in_word (get_or words w 0) (w * 64) k ≡ is_marked words k
unfolding in_word is_marked
in_this words w k l h =
    let a : nat_le (w * 64) k ≡ true = le-leb (w * 64) k l in
    let b : k / 64 ≡ w = omega (arith, l, h) in
    let e : k % 64 ≡ k - w * 64 = omega (arith, l, h) in
    rw (a, b, e) refl

-- one word more masked
module _ {A : Type 0} (words : List ℕ) (ms : List Bool) (w word : ℕ) (orig cur new : List A) (d : A) (is : marks_of words ≡ ms) (read : word ≡ get_or words w 0) (fits : word < 2 ^ 64)
    (each : (k : ℕ) → get_or new k d ≡ cond (in_word word (w * 64) k) d (get_or cur k d)) where
  pub masked_here : ((k : ℕ) → k < w * 64 → get_or cur k d ≡ cond (has ms k) d (get_or orig k d)) → ((k : ℕ) → (k < w * 64 → ⊥) → get_or cur k d ≡ get_or orig k d)
      → (k : ℕ) → k < (w + 1) * 64 → get_or new k d ≡ cond (has ms k) d (get_or orig k d)
  masked_here before after k l = ⊎_elim
      (λ (h : k < w * 64). each k ∙ ap (λ b. cond b d (get_or cur k d)) (in_below word (w * 64) k h) ∙ before k h)
      (λ (h : w * 64 ≤ k).
      let m : has ms k ≡ is_marked words k = ap (λ ns. has ns k) (sym is) ∙ has-words words k in
      let o : in_word word (w * 64) k ≡ has ms k = ap (λ v. in_word v (w * 64) k) read ∙ in_this words w k h (omega (arith, l)) ∙ sym m in
      each k ∙ ap (λ b. cond b d (get_or cur k d)) o ∙ ap (cond (has ms k) d) (after k (λ n. omega (arith, n, h))))
      (cases_lt k (w * 64))

  pub masked_later : ((k : ℕ) → (k < w * 64 → ⊥) → get_or cur k d ≡ get_or orig k d) → (k : ℕ) → (k < (w + 1) * 64 → ⊥) → get_or new k d ≡ get_or orig k d
  masked_later after k n =
      each k ∙ ap (λ b. cond b d (get_or cur k d)) (in_above word (w * 64) k fits (omega (arith, n))) ∙ after k (λ m. n (omega (arith, m)))
