-- Numbers that keep the order of the first column that decides.
use Rattle.std.proofs.Common.{◌≡◌, ℕ, ◌+◌, ◌-◌, ◌*◌, ◌^◌, ◌<◌, ◌≤◌, suc, zero, List, [], ◌∷◌, sym, ap, ◌∙◌, refl, arith, length, get_or, drop, true, inl, inr}
use Rattle.std.specs.Prelude.{nat_lt}
use Rattle.std.proofs.Math.ListN.{drop_of_length-le, get_or-eq_default}
use Rattle.std.proofs.Math.Nat.{pow-suc}
use Rattle.std.proofs.lemmas.Bool.{cases_lt, lt-ltb}
use Rattle.std.proofs.lemmas.List.{drop_more, get_or_default}
use Rattle.exec_ordered_rows.specs.Sketches.{bytes_after}

-- one byte more of a text
byte_more : (text : List ℕ) (k n b : ℕ) → k < 7 → b < 256 → k < length text
    → b ≡ get_or text k b
    → bytes_after (7 - (k + 1)) (n * 256 + b) (drop (k + 1) text)
    ≡ bytes_after (7 - k) n (drop k text)
byte_more text k n b h l t e =
    let left : 7 - k ≡ suc (7 - (k + 1)) = omega arith in
    let parts : drop k text ≡ b ∷ drop (k + 1) text =
    drop_more text k b t ∙ ap (λ c. c ∷ drop (k + 1) text) (sym e) in
    let is_byte : nat_lt b 256 ≡ true = lt-ltb b 256 l in
    sym (ap (λ m. bytes_after m n (drop k text)) left
    ∙ ap (bytes_after (suc (7 - (k + 1))) n) parts ∙ rw is_byte refl)

byte_past : (text : List ℕ) (k n : ℕ) → k < 7 → length text ≤ k
    → bytes_after (7 - (k + 1)) (n * 256 + 0) (drop (k + 1) text)
    ≡ bytes_after (7 - k) n (drop k text)
byte_past text k n h l =
    let left : 7 - k ≡ suc (7 - (k + 1)) = omega arith in
    let none : drop k text ≡ [] = drop_of_length-le text l in
    let still : drop (k + 1) text ≡ [] = drop_of_length-le text (omega (arith, l)) in
    let same : n * 256 + 0 ≡ n * 256 = omega arith in
    ap (λ t. bytes_after (7 - (k + 1)) (n * 256 + 0) t) still
    ∙ ap (λ m. bytes_after (7 - (k + 1)) m []) same
    ∙ sym (ap (λ m. bytes_after m n (drop k text)) left
    ∙ ap (bytes_after (suc (7 - (k + 1))) n) none)

pub byte_step : (text : List ℕ) (k n b : ℕ) → k < 7 → b < 256 → b ≡ get_or text k 0
    → bytes_after (7 - (k + 1)) (n * 256 + b) (drop (k + 1) text)
    ≡ bytes_after (7 - k) n (drop k text)
byte_step text k n b h l e = elim (cases_lt k (length text)) [
  | inl t ↦ byte_more text k n b h l t (e ∙ get_or_default text k 0 b t)
  | inr t ↦
      let none : b ≡ 0 = e ∙ get_or-eq_default text 0 t in
      ap (λ c. bytes_after (7 - (k + 1)) (n * 256 + c) (drop (k + 1) text)) none
      ∙ byte_past text k n h t
]

-- so many bytes fit
pub power_more : (k n b : ℕ) → n < 256 ^ k → b < 256 → n * 256 + b < 256 ^ (k + 1)
power_more k n b h l =
    let e : k + 1 ≡ suc k = omega arith in
    let p : 256 ^ (k + 1) ≡ 256 ^ k * 256 = ap (λ m. 256 ^ m) e ∙ pow-suc 256 k in
    omega (arith, p, h, l)

pub power_small : (k n : ℕ) → k ≤ 7 → n < 256 ^ k → n < 72057594037927936
power_small zero n h l = omega (arith, l)
power_small (suc zero) n h l = omega (arith, l)
power_small (suc (suc zero)) n h l = omega (arith, l)
power_small (suc (suc (suc zero))) n h l = omega (arith, l)
power_small (suc (suc (suc (suc zero)))) n h l = omega (arith, l)
power_small (suc (suc (suc (suc (suc zero))))) n h l = omega (arith, l)
power_small (suc (suc (suc (suc (suc (suc zero)))))) n h l = omega (arith, l)
power_small (suc (suc (suc (suc (suc (suc (suc zero))))))) n h l = omega (arith, l)
power_small (suc (suc (suc (suc (suc (suc (suc (suc k)))))))) n h l = absurd (omega (arith, h))
