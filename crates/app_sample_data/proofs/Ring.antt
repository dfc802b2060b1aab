-- The order of a part's four suppliers round the ring of all suppliers.
use Rattle.std.proofs.Common.{◌≡◌, ℕ, ◌+◌, ◌-◌, ◌*◌, ◌%◌, ◌<◌, ◌≤◌, true, false, [], ◌∷◌, arith, ap, sym, ◌∙◌}
use Rattle.std.specs.Prelude.{nat_lt}
use Rattle.std.proofs.Math.Nat.{mod-add-mod, add-mod_right, mod-lt, mod-eq_of_lt}
use Rattle.std.proofs.lemmas.Bool.Decides.{nat_tests}
use Rattle.app_sample_data.specs.Fields.{supplier_of}
use Rattle.app_sample_data.specs.Lines.{by_supplier}

is_lt : (a b : ℕ) → a < b → nat_lt a b ≡ true
is_lt a b h = grind (arith, nat_tests)

not_lt : (a b : ℕ) → b ≤ a → nat_lt a b ≡ false
not_lt a b h = grind (arith, nat_tests)

-- so far on, within the ring
before_end : (place step size : ℕ) → place % size + step < size → (place + step) % size ≡ place % size + step
before_end place step size h = sym (mod-add-mod place size step) ∙ mod-eq_of_lt h

-- so far on, past the ring's end
past_end : (place step size : ℕ) → size ≤ place % size + step → place % size + step < size + size → (place + step) % size ≡ place % size + step - size
past_end place step size h k =
    let rest = place % size + step - size in
    let whole : place % size + step ≡ rest + size = omega arith in
    let low : rest < size = omega arith in
    sym (mod-add-mod place size step) ∙ ap (λ x. x % size) whole ∙ add-mod_right rest size ∙ mod-eq_of_lt low

pub before : (n part i : ℕ) → part % (10 * n) + 2 * n * i < 10 * n → supplier_of n part i ≡ 1 + (part % (10 * n) + 2 * n * i)
unfolding supplier_of
before n part i h = ap (λ x. 1 + x) (before_end part (2 * n * i) (10 * n) h)

pub past : (n part i : ℕ) → 10 * n ≤ part % (10 * n) + 2 * n * i → part % (10 * n) + 2 * n * i < 10 * n + 10 * n → supplier_of n part i ≡ 1 + (part % (10 * n) + 2 * n * i - 10 * n)
unfolding supplier_of
past n part i h k = ap (λ x. 1 + x) (past_end part (2 * n * i) (10 * n) h k)

pub none_past : (n part : ℕ) → 1 ≤ n → part % (10 * n) < 4 * n → 0 ∷ 1 ∷ 2 ∷ 3 ∷ [] ≡ by_supplier n part
unfolding by_supplier
none_past n part h a =
    let s0 = before n part 0 (omega arith) in
    let s1 = before n part 1 (omega arith) in
    let s2 = before n part 2 (omega arith) in
    let s3 = before n part 3 (omega arith) in
    let t01 = is_lt (supplier_of n part 0) (supplier_of n part 1) (omega arith) in
    let t12 = is_lt (supplier_of n part 1) (supplier_of n part 2) (omega arith) in
    let t23 = is_lt (supplier_of n part 2) (supplier_of n part 3) (omega arith) in
    simp (t23, t12, t01)

pub one_past : (n part : ℕ) → 1 ≤ n → 4 * n ≤ part % (10 * n) → part % (10 * n) < 6 * n → 3 ∷ 0 ∷ 1 ∷ 2 ∷ [] ≡ by_supplier n part
unfolding by_supplier
one_past n part h a b =
    let s0 = before n part 0 (omega arith) in
    let s1 = before n part 1 (omega arith) in
    let s2 = before n part 2 (omega arith) in
    let s3 = past n part 3 (omega arith) (omega arith) in
    let t23 = not_lt (supplier_of n part 2) (supplier_of n part 3) (omega arith) in
    let t13 = not_lt (supplier_of n part 1) (supplier_of n part 3) (omega arith) in
    let t12 = is_lt (supplier_of n part 1) (supplier_of n part 2) (omega arith) in
    let t03 = not_lt (supplier_of n part 0) (supplier_of n part 3) (omega arith) in
    let t01 = is_lt (supplier_of n part 0) (supplier_of n part 1) (omega arith) in
    simp (t23, t13, t12, t03, t01)

pub two_past : (n part : ℕ) → 1 ≤ n → 6 * n ≤ part % (10 * n) → part % (10 * n) < 8 * n → 2 ∷ 3 ∷ 0 ∷ 1 ∷ [] ≡ by_supplier n part
unfolding by_supplier
two_past n part h a b =
    let s0 = before n part 0 (omega arith) in
    let s1 = before n part 1 (omega arith) in
    let s2 = past n part 2 (omega arith) (omega arith) in
    let s3 = past n part 3 (omega arith) (omega arith) in
    let t23 = is_lt (supplier_of n part 2) (supplier_of n part 3) (omega arith) in
    let t12 = not_lt (supplier_of n part 1) (supplier_of n part 2) (omega arith) in
    let t13 = not_lt (supplier_of n part 1) (supplier_of n part 3) (omega arith) in
    let t02 = not_lt (supplier_of n part 0) (supplier_of n part 2) (omega arith) in
    let t03 = not_lt (supplier_of n part 0) (supplier_of n part 3) (omega arith) in
    let t01 = is_lt (supplier_of n part 0) (supplier_of n part 1) (omega arith) in
    simp (t23, t12, t13, t02, t03, t01)

pub three_past : (n part : ℕ) → 1 ≤ n → 8 * n ≤ part % (10 * n) → 1 ∷ 2 ∷ 3 ∷ 0 ∷ [] ≡ by_supplier n part
unfolding by_supplier
three_past n part h a =
    let low = mod-lt part {m = 10 * n} (omega arith) in
    let s0 = before n part 0 (omega arith) in
    let s1 = past n part 1 (omega arith) (omega arith) in
    let s2 = past n part 2 (omega arith) (omega arith) in
    let s3 = past n part 3 (omega arith) (omega arith) in
    let t23 = is_lt (supplier_of n part 2) (supplier_of n part 3) (omega arith) in
    let t12 = is_lt (supplier_of n part 1) (supplier_of n part 2) (omega arith) in
    let t01 = not_lt (supplier_of n part 0) (supplier_of n part 1) (omega arith) in
    let t02 = not_lt (supplier_of n part 0) (supplier_of n part 2) (omega arith) in
    let t03 = not_lt (supplier_of n part 0) (supplier_of n part 3) (omega arith) in
    simp (t23, t12, t01, t02, t03)
