-- Numbers of keys that ascend, a key at a time.
use Rattle.std.proofs.Common.{◌≡◌, ℕ, ℤ, pos, zero, suc, ◌+◌, ◌-◌, ◌<◌, ◌≤◌, ◌≤ℤ◌, List, [], ◌∷◌, ◌++◌, Bool, true, false, cond, take, length, get_or, Some, refl, sym, ◌∙◌, ap, arith, inl, inr}
use Rattle.std.specs.Prelude.{slice_get, not}
use Rattle.std.specs.Ordering.{int_eq}
use Rattle.std.proofs.lemmas.Bool.{cases_Bool, cases_lt, true≢false}
use Rattle.std.proofs.lemmas.Int.{ints}
use Rattle.std.proofs.lemmas.List.{length-map, length-append, length-take-le, get_or-take}
use Rattle.std.proofs.lemmas.Option.{slice_get-get_or, slice_get_within}
use Rattle.base_row_laws.specs.Bags.{has, each_once}
use Rattle.base_row_laws.specs.Numbers.{place_in, numbers_of}
use Rattle.base_row_laws.proofs.NumberLists.{has_there}
use Rattle.base_key_tables.specs.Distinct.{first_places}
use Rattle.base_key_tables.specs.Keys.{int_identity}
use Rattle.base_key_tables.proofs.NumberSteps.{number_more, has_each_once, added_there, last_there, each_once-length}
use Rattle.exec_hash_group.specs.Runs.{Ascend}

-- the key at a place
abbrev pub key : List ℤ → ℕ → ℤ
key keys i = get_or keys i (pos 0)

-- one key more that is not below the one before it
pub ascend_none : (keys : List ℤ) (i j : ℕ) → i ≤ j → j < 1 → key keys i ≤ℤ key keys j
ascend_none keys i j le lt = let same : key keys i ≡ key keys j = ap (key keys) (omega (arith, le, lt)) in omega (arith, ints, same)

pub ascend_more : (keys : List ℤ) (n : ℕ) → 0 < n → ((i j : ℕ) → i ≤ j → j < n → key keys i ≤ℤ key keys j) → key keys (n - 1) ≤ℤ key keys n
    → (i j : ℕ) → i ≤ j → j < n + 1 → key keys i ≤ℤ key keys j
ascend_more keys n some before step i j le lt = elim (cases_lt j n) [
  | inl l ↦ before i j le l
  | inr g ↦ (let last : key keys j ≡ key keys n = ap (key keys) (omega (arith, lt, g)) in
      elim (cases_lt i n) [
        | inl l ↦ (let b = before i (n - 1) (omega (arith, l, some)) (omega (arith, some)) in omega (arith, ints, b, step, last))
        | inr h ↦ (let same : key keys i ≡ key keys j = ap (key keys) (omega (arith, le, lt, h)) in omega (arith, ints, same))
      ])
]

-- the first keys have these numbers and first places, and the last of them is the last that is new
pub record Runs (keys : List ℤ) (place : ℕ) (numbers firsts : List ℕ) : Type 0 where
  pub numbers_are : numbers ≡ numbers_of int_eq (take place keys)
  pub firsts_are : firsts ≡ first_places int_eq (take place keys)
  pub last : 0 < place → slice_get (each_once int_eq (take place keys)) (length firsts - 1) ≡ Some (key keys (place - 1))

-- an element that differs from all is not there
has_none : (xs : List ℤ) (x : ℤ) → ((k : ℕ) → k < length xs → key xs k ≡ x → ⊥) → has int_eq x xs ≡ false
has_none [] x h = refl
has_none (y ∷ ys) x h = elim (cases_Bool (int_eq x y)) [
  | inl t ↦ absurd (h 0 (omega arith) (sym (int_identity.tells x y t)))
  | inr f ↦ rw f (has_none ys x (λ k l e. h (suc k) (omega (arith, l)) e))
]

turned : (b : Bool) → not b ≡ true → b ≡ false
turned true e = absurd (true≢false (sym e))
turned false e = refl

stayed : (b : Bool) → not b ≡ false → b ≡ true
stayed true e = refl
stayed false e = absurd (true≢false e)

positive : (n : ℕ) → (n ≡ 0 → ⊥) → 0 < n
positive zero h = absurd (h refl)
positive (suc n) h = omega arith

module _ (keys : List ℤ) (place : ℕ) (lt : place < length keys) (up : Ascend keys) where
  abbrev x : ℤ
  x = key keys place

  abbrev front : List ℤ
  front = take place keys

  abbrev E : List ℤ
  E = each_once int_eq front

  long : length front ≡ place
  long = length-take-le place keys (omega (arith, lt))

  -- a key above the one before it is new
  is_above : (0 < place → int_eq x (key keys (place - 1)) ≡ false) → has int_eq x E ≡ false
  is_above apart =
      has_each_once int_eq int_identity x front
      ∙ has_none front x (λ k l e.
      let n = long in
      let lk : k < place = omega (arith, l, n) in
      let same : key keys k ≡ x = sym (get_or-take place keys k (pos 0) lk) ∙ e in
      let below = up k (place - 1) (omega (arith, lk)) (omega (arith, lk, lt)) in
      let above = up (place - 1) place (omega arith) lt in
      let met : x ≡ key keys (place - 1) = omega (arith, ints, below, above, same) in
      true≢false (sym (int_identity.meets x) ∙ ap (int_eq x) met ∙ apart (omega (arith, lk))))

  pub runs_more : (begins : Bool) (ns ns' fs fs' : List ℕ) → (place ≡ 0 → begins ≡ true) → (0 < place → begins ≡ not (int_eq x (key keys (place - 1)))) → Runs keys place ns fs
      → fs' ≡ cond begins (fs ++ place ∷ []) fs → ns' ≡ ns ++ (length fs' - 1) ∷ [] → Runs keys (place + 1) ns' fs'
  runs_more begins ns ns' fs fs' first later r is_f is_n =
      let here : slice_get keys place ≡ Some x = slice_get-get_or keys place (pos 0) lt in
      let lf : length fs ≡ length E = ap length r.firsts_are ∙ length-map E (place_in int_eq front) in
      let back : place + 1 - 1 ≡ place = omega arith in
      let this : Some x ≡ Some (key keys (place + 1 - 1)) = ap (λ i. Some (key keys i)) (sym back) in
      elim (cases_Bool begins) [
        | inl t ↦ (let f : fs' ≡ fs ++ place ∷ [] = is_f ∙ ap (λ b. cond b (fs ++ place ∷ []) fs) t in
            let n : length fs' - 1 ≡ length E = (let a = ap length f in let b = length-append fs (place ∷ []) in omega (arith, a, b, lf)) in
            let new : has int_eq x E ≡ false = is_above (λ p. turned (int_eq x (key keys (place - 1))) (sym (later p) ∙ t)) in
            let there : slice_get (E ++ x ∷ []) (length E) ≡ Some x = last_there E x in
            let m = number_more int_eq int_identity keys place x E (E ++ x ∷ []) ns ns' fs fs' (length E) true here (refl, r.numbers_are, r.firsts_are)
            (sym (ap (λ b. cond b E (E ++ x ∷ [])) new)) there (sym (ap not new)) (is_n ∙ ap (λ k. ns ++ k ∷ []) n) f long in
            record {
              numbers_are = m.1;
              firsts_are = m.2;
              last = λ p. ap (slice_get (each_once int_eq (take (place + 1) keys))) n ∙ ap (λ l. slice_get l (length E)) (sym m.0) ∙ there ∙ this;
            })
        | inr g ↦ (let f : fs' ≡ fs = is_f ∙ ap (λ b. cond b (fs ++ place ∷ []) fs) g in
            let after : 0 < place = positive place (λ z. true≢false (sym (first z) ∙ g)) in
            let met : x ≡ key keys (place - 1) = int_identity.tells x (key keys (place - 1)) (stayed (int_eq x (key keys (place - 1))) (sym (later after) ∙ g)) in
            let there : slice_get E (length fs - 1) ≡ Some x = r.last after ∙ ap (λ z. Some z) (sym met) in
            let m = number_more int_eq int_identity keys place x E E ns ns' fs fs' (length fs - 1) false here (refl, r.numbers_are, r.firsts_are)
            (added_there int_eq int_identity E (length fs - 1) x there) there (sym (ap not (has_there int_eq int_identity E x (length fs - 1) there)))
            (is_n ∙ ap (λ l. ns ++ (length l - 1) ∷ []) f) f long in
            record {
              numbers_are = m.1;
              firsts_are = m.2;
              last = λ p. ap (λ l. slice_get (each_once int_eq (take (place + 1) keys)) (length l - 1)) f ∙ ap (λ l. slice_get l (length fs - 1)) (sym m.0) ∙ there ∙ this;
            })
      ]

  -- there is a run, and no more of them than keys
  pub runs_few : (begins : Bool) (ns fs fs' : List ℕ) → (place ≡ 0 → begins ≡ true) → Runs keys place ns fs → fs' ≡ cond begins (fs ++ place ∷ []) fs
      → (0 < length fs') × (length fs' ≤ place + 1)
  runs_few begins ns fs fs' first r is_f =
      let lf : length fs ≡ length E = ap length r.firsts_are ∙ length-map E (place_in int_eq front) in
      let few = each_once-length int_eq front in
      let n = long in
      elim (cases_Bool begins) [
        | inl t ↦ (let a = ap length (is_f ∙ ap (λ b. cond b (fs ++ place ∷ []) fs) t) in let b = length-append fs (place ∷ []) in (omega (arith, a, b), omega (arith, a, b, lf, few, n)))
        | inr g ↦ (let a = ap length (is_f ∙ ap (λ b. cond b (fs ++ place ∷ []) fs) g) in
            let there = r.last (positive place (λ z. true≢false (sym (first z) ∙ g))) in
            let w = slice_get_within E (length fs - 1) (key keys (place - 1)) there in
            (omega (arith, a, lf, w), omega (arith, a, lf, few, n)))
      ]
