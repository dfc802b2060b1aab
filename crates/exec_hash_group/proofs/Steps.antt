-- One row more, and the values at the end.
use Rattle.std.proofs.Common.{◌≡◌, ℕ, zero, suc, ◌+◌, ◌<◌, ◌≤◌, ◌^◌, List, [], ◌∷◌, ◌++◌, Bool, cond, refl, sym, ◌∙◌, ap, subst, arith, inl, inr, length, take, get_or, Some, None}
use Rattle.std.specs.Prelude.{slice_get, nat_eq}
use Rattle.std.proofs.lemmas.Bool.{cases_Bool, eqb-true, eqb-false}
use Rattle.std.specs.Prelude.{◌⊎◌}
use Rattle.std.proofs.lemmas.List.{take_all, take_more, append-nil, length-append}
use Rattle.std.proofs.lemmas.Option.{slice_get_within, slice_get_cases}
use Rattle.base_row_laws.specs.TableLaws.{with_number}
use Rattle.base_value.specs.declared.value.Value.{Value}
use Rattle.exec_accumulators.specs.Accumulators.{OfValues}
use Rattle.exec_hash_group.specs.ByNumber.{values_by_number, PutAt, AreValues}

-- the elements with a number, one place more
pub with_more : {R : Type 0} (is : List ℕ) (xs : List R) (n i k : ℕ) (x : R) → slice_get is i ≡ Some k → slice_get xs i ≡ Some x
    → with_number (take (suc i) is) (take (suc i) xs) n ≡ with_number (take i is) (take i xs) n ++ cond (nat_eq k n) (x ∷ []) []
with_more [] xs n i k x e f = absurd (let e' : None ≡ Some k = e in cc)
with_more (j ∷ is) [] n i k x e f = absurd (let f' : None ≡ Some x = f in cc)
with_more (j ∷ is) (y ∷ xs) n zero k x e f =
    let a : j ≡ k = cc in
    let b : y ≡ x = cc in
    ap (λ m. cond (nat_eq m n) (y ∷ []) []) a ∙ ap (λ z. cond (nat_eq k n) (z ∷ []) []) b
with_more (j ∷ is) (y ∷ xs) n (suc i) k x e f =
    let ih = with_more is xs n i k x e f in
    elim (cases_Bool (nat_eq j n)) [ inl t ↦ rw t (ap (λ l. y ∷ l) ih) | inr g ↦ rw g ih ]

-- a list of values by their places
by_places : {S : Type 0} (has_taken : S → OfValues → List Value → Type 0) (states : List S) (values : List Value) (aggregate : OfValues) (numbers : List ℕ) (all : List Value) (n : ℕ)
    → length values ≡ length states → ((i : ℕ) (v : Value) → slice_get values i ≡ Some v → v ≡ aggregate (with_number numbers all (n + i)))
    → values ≡ values_by_number aggregate numbers all n (length states)
by_places has_taken [] [] aggregate numbers all n e h = refl
by_places has_taken [] (v ∷ values) aggregate numbers all n e h = absurd (omega (arith, e))
by_places has_taken (s ∷ states) [] aggregate numbers all n e h = absurd (omega (arith, e))
by_places has_taken (s ∷ states) (v ∷ values) aggregate numbers all n e h =
    let z : n + 0 ≡ n = omega arith in
    let first : v ≡ aggregate (with_number numbers all n) = h 0 v refl ∙ ap (λ k. aggregate (with_number numbers all k)) z in
    let rest : values ≡ values_by_number aggregate numbers all (suc n) (length states) =
    by_places has_taken states values aggregate numbers all (suc n) (omega (arith, e)) (λ i w f. let m : n + suc i ≡ suc n + i = omega arith in h (suc i) w f ∙ ap (λ k. aggregate (with_number numbers all k)) m) in
    ap (λ w. w ∷ values) first ∙ ap (λ l. aggregate (with_number numbers all n) ∷ l) rest

-- an element of a list with one more
pushed_cases : {X : Type 0} (xs : List X) (x t : X) (j : ℕ) → slice_get (xs ++ x ∷ []) j ≡ Some t → (slice_get xs j ≡ Some t) ⊎ ((j ≡ length xs) × (t ≡ x))
pushed_cases [] x t zero e = let h : x ≡ t = cc in inr (refl, sym h)
pushed_cases [] x t (suc j) e = absurd (let e' : None ≡ Some t = e in cc)
pushed_cases (y ∷ xs) x t zero e = inl e
pushed_cases (y ∷ xs) x t (suc j) e = elim (pushed_cases xs x t j e) [ inl h ↦ inl h | inr h ↦ inr (ap suc h.0, h.1) ]

-- one value more
pub values_more : {S : Type 0} (has_taken : S → OfValues → List Value → Type 0) (states : List S) (values values' : List Value) (i : ℕ) (s : S) (v : Value) → i < length states → s ≡ get_or states i s
    → AreValues has_taken (take i states) values → ((aggregate : OfValues) (vs : List Value) → has_taken s aggregate vs → v ≡ aggregate vs) → values' ≡ values ++ v ∷ []
    → AreValues has_taken (take (i + 1) states) values'
values_more {S} has_taken states values values' i s v lt is before gives push =
    let longer : take (i + 1) states ≡ take i states ++ s ∷ [] = take_more states i s lt ∙ ap (λ y. take i states ++ y ∷ []) (sym is) in
    let n : length (values ++ v ∷ []) ≡ length (take i states ++ s ∷ []) = length-append values (v ∷ []) ∙ ap (λ k. k + 1) before.count ∙ sym (length-append (take i states) (s ∷ [])) in
    record {
      count = ap length push ∙ n ∙ ap length (sym longer);
      value_at = λ j t w e f.
          let e' : slice_get (take i states ++ s ∷ []) j ≡ Some t = ap (λ l. slice_get l j) (sym longer) ∙ e in
          let f' : slice_get (values ++ v ∷ []) j ≡ Some w = ap (λ l. slice_get l j) (sym push) ∙ f in
          elim (pushed_cases (take i states) s t j e') [
            | inl a ↦ elim (pushed_cases values v w j f') [
              | inl b ↦ before.value_at j t w a b
              | inr b ↦ absurd (let l = slice_get_within (take i states) j t a in let c = before.count in let d = b.0 in omega (arith, l, c, d))
            ]
            | inr a ↦ elim (pushed_cases values v w j f') [
              | inl b ↦ absurd (let l = slice_get_within values j w b in let c = before.count in let d = a.0 in omega (arith, l, c, d))
              | inr b ↦ (λ aggregate vs h. let H : S → Type 0 = λ z. has_taken z aggregate vs in b.1 ∙ gives aggregate vs (subst H a.1 h))
            ]
          ];
    }

module _ {S : Type 0} (has_taken : S → OfValues → List Value → Type 0) (terms : S → ℕ) where
  -- what each accumulator has taken of the first rows
  pub record Taken (start now : List S) (numbers : List ℕ) (values : List Value) (rows : ℕ) : Type 0 where
    pub count : length now ≡ length start
    pub few : (i : ℕ) (s : S) → slice_get now i ≡ Some s → terms s ≤ rows
    pub taken : (aggregate : OfValues) → ((i : ℕ) (s : S) → slice_get start i ≡ Some s → has_taken s aggregate [])
        → (i : ℕ) (s : S) → slice_get now i ≡ Some s → has_taken s aggregate (with_number (take rows numbers) (take rows values) i)

  pub taken_none : (start : List S) (numbers : List ℕ) (values : List Value) → ((i : ℕ) (s : S) → slice_get start i ≡ Some s → terms s ≡ 0) → Taken start start numbers values 0
  taken_none start numbers values empty = record {
    count = refl;
    few = λ i s e. let z = empty i s e in omega (arith, z);
    taken = λ aggregate h i s e. h i s e;
  }

  pub taken_more : (start now then : List S) (numbers : List ℕ) (values : List Value) (row k : ℕ) (v : Value) → slice_get numbers row ≡ Some k → slice_get values row ≡ Some v
      → Taken start now numbers values row → PutAt has_taken terms k v now then → Taken start then numbers values (row + 1)
  taken_more start now then numbers values row k v is_k is_v before put =
      let m : row + 1 ≡ suc row = omega arith in
      record {
        count = put.count ∙ before.count;
        few = λ i t e. elim (cases_Bool (nat_eq k i)) [
          | inl same ↦ (let j : k ≡ i = eqb-true k i same in
              let there : slice_get then k ≡ Some t = ap (slice_get then) j ∙ e in
              elim ((slice_get_cases now k).1) [
                | inl (s, within, at, read) ↦ (let a = put.terms_at s t at there in let b = before.few k s at in omega (arith, a, b))
                | inr (past, at) ↦ absurd (let w = slice_get_within then k t there in let c = put.count in omega (arith, w, past, c))
              ])
          | inr other ↦ (let ne : i ≡ k → ⊥ = λ q. eqb-false k i other (sym q) in
              let b = before.few i t (sym (put.others i ne) ∙ e) in omega (arith, b))
        ];
        taken = λ aggregate h i t e.
            let W : ℕ → List Value = λ r. with_number (take r numbers) (take r values) i in
            let grown : W (row + 1) ≡ W row ++ cond (nat_eq k i) (v ∷ []) [] = ap W m ∙ with_more numbers values i row k v is_k is_v in
            let H : List Value → Type 0 = λ l. has_taken t aggregate l in
            subst H (sym grown) (elim (cases_Bool (nat_eq k i)) [
              | inl same ↦ (let j : k ≡ i = eqb-true k i same in
                  let there : slice_get then k ≡ Some t = ap (slice_get then) j ∙ e in
                  let G : Bool → Type 0 = λ b. has_taken t aggregate (W row ++ cond b (v ∷ []) []) in
                  subst G (sym same) (elim ((slice_get_cases now k).1) [
                    | inl (s, within, at, read) ↦ put.taken_at s t at there aggregate (W row) (let I : ℕ → Type 0 = λ q. has_taken s aggregate (with_number (take row numbers) (take row values) q) in subst I j (before.taken aggregate h k s at))
                    | inr (past, at) ↦ absurd (let w = slice_get_within then k t there in let c = put.count in omega (arith, w, past, c))
                  ]))
              | inr other ↦ (let ne : i ≡ k → ⊥ = λ q. eqb-false k i other (sym q) in
                  let G : Bool → Type 0 = λ b. has_taken t aggregate (W row ++ cond b (v ∷ []) []) in
                  subst G (sym other) (subst H (sym (append-nil (W row))) (before.taken aggregate h i t (sym (put.others i ne) ∙ e))))
            ]);
      }

  pub taken_room : (start now : List S) (numbers : List ℕ) (values : List Value) (row : ℕ) → row < 2 ^ 32 → Taken start now numbers values row
      → (i : ℕ) (s : S) → slice_get now i ≡ Some s → terms s + 1 < 2 ^ 64
  taken_room start now numbers values row small t i s e = let a = t.few i s e in omega (arith, a, small)

  pub taken_all : (start now : List S) (numbers : List ℕ) (values results : List Value) (row : ℕ) → length numbers ≤ row → length values ≤ row → Taken start now numbers values row → AreValues has_taken now results
      → (aggregate : OfValues) → ((i : ℕ) (s : S) → slice_get start i ≡ Some s → has_taken s aggregate []) → results ≡ values_by_number aggregate numbers values 0 (length start)
  taken_all start now numbers values results row ln lv t are aggregate h =
      by_places has_taken start results aggregate numbers values 0 (are.count ∙ t.count)
      (λ i v e.
      let z : 0 + i ≡ i = omega arith in
      elim ((slice_get_cases now i).1) [
        | inl (s, within, at, read) ↦ are.value_at i s v at e aggregate (with_number (take row numbers) (take row values) i) (t.taken aggregate h i s at)
            ∙ ap (λ l. aggregate (with_number l (take row values) i)) (take_all row numbers ln) ∙ ap (λ l. aggregate (with_number numbers l i)) (take_all row values lv)
            ∙ ap (λ k. aggregate (with_number numbers values k)) (sym z)
        | inr (past, at) ↦ absurd (let w = slice_get_within results i v e in let c = are.count in omega (arith, w, past, c))
      ])
