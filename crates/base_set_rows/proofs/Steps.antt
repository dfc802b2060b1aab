-- The loops over numbers, one number more.
use Rattle.std.proofs.Common.{◌≡◌, ℕ, zero, suc, ◌+◌, ◌-◌, ◌<◌, ◌≤◌, ◌^◌, List, [], ◌∷◌, ◌++◌, Bool, take, drop, set, length, get_or, replicate, refl, sym, ◌∙◌, ap, subst, arith, inl, inr}
use Rattle.std.specs.Prelude.{nat_eq}
use Rattle.std.specs.List.{All, flat_map, range_with_len}
use Rattle.std.proofs.lemmas.Bool.{cases_Bool, eqb-true, eqb-false, eq-eqb, ne_eqb}
use Rattle.std.proofs.lemmas.List.{length-set, get_or-set_same, get_or-set_other, append-nil, take_all}
use Rattle.std.proofs.lemmas.Grind.{flat_map-append}
use Rattle.base_row_laws.specs.Bags.{when}
use Rattle.base_row_laws.proofs.Bags.{weigh-append}
use Rattle.base_set_rows.specs.declared.kind.ClassKind.{ClassKind}
use Rattle.base_set_rows.specs.SetOperations.{copies}
use Rattle.base_set_rows.specs.Numbered.{times, AreTimes, number_copies, numbers_taken}

one_more : (i : ℕ) → i + 1 ≡ suc i
one_more i = omega arith

take_next : (xs : List ℕ) (i : ℕ) → i < length xs → take (suc i) xs ≡ take i xs ++ get_or xs i 0 ∷ []
take_next [] i h = absurd (omega (arith, h))
take_next (x ∷ xs) zero h = refl
take_next (x ∷ xs) (suc i) h = ap (λ l. x ∷ l) (take_next xs i (omega (arith, h)))

take_one : (xs : List ℕ) (i : ℕ) → i < length xs → take (i + 1) xs ≡ take i xs ++ get_or xs i 0 ∷ []
take_one xs i h = ap (λ j. take j xs) (one_more i) ∙ take_next xs i h

times_more : (is : List ℕ) (n i : ℕ) → i < length is → times n (take (i + 1) is) ≡ times n (take i is) + when (nat_eq (get_or is i 0) n) 1
times_more is n i h =
    ap (times n) (take_one is i h) ∙ weigh-append (λ k. when (nat_eq k n) 1) (take i is) (get_or is i 0 ∷ []) ∙ (omega arith)

times_most : (n : ℕ) (is : List ℕ) → times n is ≤ length is
times_most n [] = omega arith
times_most n (i ∷ is) = let ih = times_most n is in elim (cases_Bool (nat_eq i n)) [ inl t ↦ rw t (omega (arith, ih)) | inr f ↦ rw f (omega (arith, ih)) ]

pub count_fits : (numbers old : List ℕ) (i k count : ℕ) → length numbers < 2 ^ 32 → k < count → AreTimes (take i numbers) count old → i < length numbers → get_or old k 0 + 1 < 2 ^ 32
count_fits numbers old i k count small lk before li =
    let a = before.each k lk in let b = times_most k (take i numbers) in
    let c : length (take i numbers) ≤ i = taken_long i numbers in
    omega (arith, a, b, c, li, small)
  where
    taken_long : (i : ℕ) (xs : List ℕ) → length (take i xs) ≤ i
    taken_long zero xs = omega arith
    taken_long (suc i) [] = omega arith
    taken_long (suc i) (x ∷ xs) = let ih = taken_long i xs in omega (arith, ih)

pub count_more : (numbers old new : List ℕ) (i k count s : ℕ) → i < length numbers → k ≡ get_or numbers i 0 → k < count → AreTimes (take i numbers) count old
    → new ≡ set old k s → s ≡ get_or old k 0 + 1 → AreTimes (take (i + 1) numbers) count new
count_more numbers old new i k count s li is_k lk before is is_s =
    let long = before.long in
    record {
      long = ap length is ∙ length-set old k s ∙ before.long;
      each = λ n l. let m = times_more numbers n i li in elim (cases_Bool (nat_eq n k)) [
        | inl t ↦ (let e : n ≡ k = eqb-true n k t in
            let u : when (nat_eq (get_or numbers i 0) n) 1 ≡ 1 = ap (λ b. when b 1) (eq-eqb (get_or numbers i 0) n (sym (e ∙ is_k))) in
            let v : get_or new n 0 ≡ s = ap (λ j. get_or new j 0) e ∙ ap (λ xs. get_or xs k 0) is ∙ get_or-set_same old k s 0 (omega (arith, lk, long)) in
            let w : get_or old k 0 ≡ times n (take i numbers) = before.each k lk ∙ ap (λ j. times j (take i numbers)) (sym e) in
            omega (arith, m, u, v, w, is_s))
        | inr f' ↦ (let ne : n ≡ k → ⊥ = eqb-false n k f' in
            let f : when (nat_eq (get_or numbers i 0) n) 1 ≡ 0 = ap (λ b. when b 1) (ne_eqb (get_or numbers i 0) n (λ e. ne (sym (is_k ∙ e)))) in
            let v : get_or new n 0 ≡ times n (take i numbers) = ap (λ xs. get_or xs n 0) is ∙ get_or-set_other old k n s 0 ne ∙ before.each n l in
            omega (arith, m, f, v))
      ];
    }

length-drop_is : (s : ℕ) (xs : List ℕ) → length (drop s xs) ≡ length xs - s
length-drop_is zero xs = omega arith
length-drop_is (suc s) [] = omega arith
length-drop_is (suc s) (x ∷ xs) = let ih = length-drop_is s xs in omega (arith, ih)

-- a slice to the end
pub to_the_end : (numbers : List ℕ) (split count : ℕ) (xs : List ℕ) → AreTimes (take (length numbers - split) (drop split numbers)) count xs → AreTimes (drop split numbers) count xs
to_the_end numbers split count xs a =
    let l = length-drop_is split numbers in
    subst (λ ys. AreTimes ys count xs) (take_all (length numbers - split) (drop split numbers) (omega (arith, l))) a

range_more : (a n : ℕ) → range_with_len a (n + 1) ≡ range_with_len a n ++ (a + n) ∷ []
range_more a zero = let z : a ≡ a + 0 = omega arith in ap (λ m. m ∷ []) z
range_more a (suc n) =
    let e : suc n + 1 ≡ suc (n + 1) = omega arith in
    let m : (a + 1) + n ≡ a + suc n = omega arith in
    ap (range_with_len a) e ∙ ap (λ l. a ∷ l) (range_more (a + 1) n ∙ ap (λ k. range_with_len (a + 1) n ++ k ∷ []) m)

pub none_below : (count : ℕ) → All (λ k. k < count) []
none_below count k d h = absurd (omega (arith, h))

pub none_taken : (kind : ClassKind) (all : Bool) (split count : ℕ) (numbers taken : List ℕ) → taken ≡ [] → (taken ≡ numbers_taken kind all split numbers 0) × All (λ k. k < count) taken
unfolding numbers_taken
none_taken kind all split count numbers taken e = (e, subst (λ xs. All (λ k. k < count) xs) (sym e) (none_below count))

-- the rows of one number more
pub taken_more : (kind : ClassKind) (all : Bool) (split : ℕ) (numbers left right : List ℕ) (count n times' : ℕ) (old new : List ℕ) → n < count
    → AreTimes (take split numbers) count left → AreTimes (drop split numbers) count right → times' ≡ copies kind all (get_or left n 0) (get_or right n 0)
    → old ≡ numbers_taken kind all split numbers n → new ≡ old ++ replicate times' n → new ≡ numbers_taken kind all split numbers (n + 1)
unfolding numbers_taken
taken_more kind all split numbers left right count n times' old new ln l r t e is =
    let F : ℕ → List ℕ = λ n. replicate (number_copies kind all split numbers n) n in
    let here : times' ≡ number_copies kind all split numbers n = t ∙ ap (λ a. copies kind all a (get_or right n 0)) (l.each n ln) ∙ ap (λ b. copies kind all (times n (take split numbers)) b) (r.each n ln) in
    let last : F n ≡ flat_map F (n ∷ []) = sym (append-nil (F n)) in
    is ∙ ap (λ o. o ++ replicate times' n) e ∙ ap (λ m. flat_map F (range_with_len 0 n) ++ replicate m n) here
    ∙ ap (λ o. flat_map F (range_with_len 0 n) ++ o) last
    ∙ sym (ap (flat_map F) (range_more 0 n ∙ ap (λ m. range_with_len 0 n ++ m ∷ []) (let z : 0 + n ≡ n = omega arith in z)) ∙ flat_map-append F (range_with_len 0 n) (n ∷ []))

copies_below : (count n m : ℕ) → n < count → All (λ k. k < count) (replicate m n)
copies_below count n zero l k d h = absurd (omega (arith, h))
copies_below count n (suc m) l zero d h = l
copies_below count n (suc m) l (suc k) d h = copies_below count n m l k d (omega (arith, h))

both_below : (count : ℕ) (xs ys : List ℕ) → All (λ k. k < count) xs → All (λ k. k < count) ys → All (λ k. k < count) (xs ++ ys)
both_below count [] ys a b k d h = b k d h
both_below count (x ∷ xs) ys a b zero d h = a 0 d (omega arith)
both_below count (x ∷ xs) ys a b (suc k) d h = both_below count xs ys (λ j d l. a (suc j) d (omega (arith, l))) b k d (omega (arith, h))

-- what is taken are numbers below
pub more_below : (count n m : ℕ) (old new : List ℕ) → n < count → All (λ k. k < count) old → new ≡ old ++ replicate m n → All (λ k. k < count) new
more_below count n m old new l a is = subst (λ xs. All (λ k. k < count) xs) (sym is) (both_below count old (replicate m n) a (copies_below count n m l))
