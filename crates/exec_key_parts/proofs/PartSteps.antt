-- The leaders of parts of keys, a key at a time, and the numbers that they give.
use Rattle.std.proofs.Common.{rules, ◌≡◌, ℕ, zero, suc, ◌+◌, ◌<◌, ◌≤◌, List, [], ◌∷◌, ◌++◌, Bool, true, false, cond, take, map, set, length, get_or, Some, None, refl, sym, ◌∙◌, ap, arith, inl, inr}
use Rattle.std.specs.Prelude.{slice_get, not, ◌||◌, ◌==◌}
use Rattle.std.specs.List.{filter}
use Rattle.std.proofs.lemmas.Bool.{cases_Bool, true≢false}
use Rattle.std.proofs.lemmas.List.{map-append, length-append, length-map, length-take-le, get_or-map, get_or-set_same, get_or-set_other, get_or-append-add, length-set, append-nil}
use Rattle.std.proofs.lemmas.List.Elements.{filter-append}
use Rattle.std.proofs.lemmas.Option.{slice_get_within, get_or_from_slice_get}
use Rattle.base_row_laws.specs.Bags.{IsIdentity, has, each_once}
use Rattle.base_row_laws.specs.Numbers.{place_in, numbers_of}
use Rattle.base_row_laws.proofs.NumberLists.{has_there}
use Rattle.base_key_tables.specs.Distinct.{added, first_places}
use Rattle.base_key_tables.proofs.NumberSteps.{take_push, each_once_push, each_once-length, has_kept, has_each_once, place_new, number_more, added_there, last_there}
use Rattle.exec_key_parts.specs.KeyParts.{part_of_keys, AreLeaders}

module _ {K : Type 0} (same : K → K → Bool) (is : IsIdentity same) where
  -- a key that isn't among the first i stands first at i
  pub first_here : (keys : List K) (i : ℕ) (x : K) → slice_get keys i ≡ Some x → has same x (take i keys) ≡ false → place_in same keys x ≡ i
  first_here [] i x e h = absurd (let e' : None ≡ Some x = e in cc)
  first_here (y ∷ ys) zero x e h = let k : y ≡ x = cc in rw k (rw (is.meets x) refl)
  first_here (y ∷ ys) (suc i) x e h = elim (cases_Bool (same x y)) [
    | inl t ↦ absurd (true≢false (sym (ap (λ b. b || has same x (take i ys)) t) ∙ h))
    | inr f ↦ (let h' : has same x (take i ys) ≡ false = sym (ap (λ b. b || has same x (take i ys)) f) ∙ h in
        rw f (ap suc (first_here ys i x e h')))
  ]

  -- one that is among them stands before i, and where it first stands
  pub first_before : (keys : List K) (i : ℕ) (x : K) → has same x (take i keys) ≡ true
      → (place_in same keys x < i) × (slice_get (take i keys) (place_in same keys x) ≡ Some x)
  first_before [] zero x h = absurd (true≢false (sym h))
  first_before [] (suc i) x h = absurd (true≢false (sym h))
  first_before (y ∷ ys) zero x h = absurd (true≢false (sym h))
  first_before (y ∷ ys) (suc i) x h = elim (cases_Bool (same x y)) [
    | inl t ↦ (let k : x ≡ y = is.tells x y t in rw t (omega arith, ap (λ z. Some z) (sym k)))
    | inr f ↦ (let h' : has same x (take i ys) ≡ true = sym (ap (λ b. b || has same x (take i ys)) f) ∙ h in
        let ih = first_before ys i x h' in
        rw f (let l = ih.0 in omega (arith, l), ih.1))
  ]

  -- the place of one that is there
  pub there_at : (ds : List K) (x : K) → has same x ds ≡ true → slice_get ds (place_in same ds x) ≡ Some x
  there_at [] x h = absurd (true≢false (sym h))
  there_at (y ∷ ys) x h = elim (cases_Bool (same x y)) [
    | inl t ↦ rw t (ap (λ z. Some z) (sym (is.tells x y t)))
    | inr f ↦ (let h' : has same x ys ≡ true = sym (ap (λ b. b || has same x ys) f) ∙ h in rw f (there_at ys x h'))
  ]

  -- a key just seen: where it first stood
  pub first_new : (seen seen' : List K) (fs fs' : List ℕ) (x : K) (i : ℕ) (is_new : Bool) → length fs ≡ length seen → seen' ≡ added same seen x → is_new ≡ not (has same x seen) → is_new ≡ true
      → fs' ≡ fs ++ i ∷ [] → i ≡ get_or fs' (place_in same seen' x) 0
  first_new seen seen' fs fs' x i is_new beside is_seen tells t is_fs =
      let none : has same x seen ≡ false = turned (has same x seen) (sym tells ∙ t) in
      let e : seen' ≡ seen ++ x ∷ [] = is_seen ∙ ap (λ b. cond b seen (seen ++ x ∷ [])) none in
      let p : place_in same seen' x ≡ length fs + 0 =
      ap (λ l. place_in same l x) e ∙ place_new same is seen x none ∙ (let h : length seen ≡ length fs + 0 = omega (arith, beside) in h) in
      sym (ap (λ l. get_or l (place_in same seen' x) 0) is_fs ∙ ap (λ n. get_or (fs ++ i ∷ []) n 0) p ∙ get_or-append-add fs (i ∷ []) 0 0)
    where
      turned : (b : Bool) → not b ≡ true → b ≡ false
      turned true e = absurd (true≢false (sym e))
      turned false e = refl

  -- one that was seen before has its place among those
  pub known_within : (seen seen' : List K) (x : K) (n : ℕ) (is_new : Bool) → seen' ≡ added same seen x → is_new ≡ not (has same x seen) → is_new ≡ false
      → slice_get seen' n ≡ Some x → n < length seen
  known_within seen seen' x n is_new is_seen tells f there =
      let known : has same x seen ≡ true = stayed (has same x seen) (sym tells ∙ f) in
      let e : seen' ≡ seen = is_seen ∙ ap (λ b. cond b seen (seen ++ x ∷ [])) known in
      slice_get_within seen n x (ap (λ l. slice_get l n) (sym e) ∙ there)
    where
      stayed : (b : Bool) → not b ≡ false → b ≡ true
      stayed true e = refl
      stayed false e = absurd (true≢false e)

  -- no more first places than keys
  pub firsts_few : (keys : List K) (i n : ℕ) (fs : List ℕ) → fs ≡ first_places same (take i keys) → length keys < n → length fs < n
  firsts_few keys i n fs is_fs few =
      let a = each_once-length same (take i keys) in
      let b = length-map (each_once same (take i keys)) (place_in same (take i keys)) in
      let c = ap length is_fs in
      let d = length-take-short keys i in
      omega (arith, a, b, c, d, few)
    where
      length-take-short : (xs : List K) (i : ℕ) → length (take i xs) ≤ length xs
      length-take-short [] zero = omega arith
      length-take-short [] (suc i) = omega arith
      length-take-short (x ∷ xs) zero = omega arith
      length-take-short (x ∷ xs) (suc i) = let ih = length-take-short xs i in omega (arith, ih)

module _ {K : Type 0} (part_of : K → ℕ) (part : ℕ) where
  -- a key more, of this part or of another
  pub part_more : (keys : List K) (i : ℕ) (x : K) → slice_get keys i ≡ Some x
      → part_of_keys part_of (take (i + 1) keys) part ≡ part_of_keys part_of (take i keys) part ++ cond (part_of x == part) (x ∷ []) []
  part_more keys i x e =
      let m : i + 1 ≡ suc i = omega arith in
      let p : K → Bool = λ key. part_of key == part in
      ap (λ n. filter p (take n keys)) m ∙ ap (filter p) (take_push keys i x e) ∙ filter-append p (take i keys) (x ∷ [])

  -- after those of the first i keys comes that key
  pub part_next : (keys : List K) (i : ℕ) (x : K) → slice_get keys i ≡ Some x → (part_of x == part) ≡ true
      → slice_get (part_of_keys part_of keys part) (length (part_of_keys part_of (take i keys) part)) ≡ Some x
  part_next [] i x e t = absurd (let e' : None ≡ Some x = e in cc)
  part_next (y ∷ ys) zero x e t = let k : y ≡ x = cc in rw k (rw t refl)
  part_next (y ∷ ys) (suc i) x e t =
      let ih = part_next ys i x e t in
      elim (cases_Bool (part_of y == part)) [ inl u ↦ rw u ih | inr f ↦ rw f ih ]

-- what was seen of a part among the first i keys: its distinct keys, where they first stand, and the same for each key
pub record Seen {K : Type 0} (same : K → K → Bool) (part_of : K → ℕ) (part : ℕ) (keys : List K) (i : ℕ) (seen : List K) (firsts leaders : List ℕ) : Type 0 where
  pub seen_are : seen ≡ each_once same (part_of_keys part_of (take i keys) part)
  pub firsts_are : firsts ≡ map (place_in same keys) seen
  pub leaders_are : leaders ≡ map (place_in same keys) (part_of_keys part_of (take i keys) part)

module _ {K : Type 0} (same : K → K → Bool) (is : IsIdentity same) (part_of : K → ℕ) (part : ℕ) (keys : List K) (i : ℕ) (x : K) (here : slice_get keys i ≡ Some x) where
  abbrev own : List K
  own = part_of_keys part_of (take i keys) part

  -- a key of another part
  pub seen_other : (seen : List K) (firsts leaders : List ℕ) → (part_of x == part) ≡ false → Seen same part_of part keys i seen firsts leaders → Seen same part_of part keys (i + 1) seen firsts leaders
  seen_other seen firsts leaders f s =
      let stays : part_of_keys part_of (take (i + 1) keys) part ≡ own = part_more part_of part keys i x here ∙ ap (λ b. own ++ cond b (x ∷ []) []) f ∙ append-nil own in
      record {
        seen_are = s.seen_are ∙ ap (each_once same) (sym stays);
        firsts_are = s.firsts_are;
        leaders_are = s.leaders_are ∙ ap (map (place_in same keys)) (sym stays);
      }

  -- a key of the part
  pub seen_more : (seen seen' : List K) (firsts firsts' leaders leaders' : List ℕ) (first : ℕ) → (part_of x == part) ≡ true → Seen same part_of part keys i seen firsts leaders
      → seen' ≡ added same seen x → firsts' ≡ cond (has same x seen) firsts (firsts ++ i ∷ []) → first ≡ get_or firsts' (place_in same seen' x) 0 → leaders' ≡ leaders ++ first ∷ []
      → Seen same part_of part keys (i + 1) seen' firsts' leaders'
  seen_more seen seen' firsts firsts' leaders leaders' first t s is_seen is_firsts is_first is_leaders =
      let f : K → ℕ = place_in same keys in
      let more : part_of_keys part_of (take (i + 1) keys) part ≡ own ++ x ∷ [] = part_more part_of part keys i x here ∙ ap (λ b. own ++ cond b (x ∷ []) []) t in
      let known : has same x seen ≡ has same x (take i keys) =
      ap (has same x) s.seen_are ∙ has_each_once same is x own ∙ has_kept same is (λ key. part_of key == part) x t (take i keys) in
      let firsts_more : firsts' ≡ map f seen' = is_firsts ∙ elim (cases_Bool (has same x seen)) [
        | inl h ↦ (let e : seen' ≡ seen = is_seen ∙ ap (λ b. cond b seen (seen ++ x ∷ [])) h in rw h (s.firsts_are ∙ ap (map f) (sym e)))
        | inr n ↦ (let e : seen' ≡ seen ++ x ∷ [] = is_seen ∙ ap (λ b. cond b seen (seen ++ x ∷ [])) n in
            let p : f x ≡ i = first_here same is keys i x here (sym known ∙ n) in
            rw n (ap (λ l. l ++ i ∷ []) s.firsts_are ∙ ap (λ k. map f seen ++ k ∷ []) (sym p) ∙ sym (map-append f seen (x ∷ [])) ∙ ap (map f) (sym e)))
      ] in
      let there : has same x seen' ≡ true = ap (has same x) is_seen ∙ elim (cases_Bool (has same x seen)) [
        | inl h ↦ rw h h
        | inr n ↦ rw n (has_there same is (seen ++ x ∷ []) x (length seen) (last_there seen x))
      ] in
      let at : slice_get seen' (place_in same seen' x) ≡ Some x = there_at same is seen' x there in
      let within : place_in same seen' x < length seen' = slice_get_within seen' (place_in same seen' x) x at in
      let value : first ≡ f x =
      is_first ∙ ap (λ l. get_or l (place_in same seen' x) 0) firsts_more ∙ get_or-map f seen' (place_in same seen' x) x 0 within
      ∙ ap f (get_or_from_slice_get seen' (place_in same seen' x) x x at) in
      record {
        seen_are = is_seen ∙ ap (λ l. added same l x) s.seen_are ∙ sym (each_once_push same is own x) ∙ ap (each_once same) (sym more);
        firsts_are = firsts_more;
        leaders_are = is_leaders ∙ ap (λ l. l ++ first ∷ []) s.leaders_are ∙ ap (λ k. map f own ++ k ∷ []) value ∙ sym (map-append f own (x ∷ [])) ∙ ap (map f) (sym more);
      }

-- of each part so many leaders were taken as it has keys among these
abbrev pub AreTaken : {K : Type 0} → (K → ℕ) → ℕ → List K → List ℕ → Type 0
AreTaken part_of count keys taken = (part : ℕ) → part < count → get_or taken part 0 ≡ length (part_of_keys part_of keys part)

module _ {K : Type 0} (same : K → K → Bool) (is : IsIdentity same) (part_of : K → ℕ) (keys : List K) (lists : List (List ℕ)) (are : AreLeaders same part_of keys lists)
    (i : ℕ) (x : K) (here : slice_get keys i ≡ Some x) (within : part_of x < length lists) where
  abbrev at : ℕ
  at = length (part_of_keys part_of (take i keys) (part_of x))

  own_part : (part_of x == part_of x) ≡ true
  own_part = search rules

  -- the next leader of the key's part is where the key first stands
  pub leader_next : (taken : List ℕ) (next : ℕ) → AreTaken part_of (length lists) (take i keys) taken → next ≡ get_or taken (part_of x) 0
      → (next < length (get_or lists (part_of x) [])) × (get_or (get_or lists (part_of x) []) next 0 ≡ place_in same keys x)
  leader_next taken next t e =
      let f : K → ℕ = place_in same keys in
      let ks : List K = part_of_keys part_of keys (part_of x) in
      let n : next ≡ at = e ∙ t (part_of x) within in
      let there : slice_get ks at ≡ Some x = part_next part_of (part_of x) keys i x here own_part in
      let l : at < length ks = slice_get_within ks at x there in
      let list : get_or lists (part_of x) [] ≡ map f ks = are (part_of x) within in
      let long : length (get_or lists (part_of x) []) ≡ length ks = ap length list ∙ length-map ks f in (
        omega (arith, n, l, long),
        ap (λ k. get_or (get_or lists (part_of x) []) k 0) n ∙ ap (λ q. get_or q at 0) list ∙ get_or-map f ks at x 0 l ∙ ap f (get_or_from_slice_get ks at x x there),
      )

  -- one more of that part is taken
  pub taken_more : (taken taken' : List ℕ) → length taken ≡ length lists → AreTaken part_of (length lists) (take i keys) taken → taken' ≡ set taken (part_of x) (get_or taken (part_of x) 0 + 1)
      → (length taken' ≡ length lists) × AreTaken part_of (length lists) (take (i + 1) keys) taken'
  taken_more taken taken' long t e =
      let v : ℕ = get_or taken (part_of x) 0 + 1 in (
        ap length e ∙ length-set taken (part_of x) v ∙ long,
        λ part l. let more = part_more part_of part keys i x here in
            let now : length (part_of_keys part_of (take (i + 1) keys) part) ≡ length (part_of_keys part_of (take i keys) part) + length (cond (part_of x == part) (x ∷ []) []) =
            ap length more ∙ length-append (part_of_keys part_of (take i keys) part) (cond (part_of x == part) (x ∷ []) []) in
            elim (cases_Bool (part_of x == part)) [
              | inl u ↦ (let p : part_of x ≡ part = search rules in
                  let one : length (cond (part_of x == part) (x ∷ []) []) ≡ 1 = ap (λ b. length (cond b (x ∷ []) [])) u in
                  let old = t part l in
                  let set_is : get_or taken' (part_of x) 0 ≡ v = ap (λ q. get_or q (part_of x) 0) e ∙ get_or-set_same taken (part_of x) v 0 (omega (arith, long, within)) in
                  let to : get_or taken' part 0 ≡ v = ap (λ k. get_or taken' k 0) (sym p) ∙ set_is in
                  let from : get_or taken (part_of x) 0 ≡ get_or taken part 0 = ap (λ k. get_or taken k 0) p in
                  omega (arith, to, from, old, now, one))
              | inr f ↦ (let none : length (cond (part_of x == part) (x ∷ []) []) ≡ 0 = ap (λ b. length (cond b (x ∷ []) [])) f in
                  let other : part ≡ part_of x → ⊥ = λ q. true≢false (sym own_part ∙ ap (λ k. part_of x == k) (sym q) ∙ f) in
                  let old = t part l in
                  let same_there : get_or taken' part 0 ≡ get_or taken part 0 = ap (λ q. get_or q part 0) e ∙ get_or-set_other taken (part_of x) part v 0 other in
                  omega (arith, same_there, old, now, none))
            ],
      )

  -- a key more has its number
  pub numbered_more : (first : ℕ) (ns ns' fs fs' : List ℕ) → first ≡ place_in same keys x → ns ≡ numbers_of same (take i keys) → fs ≡ first_places same (take i keys)
      → (first < i → (fs' ≡ fs) × (ns' ≡ ns ++ get_or ns first 0 ∷ [])) → (i ≤ first → (fs' ≡ fs ++ i ∷ []) × (ns' ≡ ns ++ length fs ∷ []))
      → (ns' ≡ numbers_of same (take (i + 1) keys)) × (fs' ≡ first_places same (take (i + 1) keys))
  numbered_more first ns ns' fs fs' is_first is_ns is_fs known new =
      let front : List K = take i keys in
      let old : List K = each_once same front in
      let long : length front ≡ i = (let w = slice_get_within keys i x here in length-take-le i keys (omega (arith, w))) in
      let same_has : has same x old ≡ has same x front = has_each_once same is x front in
      elim (cases_Bool (has same x front)) [
        | inl h ↦ (let b = first_before same is keys i x h in
            let k = known (omega (arith, is_first, b.0)) in
            let in_old : has same x old ≡ true = same_has ∙ h in
            let n : ℕ = place_in same old x in
            let there : slice_get old n ≡ Some x = there_at same is old x in_old in
            let w : place_in same keys x < length front = omega (arith, long, b.0) in
            let read : get_or ns first 0 ≡ n =
            ap (λ l. get_or l first 0) is_ns ∙ ap (λ q. get_or (numbers_of same front) q 0) is_first ∙ get_or-map (place_in same old) front (place_in same keys x) x 0 w
            ∙ ap (place_in same old) (get_or_from_slice_get front (place_in same keys x) x x b.1) in
            let m = number_more same is keys i x old old ns ns' fs fs' n false here (refl, is_ns, is_fs)
            (added_there same is old n x there) there (sym (ap not in_old)) (k.1 ∙ ap (λ q. ns ++ q ∷ []) read) k.0 long in
            (m.1, m.2))
        | inr h ↦ (let b = first_here same is keys i x here h in
            let k = new (omega (arith, is_first, b)) in
            let not_old : has same x old ≡ false = same_has ∙ h in
            let lf : length fs ≡ length old = ap length is_fs ∙ length-map old (place_in same front) in
            let there : slice_get (old ++ x ∷ []) (length old) ≡ Some x = last_there old x in
            let m = number_more same is keys i x old (old ++ x ∷ []) ns ns' fs fs' (length old) true here (refl, is_ns, is_fs)
            (sym (ap (λ q. cond q old (old ++ x ∷ [])) not_old)) there (sym (ap not not_old)) (k.1 ∙ ap (λ q. ns ++ q ∷ []) lf) k.0 long in
            (m.1, m.2))
      ]
