-- Groups of the parts of a list, put together.
use Rattle.std.proofs.Common.{◌≡◌, ℕ, zero, suc, ◌+◌, ◌<◌, List, [], ◌∷◌, ◌++◌, Bool, true, false, cond, map, length, get_or, refl, sym, ◌∙◌, ap, arith, inl, inr, append_assoc, append-nil}
use Rattle.std.specs.Prelude.{not, ◌&&◌, ◌||◌}
use Rattle.std.specs.List.{filter}
use Rattle.std.proofs.lemmas.Bool.{cases_Bool, true≢false}
use Rattle.std.proofs.lemmas.List.{map-append, map-id}
use Rattle.std.proofs.lemmas.List.Elements.{filter-append}
use Rattle.base_row_laws.specs.Bags.{IsIdentity, has, each_once}
use Rattle.base_row_laws.specs.Numbers.{numbers_of}
use Rattle.base_row_laws.specs.TableLaws.{with_number, groups_from}
use Rattle.base_row_laws.proofs.Classes.{apart}
use Rattle.base_row_laws.proofs.Lists.{filter-map, filter-agree, map-map, map-ext}
use Rattle.base_row_laws.proofs.LoopLists.{classes_by_numbers}
use Rattle.base_row_laws.proofs.NumberLists.{AllApart, distinct_each_once}
use Rattle.base_key_tables.proofs.NumberSteps.{has_each_once}
use Rattle.base_columns.specs.Lists.{one_list}
use Rattle.exec_hash_group.specs.Regrouping.{lists_by_number, groups_by, members, AreOfParts}

pub lists-append : {A : Type 0} (xss yss : List (List A)) → one_list (xss ++ yss) ≡ one_list xss ++ one_list yss
lists-append [] yss = refl
lists-append (xs ∷ xss) yss = ap (λ zs. xs ++ zs) (lists-append xss yss) ∙ sym (append_assoc xs (one_list xss) (one_list yss))

filter_twice : {X : Type 0} (p q r : X → Bool) (xs : List X) → ((x : X) → r x ≡ (p x && q x)) → filter p (filter q xs) ≡ filter r xs
filter_twice p q r [] e = refl
filter_twice p q r (x ∷ xs) e =
    let ih = filter_twice p q r xs e in
    let h = e x in
    elim (cases_Bool (q x)) [
      | inl t ↦ elim (cases_Bool (p x)) [ inl s ↦ (let u : r x ≡ true = rw (t, s) at h in rw (t, s, u) (ap (λ l. x ∷ l) ih)) | inr s ↦ (let u : r x ≡ false = rw (t, s) at h in rw (t, s, u) ih) ]
      | inr t ↦ elim (cases_Bool (p x)) [ inl s ↦ (let u : r x ≡ false = rw (t, s) at h in rw (t, u) ih) | inr s ↦ (let u : r x ≡ false = rw (t, s) at h in rw (t, u) ih) ]
    ]

module _ {K : Type 0} (same : K → K → Bool) (is : IsIdentity same) where
  not_either : (x y : K) (b : Bool) → not (same y x || b) ≡ (not (same x y) && not b)
  not_either x y b = elim (cases_Bool (same x y)) [
    | inl t ↦ (let s : same y x ≡ true = rw (← is.tells x y t) (is.meets x) in rw (t, s) refl)
    | inr f ↦ (let s : same y x ≡ false = apart same is x y f in rw (f, s) refl)
  ]

  once-append : (xs ys : List K) → each_once same (xs ++ ys) ≡ each_once same xs ++ filter (λ y. not (has same y xs)) (each_once same ys)
  once-append [] ys = all_kept (each_once same ys)
    where
      all_kept : (zs : List K) → zs ≡ filter (λ y. not (has same y [])) zs
      all_kept [] = refl
      all_kept (z ∷ zs) = ap (λ l. z ∷ l) (all_kept zs)
  once-append (x ∷ xs) ys =
      let p : K → Bool = λ y. not (same x y) in
      let q : K → Bool = λ y. not (has same y xs) in
      let r : K → Bool = λ y. not (has same y (x ∷ xs)) in
      ap (λ l. x ∷ filter p l) (once-append xs ys) ∙ ap (λ l. x ∷ l) (filter-append p (each_once same xs) (filter q (each_once same ys)))
      ∙ ap (λ l. (x ∷ filter p (each_once same xs)) ++ l) (filter_twice p q r (each_once same ys) (λ y. not_either x y (has same y xs)))

  -- the keys of two lists are those of their keys
  once_of_both : (ds es xs ys : List K) → each_once same ds ≡ each_once same xs → each_once same es ≡ each_once same ys → each_once same (ds ++ es) ≡ each_once same (xs ++ ys)
  once_of_both ds es xs ys a b =
      once-append ds es ∙ ap (λ l. l ++ filter (λ y. not (has same y ds)) (each_once same es)) a ∙ ap (λ l. each_once same xs ++ filter (λ y. not (has same y ds)) l) b
      ∙ ap (λ l. each_once same xs ++ l) (filter-agree (λ y. not (has same y ds)) (λ y. not (has same y xs)) (each_once same ys)
      (λ y. ap not (sym (has_each_once same is y ds) ∙ ap (has same y) a ∙ has_each_once same is y xs)))
      ∙ sym (once-append xs ys)

  others_kept : (x : K) (ds : List K) → has same x ds ≡ false → filter (λ y. not (same x y)) ds ≡ ds
  others_kept x [] h = refl
  others_kept x (d ∷ ds) h = elim (cases_Bool (same x d)) [
    | inl t ↦ absurd (true≢false (rw t at h))
    | inr f ↦ (let h' : has same x ds ≡ false = rw f at h in rw f (ap (λ l. d ∷ l) (others_kept x ds h')))
  ]

  once_apart : (ds : List K) → AllApart same is ds → each_once same ds ≡ ds
  once_apart [] a = refl
  once_apart (d ∷ ds) a = ap (λ l. d ∷ filter (λ y. not (same d y)) l) (once_apart ds a.1) ∙ ap (λ l. d ∷ l) (others_kept d ds a.0)

  -- what F makes of the one key that is k
  of_one : {R : Type 0} (F : K → List R) (k : K) (ds : List K) → AllApart same is ds → one_list (map F (filter (λ d. same d k) ds)) ≡ cond (has same k ds) (F k) []
  of_one F k [] a = refl
  of_one F k (d ∷ ds) a = elim (cases_Bool (same k d)) [
    | inl t ↦ (let e : k ≡ d = is.tells k d t in
        let s : same d k ≡ true = rw e (is.meets d) in
        let no : has same k ds ≡ false = rw e a.0 in
        let ih : one_list (map F (filter (λ d. same d k) ds)) ≡ [] = of_one F k ds a.1 ∙ ap (λ b. cond b (F k) []) no in
        rw (t, s) (ap (λ l. F d ++ l) ih ∙ append-nil (F d) ∙ ap F (sym e)))
    | inr f ↦ (let s : same d k ≡ false = apart same is k d f in rw (f, s) (of_one F k ds a.1))
  ]

  module _ {R : Type 0} (key : R → K) where
    none_there : (k : K) (xs : List R) → has same k (map key xs) ≡ false → filter (λ x. same (key x) k) xs ≡ []
    none_there k [] h = refl
    none_there k (x ∷ xs) h = elim (cases_Bool (same k (key x))) [
      | inl t ↦ absurd (true≢false (rw t at h))
      | inr f ↦ (let h' : has same k (map key xs) ≡ false = rw f at h in let s : same (key x) k ≡ false = apart same is k (key x) f in rw s (none_there k xs h'))
    ]

    -- the groups of a list
    pub own_groups : (xs : List R) → AreOfParts same key (groups_by same key xs) xs
    own_groups xs =
        let ks : List K = each_once same (map key xs) in
        let F : K → List R = λ k. filter (λ x. same (key x) k) xs in
        let m : K → K × List R = λ k. (k, F k) in
        let d : AllApart same is ks = distinct_each_once same is (map key xs) in
        record {
          keys_are = ap (each_once same) (map-map (λ g. g.0) m ks ∙ map-id ks) ∙ once_apart ks d;
          members_are = λ k.
              ap members (filter-map (λ g. same g.0 k) m ks) ∙ ap one_list (map-map (λ g. g.1) m (filter (λ d. same d k) ks)) ∙ of_one F k ks d
              ∙ ap (λ b. cond b (F k) []) (has_each_once same is k (map key xs))
              ∙ elim (cases_Bool (has same k (map key xs))) [ inl t ↦ rw t refl | inr f ↦ rw f (sym (none_there k xs f)) ];
        }

    pub no_groups : AreOfParts same key [] []
    no_groups = record { keys_are = refl; members_are = λ k. refl }

    -- the groups of two lists, one after the other
    pub both_groups : (gs hs : List (K × List R)) (xs ys : List R) → AreOfParts same key gs xs → AreOfParts same key hs ys → AreOfParts same key (gs ++ hs) (xs ++ ys)
    both_groups gs hs xs ys a b = record {
      keys_are =
          ap (each_once same) (map-append (λ g. g.0) gs hs) ∙ once_of_both (map (λ g. g.0) gs) (map (λ g. g.0) hs) (map key xs) (map key ys) a.keys_are b.keys_are
          ∙ ap (each_once same) (sym (map-append key xs ys));
      members_are = λ k.
          let p : K × List R → Bool = λ g. same g.0 k in
          let q : R → Bool = λ x. same (key x) k in
          ap members (filter-append p gs hs) ∙ ap one_list (map-append (λ g. g.1) (filter p gs) (filter p hs)) ∙ lists-append (map (λ g. g.1) (filter p gs)) (map (λ g. g.1) (filter p hs))
          ∙ ap (λ l. l ++ members (filter p hs)) (a.members_are k) ∙ ap (λ l. filter q xs ++ l) (b.members_are k) ∙ sym (filter-append q xs ys);
    }

    pub part_groups : (parts : List (List R)) → AreOfParts same key (one_list (map (groups_by same key) parts)) (one_list parts)
    part_groups [] = no_groups
    part_groups (xs ∷ parts) = both_groups (groups_by same key xs) (one_list (map (groups_by same key) parts)) xs (one_list parts) (own_groups xs) (part_groups parts)

-- the elements by numbers
pub numbered : {K R S : Type 0} (F : List R → S) (is : List ℕ) (xs : List R) (n : ℕ) (ks : List K) → map (λ (g : K × S). g.1) (groups_from (λ k ys. (k, F ys)) is xs n ks) ≡ map F (lists_by_number is xs n (length ks))
numbered F is xs n [] = refl
numbered F is xs n (k ∷ ks) = ap (λ l. F (with_number is xs n) ∷ l) (numbered F is xs (suc n) ks)

pub lists_at : {X : Type 0} (is : List ℕ) (xs : List X) (n count i : ℕ) (d : List X) → i < count → get_or (lists_by_number is xs n count) i d ≡ with_number is xs (n + i)
lists_at is xs n zero i d l = absurd (omega (arith, l))
lists_at is xs n (suc count) zero d l = let z : n ≡ n + 0 = omega arith in ap (with_number is xs) z
lists_at is xs n (suc count) (suc i) d l = let m : suc n + i ≡ n + suc i = omega arith in lists_at is xs (suc n) count i d (omega (arith, l)) ∙ ap (with_number is xs) m

pub lists-length : {X : Type 0} (is : List ℕ) (xs : List X) (n count : ℕ) → length (lists_by_number is xs n count) ≡ count
lists-length is xs n zero = refl
lists-length is xs n (suc count) = ap suc (lists-length is xs (suc n) count)

module _ {K R : Type 0} (same : K → K → Bool) (is : IsIdentity same) (key : R → K) where
  -- The elements of each number in a list are those of the groups of its parts with that number.
  pub numbers_regrouped : (gs : List (K × List R)) (xs : List R) → AreOfParts same key gs xs
      → lists_by_number (numbers_of same (map key xs)) xs 0 (length (each_once same (map key xs)))
      ≡ map members (lists_by_number (numbers_of same (map (λ g. g.0) gs)) gs 0 (length (each_once same (map key xs))))
  numbers_regrouped gs xs a =
      let ks : List K = each_once same (map key xs) in
      let N : List ℕ = numbers_of same (map key xs) in
      let G : List ℕ = numbers_of same (map (λ g. g.0) gs) in
      let whole : map (λ k. (k, filter (λ x. same (key x) k) xs)) ks ≡ groups_from (λ k ys. (k, ys)) N xs 0 ks = classes_by_numbers same is key (λ k ys. (k, ys)) xs in
      let parts : map (λ k. (k, members (filter (λ g. same g.0 k) gs))) (each_once same (map (λ g. g.0) gs)) ≡ groups_from (λ k hs. (k, members hs)) G gs 0 (each_once same (map (λ g. g.0) gs)) =
      classes_by_numbers same is (λ g. g.0) (λ k hs. (k, members hs)) gs in
      let alike : map (λ k. (k, members (filter (λ g. same g.0 k) gs))) (each_once same (map (λ g. g.0) gs)) ≡ map (λ k. (k, filter (λ x. same (key x) k) xs)) ks =
      ap (map (λ k. (k, members (filter (λ g. same g.0 k) gs)))) a.keys_are
      ∙ map-ext (λ k. (k, members (filter (λ g. same g.0 k) gs))) (λ k. (k, filter (λ x. same (key x) k) xs)) ks (λ k. ap (λ l. (k, l)) (a.members_are k)) in
      sym (map-id (lists_by_number N xs 0 (length ks))) ∙ sym (numbered (λ ys. ys) N xs 0 ks) ∙ ap (map (λ g. g.1)) (sym whole ∙ sym alike ∙ parts)
      ∙ numbered members G gs 0 (each_once same (map (λ g. g.0) gs)) ∙ ap (λ l. map members (lists_by_number G gs 0 (length l))) a.keys_are
