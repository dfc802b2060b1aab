-- Set operations by weights: bags, and rows under one domain row.
use Rattle.std.proofs.Common.{◌≡◌, ℕ, zero, suc, ◌+◌, ◌≤◌, List, [], ◌∷◌, ◌++◌, Bool, true, false, refl, sym, ◌∙◌, ap, arith, length}
use Rattle.std.specs.Prelude.{map, replicate}
use Rattle.std.specs.List.{filter}
use Rattle.base_row_laws.specs.Ranked.{Ranked, ranked}
use Rattle.base_row_laws.specs.Bags.{when, weigh, SameBag, IsIdentity, each_once, Each}
use Rattle.base_row_laws.specs.Rows.{same_row, starts, after}
use Rattle.base_row_laws.specs.Operators.{least}
use Rattle.base_row_laws.specs.Domains.{values_of, Meets, Answers}
use Rattle.base_row_laws.proofs.Bags.{when-zero, weigh-append, weigh-ext, weigh-map, weigh-filter, weigh-flat_map, SameBag-append, SameBag-map, SameBag-filter}
use Rattle.base_row_laws.proofs.Lists.{filter-map, filter-agree, filter_within, Each-map, Each-weaker, Each-each_once, Each-append, Each-flat_map, Each-both}
use Rattle.base_row_laws.proofs.Classes.{SameBag-each_once, SameBag-each_once_filter, each_once-map}
use Rattle.base_row_laws.proofs.Rows.{same_row_is, same_row-behind, Meets-weighs, Meets-from}
use Rattle.base_row_laws.proofs.OfBags.{OfBag-bottom}
use Rattle.base_row_laws.proofs.Groups.{bottom-map, distinct_meets}
use Rattle.base_set_rows.specs.declared.kind.ClassKind.{ClassKind}
use Rattle.base_set_rows.specs.SetOperations.{copies, alike, class_rows, by_classes, union}
use Rattle.base_set_rows.specs.SetLaws.{ByClassesAlike, ByClassesMeets, ByClassesAnswers, UnionMeets, UnionAnswers}

-- lengths are weights
pub length_is : {X : Type 0} (xs : List X) → length xs ≡ weigh (λ x. 1) xs
length_is [] = refl
length_is (x ∷ xs) = omega (arith, length_is xs)

pub length-SameBag : {X : Type 0} {xs ys : List X} → SameBag xs ys → length xs ≡ length ys
length-SameBag {X} {xs} {ys} e = length_is xs ∙ e.weighs (λ x. 1) ∙ sym (length_is ys)

pub Each-copies : {X : Type 0} (P : X → Type 0) (x : X) (n : ℕ) → P x → Each P (replicate n x)
Each-copies P x zero p = tt
Each-copies P x (suc n) p = (p, Each-copies P x n p)

joined : (b : Bool) (x y : ℕ) → when b x + when b y ≡ when b (x + y)
joined true x y = refl
joined false x y = refl

starts-self : {V : Type 0} (same : V → V → Bool) (is : IsIdentity same) (d k : List V) → starts same d (d ++ k) ≡ true
starts-self same is [] k = refl
starts-self same is (x ∷ d) k = rw (is.meets x, starts-self same is d k)

module _ {V : Type 0} (same : V → V → Bool) (is : IsIdentity same) where
  keys : List (Ranked V) → List (List V)
  keys zs = each_once (same_row same) (values_of zs)

  rows_on : (h : Ranked V → ℕ) (d : List V) (r : Ranked V) (n : ℕ) → weigh (λ z. when (starts same d z.values) (h z)) (replicate n r) ≡ when (starts same d r.values) (weigh h (replicate n r))
  rows_on h d r zero = sym (when-zero (starts same d r.values))
  rows_on h d r (suc n) = ap (λ k. when (starts same d r.values) (h r) + k) (rows_on h d r n) ∙ joined (starts same d r.values) (h r) (weigh h (replicate n r))

  rows_behind : (h : Ranked V → ℕ) (d : List V) (r : Ranked V) (n : ℕ) → weigh h (replicate n (after d r)) ≡ weigh (λ t. h (after d t)) (replicate n r)
  rows_behind h d r zero = refl
  rows_behind h d r (suc n) = ap (λ k. h (after d r) + k) (rows_behind h d r n)

  -- bags
  class_alike : (kind : ClassKind) (all : Bool) {xs us ys vs : List (Ranked V)} (k : List V) → SameBag xs us → SameBag ys vs
      → class_rows same kind all xs ys k ≡ class_rows same kind all us vs k
  class_alike kind all {xs} {us} {ys} {vs} k e f =
      let p : Ranked V → Bool = λ x. same_row same x.values k in
      let a : length (alike same k xs) ≡ length (alike same k us) = length-SameBag (SameBag-filter p e) in
      let b : length (alike same k ys) ≡ length (alike same k vs) = length-SameBag (SameBag-filter p f) in
      let s : least (alike same k (xs ++ ys)) ≡ least (alike same k (us ++ vs)) = (OfBag-bottom 5 (λ (x : Ranked V). x.standing)).alike _ _ (SameBag-filter p (SameBag-append e f)) in
      rw (a, b, s)

  pub by_classes_alike : ByClassesAlike same
  by_classes_alike kind all xs us ys vs e f = record {
    weighs = λ h.
        weigh-flat_map h (class_rows same kind all xs ys) (each_once (same_row same) (values_of (xs ++ ys)))
        ∙ weigh-ext (λ k. weigh h (class_rows same kind all xs ys k)) (λ k. weigh h (class_rows same kind all us vs k)) (each_once (same_row same) (values_of (xs ++ ys)))
        (λ k. ap (weigh h) (class_alike kind all k e f))
        ∙ (SameBag-each_once (same_row same) (same_row_is same is) (SameBag-map (λ (x : Ranked V). x.values) (SameBag-append e f))).weighs (λ k. weigh h (class_rows same kind all us vs k))
        ∙ sym (weigh-flat_map h (class_rows same kind all us vs) (each_once (same_row same) (values_of (us ++ vs))));
  }

  -- what is so of both sides' values
  pub by_classes_each : (P : List V → Type 0) (kind : ClassKind) (all : Bool) (xs ys : List (Ranked V)) → Each (λ (x : Ranked V). P x.values) xs → Each (λ (x : Ranked V). P x.values) ys
      → Each (λ (x : Ranked V). P x.values) (by_classes same kind all xs ys)
  by_classes_each P kind all xs ys a b =
      Each-flat_map P (λ (x : Ranked V). P x.values) (class_rows same kind all xs ys) (each_once (same_row same) (values_of (xs ++ ys)))
      (Each-each_once P (same_row same) (values_of (xs ++ ys)) (Each-map P (λ (x : Ranked V). x.values) (xs ++ ys) (Each-append (λ (x : Ranked V). P x.values) xs ys a b)))
      (λ k p. Each-copies (λ (x : Ranked V). P x.values) (ranked k (least (alike same k (xs ++ ys)))) (copies kind all (length (alike same k xs)) (length (alike same k ys))) p)

  -- one domain row
  pub append_meets : (d : List V) (xs ys ts us : List (Ranked V)) → Meets same d xs ts → Meets same d ys us → Meets same d (xs ++ ys) (ts ++ us)
  append_meets d xs ys ts us m n = Meets-from same is d (xs ++ ys) (ts ++ us) (Each-append (λ x. length d ≤ length x.values) xs ys m.wide n.wide) (λ h.
      weigh-append (λ x. when (starts same d x.values) (h x)) xs ys
      ∙ ap (λ k. k + weigh (λ x. when (starts same d x.values) (h x)) ys) (Meets-weighs same is m h)
      ∙ ap (λ k. weigh (λ t. h (after d t)) ts + k) (Meets-weighs same is n h)
      ∙ sym (weigh-append (λ t. h (after d t)) ts us))

  -- the rows of a class under d
  alike_meets : {d : List V} {xs ts : List (Ranked V)} (k : List V) → Meets same d xs ts → SameBag (alike same (d ++ k) xs) (map (after d) (alike same k ts))
  alike_meets {d} {xs} {ts} k m =
      let p : Ranked V → Bool = λ x. same_row same x.values (d ++ k) in
      let q : Ranked V → Bool = λ x. starts same d x.values in
      let within : filter p (filter q xs) ≡ filter p xs = filter_within p q xs (λ x t. ap (starts same d) ((same_row_is same is).tells x.values (d ++ k) t) ∙ starts-self same is d k) in
      let moved : filter p (map (after d) ts) ≡ map (after d) (alike same k ts) =
      filter-map p (after d) ts ∙ ap (map (after d)) (filter-agree (λ t. p (after d t)) (λ t. same_row same t.values k) ts (λ t. same_row-behind same is d t.values k)) in
      record { weighs = λ h. ap (weigh h) (sym within) ∙ (SameBag-filter p m.same_bag).weighs h ∙ ap (weigh h) moved }

  length-after : {X Y : Type 0} (f : X → Y) (xs : List X) → length (map f xs) ≡ length xs
  length-after f [] = refl
  length-after f (x ∷ xs) = omega (arith, length-after f xs)

  class_meets : (kind : ClassKind) (all : Bool) {d : List V} {xs ys ts us : List (Ranked V)} (k : List V) → Meets same d xs ts → Meets same d ys us
      → class_rows same kind all xs ys (d ++ k) ≡ replicate (copies kind all (length (alike same k ts)) (length (alike same k us))) (after d (ranked k (least (alike same k (ts ++ us)))))
  class_meets kind all {d} {xs} {ys} {ts} {us} k m n =
      let a : length (alike same (d ++ k) xs) ≡ length (alike same k ts) = length-SameBag (alike_meets k m) ∙ length-after (after d) (alike same k ts) in
      let b : length (alike same (d ++ k) ys) ≡ length (alike same k us) = length-SameBag (alike_meets k n) ∙ length-after (after d) (alike same k us) in
      let s : least (alike same (d ++ k) (xs ++ ys)) ≡ least (alike same k (ts ++ us)) =
      (OfBag-bottom 5 (λ (x : Ranked V). x.standing)).alike _ _ (alike_meets k (append_meets d xs ys ts us m n))
      ∙ bottom-map 5 (λ (x : Ranked V). x.standing) (after d) (alike same k (ts ++ us)) in
      rw (a, b, s)

  -- the values of the rows that begin with d
  keys_meet : {d : List V} {zs ws : List (Ranked V)} → Meets same d zs ws → (H : List V → ℕ)
      → weigh (λ k. when (starts same d k) (H k)) (each_once (same_row same) (values_of zs)) ≡ weigh (λ k. H (d ++ k)) (each_once (same_row same) (values_of ws))
  keys_meet {d} {zs} {ws} m H =
      let e : SameBag (filter (starts same d) (values_of zs)) (map (λ k. d ++ k) (values_of ws)) = record {
        weighs = λ h.
            weigh-filter h (starts same d) (values_of zs)
            ∙ weigh-map (λ k. when (starts same d k) (h k)) (λ (x : Ranked V). x.values) zs
            ∙ Meets-weighs same is m (λ x. h x.values)
            ∙ sym (weigh-map h (λ k. d ++ k) (values_of ws) ∙ weigh-map (λ k. h (d ++ k)) (λ (x : Ranked V). x.values) ws);
      } in
      sym (weigh-filter H (starts same d) (each_once (same_row same) (values_of zs)))
      ∙ sym ((SameBag-each_once_filter (same_row same) (same_row_is same is) (starts same d) (values_of zs)).weighs H)
      ∙ (SameBag-each_once (same_row same) (same_row_is same is) e).weighs H
      ∙ ap (weigh H) (each_once-map (same_row same) (same_row same) (λ k. d ++ k) (same_row-behind same is d) (values_of ws))
      ∙ weigh-map H (λ k. d ++ k) (each_once (same_row same) (values_of ws))

  pub by_classes_meets : ByClassesMeets same
  by_classes_meets kind all d xs ys ts us m n =
      let B : List V → List (Ranked V) = class_rows same kind all xs ys in
      let C : List V → List (Ranked V) = class_rows same kind all ts us in
      Meets-from same is d (by_classes same kind all xs ys) (by_classes same kind all ts us)
      (by_classes_each (λ k. length d ≤ length k) kind all xs ys m.wide n.wide)
      (λ h.
      let on : Ranked V → ℕ = λ z. when (starts same d z.values) (h z) in
      let H : List V → ℕ = λ k. weigh h (B k) in
      weigh-flat_map on B (each_once (same_row same) (values_of (xs ++ ys)))
      ∙ weigh-ext (λ k. weigh on (B k)) (λ k. when (starts same d k) (H k)) (each_once (same_row same) (values_of (xs ++ ys)))
      (λ k. rows_on h d (ranked k (least (alike same k (xs ++ ys)))) (copies kind all (length (alike same k xs)) (length (alike same k ys))))
      ∙ keys_meet (append_meets d xs ys ts us m n) H
      ∙ weigh-ext (λ k. H (d ++ k)) (λ k. weigh (λ t. h (after d t)) (C k)) (each_once (same_row same) (values_of (ts ++ us)))
      (λ k. ap (weigh h) (class_meets kind all k m n)
      ∙ rows_behind h d (ranked k (least (alike same k (ts ++ us)))) (copies kind all (length (alike same k ts)) (length (alike same k us))))
      ∙ sym (weigh-flat_map (λ t. h (after d t)) C (each_once (same_row same) (values_of (ts ++ us)))))

  pub union_meets : UnionMeets same
  union_meets true d xs ys ts us m n = append_meets d xs ys ts us m n
  union_meets false d xs ys ts us m n = distinct_meets same is d (xs ++ ys) (ts ++ us) (append_meets d xs ys ts us m n)

  -- a whole domain
  both_answer : (ds xs ys zs : List (Ranked V)) (L R T : List V → List (Ranked V)) → ((d : List V) → Meets same d xs (L d) → Meets same d ys (R d) → Meets same d zs (T d))
      → Answers same ds xs L → Answers same ds ys R → Answers same ds zs T
  both_answer ds xs ys zs L R T one a b =
      Each-weaker (λ e. Meets same e.values xs (L e.values) × Meets same e.values ys (R e.values)) (λ e. Meets same e.values zs (T e.values)) ds (λ e p. one e.values p.0 p.1)
      (Each-both (λ e. Meets same e.values xs (L e.values)) (λ e. Meets same e.values ys (R e.values)) ds a b)

  pub by_classes_answers : ByClassesAnswers same
  by_classes_answers kind all ds xs ys L R a b = both_answer ds xs ys (by_classes same kind all xs ys) L R (λ d. by_classes same kind all (L d) (R d))
      (λ d m n. by_classes_meets kind all d xs ys (L d) (R d) m n) a b

  pub union_answers : UnionAnswers same
  union_answers all ds xs ys L R a b = both_answer ds xs ys (union same all xs ys) L R (λ d. union same all (L d) (R d))
      (λ d m n. union_meets all d xs ys (L d) (R d) m n) a b
