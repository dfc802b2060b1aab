-- What GROUP BY and DISTINCT give under one domain row.
use Rattle.std.proofs.Common.{◌≡◌, ℕ, ◌≤◌, List, [], ◌∷◌, ◌++◌, Bool, refl, sym, ◌∙◌, ap, subst, arith, length, take}
use Rattle.std.specs.Prelude.{map, min, max}
use Rattle.std.specs.List.{filter}
use Rattle.std.proofs.lemmas.List.{append_assoc, length-append, append-nil}
use Rattle.base_row_laws.specs.Ranked.{Ranked, ranked}
use Rattle.base_row_laws.specs.Bags.{when, weigh, IsIdentity, each_once, classes, OfBag, top, bottom}
use Rattle.base_row_laws.specs.Rows.{same_row, starts, after}
use Rattle.base_row_laws.specs.Operators.{group_by, distinct, least, greatest}
use Rattle.base_row_laws.specs.Domains.{Wide, Meets}
use Rattle.base_row_laws.proofs.Bags.{weigh-ext}
use Rattle.base_row_laws.proofs.Lists.{filter-ext_each, Each-map, Each-weaker, Each-each_once}
use Rattle.base_row_laws.proofs.Classes.{weigh-classes, SameBag-classes, classes_at, classes-map, classes-key, classes-rekey}
use Rattle.base_row_laws.proofs.Rows.{same_row_is, same_row-behind, starts-wide, starts-take, take-append, wide-take, Meets-weighs, Meets-from}
use Rattle.base_row_laws.proofs.OfBags.{OfBag-top, OfBag-bottom, OfBag-const}

pub top-map : {X Y : Type 0} (f : Y → ℕ) (g : X → Y) (xs : List X) → top f (map g xs) ≡ top (λ x. f (g x)) xs
top-map f g [] = refl
top-map f g (x ∷ xs) = ap (λ n. max (f (g x)) n) (top-map f g xs)

pub bottom-map : {X Y : Type 0} (n : ℕ) (f : Y → ℕ) (g : X → Y) (xs : List X) → bottom n f (map g xs) ≡ bottom n (λ x. f (g x)) xs
bottom-map n f g [] = refl
bottom-map n f g (x ∷ xs) = ap (λ n. min (f (g x)) n) (bottom-map n f g xs)

bare : {V : Type 0} (k : List V) (n : ℕ) → ranked (k ++ []) n ≡ ranked k n
bare k n = rw (append-nil k)

module _ {V : Type 0} (same : V → V → Bool) (is : IsIdentity same) where
  -- groups at any standing that is a function of the bag
  abbrev grouped : (List V → List V) → (List (Ranked V) → List V) → (List (Ranked V) → ℕ) → List (Ranked V) → List (Ranked V)
  grouped key aggregates low xs = classes (same_row same) (λ x. key x.values) (λ k ys. ranked (k ++ aggregates ys) (low ys)) xs

  -- Groups whose key keeps the domain columns.
  pub grouped_meets : (key grouping : List V → List V) (aggregates : List (Ranked V) → List V) (low : List (Ranked V) → ℕ) (d : List V) (xs ts : List (Ranked V)) → OfBag aggregates → OfBag low
      → ((ts : List (Ranked V)) → low (map (after d) ts) ≡ low ts)
      → ((t : List V) → key (d ++ t) ≡ d ++ grouping t)
      → ((x : List V) → length d ≤ length x → (starts same d (key x) ≡ starts same d x) × (length d ≤ length (key x)))
      → Meets same d xs ts → Meets same d (grouped key aggregates low xs) (grouped grouping (λ ys. aggregates (map (after d) ys)) low ts)
  grouped_meets key grouping aggregates low d xs ts bag lows behind parts front m =
      let f : List V → List (Ranked V) → Ranked V = λ k ys. ranked (k ++ aggregates ys) (low ys) in
      let f' : List V → List (Ranked V) → Ranked V = λ k ys. ranked (k ++ aggregates (map (after d) ys)) (low ys) in
      let fbag : (k : List V) → OfBag (f k) = λ k. record { alike = λ xs ys e. rw (bag.alike xs ys e, lows.alike xs ys e) } in
      let W : Ranked V → Type 0 = λ x. length d ≤ length x.values in
      let K : Ranked V → List V = λ x. key x.values in
      Meets-from same is d (grouped key aggregates low xs) (grouped grouping (λ ys. aggregates (map (after d) ys)) low ts)
      (Each-map W (λ k. f k (filter (λ x. same_row same (K x) k) xs)) (each_once (same_row same) (map K xs))
      (Each-weaker (λ k. length d ≤ length k) (λ k. W (f k (filter (λ x. same_row same (K x) k) xs))) (each_once (same_row same) (map K xs))
      (λ k w. simp length-append (omega arith))
      (Each-each_once (λ k. length d ≤ length k) (same_row same) (map K xs) (Each-map (λ k. length d ≤ length k) K xs (Each-weaker W (λ x. length d ≤ length (K x)) xs (λ x w. (front x.values w).1) m.wide)))))
      (λ h.
      classes_at (same_row same) (same_row_is same is) K f fbag h (λ s. starts same d s.values) (starts same d) xs
      (Each-weaker W (λ x. (ys : List (Ranked V)) → starts same d (K x ++ aggregates ys) ≡ starts same d (K x)) xs (λ x w ys. starts-wide same is d (K x) (aggregates ys) (front x.values w).1) m.wide)
      ∙ ap (λ l. weigh h (classes (same_row same) K f l)) (filter-ext_each W (λ x. starts same d (K x)) (λ x. starts same d x.values) xs m.wide (λ x w. (front x.values w).0))
      ∙ (SameBag-classes (same_row same) (same_row_is same is) K f fbag m.same_bag).weighs h
      ∙ classes-map h (same_row same) K f (after d) ts
      ∙ classes-key h (same_row same) (λ t. key (d ++ t.values)) (λ t. d ++ grouping t.values) (λ k ys. f k (map (after d) ys)) ts (λ t. parts t.values)
      ∙ classes-rekey h (same_row same) (same_row same) (λ k. d ++ k) (same_row-behind same is d) (λ t. grouping t.values) (λ k ys. f k (map (after d) ys)) ts
      ∙ weigh-classes h (same_row same) (λ t. grouping t.values) (λ k ys. f (d ++ k) (map (after d) ys)) ts
      ∙ weigh-ext (λ k. h (f (d ++ k) (map (after d) (filter (λ t. same_row same (grouping t.values) k) ts)))) (λ k. h (after d (f' k (filter (λ t. same_row same (grouping t.values) k) ts)))) (each_once (same_row same) (map (λ t. grouping t.values) ts))
      (λ k. let ys = filter (λ t. same_row same (grouping t.values) k) ts in rw (append_assoc d k (aggregates (map (after d) ys)), behind ys))
      ∙ sym (weigh-classes (λ t. h (after d t)) (same_row same) (λ t. grouping t.values) f' ts))

  -- groups by the domain's columns and some of the others
  pub group_meets : (grouping : List V → List V) (aggregates : List (Ranked V) → List V) (d : List V) (xs ts : List (Ranked V)) → OfBag aggregates
      → Meets same d xs ts → Meets same d (group_by same (λ x. take (length d) x ++ grouping x) aggregates xs) (group_by same (λ t. grouping (d ++ t)) (λ ys. aggregates (map (after d) ys)) ts)
  group_meets grouping aggregates d xs ts bag m =
      grouped_meets (λ x. take (length d) x ++ grouping x) (λ t. grouping (d ++ t)) aggregates least d xs ts bag (OfBag-bottom 5 (λ x. x.standing))
      (λ ts. bottom-map 5 (λ x. x.standing) (after d) ts)
      (λ t. ap (λ l. l ++ grouping (d ++ t)) (take-append d t))
      (λ x w. (starts-take same is d x (grouping x) w, wide-take (length d) x (grouping x) w))
      m

  -- groups by the domain's columns alone
  pub key_meets : (aggregates : List (Ranked V) → List V) (d : List V) (xs ts : List (Ranked V)) → OfBag aggregates
      → Meets same d xs ts → Meets same d (group_by same (λ x. take (length d) x) aggregates xs) (group_by same (λ t. []) (λ ys. aggregates (map (after d) ys)) ts)
  key_meets aggregates d xs ts bag m =
      grouped_meets (λ x. take (length d) x) (λ t. []) aggregates least d xs ts bag (OfBag-bottom 5 (λ x. x.standing))
      (λ ts. bottom-map 5 (λ x. x.standing) (after d) ts)
      (λ t. take-append d t ∙ sym (append-nil d))
      (λ x w. (ap (λ r. starts same d r) (sym (append-nil (take (length d) x))) ∙ starts-take same is d x [] w, subst (λ r. length d ≤ length r) (append-nil (take (length d) x)) (wide-take (length d) x [] w)))
      m

  distinct_is : (h : Ranked V → ℕ) (xs : List (Ranked V)) → weigh h (distinct same xs) ≡ weigh h (grouped (λ x. x) (λ ys. []) greatest xs)
  distinct_is h xs =
      weigh-classes h (same_row same) (λ x. x.values) (λ k ys. ranked k (greatest ys)) xs
      ∙ weigh-ext (λ k. h (ranked k (greatest (filter (λ x. same_row same x.values k) xs)))) (λ k. h (ranked (k ++ []) (greatest (filter (λ x. same_row same x.values k) xs)))) (each_once (same_row same) (map (λ x. x.values) xs))
      (λ k. ap h (sym (bare k (greatest (filter (λ x. same_row same x.values k) xs)))))
      ∙ sym (weigh-classes h (same_row same) (λ x. x.values) (λ k ys. ranked (k ++ []) (greatest ys)) xs)

  Meets-like : (d : List V) (xs ys ts us : List (Ranked V)) → Wide (length d) ys → ((h : Ranked V → ℕ) → weigh h ys ≡ weigh h xs) → ((h : Ranked V → ℕ) → weigh h us ≡ weigh h ts) → Meets same d xs ts → Meets same d ys us
  Meets-like d xs ys ts us w e f m = Meets-from same is d ys us w (λ h. e (λ x. when (starts same d x.values) (h x)) ∙ Meets-weighs same is m h ∙ sym (f (λ t. h (after d t))))

  pub distinct_meets : (d : List V) (xs ts : List (Ranked V)) → Meets same d xs ts → Meets same d (distinct same xs) (distinct same ts)
  distinct_meets d xs ts m =
      let W : Ranked V → Type 0 = λ x. length d ≤ length x.values in
      Meets-like d (grouped (λ x. x) (λ ys. []) greatest xs) (distinct same xs) (grouped (λ x. x) (λ ys. []) greatest ts) (distinct same ts)
      (Each-map W (λ k. ranked k (greatest (filter (λ x. same_row same x.values k) xs))) (each_once (same_row same) (map (λ x. x.values) xs))
      (Each-each_once (λ k. length d ≤ length k) (same_row same) (map (λ x. x.values) xs) (Each-map (λ k. length d ≤ length k) (λ x. x.values) xs m.wide)))
      (λ h. distinct_is h xs) (λ h. distinct_is h ts)
      (grouped_meets (λ x. x) (λ t. t) (λ ys. []) greatest d xs ts (OfBag-const []) (OfBag-top (λ x. x.standing))
      (λ ts. top-map (λ x. x.standing) (after d) ts) (λ t. refl) (λ x w. (refl, w)) m)
