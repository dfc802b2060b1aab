-- Joins whose right side is taken anew under each left row: what stands in the right side, moved
-- above the join.
use Rattle.std.proofs.Common.{◌≡◌, ℕ, ◌≤◌, List, [], ◌∷◌, ◌++◌, Bool, true, refl, sym, ◌∙◌, ap}
use Rattle.std.proofs.Common.{subst, arith, inl, inr}
use Rattle.std.specs.Prelude.{map, min, nat_lt, not}
use Rattle.std.specs.List.{filter, flat_map}
use Rattle.std.proofs.lemmas.Bool.{cases_Bool, lt-ltb}
use Rattle.std.proofs.lemmas.Grind.{flat_map-append}
use Rattle.std.proofs.lemmas.List.{map-append, append-nil}
use Rattle.base_row_laws.specs.Ranked.{Ranked, ranked, unknown_rank, true_rank}
use Rattle.base_row_laws.specs.Bags.{SameBag, IsIdentity, Each, each_once}
use Rattle.base_row_laws.specs.Rows.{keep, same_row}
use Rattle.base_row_laws.specs.Operators.{select, project, pair, or_else, join_loop, outer_loop}
use Rattle.base_row_laws.specs.Operators.{group_by, total, least}
use Rattle.base_row_laws.specs.StandingLaws.{Stands}
use Rattle.base_row_laws.proofs.Bags.{SameBag-refl, SameBag-append}
use Rattle.base_row_laws.proofs.Lists.{Each-each_once, Each-map, Each-all}
use Rattle.base_row_laws.proofs.Moves.{select_below_right}
use Rattle.base_row_laws.proofs.Rows.{same_row-refl}
use Rattle.base_row_laws.proofs.Standings.{total_stands}

module _ {V : Type 0} where
  abbrev always : List V → ℕ
  always r = true_rank

  -- the combinations of one left row with some rows
  abbrev pairs : Ranked V → List (Ranked V) → List (Ranked V)
  pairs l us = flat_map (λ r. pair always (λ a b. a ++ b) l r) us

  pairs_under : (c e : List V → ℕ) (l : Ranked V) (us : List (Ranked V))
      → ((r : List V) → c r ≡ e r)
      → flat_map (λ r. pair c (λ a b. a ++ b) l r) us
      ≡ flat_map (λ r. pair e (λ a b. a ++ b) l r) us
  pairs_under c e l [] i = refl
  pairs_under c e l (u ∷ us) i =
      let z = l.values ++ u.values in
      let s = min l.standing u.standing in
      ap (λ n. keep z (min s n) ++ flat_map (λ r. pair c (λ a b. a ++ b) l r) us) (i z)
      ∙ ap (λ k. keep z (min s (e z)) ++ k) (pairs_under c e l us i)

  -- the same condition and the same right side
  pub join_under : (c e : List V → ℕ) (ls : List (Ranked V)) (R S : List V → List (Ranked V))
      → ((r : List V) → c r ≡ e r) → ((x : List V) → R x ≡ S x)
      → join_loop c ls R ≡ join_loop e ls S
  join_under c e [] R S i j = refl
  join_under c e (l ∷ ls) R S i j =
      ap (λ us. flat_map (λ r. pair c (λ a b. a ++ b) l r) us ++ join_loop c ls R) (j l.values)
      ∙ ap (λ k. k ++ join_loop c ls R) (pairs_under c e l (S l.values) i)
      ∙ ap (λ k. flat_map (λ r. pair e (λ a b. a ++ b) l r) (S l.values) ++ k)
      (join_under c e ls R S i j)

  pub outer_under : (nulls : List V) (c e : List V → ℕ) (ls : List (Ranked V))
      (R S : List V → List (Ranked V)) → ((r : List V) → c r ≡ e r) → ((x : List V) → R x ≡ S x)
      → outer_loop nulls c ls R ≡ outer_loop nulls e ls S
  outer_under nulls c e [] R S i j = refl
  outer_under nulls c e (l ∷ ls) R S i j =
      let z = ranked (l.values ++ nulls) l.standing in
      ap (λ us. or_else (flat_map (λ r. pair c (λ a b. a ++ b) l r) us) z
      ++ outer_loop nulls c ls R) (j l.values)
      ∙ ap (λ k. or_else k z ++ outer_loop nulls c ls R) (pairs_under c e l (S l.values) i)
      ∙ ap (λ k. or_else (flat_map (λ r. pair e (λ a b. a ++ b) l r) (S l.values)) z ++ k)
      (outer_under nulls c e ls R S i j)

  keep_projected : (g : List V → List V) (r s : List V) (n : ℕ) → g r ≡ s
      → keep s n ≡ project g (keep r n)
  keep_projected g r s n is = elim (cases_Bool (nat_lt unknown_rank n)) [
    | inl t ↦ rw (t, is)
    | inr f ↦ rw f
  ]

  pairs_projected : (g : List V → List V) (f : List V → List V) (l : Ranked V)
      (us : List (Ranked V))
      → Each (λ r. g (l.values ++ r.values) ≡ l.values ++ f r.values) us
      → pairs l (project f us) ≡ project g (pairs l us)
  pairs_projected g f l [] all = refl
  pairs_projected g f l (u ∷ us) all =
      let s = min (min l.standing u.standing) true_rank in
      ap (λ k. k ++ pairs l (project f us))
      (keep_projected g (l.values ++ u.values) (l.values ++ f u.values) s all.0)
      ∙ ap (λ k. project g (keep (l.values ++ u.values) s) ++ k) (pairs_projected g f l us all.1)
      ∙ sym (map-append (λ x. ranked (g x.values) x.standing) (keep (l.values ++ u.values) s)
      (pairs l us))

  -- a select list of the right side is one above the join
  pub project_above : (g : List V → List V) (f : List V → List V → List V) (ls : List (Ranked V))
      (R : List V → List (Ranked V))
      → Each (λ l. Each (λ r. g (l.values ++ r.values) ≡ l.values ++ f l.values r.values)
      (R l.values)) ls
      → join_loop (λ r. true_rank) ls (λ l. project (f l) (R l))
      ≡ project g (join_loop (λ r. true_rank) ls R)
  project_above g f [] R all = refl
  project_above g f (l ∷ ls) R all =
      ap (λ k. k ++ join_loop always ls (λ l. project (f l) (R l)))
      (pairs_projected g (f l.values) l (R l.values) all.0)
      ∙ ap (λ k. project g (pairs l (R l.values)) ++ k) (project_above g f ls R all.1)
      ∙ sym (map-append (λ x. ranked (g x.values) x.standing) (pairs l (R l.values))
      (join_loop always ls R))

  -- a selection of the right side is one above the join
  pub select_above : (e : List V → ℕ) (p : List V → List V → ℕ) (ls : List (Ranked V))
      (R : List V → List (Ranked V))
      → Each (λ l. Each (λ r. e (l.values ++ r.values) ≡ p l.values r.values) (R l.values)) ls
      → SameBag (select e (join_loop (λ r. true_rank) ls R)) (join_loop (λ r. true_rank) ls
      (λ l. select (p l) (R l)))
  select_above e p [] R all = SameBag-refl []
  select_above e p (l ∷ ls) R all =
      let A = pairs l (R l.values) in
      let B = pairs l (select (p l.values) (R l.values)) in
      let one : SameBag (select e (A ++ [])) (B ++ []) =
      select_below_right always e (p l.values) (l ∷ []) R (all.0, tt) in
      let here : SameBag (select e A) B =
      subst (λ k. SameBag (select e k) B) (append-nil A)
      (subst (λ k. SameBag (select e (A ++ [])) k) (append-nil B) one) in
      subst (λ k. SameBag k (B ++ join_loop always ls (λ l. select (p l) (R l))))
      (sym (flat_map-append (λ x. keep x.values (min x.standing (e x.values))) A
      (join_loop always ls R)))
      (SameBag-append here (select_above e p ls R all.1))

  -- one combination of rows at True or at a fault
  kept_whole : (r : List V) (n m : ℕ) → 2 ≤ n → n ≤ 5 → 2 ≤ m → m ≤ 5
      → keep r (min (min n m) true_rank) ≡ ranked r (min n m) ∷ []
  kept_whole r n m a b c d =
      let e : min (min n m) true_rank ≡ min n m = omega arith in
      let t : nat_lt unknown_rank (min n m) ≡ true = lt-ltb 1 (min n m) (omega arith) in
      rw (e, t)

  module _ (same : V → V → Bool) (is : IsIdentity same) where
    none_other : (k : List V) (xs : List (List V)) → Each (λ x. x ≡ k) xs
        → filter (λ y. not (same_row same k y)) xs ≡ []
    none_other k [] all = refl
    none_other k (x ∷ xs) all =
        let t : same_row same k x ≡ true = ap (same_row same k) all.0 ∙ same_row-refl same is k in
        rw (t, none_other k xs all.1)

    all_of_key : (key : List V → List V) (k : List V) (xs : List (Ranked V))
        → ((x : List V) → key x ≡ k) → filter (λ x. same_row same (key x.values) k) xs ≡ xs
    all_of_key key k [] e = refl
    all_of_key key k (x ∷ xs) e =
        let t : same_row same (key x.values) k ≡ true = ap (λ z. same_row same z k) (e x.values)
        ∙ same_row-refl same is k in
        rw (t, all_of_key key k xs e)

    -- rows of one key are one group
    one_group : (key : List V → List V) (A : List (Ranked V) → List V) (k : List V) (x : Ranked V)
        (xs : List (Ranked V)) → ((x : List V) → key x ≡ k)
        → group_by same key A (x ∷ xs) ≡ ranked (k ++ A (x ∷ xs)) (least (x ∷ xs)) ∷ []
    one_group key A k x xs e =
        let sr = same_row same in
        let F : List V → Ranked V =
        λ q. let ys = filter (λ x. sr (key x.values) q) (x ∷ xs) in ranked (q ++ A ys) (least ys) in
        let once : each_once sr (map (λ x. key x.values) (x ∷ xs)) ≡ k ∷ [] =
        ap (λ z. z ∷ filter (λ y. not (sr z y)) (each_once sr (map (λ x. key x.values) xs)))
        (e x.values)
        ∙ ap (λ l. k ∷ l) (none_other k (each_once sr (map (λ x. key x.values) xs))
        (Each-each_once (λ y. y ≡ k) sr (map (λ x. key x.values) xs)
        (Each-map (λ y. y ≡ k) (λ x. key x.values) xs (Each-all (λ x. key x.values ≡ k) xs
        (λ x. e x.values))))) in
        ap (map F) once
        ∙ ap (λ ys. ranked (k ++ A ys) (least ys) ∷ []) (all_of_key key k (x ∷ xs) e)

  -- Aggregates of the rows under a left row are groups by what is the same for all of them, with
  -- values in their place where there are no rows.
  pub record IsOneGroup (key : List V → List V) (A : List (Ranked V) → List V) (values : List V)
      (g : List V → List V) (l : List V) : Type 0 where
    pub first : List V
    pub same_key : (x : List V) → key x ≡ first
    pub of_group : (us : List (Ranked V)) → g (l ++ (first ++ A us)) ≡ l ++ A us
    pub of_none : g (l ++ values) ≡ l ++ A []

  module _ (same : V → V → Bool) (is : IsIdentity same) (key : List V → List V → List V)
      (A : List V → List (Ranked V) → List V) (values : List V) (g : List V → List V) where
    one_total : (l : Ranked V) (us : List (Ranked V)) → Stands l → Each Stands us
        → IsOneGroup (key l.values) (A l.values) values g l.values
        → pairs l (total (A l.values) us)
        ≡ project g (or_else (pairs l (group_by same (key l.values) (A l.values) us))
        (ranked (l.values ++ values) l.standing))
    one_total l [] s all one =
        let a = s.not_dropped in let b = s.within in
        let e : min l.standing true_rank ≡ l.standing = omega arith in
        ap (λ k. k ++ []) (kept_whole (l.values ++ A l.values []) l.standing true_rank a b
        (omega arith) (omega arith))
        ∙ ap (λ n. ranked (l.values ++ A l.values []) n ∷ []) e
        ∙ ap (λ r. ranked r l.standing ∷ []) (sym one.of_none)
    one_total l (u ∷ us) s all one =
        let a = s.not_dropped in let b = s.within in
        let t = (total_stands (A l.values) (u ∷ us) all).0 in
        let c = t.not_dropped in let d = t.within in
        let ts = u ∷ us in
        let z = ranked (l.values ++ values) l.standing in
        let m = min l.standing (least ts) in
        let B = one.first ++ A l.values ts in
        ap (λ k. k ++ []) (kept_whole (l.values ++ A l.values ts) l.standing (least ts) a b c d)
        ∙ ap (λ r. ranked r m ∷ []) (sym (one.of_group ts))
        ∙ sym (ap (λ k. project g (or_else (pairs l k) z)) (one_group same is (key l.values)
        (A l.values) one.first u us one.same_key)
        ∙ ap (λ k. project g (or_else (k ++ []) z)) (kept_whole (l.values ++ B) l.standing
        (least ts) a b c d))

    -- aggregates without GROUP BY of the right side are groups under an outer join
    pub total_above : (ls : List (Ranked V)) (T : List V → List (Ranked V)) → Each Stands ls
        → Each (λ l. Each Stands (T l.values)) ls
        → Each (λ l. IsOneGroup (key l.values) (A l.values) values g l.values) ls
        → join_loop (λ r. true_rank) ls (λ l. total (A l) (T l))
        ≡ project g (outer_loop values (λ r. true_rank) ls (λ l. group_by same (key l) (A l) (T l)))
    total_above [] T s t one = refl
    total_above (l ∷ ls) T s t one =
        let M : Ranked V → List (Ranked V) = λ l.
        or_else (pairs l (group_by same (key l.values) (A l.values) (T l.values)))
        (ranked (l.values ++ values) l.standing) in
        ap (λ k. k ++ join_loop always ls (λ l. total (A l) (T l)))
        (one_total l (T l.values) s.0 t.0 one.0)
        ∙ ap (λ k. project g (M l) ++ k) (total_above ls T s.1 t.1 one.1)
        ∙ sym (map-append (λ x. ranked (g x.values) x.standing) (M l) (outer_loop values always ls
        (λ l. group_by same (key l) (A l) (T l))))
