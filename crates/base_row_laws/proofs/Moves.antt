-- Selections moved over joins, and sides exchanged.
use Rattle.std.proofs.Common.{◌≡◌, ℕ, ◌+◌, ◌≤◌, List, [], ◌∷◌, ◌++◌, true, false, refl, sym, ◌∙◌, ap, arith, inl, inr, eqb}
use Rattle.std.proofs.Math.Dec.{ltb}
use Rattle.std.specs.Prelude.{map, min, max}
use Rattle.std.specs.List.{flat_map}
use Rattle.std.proofs.lemmas.Bool.{cases_Bool, le-ltb, lt-ltb, ltb-false, ltb-true}
use Rattle.std.proofs.lemmas.List.{append_assoc, append-nil}
use Rattle.base_row_laws.specs.Ranked.{Ranked, ranked, true_rank}
use Rattle.base_row_laws.specs.Rows.{unit_row}
use Rattle.base_row_laws.specs.Bags.{when, weigh, SameBag, Each}
use Rattle.base_row_laws.specs.Operators.{select, project, cross, join, pair, or_else, join_loop, outer_loop}
use Rattle.base_row_laws.specs.MoveLaws.{OfLeft, OfRight}
use Rattle.base_row_laws.proofs.Bags.{when-zero, weigh-when, weigh-ext, weigh-map, weigh-flat_map, weigh-swap}
use Rattle.base_row_laws.proofs.Lists.{weigh-ext_each}
use Rattle.base_row_laws.proofs.Rows.{weigh-keep, weigh-select}
use Rattle.base_row_laws.proofs.Nodes.{weigh-or_else, SameBag-or_else}

-- the weight of a row where it is kept at the standing s
abbrev kept : {V : Type 0} → (Ranked V → ℕ) → List V → ℕ → ℕ
kept h r s = when (ltb 1 s) (h (ranked r s))

-- what is kept at s is kept at what s is below
kept_under : (a s n : ℕ) → s ≤ a → when (ltb 1 a) (when (ltb 1 s) n) ≡ when (ltb 1 s) n
kept_under a s n h = elim (cases_Bool (ltb 1 a)) [
  | inl t ↦ rw t
  | inr f ↦ let l = ltb-false 1 a f in let z : ltb 1 s ≡ false = le-ltb 1 s (omega arith) in rw (f, z)
]

pub select_twice : {V : Type 0} (c e : List V → ℕ) (xs : List (Ranked V)) → SameBag (select e (select c xs)) (select (λ r. min (c r) (e r)) xs)
select_twice c e xs = record {
  weighs = λ h.
      weigh-select h e (select c xs)
      ∙ weigh-select (λ x. kept h x.values (min x.standing (e x.values))) c xs
      ∙ weigh-ext (λ x. when (ltb 1 (min x.standing (c x.values))) (kept h x.values (min (min x.standing (c x.values)) (e x.values)))) (λ x. kept h x.values (min x.standing (min (c x.values) (e x.values)))) xs
      (λ x. let s = min (min x.standing (c x.values)) (e x.values) in
      kept_under (min x.standing (c x.values)) s (h (ranked x.values s)) (omega arith) ∙ ap (kept h x.values) (assoc x.standing (c x.values) (e x.values)))
      ∙ sym (weigh-select h (λ r. min (c r) (e r)) xs);
}
  where
    assoc : (a b c : ℕ) → min (min a b) c ≡ min a (min b c)
    assoc a b c = omega arith

pub select_through_project : {V : Type 0} (c : List V → ℕ) (f : List V → List V) (xs : List (Ranked V)) → SameBag (select c (project f xs)) (project f (select (λ r. c (f r)) xs))
select_through_project c f xs = record {
  weighs = λ h.
      let g : Ranked _ → Ranked _ = λ x. ranked (f x.values) x.standing in
      weigh-select h c (project f xs)
      ∙ weigh-map (λ x. kept h x.values (min x.standing (c x.values))) g xs
      ∙ sym (weigh-select (λ x. h (g x)) (λ r. c (f r)) xs)
      ∙ sym (weigh-map h g (select (λ r. c (f r)) xs));
}

module _ {V : Type 0} (h : Ranked V → ℕ) (c : List V → ℕ) where
  -- a combination's weight
  abbrev both : Ranked V → Ranked V → ℕ
  both l r = kept h (l.values ++ r.values) (min (min l.standing r.standing) (c (l.values ++ r.values)))

  weigh-pairs : (l : Ranked V) (us : List (Ranked V)) → weigh h (flat_map (λ r. pair c (λ a b. a ++ b) l r) us) ≡ weigh (both l) us
  weigh-pairs l us =
      weigh-flat_map h (λ r. pair c (λ a b. a ++ b) l r) us
      ∙ weigh-ext (λ r. weigh h (pair c (λ a b. a ++ b) l r)) (both l) us
      (λ r. weigh-keep h (l.values ++ r.values) (min (min l.standing r.standing) (c (l.values ++ r.values))))

  weigh-join_loop : (ls : List (Ranked V)) (R : List V → List (Ranked V)) → weigh h (join_loop c ls R) ≡ weigh (λ l. weigh (both l) (R l.values)) ls
  weigh-join_loop ls R =
      weigh-flat_map h (λ l. flat_map (λ r. pair c (λ a b. a ++ b) l r) (R l.values)) ls
      ∙ weigh-ext (λ l. weigh h (flat_map (λ r. pair c (λ a b. a ++ b) l r) (R l.values))) (λ l. weigh (both l) (R l.values)) ls (λ l. weigh-pairs l (R l.values))

-- the condition e of a selection above, or of the pairs under one left row
module _ {V : Type 0} (h : Ranked V → ℕ) (c e : List V → ℕ) where
  -- what the selection above weighs of a row
  abbrev above : Ranked V → ℕ
  above x = kept h x.values (min x.standing (e x.values))

  both_above : (l r : Ranked V) → both above c l r ≡ both h (λ z. min (c z) (e z)) l r
  both_above l r =
      let z = l.values ++ r.values in let s = min (min l.standing r.standing) (c z) in
      kept_under s (min s (e z)) (h (ranked z (min s (e z)))) (omega arith) ∙ ap (kept h z) (assoc (min l.standing r.standing) (c z) (e z))
    where
      assoc : (a b c : ℕ) → min (min a b) c ≡ min a (min b c)
      assoc a b c = omega arith

pub select_into_join : {V : Type 0} (c e : List V → ℕ) (ls : List (Ranked V)) (R : List V → List (Ranked V)) → SameBag (select e (join_loop c ls R)) (join_loop (λ r. min (c r) (e r)) ls R)
select_into_join c e ls R = record {
  weighs = λ h.
      weigh-select h e (join_loop c ls R)
      ∙ weigh-join_loop (above h c e) c ls R
      ∙ weigh-ext (λ l. weigh (both (above h c e) c l) (R l.values)) (λ l. weigh (both h (λ z. min (c z) (e z)) l) (R l.values)) ls
      (λ l. weigh-ext (both (above h c e) c l) (both h (λ z. min (c z) (e z)) l) (R l.values) (both_above h c e l))
      ∙ sym (weigh-join_loop h (λ z. min (c z) (e z)) ls R);
}

module _ {V : Type 0} (h : Ranked V → ℕ) (c e p : List V → ℕ) where
  -- the left row at its standing under p
  abbrev left_under : Ranked V → Ranked V
  left_under l = ranked l.values (min l.standing (p l.values))

  left_both : (l r : Ranked V) → e (l.values ++ r.values) ≡ p l.values → both h (λ z. min (c z) (e z)) l r ≡ when (ltb 1 (min l.standing (p l.values))) (both h c (left_under l) r)
  left_both l r q =
      let z = l.values ++ r.values in let s = min (min (min l.standing (p l.values)) r.standing) (c z) in
      ap (λ n. kept h z (min (min l.standing r.standing) (min (c z) n))) q
      ∙ ap (kept h z) (moved l.standing r.standing (c z) (p l.values))
      ∙ sym (kept_under (min l.standing (p l.values)) s (h (ranked z s)) (omega arith))
    where
      moved : (a b c p : ℕ) → min (min a b) (min c p) ≡ min (min (min a p) b) c
      moved a b c p = omega arith

  left_pairs : (l : Ranked V) (us : List (Ranked V)) → OfLeft e p l → weigh (both h (λ z. min (c z) (e z)) l) us ≡ when (ltb 1 (min l.standing (p l.values))) (weigh (both h c (left_under l)) us)
  left_pairs l us q =
      weigh-ext (both h (λ z. min (c z) (e z)) l) (λ r. when (ltb 1 (min l.standing (p l.values))) (both h c (left_under l) r)) us (λ r. left_both l r (q r.values))
      ∙ weigh-when (ltb 1 (min l.standing (p l.values))) (both h c (left_under l)) us

  right_pairs : (l : Ranked V) (us : List (Ranked V)) → Each (λ r. e (l.values ++ r.values) ≡ p r.values) us → weigh (both h (λ z. min (c z) (e z)) l) us ≡ weigh (both h c l) (select p us)
  right_pairs l us all =
      weigh-ext_each (λ r. e (l.values ++ r.values) ≡ p r.values) (both h (λ z. min (c z) (e z)) l) (λ r. when (ltb 1 (min r.standing (p r.values))) (both h c l (ranked r.values (min r.standing (p r.values))))) us all
      (λ r q.
      let z = l.values ++ r.values in let s = min (min l.standing (min r.standing (p r.values))) (c z) in
      ap (λ n. kept h z (min (min l.standing r.standing) (min (c z) n))) q
      ∙ ap (kept h z) (moved l.standing r.standing (c z) (p r.values))
      ∙ sym (kept_under (min r.standing (p r.values)) s (h (ranked z s)) (omega arith)))
      ∙ sym (weigh-select (both h c l) p us)
    where
      moved : (a b c p : ℕ) → min (min a b) (min c p) ≡ min (min a (min b p)) c
      moved a b c p = omega arith

module _ {V : Type 0} (c e p : List V → ℕ) (ls : List (Ranked V)) (R : List V → List (Ranked V)) where
  pub select_below_left : Each (OfLeft e p) ls → SameBag (select e (join_loop c ls R)) (join_loop c (select p ls) R)
  select_below_left all = record {
    weighs = λ h.
        (select_into_join c e ls R).weighs h
        ∙ weigh-join_loop h (λ z. min (c z) (e z)) ls R
        ∙ weigh-ext_each (OfLeft e p) (λ l. weigh (both h (λ z. min (c z) (e z)) l) (R l.values)) (λ l. when (ltb 1 (min l.standing (p l.values))) (weigh (both h c (left_under h c e p l)) (R l.values))) ls all
        (λ l q. left_pairs h c e p l (R l.values) q)
        ∙ sym (weigh-select (λ l. weigh (both h c l) (R l.values)) p ls)
        ∙ sym (weigh-join_loop h c (select p ls) R);
  }

  pub select_below_right : Each (OfRight e p R) ls → SameBag (select e (join_loop c ls R)) (join_loop c ls (λ l. select p (R l)))
  select_below_right all = record {
    weighs = λ h.
        (select_into_join c e ls R).weighs h
        ∙ weigh-join_loop h (λ z. min (c z) (e z)) ls R
        ∙ weigh-ext_each (OfRight e p R) (λ l. weigh (both h (λ z. min (c z) (e z)) l) (R l.values)) (λ l. weigh (both h c l) (select p (R l.values))) ls all
        (λ l q. right_pairs h c e p l (R l.values) q)
        ∙ sym (weigh-join_loop h c ls (λ l. select p (R l)));
  }

  -- an ON condition on the right side is a selection of the right side
  pub on_below_right : (nulls : List V) → Each (OfRight e p R) ls → SameBag (outer_loop nulls (λ z. min (c z) (e z)) ls R) (outer_loop nulls c ls (λ l. select p (R l)))
  on_below_right nulls all = record {
    weighs = λ h.
        let z : Ranked V → Ranked V = λ l. ranked (l.values ++ nulls) l.standing in
        let M : Ranked V → List (Ranked V) = λ l. flat_map (λ r. pair (λ z. min (c z) (e z)) (λ a b. a ++ b) l r) (R l.values) in
        let N : Ranked V → List (Ranked V) = λ l. flat_map (λ r. pair c (λ a b. a ++ b) l r) (select p (R l.values)) in
        weigh-flat_map h (λ l. or_else (M l) (z l)) ls
        ∙ weigh-ext_each (OfRight e p R) (λ l. weigh h (or_else (M l) (z l))) (λ l. weigh h (or_else (N l) (z l))) ls all
        (λ l q. (SameBag-or_else (M l) (N l) (z l) (record { weighs = λ g. weigh-pairs g (λ z. min (c z) (e z)) l (R l.values) ∙ right_pairs g c e p l (R l.values) q ∙ sym (weigh-pairs g c l (select p (R l.values))) })).weighs h)
        ∙ sym (weigh-flat_map h (λ l. or_else (N l) (z l)) ls);
  }

-- the same test of both, where the left row's standing under p is above Unknown
still : (a b c p : ℕ) → ltb 1 (min a p) ≡ true → ltb 1 (min (min a b) c) ≡ ltb 1 (min (min (min a p) b) c)
still a b c p t =
    let k = ltb-true 1 (min a p) t in
    elim (cases_Bool (ltb 1 (min (min a b) c))) [
      | inl y ↦ let l = ltb-true 1 (min (min a b) c) y in y ∙ sym (lt-ltb 1 (min (min (min a p) b) c) (omega arith))
      | inr n ↦ let l = ltb-false 1 (min (min a b) c) n in n ∙ sym (le-ltb 1 (min (min (min a p) b) c) (omega arith))
    ]

module _ {V : Type 0} (c e p : List V → ℕ) (nulls : List V) where
  outer_row : (h : Ranked V → ℕ) (l : Ranked V) (us : List (Ranked V)) → OfLeft e p l
      → weigh (above h c e) (or_else (flat_map (λ r. pair c (λ a b. a ++ b) l r) us) (ranked (l.values ++ nulls) l.standing))
      ≡ when (ltb 1 (min l.standing (p l.values))) (weigh h (or_else (flat_map (λ r. pair c (λ a b. a ++ b) (left_under h c e p l) r) us) (ranked (l.values ++ nulls) (min l.standing (p l.values)))))
  outer_row h l us q =
      let B = ltb 1 (min l.standing (p l.values)) in
      let H = above h c e in
      let k : Ranked V = left_under h c e p l in
      let M = flat_map (λ r. pair c (λ a b. a ++ b) l r) us in
      let N = flat_map (λ r. pair c (λ a b. a ++ b) k r) us in
      let z = ranked (l.values ++ nulls) l.standing in
      let y = ranked (l.values ++ nulls) (min l.standing (p l.values)) in
      let pairs : weigh H M ≡ when B (weigh h N) =
      weigh-pairs H c l us ∙ weigh-ext (both H c l) (both h (λ z. min (c z) (e z)) l) us (both_above h c e l) ∙ left_pairs h c e p l us q ∙ ap (when B) (sym (weigh-pairs h c k us)) in
      let one : H z ≡ when B (h y) = ap (λ n. kept h (l.values ++ nulls) (min l.standing n)) (q nulls) in
      elim (cases_Bool B) [
        | inl t ↦
            let same_number : weigh (λ x. 1) M ≡ weigh (λ x. 1) N =
            weigh-pairs (λ x. 1) c l us
            ∙ weigh-ext (both (λ x. 1) c l) (both (λ x. 1) c k) us (λ r. ap (λ b. when b 1) (still l.standing r.standing (c (l.values ++ r.values)) (p l.values) t))
            ∙ sym (weigh-pairs (λ x. 1) c k us) in
            weigh-or_else H M z ∙ ap (λ n. n + when (eqb (weigh (λ x. 1) M) 0) (H z)) (pairs ∙ ap (λ b. when b (weigh h N)) t)
            ∙ ap (λ n. weigh h N + when (eqb (weigh (λ x. 1) M) 0) n) (one ∙ ap (λ b. when b (h y)) t)
            ∙ ap (λ n. weigh h N + when (eqb n 0) (h y)) same_number
            ∙ sym (weigh-or_else h N y) ∙ sym (ap (λ b. when b (weigh h (or_else N y))) t)
        | inr f ↦
            weigh-or_else H M z ∙ ap (λ n. n + when (eqb (weigh (λ x. 1) M) 0) (H z)) (pairs ∙ ap (λ b. when b (weigh h N)) f)
            ∙ ap (λ n. 0 + when (eqb (weigh (λ x. 1) M) 0) n) (one ∙ ap (λ b. when b (h y)) f)
            ∙ ap (λ n. 0 + n) (when-zero (eqb (weigh (λ x. 1) M) 0))
            ∙ sym (ap (λ b. when b (weigh h (or_else N y))) f)
      ]

  pub select_below_outer : (ls : List (Ranked V)) (R : List V → List (Ranked V)) → Each (OfLeft e p) ls → SameBag (select e (outer_loop nulls c ls R)) (outer_loop nulls c (select p ls) R)
  select_below_outer ls R all = record {
    weighs = λ h.
        let row : Ranked V → List (Ranked V) = λ l. or_else (flat_map (λ r. pair c (λ a b. a ++ b) l r) (R l.values)) (ranked (l.values ++ nulls) l.standing) in
        weigh-select h e (outer_loop nulls c ls R)
        ∙ weigh-flat_map (above h c e) row ls
        ∙ weigh-ext_each (OfLeft e p) (λ l. weigh (above h c e) (row l)) (λ l. when (ltb 1 (min l.standing (p l.values))) (weigh h (row (left_under h c e p l)))) ls all
        (λ l q. outer_row h l (R l.values) q)
        ∙ sym (weigh-select (λ l. weigh h (row l)) p ls)
        ∙ sym (weigh-flat_map h row (select p ls));
  }

-- sides
lesser_comm : (a b : ℕ) → min a b ≡ min b a
lesser_comm a b = omega arith

module _ {V : Type 0} where
  pub weigh-cross : (h : Ranked V → ℕ) (xs ys : List (Ranked V)) → weigh h (cross xs ys) ≡ weigh (λ x. weigh (λ y. h (ranked (x.values ++ y.values) (min x.standing y.standing))) ys) xs
  weigh-cross h xs ys =
      weigh-flat_map h (λ x. map (λ y. ranked (x.values ++ y.values) (min x.standing y.standing)) ys) xs
      ∙ weigh-ext (λ x. weigh h (map (λ y. ranked (x.values ++ y.values) (min x.standing y.standing)) ys)) (λ x. weigh (λ y. h (ranked (x.values ++ y.values) (min x.standing y.standing))) ys) xs
      (λ x. weigh-map h (λ y. ranked (x.values ++ y.values) (min x.standing y.standing)) ys)

  pub join_is_selected_cross : (c : List V → ℕ) (xs ys : List (Ranked V)) → SameBag (join c xs ys) (select c (cross xs ys))
  join_is_selected_cross c xs ys = record {
    weighs = λ h.
        weigh-join_loop h c xs (λ l. ys)
        ∙ sym (weigh-cross (λ z. kept h z.values (min z.standing (c z.values))) xs ys)
        ∙ sym (weigh-select h c (cross xs ys));
  }

  -- f puts the columns of the exchanged sides back
  pub sides_exchanged : (f : List V → List V) (xs ys : List (Ranked V)) → Each (λ x. Each (λ y. f (y.values ++ x.values) ≡ x.values ++ y.values) ys) xs → SameBag (cross xs ys) (project f (cross ys xs))
  sides_exchanged f xs ys all = record {
    weighs = λ h.
        let at : Ranked V → Ranked V → ℕ = λ x y. h (ranked (f (y.values ++ x.values)) (min y.standing x.standing)) in
        weigh-cross h xs ys
        ∙ weigh-ext_each (λ x. Each (λ y. f (y.values ++ x.values) ≡ x.values ++ y.values) ys) (λ x. weigh (λ y. h (ranked (x.values ++ y.values) (min x.standing y.standing))) ys) (λ x. weigh (at x) ys) xs all
        (λ x q. weigh-ext_each (λ y. f (y.values ++ x.values) ≡ x.values ++ y.values) (λ y. h (ranked (x.values ++ y.values) (min x.standing y.standing))) (at x) ys q
        (λ y e. ap (λ r. h (ranked r (min x.standing y.standing))) (sym e) ∙ ap (λ s. h (ranked (f (y.values ++ x.values)) s)) (lesser_comm x.standing y.standing)))
        ∙ weigh-swap at xs ys
        ∙ sym (weigh-cross (λ z. h (ranked (f z.values) z.standing)) ys xs)
        ∙ sym (weigh-map h (λ z. ranked (f z.values) z.standing) (cross ys xs));
  }

  -- the last two of three sides
  pub last_sides_exchanged : (f : List V → List V) (ps xs ys : List (Ranked V)) → Each (λ p. Each (λ x. Each (λ y. f ((p.values ++ y.values) ++ x.values) ≡ (p.values ++ x.values) ++ y.values) ys) xs) ps
      → SameBag (cross (cross ps xs) ys) (project f (cross (cross ps ys) xs))
  last_sides_exchanged f ps xs ys all = record {
    weighs = λ h.
        let put : Ranked V → Ranked V → Ranked V → ℕ = λ p x y. h (ranked ((p.values ++ x.values) ++ y.values) (min (min p.standing x.standing) y.standing)) in
        let at : Ranked V → Ranked V → Ranked V → ℕ = λ p x y. h (ranked (f ((p.values ++ y.values) ++ x.values)) (min (min p.standing y.standing) x.standing)) in
        let P : Ranked V → Ranked V → Ranked V → Type 0 = λ p x y. f ((p.values ++ y.values) ++ x.values) ≡ (p.values ++ x.values) ++ y.values in
        weigh-cross h (cross ps xs) ys
        ∙ weigh-cross (λ z. weigh (λ y. h (ranked (z.values ++ y.values) (min z.standing y.standing))) ys) ps xs
        ∙ weigh-ext_each (λ p. Each (λ x. Each (P p x) ys) xs) (λ p. weigh (λ x. weigh (put p x) ys) xs) (λ p. weigh (λ y. weigh (λ x. at p x y) xs) ys) ps all
        (λ p q.
        weigh-ext_each (λ x. Each (P p x) ys) (λ x. weigh (put p x) ys) (λ x. weigh (at p x) ys) xs q
        (λ x r. weigh-ext_each (P p x) (put p x) (at p x) ys r
        (λ y e. ap (λ v. h (ranked v (min (min p.standing x.standing) y.standing))) (sym e) ∙ ap (λ s. h (ranked (f ((p.values ++ y.values) ++ x.values)) s)) (turned p.standing x.standing y.standing)))
        ∙ weigh-swap (at p) xs ys)
        ∙ sym (weigh-cross (λ z. weigh (λ x. h (ranked (f (z.values ++ x.values)) (min z.standing x.standing))) xs) ps ys)
        ∙ sym (weigh-cross (λ z. h (ranked (f z.values) z.standing)) (cross ps ys) xs)
        ∙ sym (weigh-map h (λ z. ranked (f z.values) z.standing) (cross (cross ps ys) xs));
  }
    where
      turned : (a b c : ℕ) → min (min a b) c ≡ min (min a c) b
      turned a b c = omega arith

-- the row that FROM begins with
pub cross_unit : {V : Type 0} (xs : List (Ranked V)) → Each (λ x. x.standing ≤ true_rank) xs → cross unit_row xs ≡ xs
cross_unit {V} xs all = append-nil (map (λ y. ranked ([] ++ y.values) (min true_rank y.standing)) xs) ∙ go xs all
  where
    go : (xs : List (Ranked V)) → Each (λ x. x.standing ≤ true_rank) xs → map (λ y. ranked ([] ++ y.values) (min true_rank y.standing)) xs ≡ xs
    go [] all = refl
    go (x ∷ xs) all = let a = all.0 in let e : min true_rank x.standing ≡ x.standing = omega arith in rw (e, go xs all.1)

-- three sides, however they are bracketed
pub cross_assoc : {V : Type 0} (xs ys zs : List (Ranked V)) → SameBag (cross (cross xs ys) zs) (cross xs (cross ys zs))
cross_assoc {V} xs ys zs = record {
  weighs = λ h.
      let left : Ranked V → Ranked V → Ranked V → ℕ = λ x y z. h (ranked ((x.values ++ y.values) ++ z.values) (min (min x.standing y.standing) z.standing)) in
      let right : Ranked V → Ranked V → Ranked V → ℕ = λ x y z. h (ranked (x.values ++ (y.values ++ z.values)) (min x.standing (min y.standing z.standing))) in
      weigh-cross h (cross xs ys) zs
      ∙ weigh-cross (λ p. weigh (λ z. h (ranked (p.values ++ z.values) (min p.standing z.standing))) zs) xs ys
      ∙ weigh-ext (λ x. weigh (λ y. weigh (left x y) zs) ys) (λ x. weigh (λ y. weigh (right x y) zs) ys) xs
      (λ x. weigh-ext (λ y. weigh (left x y) zs) (λ y. weigh (right x y) zs) ys
      (λ y. weigh-ext (left x y) (right x y) zs
      (λ z. ap (λ v. h (ranked v (min (min x.standing y.standing) z.standing))) (append_assoc x.values y.values z.values)
      ∙ ap (λ s. h (ranked (x.values ++ (y.values ++ z.values)) s)) (assoc x.standing y.standing z.standing))))
      ∙ weigh-ext (λ x. weigh (λ y. weigh (right x y) zs) ys) (λ x. weigh (λ q. h (ranked (x.values ++ q.values) (min x.standing q.standing))) (cross ys zs)) xs
      (λ x. sym (weigh-cross (λ q. h (ranked (x.values ++ q.values) (min x.standing q.standing))) ys zs))
      ∙ sym (weigh-cross h xs (cross ys zs));
}
  where
    assoc : (a b c : ℕ) → min (min a b) c ≡ min a (min b c)
    assoc a b c = omega arith

-- the chain
pub and_over_or : (a b c : ℕ) → (min a (max b c) ≡ max (min a b) (min a c)) × (max a (min b c) ≡ min (max a b) (max a c))
and_over_or a b c = (omega arith, omega arith)
