-- Equal on the rows at hand.
use Rattle.std.proofs.Common.{◌≡◌, ℕ, List, [], ◌∷◌, ◌++◌, Bool, refl, ◌∙◌, ap, inl, inr}
use Rattle.std.specs.Prelude.{map, min, nat_lt}
use Rattle.std.specs.List.{filter, flat_map}
use Rattle.std.proofs.lemmas.Bool.{cases_Bool}
use Rattle.base_row_laws.specs.Ranked.{Ranked, ranked, unknown_rank, true_rank}
use Rattle.base_row_laws.specs.Bags.{Each, each_once, top}
use Rattle.base_row_laws.specs.Rows.{same_row}
use Rattle.base_row_laws.specs.Operators.{select, project, pair, mark_of, join_loop, outer_loop, attach_loop, group_by, domain_node, least}
use Rattle.base_row_laws.specs.MoveLaws.{OfLeft}
use Rattle.base_row_laws.specs.AtHandLaws.{SameOfPairs}
use Rattle.base_row_laws.proofs.Lists.{filter-ext_each, map-ext, map-ext_each}

module _ {V : Type 0} where
  pub select_at_hand : (c e : List V → ℕ) (xs : List (Ranked V)) → Each (λ x. c x.values ≡ e x.values) xs → select c xs ≡ select e xs
  select_at_hand c e [] all = refl
  select_at_hand c e (x ∷ xs) all = let ih = select_at_hand c e xs all.1 in let h = all.0 in rw (h, ih)

  pub project_at_hand : (f g : List V → List V) (xs : List (Ranked V)) → Each (λ x. f x.values ≡ g x.values) xs → project f xs ≡ project g xs
  project_at_hand f g [] all = refl
  project_at_hand f g (x ∷ xs) all = let ih = project_at_hand f g xs all.1 in let h = all.0 in rw (h, ih)

  -- the combinations under one left row
  pairs_at_hand : (c e : List V → ℕ) (l : Ranked V) (us : List (Ranked V)) → Each (λ r. c (l.values ++ r.values) ≡ e (l.values ++ r.values)) us
      → flat_map (λ r. pair c (λ a b. a ++ b) l r) us ≡ flat_map (λ r. pair e (λ a b. a ++ b) l r) us
  pairs_at_hand c e l [] all = refl
  pairs_at_hand c e l (u ∷ us) all = let ih = pairs_at_hand c e l us all.1 in let h = all.0 in rw (h, ih)

  pub join_at_hand : (c e : List V → ℕ) (ls : List (Ranked V)) (R : List V → List (Ranked V)) → SameOfPairs c e ls R → join_loop c ls R ≡ join_loop e ls R
  join_at_hand c e [] R all = refl
  join_at_hand c e (l ∷ ls) R all = let ih = join_at_hand c e ls R all.1 in let h = pairs_at_hand c e l (R l.values) all.0 in rw (h, ih)

  pub outer_at_hand : (nulls : List V) (c e : List V → ℕ) (ls : List (Ranked V)) (R : List V → List (Ranked V)) → SameOfPairs c e ls R → outer_loop nulls c ls R ≡ outer_loop nulls e ls R
  outer_at_hand nulls c e [] R all = refl
  outer_at_hand nulls c e (l ∷ ls) R all = let ih = outer_at_hand nulls c e ls R all.1 in let h = pairs_at_hand c e l (R l.values) all.0 in rw (h, ih)

  tops_at_hand : (c e : List V → ℕ) (l : Ranked V) (us : List (Ranked V)) → Each (λ r. c (l.values ++ r.values) ≡ e (l.values ++ r.values)) us
      → top (λ u. min u.standing (c (l.values ++ u.values))) us ≡ top (λ u. min u.standing (e (l.values ++ u.values))) us
  tops_at_hand c e l [] all = refl
  tops_at_hand c e l (u ∷ us) all = let ih = tops_at_hand c e l us all.1 in let h = all.0 in rw (h, ih)

  pub mark_at_hand : (write : ℕ → V) (c e : List V → ℕ) (ls : List (Ranked V)) (R : List V → List (Ranked V)) → SameOfPairs c e ls R
      → attach_loop (mark_of write c) ls R ≡ attach_loop (mark_of write e) ls R
  mark_at_hand write c e [] R all = refl
  mark_at_hand write c e (l ∷ ls) R all = let ih = mark_at_hand write c e ls R all.1 in let h = tops_at_hand c e l (R l.values) all.0 in rw (h, ih)

  pub attach_at_hand : (value worth : List V → List (Ranked V) → V) (ls : List (Ranked V)) (R S : List V → List (Ranked V)) → Each (λ l. value l.values (R l.values) ≡ worth l.values (S l.values)) ls
      → attach_loop value ls R ≡ attach_loop worth ls S
  attach_at_hand value worth [] R S all = refl
  attach_at_hand value worth (l ∷ ls) R S all = let ih = attach_at_hand value worth ls R S all.1 in let h = all.0 in rw (h, ih)

  -- a selection that doesn't read the attached column
  pub select_below_attach : (value : List V → List (Ranked V) → V) (e p : List V → ℕ) (ls : List (Ranked V)) (R : List V → List (Ranked V)) → Each (OfLeft e p) ls
      → select e (attach_loop value ls R) ≡ attach_loop value (select p ls) R
  select_below_attach value e p [] R all = refl
  select_below_attach value e p (l ∷ ls) R all =
      let ih = select_below_attach value e p ls R all.1 in
      let here = all.0 (value l.values (R l.values) ∷ []) in
      elim (cases_Bool (nat_lt unknown_rank (min l.standing (p l.values)))) [
        | inl t ↦ rw (here, t, ih)
        | inr f ↦ rw (here, f, ih)
      ]

  -- groups and domains
  module _ (same : V → V → Bool) where
    pub group_at_hand : (key like : List V → List V) (aggregates worth : List (Ranked V) → List V) (xs : List (Ranked V))
        → Each (λ x. key x.values ≡ like x.values) xs → ((p : Ranked V → Bool) → aggregates (filter p xs) ≡ worth (filter p xs))
        → group_by same key aggregates xs ≡ group_by same like worth xs
    group_at_hand key like aggregates worth xs all values =
        let P : Ranked V → Type 0 = λ x. key x.values ≡ like x.values in
        let K : Ranked V → List V = λ x. key x.values in
        let M : Ranked V → List V = λ x. like x.values in
        let old : List V → List (Ranked V) = λ k. filter (λ x. same_row same (K x) k) xs in
        let new : List V → List (Ranked V) = λ k. filter (λ x. same_row same (M x) k) xs in
        map-ext (λ k. ranked (k ++ aggregates (old k)) (least (old k))) (λ k. ranked (k ++ worth (new k)) (least (new k))) (each_once (same_row same) (map K xs))
        (λ k.
        ap (λ v. ranked (k ++ v) (least (old k))) (values (λ x. same_row same (K x) k))
        ∙ ap (λ ys. ranked (k ++ worth ys) (least ys))
        (filter-ext_each P (λ x. same_row same (K x) k) (λ x. same_row same (M x) k) xs all (λ x e. ap (λ v. same_row same v k) e)))
        ∙ ap (λ l. map (λ k. ranked (k ++ worth (new k)) (least (new k))) (each_once (same_row same) l)) (map-ext_each P K M xs all (λ x e. e))

    pub domain_at_hand : (pick like : List V → List V) (xs : List (Ranked V)) → Each (λ x. pick x.values ≡ like x.values) xs → domain_node same pick xs ≡ domain_node same like xs
    domain_at_hand pick like xs all =
        ap (λ l. map (λ k. ranked k true_rank) (each_once (same_row same) l))
        (map-ext_each (λ x. pick x.values ≡ like x.values) (λ x. pick x.values) (λ x. like x.values) xs all (λ x e. e))
