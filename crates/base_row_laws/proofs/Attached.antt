-- Projections out of loops, and attached columns that are read.
use Rattle.std.proofs.Common.{◌≡◌, ℕ, List, [], ◌∷◌, ◌++◌, true, false, cond, refl, sym, ◌∙◌, ap, inl, inr}
use Rattle.std.proofs.Math.Dec.{ltb}
use Rattle.std.specs.Prelude.{min, nat_lt}
use Rattle.std.specs.List.{flat_map}
use Rattle.std.proofs.lemmas.Bool.{cases_Bool}
use Rattle.std.proofs.lemmas.List.{map-append}
use Rattle.base_row_laws.specs.Ranked.{Ranked, ranked, unknown_rank}
use Rattle.base_row_laws.specs.Bags.{Each}
use Rattle.base_row_laws.specs.Rows.{keep}
use Rattle.base_row_laws.specs.Operators.{select, project, pair, or_else, join_loop, outer_loop, attach_loop}
use Rattle.base_row_laws.proofs.Nodes.{map-or_else}

module _ {V : Type 0} where
  project-append : (g : List V → List V) (xs ys : List (Ranked V)) → project g (xs ++ ys) ≡ project g xs ++ project g ys
  project-append g xs ys = map-append (λ x. ranked (g x.values) x.standing) xs ys

  project-or_else : (g : List V → List V) (zs : List (Ranked V)) (z : Ranked V) → or_else (project g zs) (ranked (g z.values) z.standing) ≡ project g (or_else zs z)
  project-or_else g zs z = map-or_else (λ x. ranked (g x.values) x.standing) zs z

  -- a row kept and projected
  keep_projected : (g : List V → List V) (r : List V) (s : ℕ) → keep (g r) s ≡ project g (keep r s)
  keep_projected g r s = elim (ltb 1 s) as (λ b. cond b (ranked (g r) s ∷ []) [] ≡ project g (cond b (ranked r s ∷ []) [])) [ true ↦ refl | false ↦ refl ]

  module _ (f g : List V → List V) (c : List V → ℕ) where
    -- the combinations under one left row, projected before and after
    abbrev before : Ranked V → List (Ranked V) → List (Ranked V)
    before l us = flat_map (λ r. pair c (λ a b. a ++ b) (ranked (f l.values) l.standing) r) us

    abbrev behind : Ranked V → List (Ranked V) → List (Ranked V)
    behind l us = flat_map (λ r. pair (λ z. c (g z)) (λ a b. a ++ b) l r) us

    combinations : (l : Ranked V) (us : List (Ranked V)) → Each (λ r. g (l.values ++ r.values) ≡ f l.values ++ r.values) us → before l us ≡ project g (behind l us)
    combinations l [] all = refl
    combinations l (u ∷ us) all =
        let z = l.values ++ u.values in
        ap (λ v. keep v (min (min l.standing u.standing) (c v)) ++ before l us) (sym all.0)
        ∙ ap (λ k. k ++ before l us) (keep_projected g z (min (min l.standing u.standing) (c (g z))))
        ∙ ap (λ k. project g (keep z (min (min l.standing u.standing) (c (g z)))) ++ k) (combinations l us all.1)
        ∙ sym (project-append g (keep z (min (min l.standing u.standing) (c (g z)))) (behind l us))

    pub project_out_of_join : (ls : List (Ranked V)) (R : List V → List (Ranked V)) → Each (λ l. Each (λ r. g (l.values ++ r.values) ≡ f l.values ++ r.values) (R (f l.values))) ls
        → join_loop c (project f ls) R ≡ project g (join_loop (λ r. c (g r)) ls (λ l. R (f l)))
    project_out_of_join [] R all = refl
    project_out_of_join (l ∷ ls) R all =
        let rest = join_loop (λ r. c (g r)) ls (λ l. R (f l)) in
        ap (λ k. k ++ join_loop c (project f ls) R) (combinations l (R (f l.values)) all.0)
        ∙ ap (λ k. project g (behind l (R (f l.values))) ++ k) (project_out_of_join ls R all.1)
        ∙ sym (project-append g (behind l (R (f l.values))) rest)

    pub project_out_of_outer : (nulls : List V) (ls : List (Ranked V)) (R : List V → List (Ranked V)) → Each (λ l. Each (λ r. g (l.values ++ r.values) ≡ f l.values ++ r.values) (R (f l.values))) ls
        → Each (λ l. g (l.values ++ nulls) ≡ f l.values ++ nulls) ls
        → outer_loop nulls c (project f ls) R ≡ project g (outer_loop nulls (λ r. c (g r)) ls (λ l. R (f l)))
    project_out_of_outer nulls [] R all filled = refl
    project_out_of_outer nulls (l ∷ ls) R all filled =
        let M = behind l (R (f l.values)) in
        let z = ranked (l.values ++ nulls) l.standing in
        let rest = outer_loop nulls (λ r. c (g r)) ls (λ l. R (f l)) in
        ap (λ k. or_else k (ranked (f l.values ++ nulls) l.standing) ++ outer_loop nulls c (project f ls) R) (combinations l (R (f l.values)) all.0)
        ∙ ap (λ v. or_else (project g M) (ranked v l.standing) ++ outer_loop nulls c (project f ls) R) (sym filled.0)
        ∙ ap (λ k. k ++ outer_loop nulls c (project f ls) R) (project-or_else g M z)
        ∙ ap (λ k. project g (or_else M z) ++ k) (project_out_of_outer nulls ls R all.1 filled.1)
        ∙ sym (project-append g (or_else M z) rest)

  pub project_out_of_attach : (value : List V → List (Ranked V) → V) (f g : List V → List V) (ls : List (Ranked V)) (R : List V → List (Ranked V))
      → Each (λ l. g (l.values ++ value (f l.values) (R (f l.values)) ∷ []) ≡ f l.values ++ value (f l.values) (R (f l.values)) ∷ []) ls
      → attach_loop value (project f ls) R ≡ project g (attach_loop (λ l us. value (f l) us) ls (λ l. R (f l)))
  project_out_of_attach value f g [] R all = refl
  project_out_of_attach value f g (l ∷ ls) R all =
      let ih = project_out_of_attach value f g ls R all.1 in
      let e = all.0 in
      rw (e, ih)

  pub select_reads_attached : (value : List V → List (Ranked V) → V) (e : List V → ℕ) (ls : List (Ranked V)) (R : List V → List (Ranked V))
      → select e (attach_loop value ls R) ≡ attach_loop value (select (λ l. e (l ++ value l (R l) ∷ [])) ls) R
  select_reads_attached value e [] R = refl
  select_reads_attached value e (l ∷ ls) R =
      let ih = select_reads_attached value e ls R in
      elim (cases_Bool (nat_lt unknown_rank (min l.standing (e (l.values ++ value l.values (R l.values) ∷ []))))) [
        | inl t ↦ rw (t, ih)
        | inr n ↦ rw (n, ih)
      ]

  pub project_reads_attached : (value : List V → List (Ranked V) → V) (g : List V → List V) (ls : List (Ranked V)) (R : List V → List (Ranked V))
      → project g (attach_loop value ls R) ≡ project (λ l. g (l ++ value l (R l) ∷ [])) ls
  project_reads_attached value g [] R = refl
  project_reads_attached value g (l ∷ ls) R = ap (λ k. ranked (g (l.values ++ value l.values (R l.values) ∷ [])) l.standing ∷ k) (project_reads_attached value g ls R)

  pub attached_read_and_dropped : (value : List V → List (Ranked V) → V) (e : List V → ℕ) (g : List V → List V) (ls : List (Ranked V)) (R : List V → List (Ranked V))
      → Each (λ l. g (l.values ++ value l.values (R l.values) ∷ []) ≡ l.values) ls
      → project g (select e (attach_loop value ls R)) ≡ select (λ l. e (l ++ value l (R l) ∷ [])) ls
  attached_read_and_dropped value e g [] R all = refl
  attached_read_and_dropped value e g (l ∷ ls) R all =
      let ih = attached_read_and_dropped value e g ls R all.1 in
      let back = all.0 in
      elim (cases_Bool (nat_lt unknown_rank (min l.standing (e (l.values ++ value l.values (R l.values) ∷ []))))) [
        | inl t ↦ rw (t, back, ih)
        | inr n ↦ rw (n, ih)
      ]
