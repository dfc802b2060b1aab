-- A right side that needs no domain.
use Rattle.std.proofs.Common.{◌≡◌, ℕ, ◌≤◌, List, ◌++◌, Bool, false, sym, ◌∙◌, ap, subst, arith, inl, inr, length, take, ⊎_elim}
use Rattle.std.proofs.Math.Dec.{ltb}
use Rattle.std.specs.Prelude.{min, slice_index_or}
use Rattle.std.proofs.lemmas.Bool.{cases_Bool, le-ltb}
use Rattle.std.proofs.lemmas.List.{length-append, length-map}
use Rattle.base_row_laws.specs.Ranked.{Ranked, ranked}
use Rattle.base_row_laws.specs.Bags.{when, IsIdentity, Each}
use Rattle.base_row_laws.specs.Rows.{same_row, starts, after, columns, keep}
use Rattle.base_row_laws.specs.Operators.{select, project}
use Rattle.base_row_laws.specs.Domains.{IsDomain, Meets, Answers}
use Rattle.base_row_laws.specs.LoopLaws.{local_node, Equates}
use Rattle.base_row_laws.proofs.Bags.{when-zero, weigh-map}
use Rattle.base_row_laws.proofs.Lists.{weigh-ext_each, Each-map, Each-all, Each-flat_map, Each-weaker, Each-both}
use Rattle.base_row_laws.proofs.Rows.{same_row_is, starts-wide, starts_same, take-append, weigh-select, Each-keep, Meets-from}

module _ {V : Type 0} (same : V → V → Bool) (is : IsIdentity same) where
  pub local_meets : (null : V) (bs : List ℕ) (whole c : List V → ℕ) (equal : List V → List V → ℕ) (d : List V) (ts : List (Ranked V)) → length bs ≡ length d → Each (λ t. Equates same equal whole d (columns null bs t.values)) ts
      → Meets same d (local_node null bs (length d) whole c ts) (select (λ t. min (equal d (columns null bs t)) (c (d ++ t))) ts)
  local_meets null bs whole c equal d ts n all =
      let g : List V → ℕ = λ r. min (whole (take (length d) r)) (c r) in
      let w : List V → List V = λ t. columns null bs t ++ t in
      let eq : List V → ℕ = λ t. min (equal d (columns null bs t)) (c (d ++ t)) in
      let wide : (t : List V) → length (columns null bs t) ≡ length d = λ t. length-map bs (λ c. slice_index_or t c null) ∙ n in
      let W : Ranked V → Type 0 = λ x. length d ≤ length x.values in
      Meets-from same is d (local_node null bs (length d) whole c ts) (select eq ts)
      (Each-flat_map W W (λ x. keep x.values (min x.standing (g x.values))) (project w ts)
      (Each-map W (λ t. ranked (w t.values) t.standing) ts (Each-all (λ t. length d ≤ length (w t.values)) ts (λ t. let a = wide t.values in let b = length-append (columns null bs t.values) t.values in omega (arith, a, b))))
      (λ x u. Each-keep W x.values (min x.standing (g x.values)) u))
      (λ h.
      let k : List V → ℕ → ℕ = λ r s. when (ltb 1 s) (h (ranked r s)) in
      weigh-select (λ x. when (starts same d x.values) (h x)) g (project w ts)
      ∙ weigh-map (λ x. when (ltb 1 (min x.standing (g x.values))) (when (starts same d x.values) (h (ranked x.values (min x.standing (g x.values)))))) (λ t. ranked (w t.values) t.standing) ts
      ∙ weigh-ext_each (λ t. Equates same equal whole d (columns null bs t.values))
      (λ t. when (ltb 1 (min t.standing (g (w t.values)))) (when (starts same d (w t.values)) (h (ranked (w t.values) (min t.standing (g (w t.values)))))))
      (λ t. k (d ++ t.values) (min t.standing (eq t.values))) ts all
      (λ t q.
      let v = columns null bs t.values in let a = wide t.values in
      let begins : starts same d (v ++ t.values) ≡ same_row same d v = starts-wide same is d v t.values (omega (arith, a)) ∙ starts_same same is d v a in
      elim (cases_Bool (same_row same d v)) [
        | inl y ↦
            let e : v ≡ d = sym ((same_row_is same is).tells d v y) in
            let head : take (length d) (v ++ t.values) ≡ v = ap (λ z. take (length d) (z ++ t.values)) e ∙ take-append d t.values ∙ sym e in
            ⊎_elim
            (λ (f : equal d v ≡ whole v). rw (begins, y, f) (ap (λ z. k (z ++ t.values) (min t.standing (min (whole (take (length d) (z ++ t.values))) (c (z ++ t.values))))) e
            ∙ ap (λ z. k (d ++ t.values) (min t.standing (min (whole z) (c (d ++ t.values))))) (take-append d t.values ∙ sym e)))
            (λ (f : (equal d v ≤ 1) × (whole v ≤ 1)).
            let here : whole (take (length d) (v ++ t.values)) ≤ 1 = rw head f.1 in
            let l : ltb 1 (min t.standing (g (w t.values))) ≡ false = le-ltb 1 (min t.standing (g (w t.values))) (omega arith) in
            let r : ltb 1 (min t.standing (eq t.values)) ≡ false = le-ltb 1 (min t.standing (eq t.values)) (let z = f.0 in omega arith) in
            ap (λ b. when b (when (starts same d (v ++ t.values)) (h (ranked (v ++ t.values) (min t.standing (g (w t.values))))))) l
            ∙ sym (ap (λ b. when b (h (ranked (d ++ t.values) (min t.standing (eq t.values))))) r))
            (q.where_same y)
        | inr f ↦
            let low = q.elsewhere f in
            let z : ltb 1 (min t.standing (eq t.values)) ≡ false = le-ltb 1 (min t.standing (eq t.values)) (omega arith) in
            rw (begins, f, z) (when-zero (ltb 1 (min t.standing (g (w t.values)))))
      ])
      ∙ sym (weigh-select (λ t. h (after d t)) eq ts))

  -- for each row of a domain
  pub local_answers : (null : V) (bs : List ℕ) (whole c : List V → ℕ) (equal : List V → List V → ℕ) (n : ℕ) (ds ts : List (Ranked V)) → IsDomain same n ds → length bs ≡ n
      → Each (λ e. Each (λ t. Equates same equal whole e.values (columns null bs t.values)) ts) ds
      → Answers same ds (local_node null bs n whole c ts) (λ d. select (λ t. min (equal d (columns null bs t)) (c (d ++ t))) ts)
  local_answers null bs whole c equal n ds ts dom m all =
      Each-weaker (λ e. (length e.values ≡ n) × Each (λ t. Equates same equal whole e.values (columns null bs t.values)) ts)
      (λ e. Meets same e.values (local_node null bs n whole c ts) (select (λ t. min (equal e.values (columns null bs t)) (c (e.values ++ t))) ts)) ds
      (λ e q. subst (λ k. Meets same e.values (local_node null bs k whole c ts) (select (λ t. min (equal e.values (columns null bs t)) (c (e.values ++ t))) ts)) q.0
      (local_meets null bs whole c equal e.values ts (m ∙ sym q.0) q.1))
      (Each-both (λ e. length e.values ≡ n) (λ e. Each (λ t. Equates same equal whole e.values (columns null bs t.values)) ts) ds dom.widths all)
