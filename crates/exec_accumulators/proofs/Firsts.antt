-- The first of values by an order, of two lists one after the other.
use Rattle.std.proofs.Common.{◌≡◌, ℕ, List, [], ◌∷◌, ◌++◌, Bool, true, false, cond, refl, sym, ◌∙◌, ap, inl, inr}
use Rattle.std.specs.Prelude.{not, min}
use Rattle.std.proofs.lemmas.Bool.{cases_Bool, true≢false}
use Rattle.std.proofs.lemmas.List.{append-nil}
use Rattle.base_row_laws.specs.Bags.{Each}
use Rattle.base_row_laws.specs.Aggregates.{IsOrder, first, first_of}
use Rattle.base_row_laws.proofs.Lists.{Each-weaker, Each-filter_true}
use Rattle.base_row_laws.proofs.Values.{first_comm, first_exchange, turned_round}
use Rattle.base_value.specs.declared.value.Value.{Value}
use Rattle.base_value.specs.declared.value.Value.TheVariants.{Null, Fault as Failed, Number, Text, Date}
use Rattle.expr_aggregates.specs.Values.{written, value_rank, is_null, is_before}
use Rattle.expr_aggregates.proofs.Orders.{before_order}
use Rattle.exec_accumulators.specs.Accumulators.{present, least_fault_rank, extreme_order, first_value, Compared}
use Rattle.exec_accumulators.proofs.Joins.{present-append, least_put, least-append}

pub extreme_is_order : (is_greatest : Bool) → IsOrder (extreme_order is_greatest)
extreme_is_order true = turned_round is_before before_order
extreme_is_order false = before_order

module _ {X : Type 0} (before : X → X → Bool) (order : IsOrder before) (n : X) where
  first_assoc : (x y z : X) → first before x (first before y z) ≡ first before (first before x y) z
  first_assoc x y z =
      ap (first before x) (first_comm before order y z) ∙ first_exchange before order x z y ∙ first_comm before order z (first before x y)

  pub first-append : (x : X) (xs : List X) (y : X) (ys : List X) → first_of before n ((x ∷ xs) ++ y ∷ ys) ≡ first before (first_of before n (x ∷ xs)) (first_of before n (y ∷ ys))
  first-append x [] y ys = refl
  first-append x (z ∷ zs) y ys =
      ap (first before x) (first-append z zs y ys) ∙ first_assoc x (first_of before n (z ∷ zs)) (first_of before n (y ∷ ys))

abbrev NotNull : Value → Type 0
NotNull v = is_null v ≡ false

not_false : (b : Bool) → not b ≡ true → b ≡ false
not_false true e = absurd (true≢false (sym e))
not_false false e = refl

present_each : (vs : List Value) → Each NotNull (present vs)
present_each vs = Each-weaker (λ v. not (is_null v) ≡ true) NotNull (present vs) (λ v e. not_false (is_null v) e) (Each-filter_true (λ v. not (is_null v)) vs)

module _ (g : Bool) where
  abbrev o : Value → Value → Bool
  o = extreme_order g

  abbrev P : List Value → Value
  P us = first_value g us

  chosen : (u : Value) (us : List Value) → Each NotNull (u ∷ us) → is_null (P (u ∷ us)) ≡ false
  chosen u [] all = all.0
  chosen u (v ∷ vs) all =
      let rest = chosen v vs all.1 in
      elim (cases_Bool (o u (P (v ∷ vs)))) [ inl t ↦ rw t all.0 | inr f ↦ rw f rest ]

  alone : (v : Value) → is_null v ≡ false → present (v ∷ []) ≡ v ∷ []
  alone v e = rw e refl

  picked : (us : List Value) → Each NotNull us → P (present (P us ∷ [])) ≡ P us
  picked [] all = refl
  picked (u ∷ us) all = ap P (alone (P (u ∷ us)) (chosen u us all))

  -- the first of the firsts is the first of all
  pub of_firsts : (us ws : List Value) → Each NotNull us → Each NotNull ws → P (present (P us ∷ []) ++ present (P ws ∷ [])) ≡ P (us ++ ws)
  of_firsts [] ws a b = picked ws b
  of_firsts (u ∷ us) [] a b =
      ap P (append-nil (present (P (u ∷ us) ∷ []))) ∙ picked (u ∷ us) a ∙ ap P (sym (append-nil (u ∷ us)))
  of_firsts (u ∷ us) (w ∷ ws) a b =
      ap (λ l. P (l ++ present (P (w ∷ ws) ∷ []))) (alone (P (u ∷ us)) (chosen u us a))
      ∙ ap (λ l. P (P (u ∷ us) ∷ l)) (alone (P (w ∷ ws)) (chosen w ws b))
      ∙ sym (first-append o (extreme_is_order g) (written 1) u us w ws)

  -- of two values
  pub second_null : (b v : Value) → is_null v ≡ true → P (present (b ∷ []) ++ present (v ∷ [])) ≡ b
  second_null b v e = ap (λ l. P (present (b ∷ []) ++ l)) (gone v e) ∙ ap P (append-nil (present (b ∷ []))) ∙ one b (is_null b) refl
    where
      gone : (v : Value) → is_null v ≡ true → present (v ∷ []) ≡ []
      gone v e = rw e refl

      one : (b : Value) (t : Bool) → is_null b ≡ t → P (present (b ∷ [])) ≡ b
      one Null t e = refl
      one (Failed f) t e = refl
      one (Number s c) t e = refl
      one (Text x) t e = refl
      one (Date d) t e = refl

  pub first_null : (b v : Value) → is_null b ≡ true → is_null v ≡ false → P (present (b ∷ []) ++ present (v ∷ [])) ≡ v
  first_null b v e f = ap (λ l. P (l ++ present (v ∷ []))) (gone b e) ∙ ap P (alone v f)
    where
      gone : (v : Value) → is_null v ≡ true → present (v ∷ []) ≡ []
      gone v e = rw e refl

  pub neither_null : (b v : Value) → is_null b ≡ false → is_null v ≡ false → P (present (b ∷ []) ++ present (v ∷ [])) ≡ cond (not (o b v)) v b
  neither_null b v e f =
      ap (λ l. P (l ++ present (v ∷ []))) (alone b e) ∙ ap (λ l. P (b ∷ l)) (alone v f) ∙ turned (o b v)
    where
      turned : (t : Bool) → cond t b v ≡ cond (not t) v b
      turned true = refl
      turned false = refl

  -- in the words of the accumulator
  pub compared_put : (l m : ℕ) (b b' v : Value) (vs : List Value) → Compared l g b vs → m ≡ min l (value_rank v) → P (present (b ∷ []) ++ present (v ∷ [])) ≡ b' → Compared m g b' (vs ++ v ∷ [])
  compared_put l m b b' v vs h is best = record {
    least = least_put l m v vs h.least is;
    best =
        sym best ∙ ap (λ x. P (present (x ∷ []) ++ present (v ∷ []))) h.best
        ∙ ap (λ k. P (present (P (present vs) ∷ []) ++ k)) (itself v (is_null v) refl)
        ∙ of_firsts (present vs) (present (v ∷ [])) (present_each vs) (present_each (v ∷ []))
        ∙ ap P (sym (present-append vs (v ∷ [])));
  }
    where
      itself : (v : Value) (t : Bool) → is_null v ≡ t → present (v ∷ []) ≡ present (P (present (v ∷ [])) ∷ [])
      itself Null t e = refl
      itself (Failed f) t e = refl
      itself (Number s c) t e = refl
      itself (Text x) t e = refl
      itself (Date d) t e = refl

  pub compared_joined : (l m p : ℕ) (b c b' : Value) (vs ws : List Value) → Compared l g b vs → Compared m g c ws → p ≡ min l m → P (present (b ∷ []) ++ present (c ∷ [])) ≡ b' → Compared p g b' (vs ++ ws)
  compared_joined l m p b c b' vs ws h j is best = record {
    least = is ∙ ap (λ k. min k m) h.least ∙ ap (λ k. min (least_fault_rank vs) k) j.least ∙ sym (least-append vs ws);
    best =
        sym best ∙ ap (λ x. P (present (x ∷ []) ++ present (c ∷ []))) h.best ∙ ap (λ x. P (present (P (present vs) ∷ []) ++ present (x ∷ []))) j.best
        ∙ of_firsts (present vs) (present ws) (present_each vs) (present_each ws)
        ∙ ap P (sym (present-append vs ws));
  }
