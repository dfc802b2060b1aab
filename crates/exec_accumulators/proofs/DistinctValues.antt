-- Distinct values of two lists, one after the other.
use Rattle.std.proofs.Common.{◌≡◌, ℕ, List, [], ◌∷◌, ◌++◌, Bool, true, false, refl, sym, ◌∙◌, ap, inl, inr, arith}
use Rattle.std.specs.Prelude.{not, min, ◌||◌}
use Rattle.std.specs.List.{filter}
use Rattle.std.proofs.lemmas.Bool.{cases_Bool, true≢false}
use Rattle.std.proofs.lemmas.List.{append-nil, append_assoc}
use Rattle.base_row_laws.specs.Bags.{IsIdentity, has, each_once}
use Rattle.base_row_laws.proofs.OfBags.{bottom_most}
use Rattle.base_key_tables.specs.Distinct.{added}
use Rattle.base_key_tables.proofs.NumberSteps.{each_once_push}
use Rattle.base_value.specs.declared.value.Value.{Value}
use Rattle.base_value.specs.declared.value.Value.TheVariants.{Null, Fault as Failed, Number, Text, Date}
use Rattle.base_value.specs.Value.{same_value}
use Rattle.base_value.specs.contracts.value.ValuePartialEq.TheImpl.{eq-value}
use Rattle.base_value.proofs.Identity.{same_value_is, value_eq_decides, value_identity}
use Rattle.expr_aggregates.specs.Values.{value_rank, is_null}
use Rattle.exec_accumulators.specs.Accumulators.{present, added_all, CountedDistinct}
use Rattle.exec_accumulators.proofs.Joins.{present-append, least_put, least-append}

module _ {X : Type 0} (same : X → X → Bool) (is : IsIdentity same) where
  pub added_all-push : (ds xs : List X) (x : X) → added_all same ds (xs ++ x ∷ []) ≡ added same (added_all same ds xs) x
  added_all-push ds [] x = refl
  added_all-push ds (y ∷ xs) x = added_all-push (added same ds y) xs x

  -- identical elements once, of two lists
  once_both : (xs ys : List X) → each_once same (xs ++ ys) ≡ added_all same (each_once same xs) ys
  once_both xs [] = ap (each_once same) (append-nil xs)
  once_both xs (y ∷ ys) =
      ap (each_once same) (sym (append_assoc xs (y ∷ []) ys)) ∙ once_both (xs ++ y ∷ []) ys
      ∙ ap (λ ds. added_all same ds ys) (each_once_push same is xs y)

  has-append : (x : X) (ds es : List X) → has same x (ds ++ es) ≡ (has same x ds || has same x es)
  has-append x [] es = refl
  has-append x (d ∷ ds) es = elim (cases_Bool (same x d)) [ inl t ↦ rw t refl | inr f ↦ rw f (has-append x ds es) ]

  has_added : (x y : X) (ds : List X) → has same x ds ≡ true → has same x (added same ds y) ≡ true
  has_added x y ds h = elim (cases_Bool (has same y ds)) [ inl t ↦ rw t h | inr f ↦ rw (f, has-append x ds (y ∷ []), h) refl ]

  has_now : (x : X) (ds : List X) → has same x (added same ds x) ≡ true
  has_now x ds = elim (cases_Bool (has same x ds)) [
    | inl t ↦ rw (t, t) refl
    | inr f ↦ rw (f, has-append x ds (x ∷ []), f, is.meets x) refl
  ]

  -- an element that stands there needn't be put again
  skips : (w : X) (es ds : List X) → has same w ds ≡ true → added_all same ds (filter (λ y. not (same w y)) es) ≡ added_all same ds es
  skips w [] ds h = refl
  skips w (e ∷ es) ds h = elim (cases_Bool (same w e)) [
    | inl t ↦ (let there : has same e ds ≡ true = ap (λ z. has same z ds) (sym (is.tells w e t)) ∙ h in rw (t, there) (skips w es ds h))
    | inr f ↦ rw f (skips w es (added same ds e) (has_added w e ds h))
  ]

  added_once : (ds ws : List X) → added_all same ds (each_once same ws) ≡ added_all same ds ws
  added_once ds [] = refl
  added_once ds (w ∷ ws) = skips w (each_once same ws) (added same ds w) (has_now w ds) ∙ added_once (added same ds w) ws

  pub once_joined : (xs ys : List X) → added_all same (each_once same xs) (each_once same ys) ≡ each_once same (xs ++ ys)
  once_joined xs ys = added_once (each_once same xs) ys ∙ sym (once_both xs ys)

-- the derived test is that of the definition
has_same : (v : Value) (ds : List Value) → has eq-value.it v ds ≡ has same_value v ds
has_same v [] = refl
has_same v (d ∷ ds) = rw (same_value_is v d, has_same v ds) refl

pub derived_identity : IsIdentity eq-value.it
derived_identity = record {
  meets = λ x. (value_eq_decides x x).1 refl;
  tells = λ x y. (value_eq_decides x y).0;
}

-- in the words of the accumulator
pub distinct_null : (l : ℕ) (ds vs : List Value) (v : Value) → CountedDistinct l ds vs → is_null v ≡ true → CountedDistinct l ds (vs ++ v ∷ [])
distinct_null l ds vs Null h n =
    let most = bottom_most 5 value_rank vs in
    let e = h.least in
    record {
      least = least_put l l Null vs h.least (omega (arith, most, e));
      seen = h.seen ∙ ap (each_once same_value) (sym (append-nil (present vs)) ∙ sym (present-append vs (Null ∷ [])));
    }
distinct_null l ds vs (Failed f) h n = absurd (true≢false (sym n))
distinct_null l ds vs (Number s c) h n = absurd (true≢false (sym n))
distinct_null l ds vs (Text t) h n = absurd (true≢false (sym n))
distinct_null l ds vs (Date d) h n = absurd (true≢false (sym n))

pub distinct_put : (l m : ℕ) (ds ds' vs : List Value) (v : Value) → CountedDistinct l ds vs → is_null v ≡ false → m ≡ min l (value_rank v) → ds' ≡ added same_value ds v → CountedDistinct m ds' (vs ++ v ∷ [])
distinct_put l m ds ds' vs v h n is put =
    let one : present (v ∷ []) ≡ v ∷ [] = rw n refl in
    record {
      least = least_put l m v vs h.least is;
      seen =
          put ∙ ap (λ d. added same_value d v) h.seen ∙ sym (each_once_push same_value value_identity (present vs) v)
          ∙ ap (λ l. each_once same_value (present vs ++ l)) (sym one) ∙ ap (each_once same_value) (sym (present-append vs (v ∷ [])));
    }

pub distinct_joined : (l m p : ℕ) (ds es ds' vs ws : List Value) → CountedDistinct l ds vs → CountedDistinct m es ws → p ≡ min l m → ds' ≡ added_all same_value ds es → CountedDistinct p ds' (vs ++ ws)
distinct_joined l m p ds es ds' vs ws h j is put = record {
  least = let e = h.least in let f = j.least in let a = least-append vs ws in omega (arith, e, f, a, is);
  seen =
      put ∙ ap (λ d. added_all same_value d es) h.seen ∙ ap (added_all same_value (each_once same_value (present vs))) j.seen
      ∙ once_joined same_value value_identity (present vs) (present ws) ∙ ap (each_once same_value) (sym (present-append vs ws));
}
