-- A right side whose own columns stand for a domain's needs no domain.
use Rattle.std.proofs.Common.{◌≡◌, ℕ, zero, suc, ◌+◌, ◌≤◌, ◌<◌, ◌⊎◌, List, [], ◌∷◌, ◌++◌, Bool, true, false, cond, refl, sym, ◌∙◌, ap, subst, arith, inl, inr, length, ℤ, ◌&&◌}
use Rattle.std.proofs.Math.Dec.{ltb}
use Rattle.std.specs.Prelude.{min, IsTrue, Option, Some, None, slice_index_or}
use Rattle.std.specs.Ordering.{int_eq, int_cmp, nat_cmp, is_eq}
use Rattle.std.specs.Cmp.{unsigned_ties}
use Rattle.std.specs.Cmp.Lexicographic.{texts_ties}
use Rattle.std.proofs.lemmas.Bool.{cases_Bool, true≢false, eq-eqb, eqb-true, le-ltb}
use Rattle.std.proofs.lemmas.List.{get_or_append_left, get_or-append_right}
use Rattle.base_decimal.proofs.Powers.{scaled_alike}
use Rattle.base_row_laws.specs.Ranked.{Ranked, ranked}
use Rattle.base_row_laws.specs.Bags.{Each}
use Rattle.base_row_laws.specs.Rows.{columns, keep}
use Rattle.base_row_laws.specs.Rows.{same_row as identical}
use Rattle.base_row_laws.specs.Operators.{select, project}
use Rattle.base_row_laws.specs.Domains.{IsDomain, Meets, Answers}
use Rattle.base_row_laws.specs.LoopLaws.{local_node, Equates}
use Rattle.base_row_laws.proofs.Lists.{Each-all, Each-weaker, Each-both, flat_map-ext_each}
use Rattle.base_row_laws.proofs.Local.{local_answers}
use Rattle.base_value.specs.declared.value.Value.{Value}
use Rattle.base_value.specs.declared.value.Value.TheVariants.{Null, Fault as Failed, Number, Text, Date}
use Rattle.base_value.specs.declared.truth.Fault.TheVariants.{TooManyRows, DivideByZero, NumberRange}
use Rattle.base_value.specs.declared.truth.Truth.{Truth}
use Rattle.base_value.specs.declared.truth.Truth.TheVariants.{False, Unknown, Stands}
use Rattle.base_value.specs.declared.truth.Standing.TheVariants.{AtFault, AtTrue}
use Rattle.base_value.specs.Truth.{truth_rank}
use Rattle.base_value.specs.Value.{same_value}
use Rattle.base_value.proofs.Identity.{value_identity}
use Rattle.expr_operators.specs.declared.operator.Comparison.TheVariants.{Equal}
use Rattle.expr_operators.specs.Operators.{truth_of, compared}
use Rattle.expr_scalar.specs.declared.expr.Expr.{Expr}
use Rattle.expr_scalar.specs.declared.kind.Kind.{Kind}
use Rattle.expr_scalar.specs.declared.kind.Kind.TheVariants as kind
use Rattle.expr_scalar.specs.Meaning.{truth}
use Rattle.expr_conditions.specs.Ranks.{rank_of}
use Rattle.plan_unnested_nodes.specs.declared.domain.Origin.{Origin}
use Rattle.plan_unnested_nodes.specs.Domains.{is_unchanged, KeepsNotes}
use Rattle.plan_unnested_nodes.specs.declared.origins.Known.{Known}
use Rattle.plan_unnested_nodes.specs.OwnColumns.{kind_known, either_equal, StandForAll}
use Rattle.plan_unnested_nodes.specs.OwnRows.{own_row}
use Rattle.plan_unnested_nodes.specs.PlanKinds.{can_stand, FitsKinds}
use Rattle.plan_unnested_nodes.proofs.FitKinds.{stands_unchanged}

no : {A : Type 0} → false ≡ true → A
no h = absurd (true≢false (sym h))

false_rank_of : (b : Bool) → b ≡ false → truth_rank (truth_of b) ≡ 0
false_rank_of b e = rw e refl

numbers_apart : (s : ℕ) (a b : ℤ) → same_value (Number s a) (Number s b) ≡ false → truth_rank (compared Equal (Number s a) (Number s b)) ≡ 0
numbers_apart s a b h =
    let e : int_eq a b ≡ false = ap (λ t. t && int_eq a b) (sym (eq-eqb s s refl)) ∙ h in
    ap (λ o. truth_rank (truth_of (is_eq o))) (sym (scaled_alike a b s s refl)) ∙ false_rank_of (is_eq (int_cmp a b)) e

dates_apart : (a b : ℕ) → same_value (Date a) (Date b) ≡ false → truth_rank (compared Equal (Date a) (Date b)) ≡ 0
dates_apart a b h = false_rank_of (is_eq (nat_cmp a b)) (sym (unsigned_ties a b) ∙ h)

texts_apart : (a b : List ℕ) → same_value (Text a) (Text b) ≡ false → truth_rank (compared Equal (Text a) (Text b)) ≡ 0
texts_apart a b h = false_rank_of _ (sym (texts_ties a b) ∙ h)

other_way : (u v : Value) → same_value u v ≡ false → same_value v u ≡ false
other_way u v n = elim (cases_Bool (same_value v u)) [
  | inl t ↦ absurd (true≢false (sym (value_identity.meets u) ∙ ap (same_value u) (sym (value_identity.tells v u t)) ∙ n))
  | inr f ↦ f
]

-- a value that comes unchanged from a column is null or of the column's kind
data Unchanged : Kind → Value → Type 0 where
  OfNull : (k : Kind) → Unchanged k Null
  OfNumber : (s : ℕ) (c : ℤ) → Unchanged (kind.Number s) (Number s c)
  OfText : (t : List ℕ) → Unchanged kind.Text (Text t)
  OfDate : (d : ℕ) → Unchanged kind.Date (Date d)

unchanged : (k : Kind) (v : Value) → IsTrue (is_unchanged k v) → Unchanged k v
unchanged k Null h = OfNull k
unchanged (kind.Number s) (Number t c) h = subst (λ n. Unchanged (kind.Number s) (Number n c)) (eqb-true s t h) (OfNumber s c)
unchanged kind.Text (Text t) h = OfText t
unchanged kind.Date (Date d) h = OfDate d
unchanged (kind.Number s) (Text t) h = no h
unchanged (kind.Number s) (Date d) h = no h
unchanged kind.Text (Number t c) h = no h
unchanged kind.Text (Date d) h = no h
unchanged kind.Date (Number t c) h = no h
unchanged kind.Date (Text t) h = no h
unchanged k (Failed f) h = no h

asked_apart : (k : Kind) (u v : Value) → Unchanged k u → Unchanged k v → same_value u v ≡ false → truth_rank (compared Equal u v) ≤ 1
asked_apart k u v (OfNull k') b n = omega arith
asked_apart k u v (OfNumber s c) (OfNull k') n = omega arith
asked_apart k u v (OfNumber s c) (OfNumber t d) n = let e = numbers_apart s c d n in omega (arith, e)
asked_apart k u v (OfText t) (OfNull k') n = omega arith
asked_apart k u v (OfText t) (OfText s) n = let e = texts_apart t s n in omega (arith, e)
asked_apart k u v (OfDate d) (OfNull k') n = omega arith
asked_apart k u v (OfDate d) (OfDate e) n = let z = dates_apart d e n in omega (arith, z)

-- values of one kind that are not identical are not equal
pub apart : (k : Kind) (u v : Value) → IsTrue (is_unchanged k u) → IsTrue (is_unchanged k v) → same_value u v ≡ false → either_equal u v ≤ 1
apart k u v a b n =
    let one = asked_apart k u v (unchanged k u a) (unchanged k v b) n in
    let other = asked_apart k v u (unchanged k v b) (unchanged k u a) (other_way u v n) in
    omega (arith, one, other)

pub rank_within : (c : Expr) (row : List Value) → rank_of c row ≤ 5
unfolding rank_of
rank_within c row = go (truth c row)
  where
    go : (t : Truth) → truth_rank t ≤ 5
    go False = omega arith
    go Unknown = omega arith
    go (Stands AtTrue) = omega arith
    go (Stands (AtFault TooManyRows)) = omega arith
    go (Stands (AtFault DivideByZero)) = omega arith
    go (Stands (AtFault NumberRange)) = omega arith

-- a place where two rows differ
differ : (d : List Value) (own : List ℕ) (t : List Value) → length d ≡ length own → identical same_value d (columns Null own t) ≡ false
    → (k : ℕ) × (k < length own) × (same_value (slice_index_or d k Null) (slice_index_or t (slice_index_or own k 0) Null) ≡ false)
differ [] [] t w h = no (sym h)
differ [] (b ∷ own) t w h = absurd (omega (arith, w))
differ (v ∷ d) [] t w h = absurd (omega (arith, w))
differ (v ∷ d) (b ∷ own) t w h = elim (cases_Bool (same_value v (slice_index_or t b Null))) [
  | inr f ↦ (zero, omega arith, f)
  | inl y ↦
      let r : identical same_value d (columns Null own t) ≡ false = rw y at h in
      let ih = differ d own t (omega (arith, w)) r in
      (suc ih.0, (let l = ih.1 in omega (arith, l)), ih.2)
]

-- a domain's row whose notes hold
abbrev Noted : ℕ → List Origin → Ranked Value → Type 0
Noted n notes e = (length e.values ≡ n) × KeepsNotes notes (e ∷ [])

-- rows, each after its values at these columns
abbrev pub beside_own : List ℕ → List (Ranked Value) → List (Ranked Value)
beside_own own ts = project (own_row own) ts

-- a value of a column of a kind that is known
of_known_kind : (o : Option Known) (k : Kind) (v : Value) → kind_known o ≡ Some k → IsTrue (can_stand o v) → IsTrue (is_unchanged k v)
of_known_kind None k v e h = cc
of_known_kind (Some known) k v e h = let same : known.kind ≡ k = cc in subst (λ j. IsTrue (is_unchanged j v)) same (stands_unchanged known v h)

-- rows whose columns are of these kinds
abbrev pub OfKinds : List (Option Known) → Ranked Value → Type 0
OfKinds ks t = FitsKinds ks t.values

module _ (ks : List (Option Known)) (notes : List Origin) (n : ℕ) (c : Expr) (own : List ℕ) (stand : StandForAll ks notes n c own) where
  -- a row is dropped under a domain row whose values its own are not
  dropped : (e : Ranked Value) (t : List Value) → Noted n notes e → FitsKinds ks t → identical same_value e.values (columns Null own t) ≡ false → rank_of c (e.values ++ t) ≤ 1
  dropped e t here fit f =
      let w : length e.values ≡ length own = here.0 ∙ sym stand.long in
      let d = differ e.values own t w f in
      let s = stand.each d.0 d.1 in
      let b = slice_index_or own d.0 0 in
      let left : slice_index_or (e.values ++ t) d.0 Null ≡ slice_index_or e.values d.0 Null = get_or_append_left e.values t Null d.0 (let l = d.1 in omega (arith, l, w)) in
      let right : slice_index_or (e.values ++ t) (n + b) Null ≡ slice_index_or t b Null =
      get_or-append_right e.values t n (n + b) Null here.0 (omega arith) ∙ ap (λ j. slice_index_or t j Null) (omega arith) in
      let stored : IsTrue (is_unchanged s.kind (slice_index_or t b Null)) = of_known_kind (slice_index_or ks b None) s.kind (slice_index_or t b Null) s.asked.stored (fit b) in
      let a : either_equal (slice_index_or e.values d.0 Null) (slice_index_or t b Null) ≤ 1 =
      apart s.kind (slice_index_or e.values d.0 Null) (slice_index_or t b Null) (s.noted.keeps (e ∷ []) here.1).0 stored d.2 in
      let r : rank_of c (e.values ++ t) ≤ either_equal (slice_index_or (e.values ++ t) d.0 Null) (slice_index_or (e.values ++ t) (n + b) Null) = s.asked.asks (e.values ++ t) in
      let same : either_equal (slice_index_or (e.values ++ t) d.0 Null) (slice_index_or (e.values ++ t) (n + b) Null) ≡ either_equal (slice_index_or e.values d.0 Null) (slice_index_or t b Null) =
      ap (λ u. either_equal u (slice_index_or (e.values ++ t) (n + b) Null)) left ∙ ap (either_equal (slice_index_or e.values d.0 Null)) right in
      omega (arith, r, same, a)

  abbrev equal : List Value → List Value → ℕ
  equal d v = cond (identical same_value d v) 5 1

  kept_alike : (t : Ranked Value) (m k : ℕ) → (m ≡ k) ⊎ ((m ≤ 1) × (k ≤ 1)) → keep t.values (min t.standing m) ≡ keep t.values (min t.standing k)
  kept_alike t m k (inl e) = ap (λ z. keep t.values (min t.standing z)) e
  kept_alike t m k (inr low) =
      let a : ltb 1 (min t.standing m) ≡ false = le-ltb 1 (min t.standing m) (let l = low.0 in omega (arith, l)) in
      let b : ltb 1 (min t.standing k) ≡ false = le-ltb 1 (min t.standing k) (let l = low.1 in omega (arith, l)) in
      ap (λ z. cond z (ranked t.values (min t.standing m) ∷ []) []) a ∙ sym (ap (λ z. cond z (ranked t.values (min t.standing k) ∷ []) []) b)

  both_say : (e : Ranked Value) (t : List Value) → Noted n notes e → FitsKinds ks t
      → (min (equal e.values (columns Null own t)) (rank_of c (e.values ++ t)) ≡ rank_of c (e.values ++ t))
      ⊎ ((min (equal e.values (columns Null own t)) (rank_of c (e.values ++ t)) ≤ 1) × (rank_of c (e.values ++ t) ≤ 1))
  both_say e t here fit = elim (cases_Bool (identical same_value e.values (columns Null own t))) [
    | inl y ↦ inl (let l = rank_within c (e.values ++ t) in rw y (omega (arith, l)))
    | inr f ↦ let l = dropped e t here fit f in inr (rw f (omega (arith, l)), l)
  ]

  -- the loop with the equality apart is the loop
  loop_is : (ts : List (Ranked Value)) (e : Ranked Value) → Each (OfKinds ks) ts → Noted n notes e
      → select (λ t. min (equal e.values (columns Null own t)) (rank_of c (e.values ++ t))) ts ≡ select (λ t. rank_of c (e.values ++ t)) ts
  loop_is ts e all here =
      flat_map-ext_each (OfKinds ks)
      (λ t. keep t.values (min t.standing (min (equal e.values (columns Null own t.values)) (rank_of c (e.values ++ t.values)))))
      (λ t. keep t.values (min t.standing (rank_of c (e.values ++ t.values)))) ts all
      (λ t fit. kept_alike t _ _ (both_say e t.values here fit))

  pub own_answers : (ds ts : List (Ranked Value)) → IsDomain same_value n ds → KeepsNotes notes ds → Each (OfKinds ks) ts
      → Answers same_value ds (select (rank_of c) (beside_own own ts)) (λ d. select (λ t. rank_of c (d ++ t)) ts)
  own_answers ds ts dom noted all =
      let local : Answers same_value ds (local_node Null own n (λ v. 5) (rank_of c) ts) (λ d. select (λ t. min (equal d (columns Null own t)) (rank_of c (d ++ t))) ts) =
      local_answers same_value value_identity Null own (λ v. 5) (rank_of c) equal n ds ts dom stand.long
      (Each-all (λ (e : Ranked Value). Each (λ (t : Ranked Value). Equates same_value equal (λ v. 5) e.values (columns Null own t.values)) ts) ds
      (λ e. Each-all (λ (t : Ranked Value). Equates same_value equal (λ v. 5) e.values (columns Null own t.values)) ts
      (λ t. record {
        where_same = λ y. inl (rw y refl);
        elsewhere = λ f. rw f (omega arith);
      }))) in
      let node : local_node Null own n (λ v. 5) (rank_of c) ts ≡ select (rank_of c) (beside_own own ts) =
      flat_map-ext_each (λ x. Unit {0}) (λ x. keep x.values (min x.standing (min 5 (rank_of c x.values)))) (λ x. keep x.values (min x.standing (rank_of c x.values))) (beside_own own ts)
      (Each-all (λ x. Unit {0}) (beside_own own ts) (λ x. tt))
      (λ x u. let l = rank_within c x.values in ap (λ z. keep x.values (min x.standing z)) (omega (arith, l))) in
      let xs = select (rank_of c) (beside_own own ts) in
      let M : List Value → List (Ranked Value) = λ d. select (λ t. min (equal d (columns Null own t)) (rank_of c (d ++ t))) ts in
      let L : List Value → List (Ranked Value) = λ d. select (λ t. rank_of c (d ++ t)) ts in
      let here : Answers same_value ds xs M = subst (λ l. Answers same_value ds l M) node local in
      Each-weaker (λ e. Meets same_value e.values xs (M e.values) × Noted n notes e) (λ e. Meets same_value e.values xs (L e.values)) ds
      (λ e p. subst (λ l. Meets same_value e.values xs l) (loop_is ts e all p.1) p.0)
      (Each-both (λ e. Meets same_value e.values xs (M e.values)) (λ e. Noted n notes e) ds here
      (Each-both (λ (e : Ranked Value). length e.values ≡ n) (λ e. KeepsNotes notes (e ∷ [])) ds dom.widths
      (Each-weaker (λ (e : Ranked Value). Each (λ (o : Origin). IsTrue (is_unchanged o.kind (slice_index_or e.values o.column Null))) notes) (λ e. KeepsNotes notes (e ∷ [])) ds (λ e h. (h, tt)) noted)))
