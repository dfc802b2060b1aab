-- Rows whose columns keep their kinds, through each operator of a plan.
use Rattle.std.proofs.Common.{◌≡◌, ℕ, zero, suc, ◌+◌, List, [], ◌∷◌, ◌++◌, true, false, cond, refl, sym, ◌∙◌, ap, subst, arith, inl, inr, length, drop}
use Rattle.std.specs.Prelude.{map, min, nat_lt, replicate, IsTrue, Option, Some, None, slice_index_or}
use Rattle.std.specs.List.{filter, flat_map}
use Rattle.std.proofs.lemmas.List.{get_or-drop}
use Rattle.base_row_laws.specs.Ranked.{Ranked, ranked, unknown_rank, true_rank}
use Rattle.base_row_laws.specs.Bags.{Each, each_once}
use Rattle.base_row_laws.specs.Rows.{columns, keep}
use Rattle.base_row_laws.specs.Rows.{same_row as identical}
use Rattle.base_row_laws.specs.Operators.{select, project, pair, or_else, least, greatest, group_by, distinct, domain_node}
use Rattle.base_row_laws.specs.Matched.{right_places, without, glue_matched, matches_of, inner_matched, outer_matched, attach_matched}
use Rattle.base_row_laws.proofs.Lists.{Each-map, Each-filter, Each-weaker, Each-flat_map, Each-all, Each-each_once}
use Rattle.base_row_laws.proofs.Nodes.{Each-or_else}
use Rattle.base_value.specs.declared.value.Value.{Value}
use Rattle.base_value.specs.declared.value.Value.TheVariants.{Null}
use Rattle.base_value.specs.declared.value.Value.TheVariants as value
use Rattle.base_value.specs.Value.{same_value}
use Rattle.expr_scalar.specs.declared.expr.Expr.{Expr}
use Rattle.expr_scalar.specs.declared.kind.Kind.{Kind}
use Rattle.expr_scalar.specs.declared.kind.Kind.TheVariants.{Number, Text, Date}
use Rattle.expr_scalar.specs.Meaning.{value as value_of, values}
use Rattle.expr_scalar.proofs.Opened.{value_Column}
use Rattle.plan_unnested_nodes.specs.declared.domain.Origin.{Origin}
use Rattle.plan_unnested_nodes.specs.declared.origins.Known.{Known}
use Rattle.plan_unnested_nodes.specs.Domains.{is_unchanged, KeepsNotes}
use Rattle.plan_unnested_nodes.specs.PlanKinds.{ColumnKinds, nullable, picked, can_stand, FitsKinds, IsListed, AreListed, AreNotesOf}

-- a row of these kinds
abbrev pub Fit : ColumnKinds → Ranked Value → Type 0
Fit ks r = FitsKinds ks r.values

null_unchanged : (k : Kind) → IsTrue (is_unchanged k Null)
null_unchanged (Number s) = refl
null_unchanged Text = refl
null_unchanged Date = refl

-- what can stand in a column comes unchanged from it
pub stands_unchanged : (known : Known) (v : Value) → IsTrue (can_stand (Some known) v) → IsTrue (is_unchanged known.kind v)
stands_unchanged known Null h = null_unchanged known.kind
stands_unchanged known (value.Number s c) h = h
stands_unchanged known (value.Text t) h = h
stands_unchanged known (value.Date d) h = h
stands_unchanged known (value.Fault f) h = h

-- a null can stand in a column that may be null, and all else as before
null_stands : (o : Option Known) → IsTrue (can_stand (nullable o) Null)
null_stands None = refl
null_stands (Some known) = refl

as_before : (o : Option Known) (v : Value) → IsTrue (can_stand o v) → IsTrue (can_stand (nullable o) v)
as_before None v h = refl
as_before (Some known) Null h = refl
as_before (Some known) (value.Number s c) h = h
as_before (Some known) (value.Text t) h = h
as_before (Some known) (value.Date d) h = h
as_before (Some known) (value.Fault f) h = h

nullable_at : (ks : ColumnKinds) (c : ℕ) → slice_index_or (map nullable ks) c None ≡ nullable (slice_index_or ks c None)
nullable_at [] c = refl
nullable_at (k ∷ ks) zero = refl
nullable_at (k ∷ ks) (suc c) = nullable_at ks c

nullable_fit : (ks : ColumnKinds) (v : List Value) → FitsKinds ks v → FitsKinds (map nullable ks) v
nullable_fit ks v f c =
    subst (λ o. IsTrue (can_stand o (slice_index_or v c Null))) (sym (nullable_at ks c)) (as_before (slice_index_or ks c None) (slice_index_or v c Null) (f c))

-- where a column isn't there, no kind of it is known
pub none_fit : (values : List Value) → FitsKinds [] values
none_fit values c = refl

null_at : (n c : ℕ) → slice_index_or (replicate n Null) c Null ≡ Null
null_at zero c = refl
null_at (suc n) zero = refl
null_at (suc n) (suc c) = null_at n c

nulls_fit : (ks : ColumnKinds) (n : ℕ) → FitsKinds (map nullable ks) (replicate n Null)
nulls_fit ks n c =
    subst (λ o. IsTrue (can_stand o (slice_index_or (replicate n Null) c Null))) (sym (nullable_at ks c))
    (subst (λ v. IsTrue (can_stand (nullable (slice_index_or ks c None)) v)) (sym (null_at n c)) (null_stands (slice_index_or ks c None)))

unknown_fit : (n : ℕ) (values : List Value) → FitsKinds (replicate n None) values
unknown_fit zero values c = refl
unknown_fit (suc n) values zero = refl
unknown_fit (suc n) [] (suc c) = unknown_fit n [] c
unknown_fit (suc n) (v ∷ values) (suc c) = unknown_fit n values c

-- two rows beside one another
beside : (ks ms : ColumnKinds) (v w : List Value) → length ks ≡ length v → FitsKinds ks v → FitsKinds ms w → FitsKinds (ks ++ ms) (v ++ w)
beside [] ms [] w e f g c = g c
beside [] ms (x ∷ v) w e f g c = absurd (omega (arith, e))
beside (k ∷ ks) ms [] w e f g c = absurd (omega (arith, e))
beside (k ∷ ks) ms (x ∷ v) w e f g zero = f zero
beside (k ∷ ks) ms (x ∷ v) w e f g (suc c) = beside ks ms v w (omega (arith, e)) (λ i. f (suc i)) g c

-- a row without its first columns
pub rest_fits : (n : ℕ) (ks : ColumnKinds) (v : List Value) → FitsKinds ks v → FitsKinds (drop n ks) (drop n v)
rest_fits n ks v f c = rw (get_or-drop n ks c None, get_or-drop n v c Null) (f (n + c))

-- some columns of a row
pub picked_fit : (ks : ColumnKinds) (v : List Value) (cs : List ℕ) → FitsKinds ks v → FitsKinds (picked ks cs) (columns Null cs v)
picked_fit ks v [] f c = refl
picked_fit ks v (j ∷ cs) f zero = f j
picked_fit ks v (j ∷ cs) f (suc c) = picked_fit ks v cs f c

listed_stands : (ks : ColumnKinds) (v : List Value) (e : Expr) (k : Option Known) → FitsKinds ks v → IsListed ks e k → IsTrue (can_stand k (value_of e v))
listed_stands ks v e k f (inl none) = subst (λ o. IsTrue (can_stand o (value_of e v))) (sym none) refl
listed_stands ks v e k f (inr (c, is, same)) =
    subst (λ o. IsTrue (can_stand o (value_of e v))) (sym same)
    (subst (λ x. IsTrue (can_stand (slice_index_or ks c None) x)) (sym (ap (λ y. value_of y v) is ∙ value_Column c v)) (f c))

listed_fit : (ks : ColumnKinds) (v : List Value) (es : List Expr) (new : ColumnKinds) → FitsKinds ks v → AreListed ks es new → FitsKinds new (values es v)
unfolding values
listed_fit ks v [] [] f a c = refl
listed_fit ks v [] (k ∷ new) f a c = elim a [ ]
listed_fit ks v (e ∷ es) [] f a c = refl
listed_fit ks v (e ∷ es) (k ∷ new) f a zero = listed_stands ks v e k f a.0
listed_fit ks v (e ∷ es) (k ∷ new) f a (suc c) = listed_fit ks v es new f a.1 c

keep_fits : (ks : ColumnKinds) (r : List Value) (s : ℕ) → FitsKinds ks r → Each (Fit ks) (keep r s)
keep_fits ks r s f = elim (nat_lt unknown_rank s) as (λ b. Each (Fit ks) (cond b (ranked r s ∷ []) [])) [ true ↦ (f, tt) | false ↦ tt ]

pub select_fits : (ks : ColumnKinds) (c : List Value → ℕ) (xs : List (Ranked Value)) → Each (Fit ks) xs → Each (Fit ks) (select c xs)
select_fits ks c xs all = Each-flat_map (Fit ks) (Fit ks) (λ x. keep x.values (min x.standing (c x.values))) xs all (λ x f. keep_fits ks x.values (min x.standing (c x.values)) f)

pub project_fits : (ks new : ColumnKinds) (es : List Expr) (xs : List (Ranked Value)) → AreListed ks es new → Each (Fit ks) xs → Each (Fit new) (project (values es) xs)
project_fits ks new es xs a all =
    Each-map (Fit new) (λ x. ranked (values es x.values) x.standing) xs
    (Each-weaker (Fit ks) (λ x. FitsKinds new (values es x.values)) xs (λ x f. listed_fit ks x.values es new f a) all)

-- the keys of classes are those of rows
keys_fit : (new : ColumnKinds) (key : Ranked Value → List Value) (xs : List (Ranked Value)) → Each (λ x. FitsKinds new (key x)) xs
    → Each (FitsKinds new) (each_once (identical same_value) (map key xs))
keys_fit new key xs all = Each-each_once (FitsKinds new) (identical same_value) (map key xs) (Each-map (FitsKinds new) key xs all)

pub domain_fits : (ks : ColumnKinds) (cs : List ℕ) (xs : List (Ranked Value)) → Each (Fit ks) xs → Each (Fit (picked ks cs)) (domain_node same_value (columns Null cs) xs)
domain_fits ks cs xs all =
    Each-map (Fit (picked ks cs)) (λ k. ranked k true_rank) (each_once (identical same_value) (map (λ x. columns Null cs x.values) xs))
    (keys_fit (picked ks cs) (λ x. columns Null cs x.values) xs (Each-weaker (Fit ks) (λ x. FitsKinds (picked ks cs) (columns Null cs x.values)) xs (λ x f. picked_fit ks x.values cs f) all))

-- what is noted of some columns holds of the domain of them
pub noted_domain : (ks : ColumnKinds) (cs : List ℕ) (notes : List Origin) (xs : List (Ranked Value)) → AreNotesOf ks cs notes → Each (Fit ks) xs
    → KeepsNotes notes (domain_node same_value (columns Null cs) xs)
noted_domain ks cs notes xs a all =
    let P : List Value → Type 0 = λ v. Each (λ n. IsTrue (is_unchanged n.kind (slice_index_or v n.column Null))) notes in
    let keys = map (λ x. columns Null cs x.values) xs in
    Each-map (λ e. P e.values) (λ k. ranked k true_rank) (each_once (identical same_value) keys)
    (Each-each_once P (identical same_value) keys (Each-map P (λ x. columns Null cs x.values) xs (Each-weaker (Fit ks) (λ x. P (columns Null cs x.values)) xs (λ x f. a.holds x.values f) all)))

pub distinct_fits : (ks : ColumnKinds) (xs : List (Ranked Value)) → Each (Fit ks) xs → Each (Fit ks) (distinct same_value xs)
distinct_fits ks xs all =
    let part : List Value → List (Ranked Value) = λ k. filter (λ x. identical same_value x.values k) xs in
    Each-map (Fit ks) (λ k. ranked k (greatest (part k))) (each_once (identical same_value) (map (λ x. x.values) xs)) (keys_fit ks (λ x. x.values) xs all)

-- rows with more columns after theirs, of which nothing is known
pub padded_fits : (ks : ColumnKinds) (n : ℕ) (v w : List Value) → length v ≡ length ks → FitsKinds ks v → FitsKinds (ks ++ replicate n None) (v ++ w)
padded_fits ks n v w e f = beside ks (replicate n None) v w (sym e) f (unknown_fit n w)

unknowns_fit : (a b : ℕ) (v : List Value) → FitsKinds (replicate a None ++ replicate b None) v
unknowns_fit zero b v c = unknown_fit b v c
unknowns_fit (suc a) b v zero = refl
unknowns_fit (suc a) b [] (suc c) = unknowns_fit a b [] c
unknowns_fit (suc a) b (x ∷ v) (suc c) = unknowns_fit a b v c

pub all_unknown : (n : ℕ) (xs : List (Ranked Value)) → Each (Fit (replicate n None)) xs
all_unknown n xs = Each-all (Fit (replicate n None)) xs (λ x. unknown_fit n x.values)

pub unknown_rows : (a b : ℕ) (xs : List (Ranked Value)) → Each (Fit (replicate a None ++ replicate b None)) xs
unknown_rows a b xs = Each-all (Fit (replicate a None ++ replicate b None)) xs (λ x. unknowns_fit a b x.values)

pub group_fits : (ks : ColumnKinds) (n : ℕ) (cs : List ℕ) (A : List (Ranked Value) → List Value) (xs : List (Ranked Value)) → Each (Fit ks) xs
    → Each (Fit (picked ks cs ++ replicate n None)) (group_by same_value (columns Null cs) A xs)
group_fits ks n cs A xs all =
    let new = picked ks cs in
    let part : List Value → List (Ranked Value) = λ k. filter (λ x. identical same_value (columns Null cs x.values) k) xs in
    let P : List Value → Type 0 = λ k. FitsKinds new k × (length k ≡ length new) in
    Each-map (Fit (new ++ replicate n None)) (λ k. ranked (k ++ A (part k)) (least (part k))) (each_once (identical same_value) (map (λ x. columns Null cs x.values) xs))
    (Each-weaker P (λ k. FitsKinds (new ++ replicate n None) (k ++ A (part k))) (each_once (identical same_value) (map (λ x. columns Null cs x.values) xs))
    (λ k p. padded_fits new n k (A (part k)) p.1 p.0)
    (Each-each_once P (identical same_value) (map (λ x. columns Null cs x.values) xs)
    (Each-map P (λ x. columns Null cs x.values) xs
    (Each-weaker (Fit ks) (λ x. P (columns Null cs x.values)) xs (λ x f. (picked_fit ks x.values cs f, same_length cs x.values)) all))))
  where
    same_length : (cs : List ℕ) (v : List Value) → length (columns Null cs v) ≡ length (picked ks cs)
    same_length [] v = refl
    same_length (c ∷ cs) v = ap suc (same_length cs v)

module _ (matched : List (ℕ × ℕ)) (ks ms : ColumnKinds) (rest_is : (y : List Value) → without (right_places matched) y ≡ drop (length matched) y) where
  abbrev Left : Ranked Value → Type 0
  Left x = FitsKinds ks x.values × (length x.values ≡ length ks)

  pairs_fit : (c : List Value → ℕ) (x : Ranked Value) (ys : List (Ranked Value)) → Left x → Each (Fit ms) ys
      → Each (Fit (ks ++ drop (length matched) ms)) (flat_map (λ y. pair c (glue_matched matched) x y) ys)
  pairs_fit c x ys l all =
      let new = ks ++ drop (length matched) ms in
      Each-flat_map (Fit ms) (Fit new) (λ y. pair c (glue_matched matched) x y) ys all
      (λ y f.
      let z = glue_matched matched x.values y.values in
      keep_fits new z (min (min x.standing y.standing) (c z))
      (beside ks (drop (length matched) ms) x.values (without (right_places matched) y.values) (sym l.1) l.0
      (subst (FitsKinds (drop (length matched) ms)) (sym (rest_is y.values)) (rest_fits (length matched) ms y.values f))))

  -- the same where the right row's columns may be null
  partners_fit : (c : List Value → ℕ) (x : Ranked Value) (ys : List (Ranked Value)) → Left x → Each (Fit ms) ys
      → Each (Fit (ks ++ map nullable (drop (length matched) ms))) (flat_map (λ y. pair c (glue_matched matched) x y) ys)
  partners_fit c x ys l all =
      let rest : ColumnKinds = drop (length matched) ms in
      let new = ks ++ map nullable rest in
      Each-flat_map (Fit ms) (Fit new) (λ y. pair c (glue_matched matched) x y) ys all
      (λ y f.
      let z = glue_matched matched x.values y.values in
      keep_fits new z (min (min x.standing y.standing) (c z))
      (beside ks (map nullable rest) x.values (without (right_places matched) y.values) (sym l.1) l.0
      (nullable_fit rest (without (right_places matched) y.values) (subst (FitsKinds rest) (sym (rest_is y.values)) (rest_fits (length matched) ms y.values f)))))

  matches_fit : (x : List Value) (ys : List (Ranked Value)) → Each (Fit ms) ys → Each (Fit ms) (matches_of same_value Null matched x ys)
  matches_fit x ys all =
      Each-filter (Fit ms) (λ y. identical same_value (columns Null (map (λ m. m.0) matched) x) (columns Null (right_places matched) y.values)) ys all

  pub inner_fits : (c : List Value → ℕ) (xs ys : List (Ranked Value)) → Each Left xs → Each (Fit ms) ys
      → Each (Fit (ks ++ drop (length matched) ms)) (inner_matched same_value Null matched c xs ys)
  inner_fits c xs ys left right =
      Each-flat_map Left (Fit (ks ++ drop (length matched) ms)) (λ x. flat_map (λ y. pair c (glue_matched matched) x y) (matches_of same_value Null matched x.values ys)) xs left
      (λ x l. pairs_fit c x (matches_of same_value Null matched x.values ys) l (matches_fit x.values ys right))

  -- a left row without a partner has nulls in the place of one
  pub outer_fits : (nulls : ℕ) (c : List Value → ℕ) (xs ys : List (Ranked Value)) → Each Left xs → Each (Fit ms) ys
      → Each (Fit (ks ++ map nullable (drop (length matched) ms))) (outer_matched same_value Null matched (replicate nulls Null) c xs ys)
  outer_fits nulls c xs ys left right =
      let rest : ColumnKinds = drop (length matched) ms in
      let new = ks ++ map nullable rest in
      let M : Ranked Value → List (Ranked Value) = λ x. flat_map (λ y. pair c (glue_matched matched) x y) (matches_of same_value Null matched x.values ys) in
      Each-flat_map Left (Fit new) (λ x. or_else (M x) (ranked (x.values ++ replicate nulls Null) x.standing)) xs left
      (λ x l.
      Each-or_else (Fit new) (M x) (ranked (x.values ++ replicate nulls Null) x.standing)
      (partners_fit c x (matches_of same_value Null matched x.values ys) l (matches_fit x.values ys right))
      (beside ks (map nullable rest) x.values (replicate nulls Null) (sym l.1) l.0 (nulls_fit rest nulls)))

module _ (ks : ColumnKinds) (n : ℕ) where
  abbrev Whole : Ranked Value → Type 0
  Whole x = FitsKinds ks x.values × (length x.values ≡ length ks)

  abbrev padded : ColumnKinds
  padded = ks ++ replicate n None

  pub attach_fits : (matched : List (ℕ × ℕ)) (v : List Value → List (Ranked Value) → Value) (xs ys : List (Ranked Value)) → Each Whole xs
      → Each (Fit padded) (attach_matched same_value Null matched v xs ys)
  attach_fits matched v xs ys left =
      let rest : Ranked Value → Ranked Value = λ y. ranked (without (right_places matched) y.values) y.standing in
      let own : Ranked Value → List Value = λ x. v x.values (map rest (matches_of same_value Null matched x.values ys)) ∷ [] in
      Each-flat_map Whole (Fit padded) (λ x. ranked (x.values ++ own x) x.standing ∷ []) xs left
      (λ x l. (padded_fits ks n x.values (own x) l.1 l.0, tt))
