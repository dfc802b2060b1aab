-- Entries of other keys, and one more.
use Rattle.std.proofs.Common.{◌≡◌, ℕ, List, [], ◌∷◌, ◌++◌, true, false, cond, refl, sym, ◌∙◌, ap, subst, arith, inl, inr, Some, None, Option, ◌<◌, zero, suc}
use Rattle.std.specs.Prelude.{map}
use Rattle.std.specs.Hash.FoldHasher.{initial, write, finish}
use Rattle.std.specs.List.{fold, remove, IsDistinct, AllByRecursion}
use Rattle.std.specs.Option.{is_some}
use lib.ListN.{get_or, length}
use Rattle.std.proofs.lemmas.Bool.{cases_Bool, true≢false}
use Rattle.std.proofs.lemmas.Map.Keys.{IsDistinct-head, IsDistinct-tail, IsDistinct-cons}
use Rattle.base_row_laws.specs.Bags.{IsIdentity}
use Rattle.base_row_laws.proofs.Classes.{apart}
use Rattle.base_row_laws.proofs.Rows.{same_row_is}
use Rattle.base_value.specs.declared.value.Value.{Value}
use Rattle.base_value.specs.Value.{same_value, same_row as told_row}
use Rattle.base_value.proofs.Identity.{value_identity}
use Rattle.store_groups.specs.Groups.{Group}
use Rattle.store_groups.specs.declared.entry.Taken.TheVariants.{Absent, Gone, Faulty}
use Rattle.store_groups.specs.Taken.{left_of}
use Rattle.store_groups.specs.Entries.{Entries, IsHash, keys_of, same_key, group_at}
use Rattle.store_groups.specs.Entries.{with_group, without_key}

pub key_identity : IsIdentity same_key
key_identity = same_row_is same_value value_identity

-- the test of identity of rows that the code makes
pub key_told : (x y : List Value) → told_row x y ≡ same_key x y
key_told [] [] = refl
key_told [] (y ∷ ys) = refl
key_told (x ∷ xs) [] = refl
key_told (x ∷ xs) (y ∷ ys) = rw (key_told xs ys)

-- the group of a key without another key's entries
pub group_without : (k : List Value) (es : Entries) (q : List Value) → group_at (without_key k es) q ≡ cond (same_key q k) None (group_at es q)
group_without k [] q = elim (cases_Bool (same_key q k)) [ inl t ↦ rw t | inr f ↦ rw f ]
group_without k (e ∷ es) q =
    let ih = group_without k es q in
    elim (cases_Bool (same_key k e.0)) [
      | inl t ↦ elim (cases_Bool (same_key q k)) [
        | inl u ↦ rw (t, u) (ih ∙ rw u)
        | inr f ↦ let g : same_key q e.0 ≡ false = subst (λ z. same_key q z ≡ false) (key_identity.tells k e.0 t) f in rw (t, f, g) (ih ∙ rw f)
      ]
      | inr g ↦ elim (cases_Bool (same_key q e.0)) [
        | inl u ↦ let f : same_key q k ≡ false = apart same_key key_identity k q (subst (λ z. same_key k z ≡ false) (sym (key_identity.tells q e.0 u)) g) in rw (g, u, f)
        | inr v ↦ rw (g, v) ih
      ]
    ]

-- keys of two hashes are two keys
pub other_hash : {fed : List Value → List (List ℕ)} {hash own : ℕ} {k x : List Value} → IsHash fed hash k → IsHash fed own x → (own ≡ hash → ⊥) → same_key k x ≡ false
other_hash {fed} {hash} {own} {k} {x} is mine other = elim (cases_Bool (same_key k x)) [
  | inl t ↦ absurd (other (mine.is ∙ ap (λ y. finish (fold write initial (fed y))) (sym (key_identity.tells k x t)) ∙ sym is.is))
  | inr f ↦ f
]

-- the hash of the same key
pub hash_same : {fed : List Value → List (List ℕ)} {hash : ℕ} {k x : List Value} → k ≡ x → IsHash fed hash k → IsHash fed hash x
hash_same {fed} {hash} is h = subst (λ y. IsHash fed hash y) is h

some_none : (g : Group) → Some g ≡ None → ⊥
some_none g e = true≢false (ap (λ o. is_some o) e)

lookup_last : (k : List Value) (g : Group) (es : Entries) (q : List Value) → (same_key q k ≡ true → group_at es q ≡ None) → group_at (es ++ (k, g) ∷ []) q ≡ cond (same_key q k) (Some g) (group_at es q)
lookup_last k g [] q none = refl
lookup_last k g (e ∷ es) q none = elim (cases_Bool (same_key q e.0)) [
  | inl t ↦ elim (cases_Bool (same_key q k)) [
    | inl u ↦ let h : Some e.1 ≡ None = rw t at (none u) in absurd (some_none e.1 h)
    | inr f ↦ rw (t, f)
  ]
  | inr f ↦ rw f (lookup_last k g es q (λ u. rw f at (none u)))
]

-- with the key's new group after the others
pub group_put : (k : List Value) (g : Group) (es : Entries) (q : List Value) → group_at (without_key k es ++ (k, g) ∷ []) q ≡ cond (same_key q k) (Some g) (group_at es q)
group_put k g es q =
    lookup_last k g (without_key k es) q (λ t. group_without k es q ∙ rw t)
    ∙ elim (cases_Bool (same_key q k)) [ inl t ↦ rw t | inr f ↦ rw f (group_without k es q ∙ rw f) ]

far_without : (k x : List Value) (es : Entries) → AllByRecursion (λ y. same_key x y ≡ false) (keys_of es) → AllByRecursion (λ y. same_key x y ≡ false) (keys_of (without_key k es))
far_without k x [] all = tt
far_without k x (e ∷ es) all = elim (cases_Bool (same_key k e.0)) [
  | inl t ↦ rw t (far_without k x es all.1)
  | inr f ↦ rw f (all.0, far_without k x es all.1)
]

pub distinct_without : (k : List Value) (es : Entries) → IsDistinct same_key (keys_of es) → IsDistinct same_key (keys_of (without_key k es))
distinct_without k [] d = d
distinct_without k (e ∷ es) d =
    let ih = distinct_without k es (IsDistinct-tail same_key e.0 (keys_of es) d) in
    elim (cases_Bool (same_key k e.0)) [
      | inl t ↦ rw t ih
      | inr f ↦ rw f (IsDistinct-cons same_key e.0 (keys_of (without_key k es)) (far_without k e.0 es (IsDistinct-head same_key e.0 (keys_of es) d)) ih)
    ]

far_last : (x k : List Value) (g : Group) (es : Entries) → AllByRecursion (λ y. same_key x y ≡ false) (keys_of es) → same_key x k ≡ false → AllByRecursion (λ y. same_key x y ≡ false) (keys_of (es ++ (k, g) ∷ []))
far_last x k g [] all f = (f, tt)
far_last x k g (e ∷ es) all f = (all.0, far_last x k g es all.1 f)

-- one entry more, of a key that no other one has
pub distinct_put : (k : List Value) (g : Group) (es : Entries) → IsDistinct same_key (keys_of es) → IsDistinct same_key (keys_of (without_key k es ++ (k, g) ∷ []))
distinct_put k g [] d = IsDistinct-cons same_key k [] tt d
distinct_put k g (e ∷ es) d =
    let tail = IsDistinct-tail same_key e.0 (keys_of es) d in
    let ih = distinct_put k g es tail in
    elim (cases_Bool (same_key k e.0)) [
      | inl t ↦ rw t ih
      | inr f ↦ rw f (IsDistinct-cons same_key e.0 (keys_of (without_key k es ++ (k, g) ∷ [])) (far_last e.0 k g (without_key k es) (far_without k e.0 es (IsDistinct-head same_key e.0 (keys_of es) d)) (apart same_key key_identity k e.0 f)) ih)
    ]

-- the group of a key set
pub at_with_group : (k : List Value) (o : Option Group) (es : Entries) (q : List Value) → group_at (with_group k o es) q ≡ cond (same_key q k) o (group_at es q)
at_with_group k None es q = group_without k es q
at_with_group k (Some g) es q = group_put k g es q

-- where a key has no entry, or one at a place
pub absent_is : (k : List Value) (es : Entries) → group_at es k ≡ None → without_key k es ≡ es
absent_is k [] e = refl
absent_is k (x ∷ es) e = elim (cases_Bool (same_key k x.0)) [
  | inl t ↦ let h : Some x.1 ≡ None = rw t at e in absurd (some_none x.1 h)
  | inr f ↦ let h : group_at es k ≡ None = rw f at e in rw f (ap (λ l. x ∷ l) (absent_is k es h))
]

far_is : (k : List Value) (es : Entries) → AllByRecursion (λ y. same_key k y ≡ false) (keys_of es) → without_key k es ≡ es
far_is k [] all = refl
far_is k (x ∷ es) all = let f = all.0 in rw f (ap (λ l. x ∷ l) (far_is k es all.1))

all_at : (x : List Value) (es : Entries) (i : ℕ) (d : List Value × Group) → AllByRecursion (λ y. same_key x y ≡ false) (keys_of es) → i < length es → same_key x (get_or es i d).0 ≡ false
all_at x [] i d all less = absurd (omega arith)
all_at x (e ∷ es) zero d all less = all.0
all_at x (e ∷ es) (suc i) d all less = all_at x es i d all.1 (omega arith)

pub removed_is : (k : List Value) (es : Entries) (i : ℕ) → IsDistinct same_key (keys_of es) → i < length es → ((d : List Value × Group) → (get_or es i d).0 ≡ k) → remove es i ≡ without_key k es
removed_is k [] i distinct less here = absurd (omega arith)
removed_is k (x ∷ es) zero distinct less here =
    let is : x.0 ≡ k = here x in
    let t : same_key k x.0 ≡ true = subst (λ z. same_key k z ≡ true) (sym is) (key_identity.meets k) in
    let far : AllByRecursion (λ y. same_key k y ≡ false) (keys_of es) =
    subst (λ z. AllByRecursion (λ y. same_key z y ≡ false) (keys_of es)) is (IsDistinct-head same_key x.0 (keys_of es) distinct) in
    rw t (sym (far_is k es far))
removed_is k (x ∷ es) (suc i) distinct less here =
    let g : same_key x.0 (get_or es i x).0 ≡ false = all_at x.0 es i x (IsDistinct-head same_key x.0 (keys_of es) distinct) (omega arith) in
    let f : same_key k x.0 ≡ false = apart same_key key_identity x.0 k (subst (λ z. same_key x.0 z ≡ false) (here x) g) in
    rw f (ap (λ l. x ∷ l) (removed_is k es i (IsDistinct-tail same_key x.0 (keys_of es) distinct) (omega arith) here))

pub distinct_none : (es : Entries) → es ≡ [] → IsDistinct same_key (map (λ e. e.0) es)
unfolding IsDistinct
distinct_none es e = subst (λ es. IsDistinct same_key (keys_of es)) (sym e) tt

-- a group that is not left
pub none_absent : (args : List Value) (o : Option Group) → left_of args o Absent ≡ None
none_absent args None = refl
none_absent args (Some g) = refl

pub none_gone : (args : List Value) (o : Option Group) → left_of args o Gone ≡ None
none_gone args None = refl
none_gone args (Some g) = refl

pub none_faulty : (args : List Value) (o : Option Group) → left_of args o Faulty ≡ None
none_faulty args None = refl
none_faulty args (Some g) = refl
