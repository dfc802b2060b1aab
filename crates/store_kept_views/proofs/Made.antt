-- The group that a key's rows make.
use Rattle.std.proofs.Common.{◌≡◌, ◌<◌, List, [], ◌∷◌, ◌++◌, Bool, true, false, cond, refl, sym, ◌∙◌, ap, subst, arith, inl, inr, Some, None, length}
use Rattle.std.specs.Prelude.{map, min}
use Rattle.std.proofs.lemmas.Bool.{cases_Bool}
use Rattle.std.proofs.lemmas.List.{append_assoc, append-nil}
use Rattle.base_row_laws.specs.Ranked.{Ranked, ranked}
use Rattle.base_row_laws.specs.Bags.{SameBag, has}
use Rattle.base_row_laws.specs.Rows.{scanned, keep}
use Rattle.base_row_laws.specs.Operators.{select}
use Rattle.base_row_laws.proofs.Bags.{SameBag-map, SameBag-filter, SameBag-flat_map}
use Rattle.base_row_laws.proofs.Classes.{apart, same-sym, has-SameBag}
use Rattle.base_value.specs.declared.value.Value.{Value}
use Rattle.plan_algebra.specs.declared.kept_plan.KeptPlan.{KeptPlan}
use Rattle.plan_algebra.specs.KeptPlans.{holds_for, selected, key_of}
use Rattle.store_kept_views.specs.RowGroups.{group_of}
use Rattle.store_groups.specs.Entries.{same_key}
use Rattle.store_kept_views.specs.Standing.{rows_at, made_at}
use Rattle.store_kept_views.proofs.GroupLists.{group_alike}
use Rattle.store_groups.proofs.EntryLists.{key_identity}

abbrev pub key : KeptPlan → Ranked Value → List Value
key p y = key_of p y.values

-- WHERE over lists
abbrev picked : KeptPlan → List Value → List (Ranked Value)
picked p row = selected p (row ∷ [])

selected_cons : (p : KeptPlan) (row : List Value) (rows : List (List Value)) → selected p (row ∷ rows) ≡ picked p row ++ selected p rows
unfolding selected
selected_cons p row rows = ap (λ l. l ++ select (holds_for p) (scanned rows)) (sym (append-nil (keep row (min 5 (holds_for p row)))))

selected_none : (p : KeptPlan) (more : List (List Value)) → selected p more ≡ selected p [] ++ selected p more
unfolding selected
selected_none p more = refl

pub selected_append : (p : KeptPlan) (rows more : List (List Value)) → selected p (rows ++ more) ≡ selected p rows ++ selected p more
selected_append p [] more = selected_none p more
selected_append p (row ∷ rows) more =
    selected_cons p row (rows ++ more) ∙ ap (λ l. picked p row ++ l) (selected_append p rows more)
    ∙ sym (append_assoc (picked p row) (selected p rows) (selected p more))
    ∙ ap (λ l. l ++ selected p more) (sym (selected_cons p row rows))

pub selected_alike : (p : KeptPlan) (rows more : List (List Value)) → SameBag rows more → SameBag (selected p rows) (selected p more)
unfolding selected
selected_alike p rows more e = SameBag-flat_map (λ x. keep x.values (min x.standing (holds_for p x.values))) (SameBag-map (λ r. ranked r 5) e)

-- bags of rows
pub made_alike : (p : KeptPlan) (q : List Value) (ys zs : List (Ranked Value)) → SameBag ys zs → made_at p q ys ≡ made_at p q zs
unfolding made_at
made_alike p q ys zs e =
    ap (λ b. cond b (Some (group_of p.aggregates (rows_at p q ys))) None) (has-SameBag same_key key_identity q (SameBag-map (key p) e))
    ∙ ap (λ g. cond (has same_key q (map (key p) zs)) (Some g) None) (group_alike p.aggregates (rows_at p q ys) (rows_at p q zs) (SameBag-filter (λ y. same_key (key p y) q) e))

pub made_none : (p : KeptPlan) (q : List Value) → made_at p q [] ≡ None
unfolding made_at
made_none p q = refl

-- a row of another key
pub made_other : (p : KeptPlan) (q : List Value) (y : Ranked Value) (ys : List (Ranked Value)) → same_key q (key p y) ≡ false → made_at p q (y ∷ ys) ≡ made_at p q ys
unfolding made_at
made_other p q y ys f = let g = apart same_key key_identity q (key p y) f in rw (f, g)

-- a row of the key
pub made_here : (p : KeptPlan) (y : Ranked Value) (ys : List (Ranked Value)) → made_at p (key p y) (y ∷ ys) ≡ Some (group_of p.aggregates (y ∷ rows_at p (key p y) ys))
unfolding made_at
made_here p y ys = let t = key_identity.meets (key p y) in rw t

-- whether a list has an element
abbrev pub filled : {X : Type 0} → List X → Bool
filled [] = false
filled (x ∷ xs) = true

-- there are rows of a key exactly where its list isn't empty
pub has_rows : (p : KeptPlan) (q : List Value) (ys : List (Ranked Value)) → has same_key q (map (key p) ys) ≡ filled (rows_at p q ys)
has_rows p q [] = refl
has_rows p q (y ∷ ys) = elim (cases_Bool (same_key q (key p y))) [
  | inl t ↦ let u : same_key (key p y) q ≡ true = same-sym same_key key_identity (key p y) q ∙ t in rw (t, u)
  | inr f ↦ let g = apart same_key key_identity q (key p y) f in rw (f, g) (has_rows p q ys)
]

rows_in : (p : KeptPlan) (zs : List (Ranked Value)) → (group_of p.aggregates zs).rows ≡ length zs
unfolding group_of
rows_in p zs = refl

pub made_some : (p : KeptPlan) (q : List Value) (ys : List (Ranked Value)) → 0 < (group_of p.aggregates (rows_at p q ys)).rows → made_at p q ys ≡ Some (group_of p.aggregates (rows_at p q ys))
unfolding made_at
made_some p q ys less = ap (λ b. cond b (Some (group_of p.aggregates (rows_at p q ys))) None) (has_rows p q ys ∙ some (rows_at p q ys) (subst (λ n. 0 < n) (rows_in p (rows_at p q ys)) less))
  where
    some : (zs : List (Ranked Value)) → 0 < length zs → filled zs ≡ true
    some [] less = absurd (omega arith)
    some (z ∷ zs) less = refl

pub made_gone : (p : KeptPlan) (q : List Value) (ys : List (Ranked Value)) → (group_of p.aggregates (rows_at p q ys)).rows ≡ 0 → made_at p q ys ≡ None
unfolding made_at
made_gone p q ys e = ap (λ b. cond b (Some (group_of p.aggregates (rows_at p q ys))) None) (has_rows p q ys ∙ none (rows_at p q ys) (sym (rows_in p (rows_at p q ys)) ∙ e))
  where
    none : (zs : List (Ranked Value)) → length zs ≡ 0 → filled zs ≡ false
    none [] e = refl
    none (z ∷ zs) e = absurd (omega arith)
