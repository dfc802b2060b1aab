-- Lists that grow by one element a turn.
use Rattle.std.proofs.Common.{◌≡◌, ◌⊎◌, inl, inr, ℕ, zero, suc, ◌+◌, ◌<◌, List, [], ◌∷◌, ◌++◌, map, refl, sym, ap, ◌∙◌, subst, arith, length, take, get_or}
use Rattle.std.specs.Prelude.{replicate, IsTrue, Option, Some, None, slice_get, slice_index_or}
use Rattle.std.proofs.lemmas.Bool.{cases_lt}
use Rattle.std.proofs.lemmas.List.{append_assoc, take_more, map-append, length-append, get_or_append_left, get_or_push}
use Rattle.std.proofs.lemmas.List.{get_or-append_right}
use Rattle.std.proofs.lemmas.Grind.{replicate_next}
use Rattle.base_row_laws.specs.Bags.{Each}
use Rattle.base_row_laws.specs.Rows.{columns}
use Rattle.base_value.specs.declared.value.Value.{Value}
use Rattle.base_value.specs.declared.value.Value.TheVariants.{Null}
use Rattle.expr_scalar.specs.declared.expr.Expr.{Expr}
use Rattle.expr_scalar.specs.declared.expr.Expr.TheVariants.{Column}
use Rattle.expr_scalar.specs.Meaning.{value, values}
use Rattle.expr_scalar.proofs.Opened.{value_Column}
use Rattle.plan_algebra.specs.declared.node.Node.{Node}
use Rattle.plan_unnested_nodes.specs.declared.domain.Origin.{Origin}
use Rattle.plan_unnested_nodes.specs.declared.origins.Known.{Known}
use Rattle.plan_unnested_nodes.specs.Domains.{is_unchanged}
use Rattle.plan_unnested_nodes.specs.OwnColumns.{StandsFor, StandForAll}
use Rattle.plan_unnested_nodes.specs.FromRows.{AreOwn}
use Rattle.plan_unnested_nodes.specs.PlanKinds.{ColumnKinds, can_stand, IsListed, AreListed, AreKindsOf, AreKindsOfFirst, AreNotesOf}
use Rattle.plan_unnested_nodes.proofs.FitKinds.{stands_unchanged}
use Rattle.plan_unnested_nodes.proofs.Wide.{values-append}

-- f of one element more
pub map_put : {X Y : Type 0} (f : X → Y) (xs : List X) (i : ℕ) (x : X) (all now : List Y) → i < length xs → x ≡ get_or xs i x → all ≡ map f (take i xs) → now ≡ all ++ f x ∷ []
    → now ≡ map f (take (i + 1) xs)
map_put f xs i x all now h is e g =
    g ∙ ap (λ l. l ++ f x ∷ []) e ∙ ap (λ y. map f (take i xs) ++ f y ∷ []) is ∙ sym (map-append f (take i xs) (get_or xs i x ∷ [])) ∙ ap (map f) (sym (take_more xs i x h))

-- the same where the element is the one at its place
pub map_put_at : {X Y : Type 0} (f : X → Y) (xs : List X) (i : ℕ) (d : X) (all now : List Y) → i < length xs → all ≡ map f (take i xs) → now ≡ all ++ f (get_or xs i d) ∷ []
    → now ≡ map f (take (i + 1) xs)
map_put_at f xs i d all now h e g =
    g ∙ ap (λ l. l ++ f (get_or xs i d) ∷ []) e ∙ sym (map-append f (take i xs) (get_or xs i d ∷ [])) ∙ ap (map f) (sym (take_more xs i d h))

pub replicate_put : {X : Type 0} (start : List X) (n : ℕ) (x : X) (all now : List X) → all ≡ start ++ replicate n x → now ≡ all ++ x ∷ [] → now ≡ start ++ replicate (n + 1) x
replicate_put start n x all now e g =
    g ∙ ap (λ l. l ++ x ∷ []) e ∙ append_assoc start (replicate n x) (x ∷ []) ∙ ap (λ l. start ++ l) (sym (replicate_next n x))

listed_more : (ks : ColumnKinds) (es : List Expr) (new : ColumnKinds) (e : Expr) (k : Option Known) → AreListed ks es new → IsListed ks e k → AreListed ks (es ++ e ∷ []) (new ++ k ∷ [])
listed_more ks [] [] e k a l = (l, tt)
listed_more ks [] (m ∷ new) e k a l = elim a [ ]
listed_more ks (x ∷ es) [] e k a l = elim a [ ]
listed_more ks (x ∷ es) (m ∷ new) e k a l = (a.0, listed_more ks es new e k a.1 l)

pub listed_put : (ks : ColumnKinds) (es : List Expr) (i : ℕ) (e : Expr) (k : Option Known) (all now : ColumnKinds) → i < length es → e ≡ get_or es i e → AreListed ks (take i es) all → IsListed ks e k
    → now ≡ all ++ k ∷ [] → AreListed ks (take (i + 1) es) now
listed_put ks es i e k all now h is a l g =
    subst (λ x. AreListed ks x now) (ap (λ y. take i es ++ y ∷ []) is ∙ sym (take_more es i e h)) (subst (AreListed ks (take i es ++ e ∷ [])) (sym g) (listed_more ks (take i es) all e k a l))

-- a select list of columns behind a domain's, and one more
pub none_own : (n : ℕ) → AreOwn n [] []
unfolding values
none_own n = record { gives = λ d t ld. refl }

own_more : (n place : ℕ) (es own : List Expr) → AreOwn n es own
    → AreOwn n (es ++ Column (n + place) ∷ []) (own ++ Column place ∷ [])
unfolding values
own_more n place es own a = record {
  gives = λ d t ld.
      let right : slice_index_or (d ++ t) (n + place) Null ≡ slice_index_or t place Null =
      get_or-append_right d t n (n + place) Null ld (omega arith)
      ∙ ap (λ j. slice_index_or t j Null) (omega arith) in
      values-append own (Column place ∷ []) t
      ∙ ap (λ l. l ++ value (Column place) t ∷ []) (a.gives d t ld)
      ∙ ap (λ v. values es (d ++ t) ++ v ∷ [])
      (value_Column place t ∙ sym right ∙ sym (value_Column (n + place) (d ++ t)))
      ∙ sym (values-append es (Column (n + place) ∷ []) (d ++ t));
}

pub own_put : (n : ℕ) (es : List Expr) (i : ℕ) (e : Expr) (place : ℕ) (all now : List Expr)
    → i < length es → e ≡ get_or es i e → e ≡ Column (n + place) → AreOwn n (take i es) all
    → now ≡ all ++ Column place ∷ [] → AreOwn n (take (i + 1) es) now
own_put n es i e place all now h is c a g =
    subst (λ x. AreOwn n x now)
    (ap (λ y. take i es ++ y ∷ []) (sym c ∙ is) ∙ sym (take_more es i e h))
    (subst (AreOwn n (take i es ++ Column (n + place) ∷ [])) (sym g)
    (own_more n place (take i es) all a))

-- columns that stand for the first ones, and one more
pub record StandSoFar (ks : List (Option Known)) (notes : List Origin) (n : ℕ) (c : Expr) (count : ℕ) (own : List ℕ) : Type 0 where
  pub long : length own ≡ count
  pub each : (k : ℕ) → k < length own → StandsFor ks notes n c k (slice_index_or own k 0)

pub none_stand : (ks : List (Option Known)) (notes : List Origin) (n : ℕ) (c : Expr) → StandSoFar ks notes n c 0 []
none_stand ks notes n c = record { long = refl; each = λ k h. absurd (omega (arith, h)) }

pub stand_put : (ks : List (Option Known)) (notes : List Origin) (n : ℕ) (c : Expr) (count : ℕ) (own now : List ℕ) (b : ℕ) → StandSoFar ks notes n c count own → StandsFor ks notes n c count b
    → now ≡ own ++ b ∷ [] → StandSoFar ks notes n c (count + 1) now
stand_put ks notes n c count own now b s f e = subst (StandSoFar ks notes n c (count + 1)) (sym e) (record {
  long = length-append own (b ∷ []) ∙ ap (λ k. k + 1) s.long;
  each = λ k h.
      let l = length-append own (b ∷ []) in
      elim (split k (length own) (omega (arith, h, l))) [
        | inl g ↦ subst (StandsFor ks notes n c k) (sym (get_or_append_left own (b ∷ []) 0 k g)) (s.each k g)
        | inr g ↦
            subst (StandsFor ks notes n c k) (sym (get_or_push own b 0 k (sym g)))
            (subst (λ j. StandsFor ks notes n c j b) (sym (g ∙ s.long)) f)
      ];
})
  where
    split : (k m : ℕ) → k < m + 1 → (k < m) ⊎ (k ≡ m)
    split k m h = elim (cases_lt k m) [ inl l ↦ inl l | inr l ↦ inr (omega (arith, h, l)) ]

pub all_stand : (ks : List (Option Known)) (notes : List Origin) (n : ℕ) (c : Expr) (count : ℕ) (own : List ℕ) → count ≡ n → StandSoFar ks notes n c count own → StandForAll ks notes n c own
all_stand ks notes n c count own e s = record { long = s.long ∙ e; each = s.each }

-- the kinds of one node more
pub no_kinds : (nodes : List Node) → AreKindsOfFirst nodes 0 []
no_kinds nodes = record { long = refl; each = λ i h. absurd (omega (arith, h)) }

pub kinds_put : (nodes : List Node) (n : ℕ) (kinds now : List ColumnKinds) (ks : ColumnKinds) → AreKindsOfFirst nodes n kinds → AreKindsOf nodes n ks → now ≡ kinds ++ ks ∷ [] → AreKindsOfFirst nodes (n + 1) now
kinds_put nodes n kinds now ks a k e = subst (AreKindsOfFirst nodes (n + 1)) (sym e) (record {
  long = length-append kinds (ks ∷ []) ∙ ap (λ m. m + 1) a.long;
  each = λ i h.
      let l = a.long in
      elim (cases_lt i n) [
        | inl g ↦ subst (AreKindsOf nodes i) (sym (get_or_append_left kinds (ks ∷ []) [] i (omega (arith, g, l)))) (a.each i g)
        | inr g ↦
            let same : i ≡ n = omega (arith, h, g) in
            subst (AreKindsOf nodes i) (sym (get_or_push kinds ks [] i (l ∙ sym same))) (subst (λ j. AreKindsOf nodes j ks) (sym same) k)
      ];
})

-- notes of one column more
pub columns_at : (cs : List ℕ) (i c : ℕ) (v : List Value) → i < length cs → c ≡ slice_index_or cs i 0 → slice_index_or (columns Null cs v) i Null ≡ slice_index_or v c Null
columns_at [] i c v h is = absurd (omega (arith, h))
columns_at (x ∷ cs) zero c v h is = ap (λ k. slice_index_or v k Null) (sym is)
columns_at (x ∷ cs) (suc i) c v h is = columns_at cs i c v (omega (arith, h)) is

each_push : {X : Type 0} (P : X → Type 0) (xs : List X) (x : X) → Each P xs → P x → Each P (xs ++ x ∷ [])
each_push P [] x all p = (p, tt)
each_push P (y ∷ xs) x all p = (all.0, each_push P xs x all.1 p)

pub no_notes_of : (ks : ColumnKinds) (cs : List ℕ) → AreNotesOf ks cs []
no_notes_of ks cs = record { holds = λ v f. tt }

pub note_put : {ks : ColumnKinds} {cs : List ℕ} {i c j : ℕ} {k : Known} {notes now : List Origin} (note : Origin) → i < length cs → c ≡ slice_index_or cs i 0 → AreNotesOf ks cs notes
    → Some k ≡ slice_index_or ks c None → j ≡ i → note.column ≡ j → note.kind ≡ k.kind → now ≡ notes ++ note ∷ [] → AreNotesOf ks cs now
note_put {ks = ks} {cs = cs} {i = i} {c = c} {k = k} {notes = notes} note h is a known same at kind e = subst (AreNotesOf ks cs) (sym e) (record {
  holds = λ v f.
      let P : Origin → Type 0 = λ n. IsTrue (is_unchanged n.kind (slice_index_or (columns Null cs v) n.column Null)) in
      let fit : IsTrue (is_unchanged k.kind (slice_index_or v c Null)) = stands_unchanged k (slice_index_or v c Null) (subst (λ o. IsTrue (can_stand o (slice_index_or v c Null))) (sym known) (f c)) in
      each_push P notes note (a.holds v f)
      (subst (λ q. IsTrue (is_unchanged q (slice_index_or (columns Null cs v) note.column Null))) (sym kind)
      (subst (λ m. IsTrue (is_unchanged k.kind (slice_index_or (columns Null cs v) m Null))) (sym (at ∙ same))
      (subst (λ u. IsTrue (is_unchanged k.kind u)) (sym (columns_at cs i c v h is)) fit)));
})

-- a column that isn't there has no known kind
pub none_at : (ks : ColumnKinds) (i : ℕ) → slice_get ks i ≡ None → slice_index_or ks i None ≡ None
none_at [] i e = refl
none_at (k ∷ ks) zero e = cc
none_at (k ∷ ks) (suc i) e = none_at ks i e
