-- Entries on the pages that their keys' hashes lead to.
use Rattle.std.proofs.Common.{◌≡◌, ℕ, ◌+◌, ◌%◌, ◌<◌, ◌≤◌, List, [], ◌∷◌, ◌++◌, false, cond, refl, sym, ◌∙◌, ap, subst, arith, inl, inr, Some, None, Option, zero, suc, set}
use Rattle.std.specs.Prelude.{replicate, take}
use Rattle.std.specs.List.{fold, IsDistinct, AllByRecursion}
use lib.ListN.{get_or, length}
use Rattle.std.proofs.lemmas.Bool.{cases_Bool, cases_eq}
use Rattle.std.proofs.lemmas.List.{get_or-set_same, get_or-set_other, length-set, length-replicate, append_assoc, append-nil}
use Rattle.std.proofs.lemmas.Map.Keys.{IsDistinct-head, IsDistinct-tail, IsDistinct-cons}
use Rattle.std.proofs.lemmas.Nat.{mod_below}
use Rattle.std.specs.Hash.FoldHasher.{initial, write, finish}
use Rattle.store_groups.specs.Pages.{entries_of}
use Rattle.base_value.specs.declared.value.Value.{Value}
use Rattle.store_groups.specs.Groups.{Group}
use Rattle.store_groups.specs.Entries.{IsHash, Entries, same_key, group_at, keys_of}
use Rattle.store_groups.specs.Entries.{with_group, without_key}
use Rattle.store_groups.specs.Taken.{IsSet, IsSetOn}
use Rattle.store_groups.specs.Pages.{ArePlaced, IsTable, first_of, page_in}
use Rattle.store_groups.proofs.EntryLists.{key_identity, at_with_group, distinct_put, distinct_without, distinct_none}

first_alone : (o : Option Group) → first_of o None ≡ o
first_alone None = refl
first_alone (Some g) = refl

at_append : (xs ys : Entries) (q : List Value) → group_at (xs ++ ys) q ≡ first_of (group_at xs q) (group_at ys q)
at_append [] ys q = refl
at_append (e ∷ xs) ys q = elim (cases_Bool (same_key q e.0)) [ inl t ↦ rw t | inr f ↦ rw f (at_append xs ys q) ]

-- an entry taken from the end of a list and put into a table
pub popped : (xs : Entries) (e : List Value × Group) (old new : Option Group) (q : List Value) → new ≡ cond (same_key q e.0) (Some e.1) old
    → first_of (group_at (xs ++ e ∷ []) q) old ≡ first_of (group_at xs q) new
popped [] e old new q is = elim (cases_Bool (same_key q e.0)) [
  | inl t ↦ let h : new ≡ Some e.1 = rw t at is in rw t (sym h)
  | inr f ↦ let h : new ≡ old = rw f at is in rw f (sym h)
]
popped (x ∷ xs) e old new q is = elim (cases_Bool (same_key q x.0)) [ inl t ↦ rw t | inr f ↦ rw f (popped xs e old new q is) ]

-- no key of two lists is x
far_both : (x : List Value) (es rest : Entries) → AllByRecursion (λ y. same_key x y ≡ false) (keys_of es) → AllByRecursion (λ y. same_key x y ≡ false) (keys_of rest)
    → AllByRecursion (λ y. same_key x y ≡ false) (keys_of (es ++ rest))
far_both x [] rest one two = two
far_both x (e ∷ es) rest one two = (one.0, far_both x es rest one.1 two)

-- the group of a key set
set_of : (k : List Value) (o : Option Group) (old new : Entries) → IsSetOn k o old new → IsSet k o old new
set_of k o old new (inl made) q = ap (λ (es : Entries). group_at es q) made ∙ at_with_group k o old q
set_of k o old new (inr made) q = made.1 q

module _ (page : List Value → ℕ) where
  abbrev AllOn : ℕ → Entries → Type 0
  AllOn i es = AllByRecursion (λ e. page e.0 ≡ i) es

  absent : (i : ℕ) (es : Entries) (q : List Value) → AllOn i es → (page q ≡ i → ⊥) → group_at es q ≡ None
  absent i [] q all other = refl
  absent i (e ∷ es) q all other = elim (cases_Bool (same_key q e.0)) [
    | inl t ↦ absurd (other (ap page (key_identity.tells q e.0 t) ∙ all.0))
    | inr f ↦ rw f (absent i es q all.1 other)
  ]

  before : (i : ℕ) (ps : List Entries) (q : List Value) → ArePlaced page i ps → page q < i → group_at (entries_of ps) q ≡ None
  before i [] q placed less = refl
  before i (es ∷ ps) q placed less =
      at_append es (entries_of ps) q
      ∙ ap (λ o. first_of o (group_at (entries_of ps) q)) (absent i es q placed.0 (λ e. omega (arith, e, less)))
      ∙ before (suc i) ps q placed.2 (omega arith)

  at_zero : (j : ℕ) (es : Entries) → AllOn j es → AllOn (0 + j) es
  at_zero j es all = let e : j ≡ 0 + j = omega arith in subst (λ n. AllOn n es) e all

  from_zero : (j : ℕ) (es : Entries) → AllOn (0 + j) es → AllOn j es
  from_zero j es all = let e : 0 + j ≡ j = omega arith in subst (λ n. AllOn n es) e all

  -- a key's group is on its page
  found_from : (i j : ℕ) (ps : List Entries) (q : List Value) → ArePlaced page i ps → page q ≡ i + j → j < length ps → group_at (entries_of ps) q ≡ group_at (get_or ps j []) q
  found_from i j [] q placed at less = absurd (omega arith)
  found_from i zero (es ∷ ps) q placed at less =
      at_append es (entries_of ps) q
      ∙ ap (λ o. first_of (group_at es q) o) (before (suc i) ps q placed.2 (omega arith))
      ∙ first_alone (group_at es q)
  found_from i (suc j) (es ∷ ps) q placed at less =
      at_append es (entries_of ps) q
      ∙ ap (λ o. first_of o (group_at (entries_of ps) q)) (absent i es q placed.0 (λ e. omega (arith, e, at)))
      ∙ found_from (suc i) j ps q placed.2 (omega arith) (omega arith)

  pub found : (ps : List Entries) (q : List Value) → ArePlaced page 0 ps → page q < length ps → group_at (entries_of ps) q ≡ group_at (get_or ps (page q) []) q
  found ps q placed less = let e : page q ≡ 0 + page q = omega arith in found_from 0 (page q) ps q placed e less

  all_of_page : (i j : ℕ) (ps : List Entries) → ArePlaced page i ps → j < length ps → AllOn (i + j) (get_or ps j [])
  all_of_page i j [] placed less = absurd (omega arith)
  all_of_page i zero (es ∷ ps) placed less = let e : i ≡ i + 0 = omega arith in subst (λ n. AllOn n es) e placed.0
  all_of_page i (suc j) (es ∷ ps) placed less = let e : suc i + j ≡ i + suc j = omega arith in subst (λ n. AllOn n (get_or ps j [])) e (all_of_page (suc i) j ps placed.2 (omega arith))

  distinct_page : (i j : ℕ) (ps : List Entries) → ArePlaced page i ps → j < length ps → IsDistinct same_key (keys_of (get_or ps j []))
  distinct_page i j [] placed less = absurd (omega arith)
  distinct_page i zero (es ∷ ps) placed less = placed.1
  distinct_page i (suc j) (es ∷ ps) placed less = distinct_page (suc i) j ps placed.2 (omega arith)

  placed_set : (i j : ℕ) (ps : List Entries) (new : Entries) → ArePlaced page i ps → j < length ps → AllOn (i + j) new → IsDistinct same_key (keys_of new) → ArePlaced page i (set ps j new)
  placed_set i j [] new placed less all distinct = placed
  placed_set i zero (es ∷ ps) new placed less all distinct = let e : i + 0 ≡ i = omega arith in (subst (λ n. AllOn n new) e all, distinct, placed.2)
  placed_set i (suc j) (es ∷ ps) new placed less all distinct = let e : i + suc j ≡ suc i + j = omega arith in
      (placed.0, placed.1, placed_set (suc i) j ps new placed.2 (omega arith) (subst (λ n. AllOn n new) e all) distinct)

  -- keys of other pages are other keys
  far_page : (i j : ℕ) (x : List Value) (es : Entries) → page x ≡ i → AllOn j es → (i ≡ j → ⊥) → AllByRecursion (λ y. same_key x y ≡ false) (keys_of es)
  far_page i j x [] on all other = tt
  far_page i j x (e ∷ es) on all other = (elsewhere_key x e.0 (λ is. other (sym on ∙ is ∙ all.0)), far_page i j x es on all.1 other)
    where
      elsewhere_key : (x y : List Value) → (page x ≡ page y → ⊥) → same_key x y ≡ false
      elsewhere_key x y other = elim (cases_Bool (same_key x y)) [
        | inr f ↦ f
        | inl t ↦ absurd (other (ap page (key_identity.tells x y t)))
      ]

  far_pages : (i j : ℕ) (x : List Value) (ps : List Entries) → page x ≡ i → i < j → ArePlaced page j ps → AllByRecursion (λ y. same_key x y ≡ false) (keys_of (entries_of ps))
  far_pages i j x [] on less placed = tt
  far_pages i j x (es ∷ ps) on less placed =
      far_both x es (entries_of ps) (far_page i j x es on placed.0 (λ is. omega arith)) (far_pages i (suc j) x ps on (omega arith) placed.2)

  distinct_both : (i : ℕ) (es rest : Entries) → AllOn i es → IsDistinct same_key (keys_of es) → IsDistinct same_key (keys_of rest)
      → ((x : List Value) → page x ≡ i → AllByRecursion (λ y. same_key x y ≡ false) (keys_of rest)) → IsDistinct same_key (keys_of (es ++ rest))
  distinct_both i [] rest all one two far = two
  distinct_both i (e ∷ es) rest all one two far =
      IsDistinct-cons same_key e.0 (keys_of (es ++ rest))
      (far_both e.0 es rest (IsDistinct-head same_key e.0 (keys_of es) one) (far e.0 all.0))
      (distinct_both i es rest all.1 (IsDistinct-tail same_key e.0 (keys_of es) one) two far)

  pub distinct_all : (i : ℕ) (ps : List Entries) → ArePlaced page i ps → IsDistinct same_key (keys_of (entries_of ps))
  distinct_all i [] placed = distinct_none [] refl
  distinct_all i (es ∷ ps) placed =
      distinct_both i es (entries_of ps) placed.0 placed.1 (distinct_all (suc i) ps placed.2)
      (λ x on. far_pages i (suc i) x ps on (omega arith) placed.2)

  all_without : (i : ℕ) (k : List Value) (es : Entries) → AllOn i es → AllOn i (without_key k es)
  all_without i k [] all = tt
  all_without i k (e ∷ es) all = elim (cases_Bool (same_key k e.0)) [
    | inl t ↦ rw t (all_without i k es all.1)
    | inr f ↦ rw f (all.0, all_without i k es all.1)
  ]

  all_last : (i : ℕ) (es : Entries) (e : List Value × Group) → AllOn i es → page e.0 ≡ i → AllOn i (es ++ e ∷ [])
  all_last i [] e all is = (is, tt)
  all_last i (x ∷ es) e all is = (all.0, all_last i es e all.1 is)

  -- the pages with an entry put or removed on its key's page
  pub placed_put : (ps : List Entries) (j : ℕ) (e : List Value × Group) → ArePlaced page 0 ps → j ≡ page e.0 → j < length ps
      → ArePlaced page 0 (set ps j (without_key e.0 (get_or ps j []) ++ e ∷ []))
  placed_put ps j e placed is less =
      placed_set 0 j ps (without_key e.0 (get_or ps j []) ++ e ∷ []) placed less
      (at_zero j (without_key e.0 (get_or ps j []) ++ e ∷ [])
      (all_last j (without_key e.0 (get_or ps j [])) e (all_without j e.0 (get_or ps j []) (from_zero j (get_or ps j []) (all_of_page 0 j ps placed less))) (sym is)))
      (distinct_put e.0 e.1 (get_or ps j []) (distinct_page 0 j ps placed less))

  pub placed_removed : (ps : List Entries) (j : ℕ) (k : List Value) → ArePlaced page 0 ps → j < length ps → ArePlaced page 0 (set ps j (without_key k (get_or ps j [])))
  placed_removed ps j k placed less =
      placed_set 0 j ps (without_key k (get_or ps j [])) placed less
      (all_without (0 + j) k (get_or ps j []) (all_of_page 0 j ps placed less))
      (distinct_without k (get_or ps j []) (distinct_page 0 j ps placed less))

  -- a key of another page is another key
  elsewhere : (k q : List Value) (j : ℕ) → j ≡ page k → (page q ≡ j → ⊥) → same_key q k ≡ false
  elsewhere k q j is other = elim (cases_Bool (same_key q k)) [
    | inr f ↦ f
    | inl t ↦ absurd (other (ap page (key_identity.tells q k t) ∙ sym is))
  ]

  -- a page with the group of its key set
  pub placed_with : (ps : List Entries) (j : ℕ) (k : List Value) (o : Option Group) → ArePlaced page 0 ps → j ≡ page k → j < length ps → ArePlaced page 0 (set ps j (with_group k o (get_or ps j [])))
  placed_with ps j k None placed is less = placed_removed ps j k placed less
  placed_with ps j k (Some g) placed is less = placed_put ps j (k, g) placed is less

  keys_on : (i : ℕ) (es : Entries) → AllOn i es → AllByRecursion (λ x. page x ≡ i) (keys_of es)
  keys_on i [] all = tt
  keys_on i (e ∷ es) all = (all.0, keys_on i es all.1)

  on_keys : (i : ℕ) (es : Entries) → AllByRecursion (λ x. page x ≡ i) (keys_of es) → AllOn i es
  on_keys i [] all = tt
  on_keys i (e ∷ es) all = (all.0, on_keys i es all.1)

  -- a page of the same keys
  pub placed_like : (ps : List Entries) (j : ℕ) (new : Entries) → ArePlaced page 0 ps → j < length ps → keys_of new ≡ keys_of (get_or ps j []) → ArePlaced page 0 (set ps j new)
  placed_like ps j new placed less same =
      placed_set 0 j ps new placed less
      (on_keys (0 + j) new (subst (λ ks. AllByRecursion (λ x. page x ≡ 0 + j) ks) (sym same) (keys_on (0 + j) (get_or ps j []) (all_of_page 0 j ps placed less))))
      (subst (λ ks. IsDistinct same_key ks) (sym same) (distinct_page 0 j ps placed less))

  pub placed_on : (ps : List Entries) (j : ℕ) (k : List Value) (o : Option Group) (new : Entries) → ArePlaced page 0 ps → j ≡ page k → j < length ps
      → IsSetOn k o (get_or ps j []) new → ArePlaced page 0 (set ps j new)
  placed_on ps j k o new placed is less (inl made) = subst (λ es. ArePlaced page 0 (set ps j es)) (sym made) (placed_with ps j k o placed is less)
  placed_on ps j k o new placed is less (inr made) = placed_like ps j new placed less made.0

  pub set_at : (ps : List Entries) (j : ℕ) (k : List Value) (o : Option Group) (new : Entries) → ArePlaced page 0 ps → ((x : List Value) → page x < length ps) → j ≡ page k
      → IsSetOn k o (get_or ps j []) new → IsSet k o (entries_of ps) (entries_of (set ps j new))
  set_at ps j k o new placed within is made q =
      let less : j < length ps = subst (λ n. n < length ps) (sym is) (within k) in
      found (set ps j new) q (placed_on ps j k o new placed is less made) (subst (λ n. page q < n) (sym (length-set ps j new)) (within q))
      ∙ elim (cases_eq (page q) j) [
        | inl t ↦
            ap (λ n. group_at (get_or (set ps j new) n []) q) t
            ∙ ap (λ (es : Entries). group_at es q) (get_or-set_same ps j new [] less)
            ∙ set_of k o (get_or ps j []) new made q
            ∙ ap (λ x. cond (same_key q k) o x) (ap (λ n. group_at (get_or ps n []) q) (sym t) ∙ sym (found ps q placed (within q)))
        | inr f ↦
            ap (λ (es : Entries). group_at es q) (get_or-set_other ps j (page q) new [] f)
            ∙ sym (found ps q placed (within q))
            ∙ sym (ap (λ b. cond b o (group_at (entries_of ps) q)) (elsewhere k q j is f))
      ]

-- pages without entries
pub none_there : (n : ℕ) → entries_of (replicate n []) ≡ []
none_there zero = refl
none_there (suc n) = none_there n

pub none_placed : (page : List Value → ℕ) (i n : ℕ) → ArePlaced page i (replicate n [])
none_placed page i zero = tt
none_placed page i (suc n) = (tt, distinct_none [] refl, none_placed page (suc i) n)

-- tables of pages
default_any : (ps : List Entries) (i : ℕ) (d e : Entries) → i < length ps → get_or ps i d ≡ get_or ps i e
default_any [] i d e less = absurd (omega arith)
default_any (x ∷ ps) zero d e less = refl
default_any (x ∷ ps) (suc i) d e less = default_any ps i d e (omega arith)

within : (fed : List Value → List (List ℕ)) (n : ℕ) → 0 < n → (q : List Value) → page_in fed n q < n
within fed n some q = mod_below (finish (fold write initial (fed q))) n some

-- the page of a key by its hash
pub at_page : {fed : List Value → List (List ℕ)} {hash : ℕ} {k : List Value} → IsHash fed hash k → (n at : ℕ) → at ≡ hash % n → at ≡ page_in fed n k
at_page h n at is = is ∙ ap (λ x. x % n) h.is

module _ {fed : List Value → List (List ℕ)} {ps : List Entries} (table : IsTable fed ps) (n at : ℕ) (here : Entries) (k : List Value)
    (many : n ≡ length ps) (is : at ≡ page_in fed n k) (on : here ≡ get_or ps at here) where
  abbrev page : List Value → ℕ
  page = page_in fed (length ps)

  is_page : at ≡ page k
  is_page = is ∙ ap (λ m. page_in fed m k) many

  less : at < length ps
  less = subst (λ m. m < length ps) (sym is_page) (within fed (length ps) table.some k)

  on_page : here ≡ get_or ps at []
  on_page = on ∙ default_any ps at here [] less

  -- the group of a key, by its page
  pub table_get : group_at here k ≡ group_at (entries_of ps) k
  table_get =
      ap (λ (es : Entries). group_at es k) (on_page ∙ ap (λ m. get_or ps m []) is_page)
      ∙ sym (found page ps k table.placed (within fed (length ps) table.some k))

  -- the keys of a page differ
  pub page_distinct : IsDistinct same_key (keys_of here)
  page_distinct = subst (λ es. IsDistinct same_key (keys_of es)) (sym on_page) (distinct_page page 0 at ps table.placed less)

  table_of : (new : Entries) → ArePlaced page 0 (set ps at new) → IsTable fed (set ps at new)
  table_of new placed =
      let same = sym (length-set ps at new) in
      record {
        some = subst (λ m. 0 < m) same table.some;
        placed = subst (λ m. ArePlaced (page_in fed m) 0 (set ps at new)) same placed;
      }

  -- with the group of a key set
  module _ (o : Option Group) (new : Entries) (made : IsSetOn k o here new) where
    made_on : IsSetOn k o (get_or ps at []) new
    made_on = subst (λ es. IsSetOn k o es new) on_page made

    pub table_with : IsTable fed (set ps at new)
    table_with = table_of new (placed_on page ps at k o new table.placed is_page less made_on)

    pub table_set : IsSet k o (entries_of ps) (entries_of (set ps at new))
    table_set = set_at page ps at k o new table.placed (within fed (length ps) table.some) is_page made_on

  -- the same of what the table is seen as
  pub set_there : (old : Entries) → entries_of ps ≡ old → (f : Option Group → Option Group) (new : Entries) → IsSetOn k (f (group_at here k)) here new
      → IsSet k (f (group_at old k)) old (entries_of (set ps at new))
  set_there old view f new made q =
      table_set (f (group_at here k)) new made q
      ∙ ap (λ g. cond (same_key q k) (f g) (group_at (entries_of ps) q)) table_get
      ∙ ap (λ (es : Entries). cond (same_key q k) (f (group_at es k)) (group_at es q)) view

  pub get_there : (old : Entries) → entries_of ps ≡ old → group_at here k ≡ group_at old k
  get_there old view = table_get ∙ ap (λ (es : Entries). group_at es k) view

  -- after want of memory
  pub table_after : (new : Entries) → keys_of new ≡ keys_of here → IsTable fed (set ps at new)
  table_after new same = table_of new (placed_like page ps at new table.placed less (same ∙ ap keys_of on_page))

-- the keys of all pages differ
pub table_distinct : {fed : List Value → List (List ℕ)} {ps : List Entries} → IsTable fed ps → IsDistinct same_key (keys_of (entries_of ps))
table_distinct {fed} {ps} table = distinct_all (page_in fed (length ps)) 0 ps table.placed

-- no entries on so many pages
pub table_none : {fed : List Value → List (List ℕ)} (n : ℕ) (ps : List Entries) → 0 < n → ps ≡ replicate n [] → IsTable fed ps
table_none {fed} n ps some is =
    let l : length ps ≡ n = ap length is ∙ length-replicate n [] in
    record {
      some = subst (λ m. 0 < m) (sym l) some;
      placed = subst (λ x. ArePlaced (page_in fed (length ps)) 0 x) (sym is) (none_placed (page_in fed (length ps)) 0 n);
    }

pub no_entries : (n : ℕ) (ps : List Entries) → ps ≡ replicate n [] → entries_of ps ≡ []
no_entries n ps is = ap entries_of is ∙ none_there n

-- the entries of one page more
more_suc : (ps : List Entries) (i : ℕ) (es : Entries) → i < length ps → es ≡ get_or ps i es → entries_of (take (suc i) ps) ≡ entries_of (take i ps) ++ es
more_suc [] i es less is = absurd (omega arith)
more_suc (x ∷ ps) zero es less is = append-nil x ∙ sym is
more_suc (x ∷ ps) (suc i) es less is = ap (λ l. x ++ l) (more_suc ps i es (omega arith) is) ∙ sym (append_assoc x (entries_of (take i ps)) es)

pub entries_more : (ps : List Entries) (i : ℕ) (es : Entries) → i < length ps → es ≡ get_or ps i es → entries_of (take (i + 1) ps) ≡ entries_of (take i ps) ++ es
entries_more ps i es less is = let s : i + 1 ≡ suc i = omega arith in ap (λ n. entries_of (take n ps)) s ∙ more_suc ps i es less is

nothing_in : (es : Entries) → length es ≤ 0 → es ≡ []
nothing_in [] none = refl
nothing_in (e ∷ es) none = absurd (omega arith)

-- one page more, without entries
pub none_more : (ps : List Entries) (i n : ℕ) (es : Entries) → i < length ps → es ≡ get_or ps i es → n ≡ length es → n ≤ 0 → entries_of (take i ps) ≡ [] → entries_of (take (i + 1) ps) ≡ []
none_more ps i n es less is many none before =
    entries_more ps i es less is ∙ ap (λ l. l ++ es) before ∙ nothing_in es (subst (λ m. m ≤ 0) many none)
