-- What groups show.
use Rattle.std.proofs.Common.{◌≡◌, ℕ, ◌+◌, ◌<◌, ◌≤◌, List, [], ◌∷◌, ◌++◌, Bool, true, refl, sym, ◌∙◌, ap, subst, arith, Some, None, length, zero, suc}
use Rattle.std.specs.Prelude.{map, take}
use Rattle.std.specs.List.{filter, IsDistinct, slice_get}
use Rattle.std.specs.Option.{is_some, option_map}
use Rattle.std.specs.Prelude.{not}
use Rattle.std.proofs.lemmas.Bool.{true≢false}
use lib.ListN.{get_or}
use Rattle.std.proofs.lemmas.List.{append_assoc, length-append, map-append}
use Rattle.base_row_laws.specs.Ranked.{Ranked, ranked}
use Rattle.base_row_laws.specs.Bags.{SameBag, classes, each_once}
use Rattle.base_row_laws.specs.Rows.{columns, same_row}
use Rattle.base_row_laws.specs.Operators.{project, group_by, total, least}
use Rattle.base_row_laws.specs.Aggregates.{aggregated}
use Rattle.base_row_laws.proofs.Bags.{SameBag-map, SameBag-trans, SameBag-refl}
use Rattle.base_row_laws.proofs.Lists.{map-ext, map-map}
use Rattle.base_row_laws.proofs.Tables.{entries_made}
use Rattle.base_value.specs.declared.value.Value.{Value}
use Rattle.base_value.specs.declared.value.Value.TheVariants.{Null}
use Rattle.base_value.specs.Value.{same_value}
use Rattle.plan_algebra.specs.declared.kept_plan.KeptPlan.{KeptPlan}
use Rattle.plan_algebra.specs.declared.kept_plan.KeptAggregate.{KeptAggregate}
use Rattle.plan_algebra.specs.KeptPlans.{kept_groups as groups}
use Rattle.plan_algebra.specs.KeptPlans.{item_of, selected, query_rows}
use Rattle.store_groups.specs.Groups.{Cell, Group}
use Rattle.store_kept_views.specs.RowGroups.{group_of, shown, all_shown, row_of}
use Rattle.store_groups.specs.Entries.{Entries, same_key, group_at}
use Rattle.store_kept_views.specs.Standing.{rows_at, made_at, StandsFor}
use Rattle.store_kept_views.specs.Output.{output_row, output_by, output_rows}
use Rattle.store_kept_views.proofs.GroupLists.{row_is, group_none}
use Rattle.store_groups.proofs.EntryLists.{key_identity}
use Rattle.store_groups.proofs.PageLists.{entries_more}
use Rattle.store_groups.specs.Pages.{entries_of}
use Rattle.store_kept_views.proofs.Made.{key, made_here, made_none}

-- the value of the aggregate at a place
some_cell : (x y : Cell) → Some x ≡ Some y → x ≡ y
some_cell x y e = cc

pub shown_in : (ags : List KeptAggregate) (n : ℕ) (cs : List Cell) (i : ℕ) (a : KeptAggregate) (c : Cell) → i < length ags → slice_get cs i ≡ Some c → a ≡ get_or ags i a
    → shown a n c ≡ get_or (all_shown ags n cs) i Null
shown_in [] n cs i a c la ic ia = absurd (omega arith)
shown_in (x ∷ ags) n [] i a c la ic ia = cc
shown_in (x ∷ ags) n (y ∷ cs) zero a c la ic ia = let e = some_cell y c ic in rw (ia, e)
shown_in (x ∷ ags) n (y ∷ cs) (suc i) a c la ic ia = shown_in ags n cs i a c (omega arith) ic ia

-- past the last aggregate, or the last cell
pub ags_past : (ags : List KeptAggregate) (n : ℕ) (cs : List Cell) (i : ℕ) → length ags ≤ i → Null ≡ get_or (all_shown ags n cs) i Null
ags_past [] n cs i le = refl
ags_past (x ∷ ags) n [] i le = refl
ags_past (x ∷ ags) n (y ∷ cs) zero le = absurd (omega arith)
ags_past (x ∷ ags) n (y ∷ cs) (suc i) le = ags_past ags n cs i (omega arith)

pub cells_past : (ags : List KeptAggregate) (n : ℕ) (cs : List Cell) (i : ℕ) → length cs ≤ i → Null ≡ get_or (all_shown ags n cs) i Null
cells_past [] n cs i le = refl
cells_past (x ∷ ags) n [] i le = refl
cells_past (x ∷ ags) n (y ∷ cs) zero le = absurd (omega arith)
cells_past (x ∷ ags) n (y ∷ cs) (suc i) le = cells_past ags n cs i (omega arith)

-- the rows of one more page
pub rows_more : {X : Type 0} (f : List Value × Group → X) (first old new : List X) (ps : List Entries) (i : ℕ) (es : Entries) → i < length ps → es ≡ get_or ps i es
    → old ≡ first ++ map f (entries_of (take i ps)) → new ≡ old ++ map f es → new ≡ first ++ map f (entries_of (take (i + 1) ps))
rows_more f first old new ps i es less is before more =
    more ∙ ap (λ l. l ++ map f es) before ∙ append_assoc first (map f (entries_of (take i ps))) (map f es)
    ∙ ap (λ l. first ++ l) (sym (map-append f (entries_of (take i ps)) es) ∙ ap (map f) (sym (entries_more ps i es less is)))

-- the row of one more entry
row_suc : {X : Type 0} (f : List Value × Group → X) (es : Entries) (i : ℕ) (k : List Value) (g : Group) → option_map (λ (e : List Value × Group). e.0) (slice_get es i) ≡ Some k
    → option_map (λ (e : List Value × Group). e.1) (slice_get es i) ≡ Some g → map f (take (suc i) es) ≡ map f (take i es) ++ f (k, g) ∷ []
row_suc f [] i k g one two = cc
row_suc f (e ∷ es) zero k g one two = let a : e.0 ≡ k = cc in let b : e.1 ≡ g = cc in ap (λ (x : List Value × Group). f x ∷ []) (pair_is e k g a b)
  where
    pair_is : (e : List Value × Group) (k : List Value) (g : Group) → e.0 ≡ k → e.1 ≡ g → e ≡ (k, g)
    pair_is e k g a b = ap (λ x. (x, e.1)) a ∙ ap (λ y. (k, y)) b
row_suc f (e ∷ es) (suc i) k g one two = ap (λ l. f e ∷ l) (row_suc f es i k g one two)

pub row_more : {X : Type 0} (f : List Value × Group → X) (first old new : List X) (es : Entries) (i : ℕ) (k : List Value) (g : Group)
    → option_map (λ (e : List Value × Group). e.0) (slice_get es i) ≡ Some k → option_map (λ (e : List Value × Group). e.1) (slice_get es i) ≡ Some g
    → old ≡ first ++ map f (take i es) → new ≡ old ++ f (k, g) ∷ [] → new ≡ first ++ map f (take (i + 1) es)
row_more f first old new es i k g one two before more =
    more ∙ ap (λ l. l ++ f (k, g) ∷ []) before ∙ append_assoc first (map f (take i es)) (f (k, g) ∷ [])
    ∙ ap (λ l. first ++ l) (sym (row_suc f es i k g one two) ∙ (let s : suc i ≡ i + 1 = omega arith in ap (λ n. map f (take n es)) s))

-- a page with an entry is among them
pub some_page : (ps : List Entries) (i n : ℕ) (es : Entries) → i < length ps → es ≡ get_or ps i es → n ≡ length es → 0 < n → 0 < length (entries_of ps)
some_page [] i n es less is many some = absurd (omega arith)
some_page (x ∷ ps) zero n es less is many some =
    let e = ap (λ (l : Entries). length l) is in omega (arith, e, many, some, length-append x (entries_of ps))
some_page (x ∷ ps) (suc i) n es less is many some =
    let e = some_page ps i n es (omega arith) is many some in omega (arith, e, length-append x (entries_of ps))

-- what is shown where there is an entry
some_by : (p : KeptPlan) (by : List ℕ) (es : Entries) → 0 < length es → map (λ (e : List Value × Group). output_row p e.0 e.1) es ≡ output_by p by es
some_by p by [] some = absurd (omega arith)
some_by p [] (e ∷ es) some = refl
some_by p (k ∷ ks) (e ∷ es) some = refl

pub some_shown : (p : KeptPlan) (es : Entries) → 0 < length es → map (λ (e : List Value × Group). output_row p e.0 e.1) es ≡ output_rows p es
some_shown p es some = some_by p p.by es some

-- what is shown where there is no entry and no one group
none_by : (p : KeptPlan) (by : List ℕ) (es : Entries) → (by ≡ [] → ⊥) → slice_get es 0 ≡ None → [] ≡ output_by p by es
none_by p [] es some none = absurd (some refl)
none_by p (k ∷ ks) [] some none = refl
none_by p (k ∷ ks) (x ∷ es) some none = absurd (true≢false (ap (λ o. is_some o) none))

pub none_shown : (p : KeptPlan) (es : Entries) → (p.by ≡ [] → ⊥) → slice_get es 0 ≡ None → [] ≡ output_rows p es
none_shown p es some none = none_by p p.by es some none

-- the select list over a group's row
abbrev listed : KeptPlan → Ranked Value → Ranked Value
listed p r = ranked (columns Null p.list r.values) r.standing

abbrev aggregates_of : KeptPlan → List (Ranked Value) → List Value
aggregates_of p = aggregated (map item_of p.aggregates)

-- the groups' rows, however the entries are ordered
entries_are : (p : KeptPlan) (es : Entries) (ys : List (Ranked Value)) → IsDistinct same_key (map (λ e. e.0) es) → ((q : List Value) → group_at es q ≡ made_at p q ys)
    → SameBag (map (λ e. row_of p.aggregates e.0 e.1) es) (group_by same_value (columns Null p.by) (aggregates_of p) ys)
unfolding made_at
entries_are p es ys distinct stands =
    let made = entries_made same_key key_identity (key p) (group_of p.aggregates) (row_of p.aggregates) ys es distinct stands in
    SameBag-trans made
    (subst (λ l. SameBag (classes same_key (key p) (λ k zs. row_of p.aggregates k (group_of p.aggregates zs)) ys) l)
    (map-ext (λ k. row_of p.aggregates k (group_of p.aggregates (filter (λ x. same_key (key p x) k) ys)))
    (λ k. let zs = filter (λ x. same_key (key p x) k) ys in ranked (k ++ aggregates_of p zs) (least zs)) (each_once same_key (map (key p) ys))
    (λ k. row_is p.aggregates k (filter (λ x. same_key (key p x) k) ys)))
    (SameBag-refl (classes same_key (key p) (λ k zs. row_of p.aggregates k (group_of p.aggregates zs)) ys)))

none_some : {X : Type 0} (x : X) → Some x ≡ None → ⊥
none_some x e = true≢false (ap (λ o. is_some o) e)

-- where no key has a group there is no row
no_groups : (p : KeptPlan) (ys : List (Ranked Value)) → ((q : List Value) → None ≡ made_at p q ys) → ys ≡ []
no_groups p [] none = refl
no_groups p (y ∷ ys) none = absurd (none_some (group_of p.aggregates (y ∷ rows_at p (key p y) ys)) (sym (made_here p y ys) ∙ sym (none (key p y))))

-- one key for all rows
same_nil : List Value → Bool
same_nil k = same_row same_value [] k

once_const : (ys : List (Ranked Value)) → filter (λ k. not (same_row same_value [] k)) (each_once (same_row same_value) (map (λ (y : Ranked Value). []) ys)) ≡ []
once_const [] = refl
once_const (y ∷ ys) = once_const_more (filter (λ k. not (same_row same_value [] k)) (each_once (same_row same_value) (map (λ (y : Ranked Value). []) ys))) (once_const ys)
  where
    once_const_more : (l : List (List Value)) → l ≡ [] → filter (λ k. not (same_row same_value [] k)) ([] ∷ l) ≡ []
    once_const_more l e = rw e

filter_all : (ys : List (Ranked Value)) → filter (λ (y : Ranked Value). true) ys ≡ ys
filter_all [] = refl
filter_all (y ∷ ys) = ap (λ l. y ∷ l) (filter_all ys)

one_group : (aggregates : List (Ranked Value) → List Value) (y : Ranked Value) (ys : List (Ranked Value)) → group_by same_value (columns Null []) aggregates (y ∷ ys) ≡ total aggregates (y ∷ ys)
one_group aggregates y ys =
    ap (λ l. map (λ k. ranked (k ++ aggregates (filter (λ (x : Ranked Value). same_row same_value [] k) (y ∷ ys))) (least (filter (λ (x : Ranked Value). same_row same_value [] k) (y ∷ ys)))) ([] ∷ l)) (once_const ys)
    ∙ ap (λ l. ranked (aggregates l) (least l) ∷ []) (filter_all (y ∷ ys))

-- the rows that are shown are those of the query
shown_by : (p : KeptPlan) (by : List ℕ) (es : Entries) (ys : List (Ranked Value)) → p.by ≡ by → IsDistinct same_key (map (λ e. e.0) es) → ((q : List Value) → group_at es q ≡ made_at p q ys)
    → SameBag (output_by p by es) (project (columns Null p.list) (groups by (aggregates_of p) ys))
shown_by p [] [] ys is distinct stands =
    let none = no_groups p ys stands in
    subst (λ ys. SameBag (output_by p [] []) (project (columns Null p.list) (total (aggregates_of p) ys))) (sym none)
    (subst (λ r. SameBag (listed p r ∷ []) (project (columns Null p.list) (total (aggregates_of p) [])))
    (sym (ap (row_of p.aggregates []) (sym (group_none p.aggregates)) ∙ row_is p.aggregates [] []))
    (SameBag-refl _))
shown_by p [] (e ∷ es) ys is distinct stands = one_by ys (λ q. stands q)
  where
    one_by : (ys : List (Ranked Value)) → ((q : List Value) → group_at (e ∷ es) q ≡ made_at p q ys) → SameBag (output_by p [] (e ∷ es)) (project (columns Null p.list) (total (aggregates_of p) ys))
    one_by [] stands = let m = key_identity.meets e.0 in absurd (none_some e.1 ((rw m at (stands e.0)) ∙ made_none p e.0))
    one_by (z ∷ zs) stands =
        subst (λ l. SameBag (output_by p [] (e ∷ es)) (map (listed p) l)) (ap (λ by. group_by same_value (columns Null by) (aggregates_of p) (z ∷ zs)) is ∙ one_group (aggregates_of p) z zs)
        (subst (λ l. SameBag l (map (listed p) (group_by same_value (columns Null p.by) (aggregates_of p) (z ∷ zs)))) (map-map (listed p) (λ e. row_of p.aggregates e.0 e.1) (e ∷ es))
        (SameBag-map (listed p) (entries_are p (e ∷ es) (z ∷ zs) distinct stands)))
shown_by p (k ∷ ks) es ys is distinct stands =
    subst (λ by. SameBag (output_by p (k ∷ ks) es) (map (listed p) (group_by same_value (columns Null by) (aggregates_of p) ys))) is
    (subst (λ l. SameBag l (map (listed p) (group_by same_value (columns Null p.by) (aggregates_of p) ys))) (map-map (listed p) (λ e. row_of p.aggregates e.0 e.1) es)
    (SameBag-map (listed p) (entries_are p es ys distinct stands)))

pub rows_shown : (p : KeptPlan) (es : Entries) (rows : List (List Value)) → IsDistinct same_key (map (λ e. e.0) es) → StandsFor p es rows → SameBag (output_rows p es) (query_rows p rows)
unfolding query_rows
rows_shown p es rows distinct stands = shown_by p p.by es (selected p rows) refl distinct stands
