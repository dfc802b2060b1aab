-- What the operators make of rows with more columns after them.
use Rattle.std.proofs.Common.{◌≡◌, ℕ, ◌≤◌, List, [], ◌∷◌, ◌++◌, Bool, map, refl, sym, ap}
use Rattle.std.proofs.Common.{◌∙◌, inl, inr, arith, min}
use Rattle.std.specs.Prelude.{nat_lt}
use Rattle.std.specs.List.{filter, flat_map}
use Rattle.std.proofs.lemmas.Bool.{cases_Bool, le-ltb, ltb-false}
use Rattle.std.proofs.lemmas.List.{append-nil, append_assoc}
use Rattle.std.proofs.lemmas.Grind.{flat_map-append}
use Rattle.base_row_laws.specs.Aggregates.{aggregated}
use Rattle.base_row_laws.specs.Bags.{Each, each_once}
use Rattle.base_row_laws.specs.Operators.{select, project, pair, or_else, join_loop, outer_loop}
use Rattle.base_row_laws.specs.Operators.{group_by, total, least}
use Rattle.base_row_laws.specs.Ranked.{Ranked, ranked, unknown_rank, true_rank}
use Rattle.base_row_laws.specs.Rows.{keep, same_row}
use Rattle.base_row_laws.specs.StandingLaws.{Stands}
use Rattle.base_row_laws.proofs.Groups.{bottom-map}
use Rattle.base_row_laws.proofs.Lists.{map-map, map-ext, map-ext_each, flat_map-map, map-flat_map}
use Rattle.base_row_laws.proofs.Lists.{flat_map-ext, flat_map-ext_each, filter-map, filter-ext_each}
use Rattle.base_row_laws.proofs.Lists.{Each-weaker, Each-filter, Each-both}
use Rattle.base_row_laws.proofs.Standings as stands
use Rattle.base_value.specs.declared.value.Value.{Value}
use Rattle.sql_bound_query.specs.Meaning.{cross_loop}
use Rattle.plan_dependent_nodes.specs.Growth.{widened}

keep_widened : (f : List Value → List Value) (r : List Value) (s : ℕ)
    → keep (r ++ f r) s ≡ map (widened f) (keep r s)
keep_widened f r s = elim (cases_Bool (nat_lt unknown_rank s))
    [ inl t ↦ rw t refl | inr e ↦ rw e refl ]

pub select_widened : (f : List Value → List Value) (c p : List Value → ℕ) (xs : List (Ranked Value))
    → Each (λ x. c (x.values ++ f x.values) ≡ p x.values) xs
    → select c (map (widened f) xs) ≡ map (widened f) (select p xs)
select_widened f c p xs all =
    flat_map-map (λ (x : Ranked Value). keep x.values (min x.standing (c x.values))) (widened f) xs
    ∙ flat_map-ext_each (λ (x : Ranked Value). c (x.values ++ f x.values) ≡ p x.values)
    (λ (x : Ranked Value). keep (x.values ++ f x.values)
    (min x.standing (c (x.values ++ f x.values))))
    (λ (x : Ranked Value). map (widened f) (keep x.values (min x.standing (p x.values)))) xs all
    (λ x e. ap (λ n. keep (x.values ++ f x.values) (min x.standing n)) e
    ∙ keep_widened f x.values (min x.standing (p x.values)))
    ∙ sym (map-flat_map (widened f)
    (λ (x : Ranked Value). keep x.values (min x.standing (p x.values))) xs)

pub widened_twice : (f g : List Value → List Value) (xs : List (Ranked Value))
    → map (widened g) (map (widened f) xs) ≡ map (widened (λ r. f r ++ g (r ++ f r))) xs
widened_twice f g xs =
    map-map (widened g) (widened f) xs
    ∙ map-ext (λ x. widened g (widened f x)) (widened (λ r. f r ++ g (r ++ f r))) xs
    (λ x. ap (λ v. ranked v x.standing)
    (append_assoc x.values (f x.values) (g (x.values ++ f x.values))))

widened_one : (f : List Value → List Value) (x : Ranked Value) → f x.values ≡ [] → widened f x ≡ x
widened_one f x e = ap (λ v. ranked v x.standing) (ap (λ v. x.values ++ v) e ∙ append-nil x.values)

pub widened_none : (f : List Value → List Value) (xs : List (Ranked Value))
    → Each (λ x. f x.values ≡ []) xs → map (widened f) xs ≡ xs
widened_none f [] all = refl
widened_none f (x ∷ xs) all = ap (λ y. y ∷ map (widened f) xs) (widened_one f x all.0)
    ∙ ap (λ ys. x ∷ ys) (widened_none f xs all.1)

pub project_widened : (f h k : List Value → List Value) (xs : List (Ranked Value))
    → Each (λ x. h (x.values ++ f x.values) ≡ k x.values) xs
    → project h (map (widened f) xs) ≡ project k xs
project_widened f h k xs all =
    map-map (λ (x : Ranked Value). ranked (h x.values) x.standing) (widened f) xs
    ∙ map-ext_each (λ (x : Ranked Value). h (x.values ++ f x.values) ≡ k x.values)
    (λ (x : Ranked Value). ranked (h (x.values ++ f x.values)) x.standing)
    (λ (x : Ranked Value). ranked (k x.values) x.standing) xs all
    (λ x e. ap (λ v. ranked v x.standing) e)

-- the rows as they are, by a select list that gives each row's own columns
pub project_same : (h : List Value → List Value) (xs : List (Ranked Value))
    → Each (λ x. h x.values ≡ x.values) xs → project h xs ≡ xs
project_same h [] all = refl
project_same h (x ∷ xs) all = ap (λ v. ranked v x.standing ∷ project h xs) all.0
    ∙ ap (λ ys. x ∷ ys) (project_same h xs all.1)

-- ---- groups

least_widened : (f : List Value → List Value) (ys : List (Ranked Value))
    → least (map (widened f) ys) ≡ least ys
least_widened f ys = bottom-map true_rank (λ (x : Ranked Value). x.standing) (widened f) ys

pub total_widened : (f : List Value → List Value) (many few : List (Ranked Value) → List Value)
    (xs : List (Ranked Value)) → many (map (widened f) xs) ≡ few xs
    → total many (map (widened f) xs) ≡ total few xs
total_widened f many few xs e = ap (λ v. ranked v (least (map (widened f) xs)) ∷ []) e
    ∙ ap (λ n. ranked (few xs) n ∷ []) (least_widened f xs)

module _ (same : Value → Value → Bool) (f : List Value → List Value) (Q : Ranked Value → Type 0)
  where
    abbrev S : List Value → List Value → Bool
    S = same_row same

    members_widened : (key own : List Value → List Value) (k : List Value)
        (xs : List (Ranked Value))
        → Each (λ x. key (x.values ++ f x.values) ≡ own x.values) xs
        → filter (λ x. S (key x.values) k) (map (widened f) xs)
        ≡ map (widened f) (filter (λ x. S (own x.values) k) xs)
    members_widened key own k xs all =
        filter-map (λ (x : Ranked Value). S (key x.values) k) (widened f) xs
        ∙ ap (map (widened f))
        (filter-ext_each (λ (x : Ranked Value). key (x.values ++ f x.values) ≡ own x.values)
        (λ (x : Ranked Value). S (key (x.values ++ f x.values)) k)
        (λ (x : Ranked Value). S (own x.values) k) xs all (λ x e. ap (λ v. S v k) e))

    pub group_widened : (key own : List Value → List Value)
        (many few : List (Ranked Value) → List Value) (xs : List (Ranked Value))
        → Each (λ x. key (x.values ++ f x.values) ≡ own x.values) xs → Each Q xs
        → ((ys : List (Ranked Value)) → Each Q ys → many (map (widened f) ys) ≡ few ys)
        → group_by same key many (map (widened f) xs) ≡ group_by same own few xs
    group_widened key own many few xs all each h =
        let wide : List (Ranked Value) = map (widened f) xs in
        let F : List Value → Ranked Value =
        λ k. ranked (k ++ many (filter (λ (x : Ranked Value). S (key x.values) k) wide))
        (least (filter (λ (x : Ranked Value). S (key x.values) k) wide)) in
        let members : List Value → List (Ranked Value) =
        λ k. filter (λ (x : Ranked Value). S (own x.values) k) xs in
        let G : List Value → Ranked Value =
        λ k. ranked (k ++ few (members k)) (least (members k)) in
        let keys : map (λ (x : Ranked Value). key x.values) wide
        ≡ map (λ (x : Ranked Value). own x.values) xs =
        map-map (λ (x : Ranked Value). key x.values) (widened f) xs
        ∙ map-ext_each (λ (x : Ranked Value). key (x.values ++ f x.values) ≡ own x.values)
        (λ (x : Ranked Value). key (x.values ++ f x.values)) (λ (x : Ranked Value). own x.values) xs
        all
        (λ x e. e) in
        ap (λ ks. map F (each_once S ks)) keys
        ∙ map-ext F G (each_once S (map (λ (x : Ranked Value). own x.values) xs))
        (λ k. ap (λ ys. ranked (k ++ many ys) (least ys)) (members_widened key own k xs all)
        ∙ ap (λ v. ranked (k ++ v) (least (map (widened f) (members k))))
        (h (members k) (Each-filter Q (λ (x : Ranked Value). S (own x.values) k) xs each))
        ∙ ap (λ n. ranked (k ++ few (members k)) n) (least_widened f (members k)))

-- ---- aggregates

-- an aggregate: what it reads of a row, and what it makes of the values read
abbrev pub Summing : Type 0
Summing = (List Value → Value) × (List Value → Value)

first_or : {X : Type 0} → X → List X → X
first_or d [] = d
first_or d (x ∷ xs) = x

others : {X : Type 0} → List X → List X
others [] = []
others (x ∷ xs) = xs

first_is : {X : Type 0} (x y : X) (xs ys : List X) → x ∷ xs ≡ y ∷ ys → x ≡ y
unfolding first_or
first_is x y xs ys e = ap (first_or x) e

others_are : {X : Type 0} (x y : X) (xs ys : List X) → x ∷ xs ≡ y ∷ ys → xs ≡ ys
unfolding others
others_are x y xs ys e = ap others e

pub aggregates_alike : (flat : Ranked Value → Ranked Value) (us vs : List Summing)
    (ys : List (Ranked Value)) → map (λ u. u.1) us ≡ map (λ v. v.1) vs
    → Each (λ y. map (λ u. u.0 (flat y).values) us ≡ map (λ v. v.0 y.values) vs) ys
    → aggregated us (map flat ys) ≡ aggregated vs ys
aggregates_alike flat [] [] ys e all = refl
aggregates_alike flat [] (v ∷ vs) ys e all = cc
aggregates_alike flat (u ∷ us) [] ys e all = cc
aggregates_alike flat (u ∷ us) (v ∷ vs) ys e all =
    let P : Ranked Value → Type 0 =
    λ y. map (λ (u : Summing). u.0 (flat y).values) (u ∷ us)
    ≡ map (λ (v : Summing). v.0 y.values) (v ∷ vs) in
    let args : map (λ (y : Ranked Value). u.0 y.values) (map flat ys)
    ≡ map (λ (y : Ranked Value). v.0 y.values) ys =
    map-map (λ (y : Ranked Value). u.0 y.values) flat ys
    ∙ map-ext_each P (λ (y : Ranked Value). u.0 (flat y).values)
    (λ (y : Ranked Value). v.0 y.values) ys all
    (λ y p. first_is (u.0 (flat y).values) (v.0 y.values)
    (map (λ (u : Summing). u.0 (flat y).values) us) (map (λ (v : Summing). v.0 y.values) vs) p) in
    ap (λ l. u.1 l ∷ aggregated us (map flat ys)) args
    ∙ ap (λ (g : List Value → Value). g (map (λ (y : Ranked Value). v.0 y.values) ys)
    ∷ aggregated us (map flat ys))
    (first_is u.1 v.1 (map (λ (u : Summing). u.1) us) (map (λ (v : Summing). v.1) vs) e)
    ∙ ap (λ l. v.1 (map (λ (y : Ranked Value). v.0 y.values) ys) ∷ l)
    (aggregates_alike flat us vs ys
    (others_are u.1 v.1 (map (λ (u : Summing). u.1) us) (map (λ (v : Summing). v.1) vs) e)
    (Each-weaker P (λ y. map (λ (u : Summing). u.0 (flat y).values) us
    ≡ map (λ (v : Summing). v.0 y.values) vs) ys
    (λ y p. others_are (u.0 (flat y).values) (v.0 y.values)
    (map (λ (u : Summing). u.0 (flat y).values) us) (map (λ (v : Summing). v.0 y.values) vs) p)
    all))

-- ---- joins

flat_map-flat_map : {X Y Z : Type 0} (g : Y → List Z) (f : X → List Y) (xs : List X)
    → flat_map g (flat_map f xs) ≡ flat_map (λ x. flat_map g (f x)) xs
flat_map-flat_map g f [] = refl
flat_map-flat_map g f (x ∷ xs) = flat_map-append g (f x) (flat_map f xs)
    ∙ ap (λ l. flat_map g (f x) ++ l) (flat_map-flat_map g f xs)

-- ON is a condition over all combinations
pub join_is_select : (c : List Value → ℕ) (xs : List (Ranked Value))
    (R : List Value → List (Ranked Value)) → select c (cross_loop xs R) ≡ join_loop c xs R
join_is_select c xs R =
    let G : Ranked Value → List (Ranked Value) = λ x. keep x.values (min x.standing (c x.values)) in
    let glued : Ranked Value → Ranked Value → Ranked Value =
    λ x y. ranked (x.values ++ y.values) (min x.standing y.standing) in
    flat_map-flat_map G (λ x. map (glued x) (R x.values)) xs
    ∙ flat_map-ext (λ x. flat_map G (map (glued x) (R x.values)))
    (λ x. flat_map (λ y. pair c (λ a b. a ++ b) x y) (R x.values)) xs
    (λ x. flat_map-map G (glued x) (R x.values))

-- one left row with all rows to its right
row_crosses : (l : Ranked Value) (ys : List (Ranked Value)) → Stands l → Each Stands ys
    → flat_map (λ r. pair (λ v. true_rank) (λ a b. a ++ b) l r) ys
    ≡ map (λ r. ranked (l.values ++ r.values) (min l.standing r.standing)) ys
row_crosses l ys s all =
    sym (append-nil (flat_map (λ r. pair (λ v. true_rank) (λ a b. a ++ b) l r) ys))
    ∙ stands.join_true (l ∷ []) ys (s, tt) all
    ∙ append-nil (map (λ r. ranked (l.values ++ r.values) (min l.standing r.standing)) ys)

-- a join under a condition that always holds has all combinations
pub join_crosses : (P : Ranked Value → Type 0) (c : List Value → ℕ) (xs : List (Ranked Value))
    (R B : List Value → List (Ranked Value)) → ((r : List Value) → c r ≡ true_rank)
    → ((l : Ranked Value) → P l → R l.values ≡ B l.values) → Each P xs → Each Stands xs
    → ((l : List Value) → Each Stands (B l)) → join_loop c xs R ≡ cross_loop xs B
join_crosses P c xs R B e h all stand right =
    flat_map-ext_each (λ l. P l × Stands l)
    (λ l. flat_map (λ r. pair c (λ a b. a ++ b) l r) (R l.values))
    (λ l. map (λ r. ranked (l.values ++ r.values) (min l.standing r.standing)) (B l.values)) xs
    (Each-both P Stands xs all stand)
    (λ l u. ap (flat_map (λ r. pair c (λ a b. a ++ b) l r)) (h l u.0)
    ∙ flat_map-ext (λ r. pair c (λ a b. a ++ b) l r)
    (λ r. pair (λ v. true_rank) (λ a b. a ++ b) l r) (B l.values)
    (λ r. ap (λ n. keep (l.values ++ r.values) (min (min l.standing r.standing) n))
    (e (l.values ++ r.values)))
    ∙ row_crosses l (B l.values) u.1 (right l.values))

-- left outer joins under conditions that agree on the rows at hand, and with right sides that are
-- the same under each left row
pub outer_agrees : (P Q : Ranked Value → Type 0) (nulls : List Value) (c p : List Value → ℕ)
    (xs : List (Ranked Value)) (R B : List Value → List (Ranked Value))
    → ((l r : Ranked Value) → P l → Q r → c (l.values ++ r.values) ≡ p (l.values ++ r.values))
    → ((l : Ranked Value) → P l → R l.values ≡ B l.values) → Each P xs
    → ((l : Ranked Value) → P l → Each Q (B l.values))
    → outer_loop nulls c xs R ≡ outer_loop nulls p xs B
outer_agrees P Q nulls c p xs R B e h left right =
    let kept : Ranked Value → List (Ranked Value) → List (Ranked Value) =
    λ l us. or_else us (ranked (l.values ++ nulls) l.standing) in
    flat_map-ext_each P (λ l. kept l (flat_map (λ r. pair c (λ a b. a ++ b) l r) (R l.values)))
    (λ l. kept l (flat_map (λ r. pair p (λ a b. a ++ b) l r) (B l.values))) xs left
    (λ l u. ap (λ us. kept l (flat_map (λ r. pair c (λ a b. a ++ b) l r) us)) (h l u)
    ∙ ap (kept l)
    (flat_map-ext_each Q (λ r. pair c (λ a b. a ++ b) l r) (λ r. pair p (λ a b. a ++ b) l r)
    (B l.values) (right l u)
    (λ r v. ap (λ n. keep (l.values ++ r.values) (min (min l.standing r.standing) n))
    (e l r u v))))

dropped : (v : List Value) (n : ℕ) → n ≤ 1 → keep v n ≡ []
dropped v n h = rw (le-ltb 1 n h) refl

-- one left row, and a right row that a condition over both lowered first
pair_lowered : (n : ℕ) (l r : Ranked Value) → Stands l
    → flat_map (λ y. pair (λ v. true_rank) (λ a b. a ++ b) l y) (keep r.values (min r.standing n))
    ≡ keep (l.values ++ r.values) (min (min l.standing r.standing) n)
pair_lowered n l r s =
    let a : l.standing ≤ 5 = s.within in
    let b : 2 ≤ l.standing = s.not_dropped in
    let v : List Value = l.values ++ r.values in
    let m : min (min l.standing (min r.standing n)) 5 ≡ min (min l.standing r.standing) n =
    omega arith in
    elim (cases_Bool (nat_lt unknown_rank (min r.standing n))) [
      | inl t ↦ rw t (append-nil (keep v (min (min l.standing (min r.standing n)) 5))
          ∙ ap (keep v) m)
      | inr f ↦
          let low : min r.standing n ≤ 1 = ltb-false 1 (min r.standing n) f in
          rw f (sym (dropped v (min (min l.standing r.standing) n) (omega arith)))
    ]

-- a left outer join whose right side has the condition already
pub outer_lowered : (P : Ranked Value → Type 0) (nulls : List Value) (c p : List Value → ℕ)
    (xs : List (Ranked Value)) (R B : List Value → List (Ranked Value))
    → ((r : List Value) → c r ≡ true_rank)
    → ((l : Ranked Value) → P l → R l.values ≡ select (λ r. p (l.values ++ r)) (B l.values))
    → Each P xs → Each Stands xs
    → outer_loop nulls c xs R ≡ outer_loop nulls p xs B
outer_lowered P nulls c p xs R B e h all stand =
    let kept : Ranked Value → List (Ranked Value) → List (Ranked Value) =
    λ l us. or_else us (ranked (l.values ++ nulls) l.standing) in
    let plain : Ranked Value → Ranked Value → List (Ranked Value) =
    λ l y. pair (λ v. true_rank) (λ a b. a ++ b) l y in
    flat_map-ext_each (λ l. P l × Stands l)
    (λ l. kept l (flat_map (λ r. pair c (λ a b. a ++ b) l r) (R l.values)))
    (λ l. kept l (flat_map (λ r. pair p (λ a b. a ++ b) l r) (B l.values))) xs
    (Each-both P Stands xs all stand)
    (λ l u. ap (kept l)
    (flat_map-ext (λ r. pair c (λ a b. a ++ b) l r) (plain l) (R l.values)
    (λ r. ap (λ n. keep (l.values ++ r.values) (min (min l.standing r.standing) n))
    (e (l.values ++ r.values)))
    ∙ ap (flat_map (plain l)) (h l u.0)
    ∙ flat_map-flat_map (plain l)
    (λ (r : Ranked Value). keep r.values (min r.standing (p (l.values ++ r.values)))) (B l.values)
    ∙ flat_map-ext (λ r. flat_map (plain l)
    (keep r.values (min r.standing (p (l.values ++ r.values))))) (λ r. pair p (λ a b. a ++ b) l r)
    (B l.values)
    (λ r. pair_lowered (p (l.values ++ r.values)) l r u.1)))
