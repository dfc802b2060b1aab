-- What holds of the values of rows holds of what operators make of them.
use Rattle.std.proofs.Common.{ℕ, List, ◌++◌, Bool, inl, inr, map, min}
use Rattle.std.specs.Prelude.{nat_lt}
use Rattle.std.specs.List.{filter, flat_map}
use Rattle.std.proofs.lemmas.Bool.{cases_Bool}
use Rattle.base_row_laws.specs.Ranked.{Ranked, ranked, unknown_rank, true_rank}
use Rattle.base_row_laws.specs.Bags.{Each, each_once}
use Rattle.base_row_laws.specs.Rows.{same_row, keep, scanned}
use Rattle.base_row_laws.specs.Operators.{select, project, pair, or_else, join_loop, outer_loop}
use Rattle.base_row_laws.specs.Operators.{group_by, distinct, least, greatest}
use Rattle.base_row_laws.proofs.Lists.{Each-map, Each-filter, Each-weaker, Each-flat_map}
use Rattle.base_row_laws.proofs.Lists.{Each-each_once}
use Rattle.base_row_laws.proofs.Nodes.{Each-or_else}
use Rattle.sql_bound_query.specs.Meaning.{cross_loop}

-- a fact about a row's values
abbrev pub Of : {V : Type 0} → (List V → Type 0) → Ranked V → Type 0
Of P x = P x.values

module _ {V : Type 0} where
  keep_each : (P : List V → Type 0) (r : List V) (s : ℕ) → P r → Each (Of P) (keep r s)
  keep_each P r s p = elim (cases_Bool (nat_lt unknown_rank s)) [
    | inl t ↦ rw t (p, tt)
    | inr f ↦ rw f tt
  ]

  pub select_each : (P : List V → Type 0) (c : List V → ℕ) (xs : List (Ranked V)) → Each (Of P) xs
      → Each (Of P) (select c xs)
  select_each P c xs all =
      Each-flat_map (Of P) (Of P) (λ x. keep x.values (min x.standing (c x.values))) xs all
      (λ x p. keep_each P x.values (min x.standing (c x.values)) p)

  pub project_each : (P Q : List V → Type 0) (f : List V → List V) (xs : List (Ranked V))
      → ((r : List V) → P r → Q (f r)) → Each (Of P) xs → Each (Of Q) (project f xs)
  project_each P Q f xs h all =
      Each-map (Of Q) (λ x. ranked (f x.values) x.standing) xs
      (Each-weaker (Of P) (λ (x : Ranked V). Q (f x.values)) xs (λ x p. h x.values p) all)

  pub cross_each : (P Q S : List V → Type 0) (xs : List (Ranked V)) (R : List V → List (Ranked V))
      → ((a b : List V) → P a → Q b → S (a ++ b)) → Each (Of P) xs
      → ((a : List V) → P a → Each (Of Q) (R a)) → Each (Of S) (cross_loop xs R)
  cross_each P Q S xs R h left right =
      Each-flat_map (Of P) (Of S)
      (λ x. map (λ y. ranked (x.values ++ y.values) (min x.standing y.standing)) (R x.values)) xs
      left
      (λ x p. Each-map (Of S) (λ y. ranked (x.values ++ y.values) (min x.standing y.standing))
      (R x.values)
      (Each-weaker (Of Q) (λ (y : Ranked V). S (x.values ++ y.values)) (R x.values)
      (λ y q. h x.values y.values p q) (right x.values p)))

  pairs_each : (P Q S : List V → Type 0) (c : List V → ℕ) (l : Ranked V) (ys : List (Ranked V))
      → ((a b : List V) → P a → Q b → S (a ++ b)) → P l.values → Each (Of Q) ys
      → Each (Of S) (flat_map (λ r. pair c (λ a b. a ++ b) l r) ys)
  pairs_each P Q S c l ys h p right =
      Each-flat_map (Of Q) (Of S) (λ r. pair c (λ a b. a ++ b) l r) ys right
      (λ r q. keep_each S (l.values ++ r.values)
      (min (min l.standing r.standing) (c (l.values ++ r.values))) (h l.values r.values p q))

  pub join_each : (P Q S : List V → Type 0) (c : List V → ℕ) (xs : List (Ranked V))
      (R : List V → List (Ranked V)) → ((a b : List V) → P a → Q b → S (a ++ b))
      → Each (Of P) xs → ((a : List V) → P a → Each (Of Q) (R a))
      → Each (Of S) (join_loop c xs R)
  join_each P Q S c xs R h left right =
      Each-flat_map (Of P) (Of S) (λ l. flat_map (λ r. pair c (λ a b. a ++ b) l r) (R l.values)) xs
      left (λ l p. pairs_each P Q S c l (R l.values) h p (right l.values p))

  pub outer_each : (P Q S : List V → Type 0) (nulls : List V) (c : List V → ℕ)
      (xs : List (Ranked V)) (R : List V → List (Ranked V))
      → ((a b : List V) → P a → Q b → S (a ++ b)) → Q nulls → Each (Of P) xs
      → ((a : List V) → P a → Each (Of Q) (R a)) → Each (Of S) (outer_loop nulls c xs R)
  outer_each P Q S nulls c xs R h n left right =
      Each-flat_map (Of P) (Of S)
      (λ l. or_else (flat_map (λ r. pair c (λ a b. a ++ b) l r) (R l.values))
      (ranked (l.values ++ nulls) l.standing)) xs left
      (λ l p. Each-or_else (Of S) (flat_map (λ r. pair c (λ a b. a ++ b) l r) (R l.values))
      (ranked (l.values ++ nulls) l.standing)
      (pairs_each P Q S c l (R l.values) h p (right l.values p)) (h l.values nulls p n))

  pub group_each : (P K S : List V → Type 0) (same : V → V → Bool) (key : List V → List V)
      (aggregates : List (Ranked V) → List V) (xs : List (Ranked V))
      → ((r : List V) → P r → K (key r))
      → ((k : List V) (ys : List (Ranked V)) → K k → Each (Of P) ys → S (k ++ aggregates ys))
      → Each (Of P) xs
      → Each (Of S) (group_by same key aggregates xs)
  group_each P K S same key aggregates xs h g all =
      let keys : List (List V) =
      each_once (same_row same) (map (λ (x : Ranked V). key x.values) xs) in
      let members : List V → List (Ranked V) =
      λ k. filter (λ (x : Ranked V). same_row same (key x.values) k) xs in
      Each-map (Of S) (λ k. ranked (k ++ aggregates (members k)) (least (members k))) keys
      (Each-weaker K (λ k. S (k ++ aggregates (members k))) keys
      (λ k q. g k (members k) q
      (Each-filter (Of P) (λ (x : Ranked V). same_row same (key x.values) k) xs all))
      (Each-each_once K (same_row same) (map (λ (x : Ranked V). key x.values) xs)
      (Each-map K (λ (x : Ranked V). key x.values) xs
      (Each-weaker (Of P) (λ (x : Ranked V). K (key x.values)) xs (λ x p. h x.values p) all))))

  pub distinct_each : (P : List V → Type 0) (same : V → V → Bool) (xs : List (Ranked V))
      → Each (Of P) xs → Each (Of P) (distinct same xs)
  distinct_each P same xs all =
      let keys : List (List V) = each_once (same_row same) (map (λ (x : Ranked V). x.values) xs) in
      let members : List V → List (Ranked V) =
      λ k. filter (λ (x : Ranked V). same_row same x.values k) xs in
      Each-map (Of P) (λ k. ranked k (greatest (members k))) keys
      (Each-each_once P (same_row same) (map (λ (x : Ranked V). x.values) xs)
      (Each-map P (λ (x : Ranked V). x.values) xs all))

  pub scanned_each : (P : List V → Type 0) (rs : List (List V)) → Each P rs
      → Each (Of P) (scanned rs)
  scanned_each P rs all = Each-map (Of P) (λ r. ranked r true_rank) rs all
