-- Each operator gives one bag for one bag.
use Rattle.std.proofs.Common.{ℕ, ◌+◌, List, [], ◌∷◌, ◌++◌, Bool, sym, ◌∙◌, ap, length}
use Rattle.std.specs.Prelude.{map, min}
use Rattle.std.specs.List.{filter, flat_map}
use Rattle.base_row_laws.specs.Ranked.{Ranked, ranked}
use Rattle.base_row_laws.specs.Bags.{weigh, SameBag, IsIdentity, OfBag, Each}
use Rattle.base_row_laws.specs.Rows.{same_row, starts, strip, keep}
use Rattle.base_row_laws.specs.Operators.{select, project, cross, pair, or_else, glue_at, join_node, outer_node, attach_node, join_loop, outer_loop, attach_loop, group_by, least, greatest, total, distinct, domain_node, fill}
use Rattle.base_row_laws.proofs.Bags.{weigh-ext, weigh-flat_map, SameBag-map, SameBag-filter, SameBag-flat_map}
use Rattle.base_row_laws.proofs.Lists.{weigh-ext_each, Each-weaker}
use Rattle.base_row_laws.proofs.Classes.{SameBag-each_once, SameBag-classes}
use Rattle.base_row_laws.proofs.Rows.{same_row_is}
use Rattle.base_row_laws.proofs.Nodes.{SameBag-or_else}
use Rattle.base_row_laws.proofs.OfBags.{OfBag-top, OfBag-bottom}

-- alike at each element, and over one bag
pub SameBag-flat_map2 : {X Y : Type 0} (f g : X → List Y) {xs ys : List X} → ((x : X) → SameBag (f x) (g x)) → SameBag xs ys → SameBag (flat_map f xs) (flat_map g ys)
SameBag-flat_map2 f g {xs} {ys} e s = record {
  weighs = λ h.
      weigh-flat_map h f xs ∙ weigh-ext (λ x. weigh h (f x)) (λ x. weigh h (g x)) xs (λ x. (e x).weighs h) ∙ s.weighs (λ x. weigh h (g x)) ∙ sym (weigh-flat_map h g ys);
}

-- alike at each element that is there
SameBag-flat_map_each : {X Y : Type 0} (f g : X → List Y) {xs ys : List X} → Each (λ x. SameBag (f x) (g x)) xs → SameBag xs ys → SameBag (flat_map f xs) (flat_map g ys)
SameBag-flat_map_each f g {xs} {ys} all s = record {
  weighs = λ h.
      weigh-flat_map h f xs
      ∙ weigh-ext_each (λ x. SameBag (f x) (g x)) (λ x. weigh h (f x)) (λ x. weigh h (g x)) xs all (λ x e. e.weighs h)
      ∙ s.weighs (λ x. weigh h (g x)) ∙ sym (weigh-flat_map h g ys);
}

module _ {V : Type 0} where
  -- the right sides under each left row that is there are one bag
  abbrev RightsAlike : (List V → List (Ranked V)) → (List V → List (Ranked V)) → Ranked V → Type 0
  RightsAlike R S l = SameBag (R l.values) (S l.values)

  pub select_alike : (c : List V → ℕ) (xs us : List (Ranked V)) → SameBag xs us → SameBag (select c xs) (select c us)
  select_alike c xs us e = SameBag-flat_map (λ x. keep x.values (min x.standing (c x.values))) e

  pub project_alike : (f : List V → List V) (xs us : List (Ranked V)) → SameBag xs us → SameBag (project f xs) (project f us)
  project_alike f xs us e = SameBag-map (λ x. ranked (f x.values) x.standing) e

  pub cross_alike : (xs us ys vs : List (Ranked V)) → SameBag xs us → SameBag ys vs → SameBag (cross xs ys) (cross us vs)
  cross_alike xs us ys vs e f =
      SameBag-flat_map2 (λ x. map (λ y. ranked (x.values ++ y.values) (min x.standing y.standing)) ys) (λ x. map (λ y. ranked (x.values ++ y.values) (min x.standing y.standing)) vs)
      (λ x. SameBag-map (λ y. ranked (x.values ++ y.values) (min x.standing y.standing)) f) e

  pub join_loop_alike : (c : List V → ℕ) (xs us : List (Ranked V)) (R S : List V → List (Ranked V)) → SameBag xs us → Each (λ l. SameBag (R l.values) (S l.values)) xs → SameBag (join_loop c xs R) (join_loop c us S)
  join_loop_alike c xs us R S e all =
      let M : (List V → List (Ranked V)) → Ranked V → List (Ranked V) = λ Q l. flat_map (λ r. pair c (λ a b. a ++ b) l r) (Q l.values) in
      SameBag-flat_map_each (M R) (M S)
      (Each-weaker (RightsAlike R S) (λ l. SameBag (M R l) (M S l)) xs (λ l f. SameBag-flat_map (λ r. pair c (λ a b. a ++ b) l r) f) all) e

  pub outer_loop_alike : (nulls : List V) (c : List V → ℕ) (xs us : List (Ranked V)) (R S : List V → List (Ranked V)) → SameBag xs us → Each (λ l. SameBag (R l.values) (S l.values)) xs → SameBag (outer_loop nulls c xs R) (outer_loop nulls c us S)
  outer_loop_alike nulls c xs us R S e all =
      let z : Ranked V → Ranked V = λ l. ranked (l.values ++ nulls) l.standing in
      let M : (List V → List (Ranked V)) → Ranked V → List (Ranked V) = λ Q l. flat_map (λ r. pair c (λ a b. a ++ b) l r) (Q l.values) in
      SameBag-flat_map_each (λ l. or_else (M R l) (z l)) (λ l. or_else (M S l) (z l))
      (Each-weaker (RightsAlike R S) (λ l. SameBag (or_else (M R l) (z l)) (or_else (M S l) (z l))) xs
      (λ l f. SameBag-or_else (M R l) (M S l) (z l) (SameBag-flat_map (λ r. pair c (λ a b. a ++ b) l r) f)) all) e

  pub attach_loop_alike : (value : List V → List (Ranked V) → V) (xs us : List (Ranked V)) (R S : List V → List (Ranked V)) → ((x : List V) → OfBag (value x)) → SameBag xs us → Each (λ l. SameBag (R l.values) (S l.values)) xs → SameBag (attach_loop value xs R) (attach_loop value us S)
  attach_loop_alike value xs us R S bag e all =
      let row : (List V → List (Ranked V)) → Ranked V → List (Ranked V) = λ Q l. ranked (l.values ++ value l.values (Q l.values) ∷ []) l.standing ∷ [] in
      SameBag-flat_map_each (row R) (row S)
      (Each-weaker (RightsAlike R S) (λ l. SameBag (row R l) (row S l)) xs
      (λ l f. let alike = (bag l.values).alike (R l.values) (S l.values) f in record { weighs = λ h. ap (λ v. h (ranked (l.values ++ v ∷ []) l.standing) + 0) alike }) all) e

  pub least_bag : OfBag {X = Ranked V} least
  least_bag = OfBag-bottom 5 (λ x. x.standing)

  pub greatest_bag : OfBag {X = Ranked V} greatest
  greatest_bag = OfBag-top (λ x. x.standing)

  pub total_alike : (aggregates : List (Ranked V) → List V) (xs us : List (Ranked V)) → OfBag aggregates → SameBag xs us → SameBag (total aggregates xs) (total aggregates us)
  total_alike aggregates xs us bag e = record { weighs = λ h. rw (bag.alike xs us e, least_bag.alike xs us e) }

module _ {V : Type 0} (same : V → V → Bool) (is : IsIdentity same) where
  module _ (pick : List V → List V) (c : List V → ℕ) where
    abbrev pub made : List (Ranked V) → Ranked V → List (Ranked V)
    made ys x = flat_map (λ y. pair c (glue_at pick) x y) (filter (λ y. starts same (pick x.values) y.values) ys)

    made_alike : {ys zs : List (Ranked V)} → SameBag ys zs → (x : Ranked V) → SameBag (made ys x) (made zs x)
    made_alike e x = SameBag-flat_map (λ y. pair c (glue_at pick) x y) (SameBag-filter (λ y. starts same (pick x.values) y.values) e)

    pub join_alike : (xs us ys vs : List (Ranked V)) → SameBag xs us → SameBag ys vs → SameBag (join_node same pick c xs ys) (join_node same pick c us vs)
    join_alike xs us ys vs e f = SameBag-flat_map2 (made ys) (made vs) (made_alike f) e

    pub outer_alike : (nulls : List V) (xs us ys vs : List (Ranked V)) → SameBag xs us → SameBag ys vs → SameBag (outer_node same pick nulls c xs ys) (outer_node same pick nulls c us vs)
    outer_alike nulls xs us ys vs e f =
        SameBag-flat_map2 (λ x. or_else (made ys x) (ranked (x.values ++ nulls) x.standing)) (λ x. or_else (made vs x) (ranked (x.values ++ nulls) x.standing))
        (λ x. SameBag-or_else (made ys x) (made vs x) (ranked (x.values ++ nulls) x.standing) (made_alike f x)) e

  pub attach_alike : (pick : List V → List V) (F : List V → List (Ranked V) → V) (xs us ys vs : List (Ranked V)) → ((x : List V) → OfBag (F x)) → SameBag xs us → SameBag ys vs → SameBag (attach_node same pick F xs ys) (attach_node same pick F us vs)
  attach_alike pick F xs us ys vs bag e f =
      let part : List (Ranked V) → Ranked V → List (Ranked V) = λ ys x. map (strip (length (pick x.values))) (filter (λ y. starts same (pick x.values) y.values) ys) in
      let row : List (Ranked V) → Ranked V → List (Ranked V) = λ ys x. ranked (x.values ++ F x.values (part ys x) ∷ []) x.standing ∷ [] in
      SameBag-flat_map2 (row ys) (row vs)
      (λ x. let alike = (bag x.values).alike (part ys x) (part vs x) (SameBag-map (strip (length (pick x.values))) (SameBag-filter (λ y. starts same (pick x.values) y.values) f)) in
      record { weighs = λ h. ap (λ v. h (ranked (x.values ++ v ∷ []) x.standing) + 0) alike }) e

  pub fill_alike : (empty : List V) (ds es gs hs : List (Ranked V)) → SameBag ds es → SameBag gs hs → SameBag (fill same empty ds gs) (fill same empty es hs)
  fill_alike empty ds es gs hs e f =
      SameBag-flat_map2 (λ e. or_else (filter (λ g. starts same e.values g.values) gs) (ranked (e.values ++ empty) 5)) (λ e. or_else (filter (λ g. starts same e.values g.values) hs) (ranked (e.values ++ empty) 5))
      (λ e. SameBag-or_else (filter (λ g. starts same e.values g.values) gs) (filter (λ g. starts same e.values g.values) hs) (ranked (e.values ++ empty) 5) (SameBag-filter (λ g. starts same e.values g.values) f)) e

  pub domain_alike : (pick : List V → List V) (xs us : List (Ranked V)) → SameBag xs us → SameBag (domain_node same pick xs) (domain_node same pick us)
  domain_alike pick xs us e = SameBag-map (λ k. ranked k 5) (SameBag-each_once (same_row same) (same_row_is same is) (SameBag-map (λ x. pick x.values) e))

  pub group_alike : (key : List V → List V) (aggregates : List (Ranked V) → List V) (xs us : List (Ranked V)) → OfBag aggregates → SameBag xs us → SameBag (group_by same key aggregates xs) (group_by same key aggregates us)
  group_alike key aggregates xs us bag e =
      SameBag-classes (same_row same) (same_row_is same is) (λ x. key x.values) (λ k ys. ranked (k ++ aggregates ys) (least ys))
      (λ k. record { alike = λ gs hs f. rw (bag.alike gs hs f, least_bag.alike gs hs f) }) e

  pub distinct_alike : (xs us : List (Ranked V)) → SameBag xs us → SameBag (distinct same xs) (distinct same us)
  distinct_alike xs us e =
      SameBag-classes (same_row same) (same_row_is same is) (λ x. x.values) (λ k ys. ranked k (greatest ys))
      (λ k. record { alike = λ gs hs f. ap (λ n. ranked k n) (greatest_bag.alike gs hs f) }) e
