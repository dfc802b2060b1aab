-- What the per-row operators give under one domain row: project, the joins, and attach.
use Rattle.std.proofs.Common.{◌≡◌, ℕ, ◌+◌, ◌≤◌, List, [], ◌∷◌, ◌++◌, Bool, true, false, cond, refl, sym, ◌∙◌, ap, arith, length, take, drop, eqb}
use Rattle.std.proofs.Math.Dec.{ltb}
use Rattle.std.specs.Prelude.{map, min}
use Rattle.std.specs.List.{filter, flat_map}
use Rattle.std.proofs.lemmas.Bool.{ne_eqb}
use Rattle.std.proofs.lemmas.List.{append_assoc, length-append}
use Rattle.base_row_laws.specs.Ranked.{Ranked, ranked}
use Rattle.base_row_laws.specs.Bags.{when, weigh, SameBag, IsIdentity, OfBag, Each}
use Rattle.base_row_laws.specs.Rows.{starts, after, strip, keep}
use Rattle.base_row_laws.specs.Operators.{project, pair, or_else, glue_at, join_node, outer_node, attach_node, join_loop, outer_loop, attach_loop}
use Rattle.base_row_laws.specs.Domains.{Meets}
use Rattle.base_row_laws.proofs.Bags.{when-cong, weigh-when, weigh-ext, weigh-map, weigh-flat_map, SameBag-map, SameBag-flat_map, SameBag-refl}
use Rattle.base_row_laws.proofs.Lists.{weigh-ext_each, Each-weaker, Each-all, Each-both, Each-flat_map, flat_map-map, map-flat_map, flat_map-ext, flat_map-single}
use Rattle.base_row_laws.proofs.Rows.{starts-wide, starts-take, take-append, drop-append, wide-take, Meets-weighs, Meets-from, Each-keep}

-- z keeps the domain columns of x, and is wide enough.
pub record Follows {V : Type 0} (same : V → V → Bool) (d : List V) (x z : Ranked V) : Type 0 where
  pub like : starts same d z.values ≡ starts same d x.values
  pub wide : length d ≤ length z.values

map-keep : {V : Type 0} (d r : List V) (s : ℕ) → keep (d ++ r) s ≡ map (after d) (keep r s)
map-keep d r s = elim (ltb 1 s) as (λ b. cond b (ranked (d ++ r) s ∷ []) [] ≡ map (after d) (cond b (ranked r s ∷ []) [])) [ true ↦ refl | false ↦ refl ]

glued : {V : Type 0} (pick : List V → List V) (d l r : List V) → glue_at pick (d ++ l) (pick (d ++ l) ++ r) ≡ d ++ (l ++ r)
glued pick d l r = ap (λ s. (d ++ l) ++ s) (drop-append (pick (d ++ l)) r) ∙ append_assoc d l r

pub weigh-or_else : {V : Type 0} (h : Ranked V → ℕ) (zs : List (Ranked V)) (z : Ranked V) → weigh h (or_else zs z) ≡ weigh h zs + when (eqb (weigh (λ y. 1) zs) 0) (h z)
weigh-or_else h [] z = omega arith
weigh-or_else h (y ∷ ys) z = let e : eqb (1 + weigh (λ y. 1) ys) 0 ≡ false = ne_eqb (1 + weigh (λ y. 1) ys) 0 (λ e. omega arith) in rw e (omega arith)

pub SameBag-or_else : {V : Type 0} (zs ws : List (Ranked V)) (z : Ranked V) → SameBag zs ws → SameBag (or_else zs z) (or_else ws z)
SameBag-or_else zs ws z e = record {
  weighs = λ h.
      weigh-or_else h zs z ∙ ap (λ n. n + when (eqb (weigh (λ y. 1) zs) 0) (h z)) (e.weighs h) ∙ ap (λ n. weigh h ws + when (eqb n 0) (h z)) (e.weighs (λ y. 1))
      ∙ sym (weigh-or_else h ws z);
}

pub map-or_else : {V : Type 0} (f : Ranked V → Ranked V) (zs : List (Ranked V)) (z : Ranked V) → or_else (map f zs) (f z) ≡ map f (or_else zs z)
map-or_else f [] z = refl
map-or_else f (y ∷ ys) z = refl

pub Each-or_else : {V : Type 0} (P : Ranked V → Type 0) (zs : List (Ranked V)) (z : Ranked V) → Each P zs → P z → Each P (or_else zs z)
Each-or_else P [] z all p = (p, tt)
Each-or_else P (y ∷ ys) z all p = all

module _ {V : Type 0} (same : V → V → Bool) (is : IsIdentity same) where
  pub Follows-append : (d : List V) (x : Ranked V) (s : List V) (n : ℕ) → length d ≤ length x.values → Follows same d x (ranked (x.values ++ s) n)
  Follows-append d x s n w = record { like = starts-wide same is d x.values s w; wide = simp length-append (omega arith) }

  weigh-follows : (h : Ranked V → ℕ) (d : List V) (x : Ranked V) (zs : List (Ranked V)) → Each (Follows same d x) zs → weigh (λ z. when (starts same d z.values) (h z)) zs ≡ when (starts same d x.values) (weigh h zs)
  weigh-follows h d x zs all =
      weigh-ext_each (Follows same d x) (λ z. when (starts same d z.values) (h z)) (λ z. when (starts same d x.values) (h z)) zs all (λ z f. ap (λ b. when b (h z)) f.like)
      ∙ weigh-when (starts same d x.values) h zs

  -- What is made of each row alone. B is made by the node, B' is the same bag where the right
  -- side's rows are known, and T is made by nested loops.
  pub expand_meets : (d : List V) (xs ts : List (Ranked V)) (B B' T : Ranked V → List (Ranked V)) → Meets same d xs ts
      → Each (λ x. Each (Follows same d x) (B x) × (starts same d x.values ≡ true → SameBag (B x) (B' x))) xs
      → ((l : Ranked V) → B' (after d l) ≡ map (after d) (T l))
      → Meets same d (flat_map B xs) (flat_map T ts)
  expand_meets d xs ts B B' T m all e =
      let P : Ranked V → Type 0 = λ x. Each (Follows same d x) (B x) × (starts same d x.values ≡ true → SameBag (B x) (B' x)) in
      Meets-from same is d (flat_map B xs) (flat_map T ts)
      (Each-flat_map P (λ z. length d ≤ length z.values) B xs all (λ x p. Each-weaker (Follows same d x) (λ z. length d ≤ length z.values) (B x) (λ z f. f.wide) p.0))
      (λ h.
      weigh-flat_map (λ z. when (starts same d z.values) (h z)) B xs
      ∙ weigh-ext_each P (λ x. weigh (λ z. when (starts same d z.values) (h z)) (B x)) (λ x. when (starts same d x.values) (weigh h (B' x))) xs all
      (λ x p. weigh-follows h d x (B x) p.0 ∙ when-cong (starts same d x.values) (weigh h (B x)) (weigh h (B' x)) (λ t. (p.1 t).weighs h))
      ∙ Meets-weighs same is m (λ x. weigh h (B' x))
      ∙ weigh-ext (λ l. weigh h (B' (after d l))) (λ l. weigh (λ t. h (after d t)) (T l)) ts (λ l. ap (λ zs. weigh h zs) (e l) ∙ weigh-map h (after d) (T l))
      ∙ sym (weigh-flat_map (λ t. h (after d t)) T ts))

  -- the right rows that meet p, as the loops see them
  pub partners_are : (p : List V) (ys us : List (Ranked V)) → Meets same p ys us → SameBag (map (strip (length p)) (filter (λ y. starts same p y.values) ys)) us
  partners_are p ys us m =
      let back : map (strip (length p)) (map (after p) us) ≡ us = stripped p us in
      record { weighs = λ h. (SameBag-map (strip (length p)) m.same_bag).weighs h ∙ ap (λ l. weigh h l) back }
    where
      stripped : (p : List V) (us : List (Ranked V)) → map (strip (length p)) (map (after p) us) ≡ us
      stripped p [] = refl
      stripped p (u ∷ us) = rw (drop-append p u.values, stripped p us)

  -- the joins: what the node makes of x with the right rows that meet it, and with the loops' right
  -- rows
  module _ (pick : List V → List V) (c : List V → ℕ) (d : List V) where
    abbrev made : List (Ranked V) → Ranked V → List (Ranked V)
    made ys x = flat_map (λ y. pair c (glue_at pick) x y) (filter (λ y. starts same (pick x.values) y.values) ys)

    abbrev looped : (List V → List (Ranked V)) → Ranked V → List (Ranked V)
    looped R x = flat_map (λ r. pair c (glue_at pick) x (after (pick x.values) r)) (R (pick x.values))

    made_is : (ys : List (Ranked V)) (R : List V → List (Ranked V)) (x : Ranked V) → Meets same (pick x.values) ys (R (pick x.values)) → SameBag (made ys x) (looped R x)
    made_is ys R x m =
        let f : Ranked V → List (Ranked V) = λ y. pair c (glue_at pick) x y in
        record { weighs = λ h. (SameBag-flat_map f m.same_bag).weighs h ∙ ap (λ l. weigh h l) (flat_map-map f (after (pick x.values)) (R (pick x.values))) }

    made_follows : (ys : List (Ranked V)) (x : Ranked V) → length d ≤ length x.values → Each (Follows same d x) (made ys x)
    made_follows ys x w = Each-flat_map (λ y. Unit {0}) (Follows same d x) (λ y. pair c (glue_at pick) x y) (filter (λ y. starts same (pick x.values) y.values) ys)
        (Each-all (λ y. Unit {0}) (filter (λ y. starts same (pick x.values) y.values) ys) (λ y. tt))
        (λ y u. Each-keep (Follows same d x) (glue_at pick x.values y.values) (min (min x.standing y.standing) (c (glue_at pick x.values y.values)))
        (Follows-append d x (drop (length (pick x.values)) y.values) (min (min x.standing y.standing) (c (glue_at pick x.values y.values))) w))

    looped_is : (R : List V → List (Ranked V)) (l : Ranked V) → looped R (after d l) ≡ map (after d) (flat_map (λ r. pair (λ z. c (d ++ z)) (λ x y. x ++ y) l r) (R (pick (d ++ l.values))))
    looped_is R l =
        let us = R (pick (d ++ l.values)) in
        flat_map-ext (λ r. pair c (glue_at pick) (after d l) (after (pick (d ++ l.values)) r)) (λ r. map (after d) (pair (λ z. c (d ++ z)) (λ x y. x ++ y) l r)) us
        (λ r. ap (λ z. keep z (min (min l.standing r.standing) (c z))) (glued pick d l.values r.values)
        ∙ map-keep d (l.values ++ r.values) (min (min l.standing r.standing) (c (d ++ (l.values ++ r.values)))))
        ∙ sym (map-flat_map (after d) (λ r. pair (λ z. c (d ++ z)) (λ x y. x ++ y) l r) us)

    pub join_meets : (xs ys ts : List (Ranked V)) (R : List V → List (Ranked V)) → Meets same d xs ts → Each (λ x. starts same d x.values ≡ true → Meets same (pick x.values) ys (R (pick x.values))) xs
        → Meets same d (join_node same pick c xs ys) (join_loop (λ z. c (d ++ z)) ts (λ l. R (pick (d ++ l))))
    join_meets xs ys ts R m all =
        let P : Ranked V → Type 0 = λ x. (length d ≤ length x.values) × (starts same d x.values ≡ true → Meets same (pick x.values) ys (R (pick x.values))) in
        expand_meets d xs ts (made ys) (looped R) (λ l. flat_map (λ r. pair (λ z. c (d ++ z)) (λ x y. x ++ y) l r) (R (pick (d ++ l.values)))) m
        (Each-weaker P (λ x. Each (Follows same d x) (made ys x) × (starts same d x.values ≡ true → SameBag (made ys x) (looped R x))) xs (λ x p. (made_follows ys x p.0, λ t. made_is ys R x (p.1 t)))
        (Each-both (λ x. length d ≤ length x.values) (λ x. starts same d x.values ≡ true → Meets same (pick x.values) ys (R (pick x.values))) xs m.wide all))
        (looped_is R)

    pub outer_meets : (nulls : List V) (xs ys ts : List (Ranked V)) (R : List V → List (Ranked V)) → Meets same d xs ts → Each (λ x. starts same d x.values ≡ true → Meets same (pick x.values) ys (R (pick x.values))) xs
        → Meets same d (outer_node same pick nulls c xs ys) (outer_loop nulls (λ z. c (d ++ z)) ts (λ l. R (pick (d ++ l))))
    outer_meets nulls xs ys ts R m all =
        let P : Ranked V → Type 0 = λ x. (length d ≤ length x.values) × (starts same d x.values ≡ true → Meets same (pick x.values) ys (R (pick x.values))) in
        let z : Ranked V → Ranked V = λ x. ranked (x.values ++ nulls) x.standing in
        let T : Ranked V → List (Ranked V) = λ l. flat_map (λ r. pair (λ z. c (d ++ z)) (λ x y. x ++ y) l r) (R (pick (d ++ l.values))) in
        expand_meets d xs ts (λ x. or_else (made ys x) (z x)) (λ x. or_else (looped R x) (z x)) (λ l. or_else (T l) (z l)) m
        (Each-weaker P (λ x. Each (Follows same d x) (or_else (made ys x) (z x)) × (starts same d x.values ≡ true → SameBag (or_else (made ys x) (z x)) (or_else (looped R x) (z x)))) xs
        (λ x p. (Each-or_else (Follows same d x) (made ys x) (z x) (made_follows ys x p.0) (Follows-append d x nulls x.standing p.0), λ t. SameBag-or_else (made ys x) (looped R x) (z x) (made_is ys R x (p.1 t))))
        (Each-both (λ x. length d ≤ length x.values) (λ x. starts same d x.values ≡ true → Meets same (pick x.values) ys (R (pick x.values))) xs m.wide all))
        (λ l. rw (looped_is R l, append_assoc d l.values nulls) (map-or_else (after d) (T l) (z l)))

  pub attach_meets : (pick : List V → List V) (F : List V → List (Ranked V) → V) (d : List V) (xs ys ts : List (Ranked V)) (R : List V → List (Ranked V)) → ((x : List V) → OfBag (F x))
      → Meets same d xs ts → Each (λ x. starts same d x.values ≡ true → Meets same (pick x.values) ys (R (pick x.values))) xs
      → Meets same d (attach_node same pick F xs ys) (attach_loop (λ l. F (d ++ l)) ts (λ l. R (pick (d ++ l))))
  attach_meets pick F d xs ys ts R bag m all =
      let P : Ranked V → Type 0 = λ x. (length d ≤ length x.values) × (starts same d x.values ≡ true → Meets same (pick x.values) ys (R (pick x.values))) in
      let part : Ranked V → List (Ranked V) = λ x. map (strip (length (pick x.values))) (filter (λ y. starts same (pick x.values) y.values) ys) in
      let B : Ranked V → List (Ranked V) = λ x. ranked (x.values ++ F x.values (part x) ∷ []) x.standing ∷ [] in
      let B' : Ranked V → List (Ranked V) = λ x. ranked (x.values ++ F x.values (R (pick x.values)) ∷ []) x.standing ∷ [] in
      expand_meets d xs ts B B' (λ l. ranked (l.values ++ F (d ++ l.values) (R (pick (d ++ l.values))) ∷ []) l.standing ∷ []) m
      (Each-weaker P (λ x. Each (Follows same d x) (B x) × (starts same d x.values ≡ true → SameBag (B x) (B' x))) xs
      (λ x p. (
        (Follows-append d x (F x.values (part x) ∷ []) x.standing p.0, tt),
        λ t.
            let same = (bag x.values).alike (part x) (R (pick x.values)) (partners_are (pick x.values) ys (R (pick x.values)) (p.1 t)) in
            record { weighs = λ h. ap (λ v. h (ranked (x.values ++ v ∷ []) x.standing) + 0) same },
      ))
      (Each-both (λ x. length d ≤ length x.values) (λ x. starts same d x.values ≡ true → Meets same (pick x.values) ys (R (pick x.values))) xs m.wide all))
      (λ l. rw (append_assoc d l.values (F (d ++ l.values) (R (pick (d ++ l.values))) ∷ [])))

  -- the projection keeps the domain columns
  pub project_meets : (f : List V → List V) (d : List V) (xs ts : List (Ranked V)) → Meets same d xs ts → Meets same d (project (λ r. take (length d) r ++ f r) xs) (project (λ t. f (d ++ t)) ts)
  project_meets f d xs ts m =
      let g : Ranked V → Ranked V = λ x. ranked (take (length d) x.values ++ f x.values) x.standing in
      let k : Ranked V → Ranked V = λ t. ranked (f (d ++ t.values)) t.standing in
      let e : Meets same d (flat_map (λ x. g x ∷ []) xs) (flat_map (λ t. k t ∷ []) ts) =
      expand_meets d xs ts (λ x. g x ∷ []) (λ x. g x ∷ []) (λ t. k t ∷ []) m
      (Each-weaker (λ x. length d ≤ length x.values) (λ x. Each (Follows same d x) (g x ∷ []) × (starts same d x.values ≡ true → SameBag (g x ∷ []) (g x ∷ []))) xs
      (λ x w. ((record { like = starts-take same is d x.values (f x.values) w; wide = wide-take (length d) x.values (f x.values) w }, tt), λ t. SameBag-refl (g x ∷ []))) m.wide)
      (λ l. rw (take-append d l.values)) in
      rw (flat_map-single g xs, flat_map-single k ts) at e
