-- The tables that trees and groups scan.
use Rattle.std.proofs.Common.{◌≡◌, ℕ, ◌+◌, List, [], ◌∷◌, ◌++◌, refl, ap, arith}
use Rattle.std.specs.List.{flat_map}
use Rattle.base_row_laws.specs.Bags.{weigh, SameBag}
use Rattle.base_row_laws.proofs.Bags.{weigh-append}
use Rattle.plan_algebra.specs.Trees.{Occurrence}
use Rattle.plan_algebra.specs.declared.tree.DepTree.{DepTree}
use Rattle.plan_algebra.specs.Trees.{scans_of}
use Rattle.plan_join_order.specs.Groups.{scans_in}

pub scans_none : scans_in [] ≡ []
unfolding scans_in
scans_none = refl

pub weigh-scans : (h : Occurrence → ℕ) (B C : List DepTree)
    → weigh h (scans_in (B ++ C)) ≡ weigh h (scans_in B) + weigh h (scans_in C)
unfolding scans_in
weigh-scans h [] C = none (weigh h (flat_map scans_of C))
  where
    none : (a : ℕ) → a ≡ 0 + a
    none a = omega arith
weigh-scans h (x ∷ B) C =
    let ih = weigh-scans h B C in
    let a = weigh-append h (scans_of x) (flat_map scans_of (B ++ C)) in
    let b = weigh-append h (scans_of x) (flat_map scans_of B) in
    omega (arith, ih, a, b)

pub weigh-scan : (h : Occurrence → ℕ) (x : DepTree) (C : List DepTree)
    → weigh h (scans_in (x ∷ C)) ≡ weigh h (scans_of x) + weigh h (scans_in C)
unfolding scans_in
weigh-scan h x C = weigh-append h (scans_of x) (flat_map scans_of C)

pub weigh-none : (h : Occurrence → ℕ) → weigh h (scans_in []) ≡ 0
unfolding scans_in
weigh-none h = refl

-- one input put after the others
pub scans_pushed : (inputs : List DepTree) (new : DepTree) (s : List Occurrence)
    → SameBag s (scans_of new) → SameBag (scans_in inputs ++ s) (scans_in (inputs ++ new ∷ []))
scans_pushed inputs new s b = record {
  weighs = λ h. let w = b.weighs h in let l = weigh-append h (scans_in inputs) s in
      let r = weigh-scans h inputs (new ∷ []) in let o = weigh-scan h new [] in
      let z = weigh-none h in omega (arith, w, l, r, o, z);
}

-- two sides, one after the other
pub scans_joined : (i l r some more : List Occurrence) → SameBag (i ++ l) some
    → SameBag (some ++ r) more → SameBag (i ++ (l ++ r)) more
scans_joined i l r some more a b = record {
  weighs = λ h.
      let p = a.weighs h in let q = b.weighs h in let e1 = weigh-append h i l in
      let e2 = weigh-append h some r in let e3 = weigh-append h i (l ++ r) in
      let e4 = weigh-append h l r in
      omega (arith, p, q, e1, e2, e3, e4);
}

-- an input moved to the first
pub scans_moved : (f x j : List Occurrence) (B C : List DepTree) (input : DepTree)
    → x ≡ scans_of input → SameBag (f ++ x) j
    → SameBag (f ++ scans_in (B ++ input ∷ C)) (j ++ scans_in (B ++ C))
scans_moved f x j B C input is s = record {
  weighs = λ h.
      let p = s.weighs h in let e1 = weigh-append h f x in
      let e2 = weigh-append h f (scans_in (B ++ input ∷ C)) in
      let e3 = weigh-append h j (scans_in (B ++ C)) in
      let e4 = weigh-scans h B (input ∷ C) in let e5 = weigh-scan h input C in
      let e6 = weigh-scans h B C in
      let e7 : weigh h x ≡ weigh h (scans_of input) = ap (weigh h) is in
      omega (arith, p, e1, e2, e3, e4, e5, e6, e7);
}
