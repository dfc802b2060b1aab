-- Bags that are let go.
use Rattle.std.proofs.Common.{◌≡◌, ℕ, List, [], ◌∷◌, Bool, true, false, refl, ◌∙◌, subst, inl, inr, length}
use Rattle.std.specs.Prelude.{not, IsTrue, ◌==◌, ◌||◌, None, slice_index_or}
use Rattle.std.proofs.lemmas.Bool.{cases_Bool}
use Rattle.std.proofs.lemmas.Bool.Decides.{eqb_tells}
use Rattle.std.proofs.lemmas.List.{length-set, get_or-set_other}
use Rattle.base_row_laws.specs.Bags.{has}
use Rattle.plan_algebra.specs.declared.node.Node.{Node}
use Rattle.plan_algebra.specs.Plans.{inputs_of}
use Rattle.exec_flat_plan.specs.Kept.{MaybeBag, is_read, released, Spares}

long_released : (rest : List Node) (i : ℕ) (bags : List MaybeBag) → length (released rest i bags) ≡ length bags
long_released rest i bags = elim (cases_Bool (is_read i rest)) [ inl t ↦ rw t refl | inr f ↦ rw f (length-set bags i None) ]

-- a bag that another node's number has, or that is still read, stays
stays : (rest : List Node) (i k : ℕ) (bags : List MaybeBag) → IsTrue (not (k == i) || is_read k rest) → slice_index_or (released rest i bags) k None ≡ slice_index_or bags k None
stays rest i k bags h = elim (eqb_tells k i) [
  | inl p ↦
      let t = p.0 in
      let read : IsTrue (is_read k rest) = rw t at h in
      let read' : is_read i rest ≡ true = subst (λ n. is_read n rest ≡ true) p.1 read in
      rw read' refl
  | inr q ↦ elim (cases_Bool (is_read i rest)) [ inl t ↦ rw t refl | inr f ↦ rw f (get_or-set_other bags i k None None q.1) ]
]

first_part : (a b c : Bool) → IsTrue (not (a || (b || false)) || c) → IsTrue (not a || c)
first_part true b c h = h
first_part false b c h = refl

second_part : (a b c : Bool) → IsTrue (not (a || (b || false)) || c) → IsTrue (not b || c)
second_part true true c h = h
second_part true false c h = refl
second_part false true c h = h
second_part false false c h = refl

-- of a node that reads nothing
pub spares_all : (node : Node) (rest : List Node) (bags : List MaybeBag) → Spares node rest bags bags
spares_all node rest bags = record { long = refl; kept = λ k h. refl }

-- of a node that reads one
pub spares_one : (node : Node) (rest : List Node) (i : ℕ) (bags : List MaybeBag) → inputs_of node ≡ i ∷ [] → Spares node rest bags (released rest i bags)
spares_one node rest i bags e = record {
  long = long_released rest i bags;
  kept = λ k h. stays rest i k bags (one k (subst (λ l. IsTrue (not (has ◌==◌ k l) || is_read k rest)) e h));
}
  where
    one : (k : ℕ) → IsTrue (not (k == i || false) || is_read k rest) → IsTrue (not (k == i) || is_read k rest)
    one k h = elim (cases_Bool (k == i)) [ inl t ↦ rw t (rw t at h) | inr f ↦ rw f refl ]

-- of a node that reads two
pub spares_two : (node : Node) (rest : List Node) (i j : ℕ) (bags : List MaybeBag) → inputs_of node ≡ i ∷ j ∷ [] → Spares node rest bags (released rest j (released rest i bags))
spares_two node rest i j bags e = record {
  long = long_released rest j (released rest i bags) ∙ long_released rest i bags;
  kept = λ k h.
      let g = subst (λ l. IsTrue (not (has ◌==◌ k l) || is_read k rest)) e h in
      stays rest j k (released rest i bags) (second k g) ∙ stays rest i k bags (first k g);
}
  where
    first : (k : ℕ) → IsTrue (not (k == i || (k == j || false)) || is_read k rest) → IsTrue (not (k == i) || is_read k rest)
    first k h = first_part (k == i) (k == j) (is_read k rest) h

    second : (k : ℕ) → IsTrue (not (k == i || (k == j || false)) || is_read k rest) → IsTrue (not (k == j) || is_read k rest)
    second k h = second_part (k == i) (k == j) (is_read k rest) h
