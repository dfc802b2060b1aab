-- A plan without its last node is formed.
use Rattle.std.proofs.Common.{◌≡◌, List, [], ◌∷◌, ◌++◌, refl, subst, sym, ◌∙◌}
use Rattle.std.specs.Prelude.{◌&&◌, Bool, true, false, IsTrue, MatchOption, Option, None, Some}
use Rattle.plan_algebra.specs.declared.node.Node.{Node}
use Rattle.plan_algebra.specs.Plans.{all_fit, fits, is_formed}
use Rattle.plan_algebra.proofs.Fits.{first_of_both, second_of_both, none_formed}

both : (a b : Bool) → IsTrue a → IsTrue b → IsTrue (a && b)
both true b p q = q
both false b p q = p

all_fit-front : (before ns : List Node) (n : Node) → IsTrue (all_fit before (ns ++ n ∷ [])) → IsTrue (all_fit before ns)
all_fit-front before [] n p = refl
all_fit-front before (m ∷ ns) n p =
    both (fits before m) (all_fit (before ++ m ∷ []) ns) (first_of_both (fits before m) (all_fit (before ++ m ∷ []) (ns ++ n ∷ [])) p)
    (all_fit-front (before ++ m ∷ []) ns n (second_of_both (fits before m) (all_fit (before ++ m ∷ []) (ns ++ n ∷ [])) p))

front_of_more : (ns : List Node) (n : Node) → IsTrue (is_formed (ns ++ n ∷ [])) → IsTrue (is_formed ns)
unfolding is_formed
front_of_more ns n p = all_fit-front [] ns n p

-- what is left after the last node was taken, where there was one
pub front_formed : (old new : List Node) (last : Option Node) → IsTrue (is_formed old)
    → MatchOption last ((old ≡ []) × (new ≡ [])) (λ n. old ≡ new ++ n ∷ []) → IsTrue (is_formed new)
front_formed old new None p is = subst (λ ns. IsTrue (is_formed ns)) (sym is.1) none_formed
front_formed old new (Some n) p is = front_of_more new n (subst (λ ns. IsTrue (is_formed ns)) is p)
