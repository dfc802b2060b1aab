-- What is made of the nodes of a plan, one after the other: of a plan that grows it stays, and what
-- a node adds.
use Rattle.std.proofs.Common.{◌≡◌, ℕ, ◌+◌, ◌<◌, List, [], ◌∷◌, ◌++◌, refl, ap, sym, ◌∙◌, arith, length}
use Rattle.std.specs.Prelude.{slice_index_or}
use Rattle.std.proofs.lemmas.List.{append_assoc, length-append, get_or_append_left, get_or_push}
use Rattle.plan_algebra.specs.declared.node.Node.{Node}
use Rattle.plan_algebra.specs.Plans.{made_from}

module _ {X : Type 0} (f : List X → Node → X) where
  pub made-append : (before : List X) (ns ms : List Node) → made_from f before (ns ++ ms) ≡ made_from f (made_from f before ns) ms
  made-append before [] ms = refl
  made-append before (n ∷ ns) ms = made-append (before ++ f before n ∷ []) ns ms

  pub made-length : (before : List X) (ns : List Node) → length (made_from f before ns) ≡ length before + length ns
  made-length before [] = omega arith
  made-length before (n ∷ ns) =
      let ih = made-length (before ++ f before n ∷ []) ns in let e = length-append before (f before n ∷ []) in omega (arith, ih, e)

  made-keeps : (z : X) (i : ℕ) (before : List X) (ms : List Node) → i < length before → slice_index_or (made_from f before ms) i z ≡ slice_index_or before i z
  made-keeps z i before [] h = refl
  made-keeps z i before (n ∷ ns) h =
      let e = length-append before (f before n ∷ []) in
      made-keeps z i (before ++ f before n ∷ []) ns (omega (arith, e)) ∙ get_or_append_left before (f before n ∷ []) z i h

  -- what was made of a node stays as the plan grows
  pub kept_at : (z : X) (ns ms more : List Node) (i : ℕ) → ms ≡ ns ++ more → i < length ns → slice_index_or (made_from f [] ms) i z ≡ slice_index_or (made_from f [] ns) i z
  kept_at z ns ms more i e h =
      ap (λ l. slice_index_or (made_from f [] l) i z) e ∙ ap (λ l. slice_index_or l i z) (made-append [] ns more)
      ∙ made-keeps z i (made_from f [] ns) more (let l = made-length [] ns in omega (arith, l))

  -- what is made of a node that comes last
  pub put_at : (z : X) (ns ms : List Node) (n : Node) (i : ℕ) → ms ≡ ns ++ n ∷ [] → i ≡ length ns → slice_index_or (made_from f [] ms) i z ≡ f (made_from f [] ns) n
  put_at z ns ms n i e k =
      ap (λ l. slice_index_or (made_from f [] l) i z) e ∙ ap (λ l. slice_index_or l i z) (made-append [] ns (n ∷ []))
      ∙ get_or_push (made_from f [] ns) (f (made_from f [] ns) n) z i (let l = made-length [] ns in omega (arith, l, k))

  -- the same of a node within a plan
  pub made_at : (z : X) (ns : List Node) (n : Node) (more ms : List Node) (i : ℕ) → ms ≡ ns ++ n ∷ more → i ≡ length ns → slice_index_or (made_from f [] ms) i z ≡ f (made_from f [] ns) n
  made_at z ns n more ms i e k =
      let l : length (ns ++ n ∷ []) ≡ length ns + 1 = length-append ns (n ∷ []) in
      kept_at z (ns ++ n ∷ []) ms more i (e ∙ sym (append_assoc ns (n ∷ []) more)) (omega (arith, l, k)) ∙ put_at z ns (ns ++ n ∷ []) n i refl k
