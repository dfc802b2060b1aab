-- Versions of one opening.
use Rattle.std.proofs.Common.{◌≡◌, ℕ, List, ◌++◌, Some, None, length, drop, refl, sym, ap, subst, ◌∙◌, le_refl}
use Rattle.std.proofs.lemmas.List.{take-append-drop}
use Rattle.std.proofs.Math.Seq.{take-length}
use Rattle.base_schema.specs.State.{State}
use Rattle.store_state.specs.Prefixes.{IsPrefix}
use Rattle.store_state.specs.Refresh.{Change}
use Rattle.store_state.proofs.Prefixes.{prefix-behind, take-prefix}
use Rattle.store_versions.specs.Trials.{Trials}
use Rattle.store_snapshots.specs.Openings.{AreOfOne, HasOpening, IsNamed, IsOf, Opening}

pub has_opening : (opening : Opening) (version : Trials) → IsOf opening version → HasOpening opening version
has_opening opening version of_it o is =
    let m = of_it o is in
    (m.0, take-prefix o.1 version.list (length o.1) m.1 (le_refl _) ∙ take-length o.1, m.2)

pub of_opening : (opening : Opening) (version : Trials) → HasOpening opening version → IsOf opening version
of_opening opening version has o is =
    let m = has o is in
    let n = length o.1 in
    (m.0, (drop n version.list, sym (take-append-drop n version.list) ∙ ap (λ l. l ++ drop n version.list) m.1), m.2)

named : (opening : Opening) (count : ℕ) → IsNamed opening count → (o : State × List Change × ℕ) × (opening ≡ Some o) × (count ≡ length o.1)
named None count is = absurd (let no = is.0 in cc)
named (Some o) count is = (o, refl, is.1 o refl)

-- where the list of one goes on, behind the opening's, as that of the other does, it begins with it
pub begins_behind : (count : ℕ) (before now : Trials) → AreOfOne count before now → IsPrefix (drop count before.list) (drop count now.list) → IsPrefix before.list now.list
begins_behind count before now are behind =
    let n = named are.0 count are.1 in
    let o = n.0 in
    let b = are.2 o n.1 in
    let a = are.3 o n.1 in
    prefix-behind o.1 before.list now.list b.1 a.1 (subst (λ k. IsPrefix (drop k before.list) (drop k now.list)) n.2 behind)
