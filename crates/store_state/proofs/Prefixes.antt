-- Lists that begin with others, and versions under them.
use Rattle.std.proofs.Common.{◌≡◌, ℕ, ◌+◌, ◌-◌, ◌≤◌, List, [], ◌++◌, length, take, drop, refl, sym, ap, subst, ◌∙◌, arith, append_assoc, inl, inr, le_refl, length-append}
use Rattle.std.proofs.lemmas.Bool.{cases_lt}
use Rattle.std.proofs.lemmas.List.{append-nil, nil_from_length, take-append-drop, take-append-le}
use Rattle.std.proofs.Math.Seq.{take-length}
use Rattle.base_schema.specs.State.{State}
use Rattle.store_state.specs.Prefixes.{AcceptedLongerLaw, AcceptedPrefixLaw, IsPrefix, StatePrefixLaw}
use Rattle.store_state.specs.Refresh.{Change}
use Rattle.store_state.specs.Versions.{accepted, replayed, taken}
use Rattle.store_state.proofs.VersionSteps.{accepted-most, accepted-rises, taken-append}

pub prefix-refl : {A : Type 0} (list : List A) → IsPrefix list list
prefix-refl list = ([], sym (append-nil list))

pub prefix-trans : {A : Type 0} (first second third : List A) → IsPrefix first second → IsPrefix second third → IsPrefix first third
prefix-trans first second third p q =
    (p.0 ++ q.0, q.1 ∙ (ap (λ l. l ++ q.0) p.1 ∙ append_assoc first p.0 q.0))

-- a list with more behind it
pub prefix-append : {A : Type 0} (list more : List A) → IsPrefix list (list ++ more)
prefix-append list more = (more, refl)

pub length-prefix : {A : Type 0} (short long : List A) → IsPrefix short long → length short ≤ length long
length-prefix short long p = let e = ap length p.1 in let l = length-append short p.0 in omega (arith, e, l)

-- the first elements of a longer list
pub take-prefix : {A : Type 0} (short long : List A) (n : ℕ) → IsPrefix short long → n ≤ length short → take n long ≡ take n short
take-prefix short long n p within = ap (take n) p.1 ∙ take-append-le n short p.0 within

-- a list that is no longer than one that it begins with is that one
pub prefix-whole : {A : Type 0} (short long : List A) → IsPrefix short long → length long ≤ length short → long ≡ short
prefix-whole short long p within =
    let e = ap length p.1 in
    let l = length-append short p.0 in
    let none : p.0 ≡ [] = nil_from_length p.0 (omega (arith, e, l, within)) in
    p.1 ∙ (ap (λ rest. short ++ rest) none ∙ append-nil short)

-- what stands behind the beginning of a list
drop-prefix : {A : Type 0} (first long : List A) (p : IsPrefix first long) → first ++ drop (length first) long ≡ long
drop-prefix first long p =
    let whole : take (length first) long ≡ first = take-prefix first long (length first) p (le_refl _) ∙ take-length first in
    ap (λ l. l ++ drop (length first) long) (sym whole) ∙ take-append-drop (length first) long

-- two lists begin with a third; behind it the second begins with the first
pub prefix-behind : {A : Type 0} (first short long : List A) → IsPrefix first short → IsPrefix first long
    → IsPrefix (drop (length first) short) (drop (length first) long) → IsPrefix short long
prefix-behind first short long p q behind = (
  behind.0,
  sym (drop-prefix first long q) ∙ ap (λ l. first ++ l) behind.1
      ∙ sym (append_assoc first (drop (length first) short) behind.0)
      ∙ ap (λ l. l ++ behind.0) (drop-prefix first short p),
)

pub accepted-prefix : AcceptedPrefixLaw
accepted-prefix base short long done p within = ap (λ list. length (taken base list)) (take-prefix short long done p within)

pub accepted-longer : AcceptedLongerLaw
accepted-longer base short long p =
    let same = accepted-prefix base short long (length short) p (le_refl _) in
    let most = accepted-most base long (length short) in
    omega (arith, same, most)

pub state-prefix : StatePrefixLaw
state-prefix base short long version p within =
    let few : version ≤ length (taken base short) = subst (λ list. version ≤ length (taken base list)) (take-length short) within in
    ap (replayed base)
    (ap (λ list. take version (taken base list)) p.1
    ∙ ap (take version) (taken-append base short p.0)
    ∙ take-append-le version (taken base short) (taken (replayed base (taken base short)) p.0) few)

-- of as many first refreshes no fewer are accepted where the list is longer
pub accepted-grows : (base : State) (short long : List Change) (done : ℕ) → IsPrefix short long → accepted base short done ≤ accepted base long done
accepted-grows base short long done p =
    elim (cases_lt done (length short)) [
      | inl less ↦ let same = accepted-prefix base short long done p (omega (arith, less)) in omega (arith, same)
      | inr past ↦
          let same = accepted-prefix base short long (length short) p (le_refl _) in
          let most = accepted-most base short done in
          let rises = accepted-rises base long (length short) (done - length short) in
          let here : length short + (done - length short) ≡ done = omega (arith, past) in
          let there : accepted base long (length short + (done - length short)) ≡ accepted base long done = ap (accepted base long) here in
          omega (arith, same, most, rises, there)
    ]
