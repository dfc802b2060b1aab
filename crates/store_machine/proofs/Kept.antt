-- What the machine keeps stays kept.
use Rattle.std.proofs.Common.{◌≡◌, ℕ, zero, suc, ◌+◌, ◌<◌, ◌≤◌, Bool, true, false, cond, List, [], ◌∷◌, ◌++◌, length, get_or, set, Option, Some, None, refl, sym, ap, subst, ◌∙◌, arith, inl, inr, length-append}
use Rattle.std.specs.Prelude.{IfSome, slice_get, slice_index_or}
use Rattle.std.specs.List.{All}
use Rattle.std.proofs.lemmas.Bool.{cases_lt}
use Rattle.std.proofs.lemmas.Option.{slice_get_within}
use Rattle.base_schema.specs.State.{State}
use Rattle.store_state.specs.Refresh.{Change, changed}
use Rattle.store_state.specs.Versions.{accepted, is_accepted, tried, version_state}
use Rattle.store_state.proofs.Prefixes.{accepted-prefix, prefix-append, state-prefix}
use Rattle.store_state.proofs.VersionSteps.{accepted-more, accepted-most, state-more}
use Rattle.store_machine.specs.Kept.{IsBelow, AreVersionsKept, IsTried}
use Rattle.store_machine.specs.Machine.{SessionState, World, changed_in, new_session, published}

-- a list that is written past its end stays
pub written_past : {A : Type 0} (xs : List A) (place : ℕ) (x : A) → length xs ≤ place → set xs place x ≡ xs
written_past [] place x past = refl
written_past (y ∷ xs) zero x past = absurd (omega (arith, past))
written_past (y ∷ xs) (suc place) x past = ap (λ l. y ∷ l) (written_past xs place x (omega (arith, past)))

-- a session that is not there is not changed
pub no_session : (sessions : List SessionState) (number : ℕ) → length sessions < number → (change : SessionState → SessionState)
    → changed_in sessions number change ≡ sessions
no_session sessions zero past change = refl
no_session sessions (suc place) past change = written_past sessions place (change (slice_index_or sessions place new_session)) (omega (arith, past))

same_some : {A : Type 0} (a b : A) → Some a ≡ Some b → a ≡ b
same_some a b e = cc

add_none : (n : ℕ) → n + 0 ≡ n
add_none n = omega arith

some_change : (list : List Change) (place : ℕ) → place < length list → (change : Change) × (slice_get list place ≡ Some change)
some_change [] place less = absurd (omega (arith, less))
some_change (x ∷ list) zero less = (x, refl)
some_change (x ∷ list) (suc place) less = some_change list place (omega (arith, less))

get_or_seam : (versions : List State) (next other : State) → get_or (versions ++ next ∷ []) (length versions) other ≡ next
get_or_seam [] next other = refl
get_or_seam (v ∷ versions) next other = get_or_seam versions next other

get_or-append-before : (versions more : List State) (place : ℕ) (other : State) → place < length versions
    → get_or (versions ++ more) place other ≡ get_or versions place other
get_or-append-before [] more place other less = absurd (omega (arith, less))
get_or-append-before (v ∷ versions) more zero other less = refl
get_or-append-before (v ∷ versions) more (suc place) other less = get_or-append-before versions more place other (omega (arith, less))

pin_below : (most later : ℕ) (pin : Option ℕ) → most ≤ later → IfSome pin (λ version. version ≤ most) → IfSome pin (λ version. version ≤ later)
pin_below most later None less h = h
pin_below most later (Some version) less h = omega (arith, less, h)

not_below : (most later : ℕ) (session : SessionState) → most ≤ later → IsBelow most session → IsBelow later session
not_below most later session less h = (let a = h.0 in omega (arith, a, less), pin_below most later session.pin less h.1)

kept_accepted_at : (world : World) (versions : List State) (next : State) (change : Change) → AreVersionsKept world versions
    → slice_get world.list world.done ≡ Some change → is_accepted (version_state world.base world.list (published world)) change ≡ true
    → next ≡ changed (version_state world.base world.list (published world)) change
    → AreVersionsKept (record world { done = world.done + 1 }) (versions ++ next ∷ [])
kept_accepted_at world versions next change kept at is_taken is =
    let base = world.base in
    let list = world.list in
    let last = version_state base list (published world) in
    let less : world.done < length list = slice_get_within list world.done change at in
    let more : accepted base list (world.done + 1) ≡ published world + 1 =
    accepted-more base list world.done change at ∙ ap (λ b. published world + cond b 1 0) is_taken in
    let made : version_state base list (published world + 1) ≡ next =
    ap (version_state base list) (sym more) ∙ state-more base list world.done change at
    ∙ ap (λ b. cond b (changed last change) last) is_taken ∙ sym is in
    let long = length-append versions (next ∷ []) in
    let count = kept.count in
    record {
      within = omega (arith, less);
      count = omega (arith, long, count, more);
      states = λ version other most.
          elim (cases_lt version (published world + 1)) [
            | inl below ↦ get_or-append-before versions (next ∷ []) version other (omega (arith, below, count))
                ∙ kept.states version other (omega (arith, below))
            | inr past ↦
                let here : version ≡ published world + 1 = omega (arith, past, most, more) in
                let there : version ≡ length versions = omega (arith, here, count) in
                ap (λ v. get_or (versions ++ next ∷ []) v other) there ∙ get_or_seam versions next other
                ∙ sym (ap (version_state base list) here ∙ made)
          ];
      sessions = λ k other within. not_below (published world) (accepted base list (world.done + 1)) (get_or world.sessions k other) (omega (arith, more)) (kept.sessions k other within);
    }

kept_refused_at : (world : World) (versions : List State) (change : Change) → AreVersionsKept world versions
    → slice_get world.list world.done ≡ Some change → is_accepted (version_state world.base world.list (published world)) change ≡ false
    → AreVersionsKept (record world { done = world.done + 1 }) versions
kept_refused_at world versions change kept at is_refused =
    let less : world.done < length world.list = slice_get_within world.list world.done change at in
    let same : accepted world.base world.list (world.done + 1) ≡ published world =
    accepted-more world.base world.list world.done change at ∙ ap (λ b. published world + cond b 1 0) is_refused ∙ add_none (published world) in
    let count = kept.count in
    record {
      within = omega (arith, less);
      count = omega (arith, count, same);
      states = λ version other most. kept.states version other (omega (arith, most, same));
      sessions = λ k other within. not_below (published world) (accepted world.base world.list (world.done + 1)) (get_or world.sessions k other) (omega (arith, same)) (kept.sessions k other within);
    }

accepted_if : (b : Bool) (next made : State) → Some next ≡ cond b (Some made) None → (b ≡ true) × (next ≡ made)
accepted_if true next made e = (refl, same_some next made e)
accepted_if false next made e = cc

refused_if : (b : Bool) (made : State) → None ≡ cond b (Some made) None → b ≡ false
refused_if true made e = cc
refused_if false made e = refl

pub kept_accepted : (world : World) (versions : List State) (next : State) → AreVersionsKept world versions → world.done < length world.list
    → IsTried world (Some next) → AreVersionsKept (record world { done = world.done + 1 }) (versions ++ next ∷ [])
kept_accepted world versions next kept less tried =
    let found = some_change world.list world.done less in
    let both = accepted_if (is_accepted (version_state world.base world.list (published world)) found.0) next
    (changed (version_state world.base world.list (published world)) found.0) (tried found.0 found.1) in
    kept_accepted_at world versions next found.0 kept found.1 both.0 both.1

pub kept_refused : (world : World) (versions : List State) → AreVersionsKept world versions → world.done < length world.list
    → IsTried world None → AreVersionsKept (record world { done = world.done + 1 }) versions
kept_refused world versions kept less tried =
    let found = some_change world.list world.done less in
    kept_refused_at world versions found.0 kept found.1
    (refused_if (is_accepted (version_state world.base world.list (published world)) found.0)
    (changed (version_state world.base world.list (published world)) found.0) (tried found.0 found.1))

-- a list that gets longer keeps its versions
pub kept_offered : (world : World) (versions : List State) (refresh : Change) → AreVersionsKept world versions
    → AreVersionsKept (record world { list = world.list ++ refresh ∷ [] }) versions
kept_offered world versions refresh kept =
    let longer = prefix-append world.list (refresh ∷ []) in
    let long = length-append world.list (refresh ∷ []) in
    let within = kept.within in
    let count = kept.count in
    let most = accepted-most world.base world.list world.done in
    let same : accepted world.base (world.list ++ refresh ∷ []) world.done ≡ published world =
    accepted-prefix world.base world.list (world.list ++ refresh ∷ []) world.done longer within in
    record {
      within = omega (arith, long, within);
      count = omega (arith, count, same);
      states = λ version other less.
          kept.states version other (omega (arith, less, same))
          ∙ sym (state-prefix world.base world.list (world.list ++ refresh ∷ []) version longer (omega (arith, less, same, most)));
      sessions = subst (λ n. All (IsBelow n) world.sessions) (sym same) kept.sessions;
    }
