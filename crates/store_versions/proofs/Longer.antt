-- A version of a list that gets longer.
use Rattle.std.proofs.Common.{◌≡◌, ℕ, ◌<◌, ◌≤◌, List, [], ◌∷◌, ◌++◌, length, sym, ap, ◌∙◌, arith, length-append}
use Rattle.std.specs.List.{All}
use Rattle.base_schema.specs.State.{State}
use Rattle.store_state.specs.Refresh.{Change}
use Rattle.store_state.specs.Versions.{version_state}
use Rattle.store_state.proofs.Prefixes.{accepted-prefix, prefix-append, state-prefix}
use Rattle.store_state.proofs.VersionSteps.{accepted-most}
use Rattle.store_versions.specs.Older.{IsVersionOf, KeptState}
use Rattle.store_versions.specs.Trials.{HasKept, Trials, offered, tables_of, version_of}

pub version_longer : (trials : Trials) (change : Change) → trials.done ≤ length trials.list
    → version_of (offered change trials) ≡ version_of trials
version_longer trials change within =
    accepted-prefix trials.base trials.list (trials.list ++ change ∷ []) trials.done
    (prefix-append trials.list (change ∷ [])) within

pub tables_longer : (trials : Trials) (change : Change) → trials.done ≤ length trials.list
    → tables_of (offered change trials) ≡ tables_of trials
tables_longer trials change within =
    ap (version_state trials.base (trials.list ++ change ∷ [])) (version_longer trials change within)
    ∙ state-prefix trials.base trials.list (trials.list ++ change ∷ []) (version_of trials)
    (prefix-append trials.list (change ∷ [])) (accepted-most trials.base trials.list trials.done)

pub kept_longer : (trials : Trials) (change : Change) (number : ℕ) (state : State) → length trials.list < trials.most
    → HasKept trials number state → HasKept (offered change trials) number state
kept_longer trials change number state room kept =
    let long = length-append trials.list (change ∷ []) in
    let within = kept.within in
    record {
      within = omega (arith, long, within);
      short = omega (arith, long, room);
      counted = kept.counted ∙ sym (version_longer trials change within);
      few = kept.few;
      left = kept.left ∙ sym (tables_longer trials change within);
    }

pub all_longer : (trials : Trials) (change : Change) (kept : List KeptState) → length trials.list < trials.most
    → All (IsVersionOf trials) kept → All (IsVersionOf (offered change trials)) kept
all_longer trials change kept room are = λ place other within.
    let version = are place other within in
    kept_longer (record trials { done = _ }) change _ _ room version
