-- Invariants of the machine.
use Rattle.std.proofs.Common.{◌≡◌, ℕ, zero, suc, ◌+◌, ◌≤◌, Bool, true, false, cond, ◌&&◌, List, [], ◌∷◌, get_or, set, max, Some, None, refl, ap, subst, ◌∙◌, inl, inr, ⊎_elim, arith}
use Rattle.std.specs.Prelude.{◌⊎◌, nat_le, nat_lt, slice_index_or}
use Rattle.std.specs.Option.{is_some}
use Rattle.std.proofs.lemmas.Bool.Decides.{nat_tests}
use Rattle.base_value.specs.declared.value.Value.{Value}
use Rattle.base_schema.specs.declared.table.TableName.{TableName}
use Rattle.base_schema.specs.State.{State}
use Rattle.store_state.specs.Refresh.{Change}
use Rattle.store_state.specs.Versions.{accepted}
use Rattle.store_machine.specs.Machine.{SessionState, World, begun, begun_again, changed_in, finished, gone_back, is_cut, learnt, lengths_of, may_go_back, new_session, piece_rows, pieces_of, pinned, pinned_back, published, rows_in, session_in}

-- a list after a write: a place has what it had, or it is the place that was written
write_at : {A : Type 0} (xs : List A) (i j : ℕ) (v d : A) → (get_or (set xs i v) j d ≡ get_or xs j d) ⊎ ((i ≡ j) × (get_or (set xs i v) j d ≡ v))
write_at [] i j v d = inl refl
write_at (x ∷ xs) zero zero v d = inr (refl, refl)
write_at (x ∷ xs) zero (suc j) v d = inl refl
write_at (x ∷ xs) (suc i) zero v d = inl refl
write_at (x ∷ xs) (suc i) (suc j) v d =
    ⊎_elim (λ same. inl same) (λ written. inr (ap suc written.0, written.1)) (write_at xs i j v d)

-- a session after one is changed: it is as it was, or it is the changed one
pub session_changed : (sessions : List SessionState) (number other : ℕ) (change : SessionState → SessionState)
    → (session_in (changed_in sessions number change) other ≡ session_in sessions other)
    ⊎ (session_in (changed_in sessions number change) other ≡ change (session_in sessions other))
session_changed sessions zero other change = inl refl
session_changed sessions (suc place) zero change = inl refl
session_changed sessions (suc place) (suc at) change =
    ⊎_elim (λ same. inl same)
    (λ written. inr (written.1 ∙ ap (λ p. change (slice_index_or sessions p new_session)) written.0))
    (write_at sessions place at (change (slice_index_or sessions place new_session)) new_session)

-- what holds of each session, over a base, a list and a number of refreshes that were tried
pub record IsSound (base : State) (list : List Change) (done : ℕ) (session : SessionState) : Type 0 where
  pub seen : session.seen ≤ accepted base list done
  pub pin : (version : ℕ) → session.pin ≡ Some version → version ≤ session.seen
  pub cut : (version : ℕ) → session.pin ≡ Some version → is_cut base list version session.cuts ≡ true
  pub pieces : (version : ℕ) → session.pin ≡ Some version → (table : TableName) (number : ℕ) (rows : List (List Value))
      → piece_rows session.pieces table number ≡ Some rows
      → rows ≡ slice_index_or (pieces_of (lengths_of session.cuts table) (rows_in base list version table)) number []

same_some : {A : Type 0} (a b : A) → Some a ≡ Some b → a ≡ b
same_some a b e = cc

no_some : {A : Type 0} (a : A) → None ≡ Some a → ⊥
no_some a e = cc

pinned_sound : (base : State) (list : List Change) (done version : ℕ) (cuts : List (List ℕ)) → version ≤ accepted base list done
    → is_cut base list version cuts ≡ true → IsSound base list done (pinned version cuts)
pinned_sound base list done version cuts most cut = record {
  seen = most;
  pin = λ v e. let same : version ≡ v = same_some version v e in omega (arith, same);
  cut = λ v e. subst (λ n. is_cut base list n cuts ≡ true) (same_some version v e) cut;
  pieces = λ v e table number rows found. absurd (no_some rows found);
}

-- what a step does to a session keeps all this, and never lowers what it has seen
pub record Keeps (base : State) (list : List Change) (done : ℕ) (change : SessionState → SessionState) : Type 0 where
  pub sound : (session : SessionState) → IsSound base list done session → IsSound base list done (change session)
  pub rises : (session : SessionState) → IsSound base list done session → session.seen ≤ (change session).seen

pub nothing_kept : (base : State) (list : List Change) (done : ℕ) → Keeps base list done (λ session. session)
nothing_kept base list done = record { sound = λ c h. h; rises = λ c h. omega arith }

begun_sound : (world : World) (cuts : List (List ℕ)) (session : SessionState) (b : Bool) → is_cut world.base world.list (published world) cuts ≡ b
    → IsSound world.base world.list world.done session
    → IsSound world.base world.list world.done (cond b (pinned (published world) cuts) session)
begun_sound world cuts session true e h = pinned_sound world.base world.list world.done (published world) cuts (omega arith) e
begun_sound world cuts session false e h = h

begun_rises : (world : World) (cuts : List (List ℕ)) (session : SessionState) (b : Bool) → session.seen ≤ published world
    → session.seen ≤ (cond b (pinned (published world) cuts) session).seen
begun_rises world cuts session true h = h
begun_rises world cuts session false h = omega arith

pub begun_keeps : (world : World) (cuts : List (List ℕ)) → Keeps world.base world.list world.done (begun world cuts)
begun_keeps world cuts = record {
  sound = λ c h. begun_sound world cuts c (is_cut world.base world.list (published world) cuts) refl h;
  rises = λ c h. begun_rises world cuts c (is_cut world.base world.list (published world) cuts) h.seen;
}

again_sound : (world : World) (cuts : List (List ℕ)) (session : SessionState) (b : Bool) → is_cut world.base world.list session.seen cuts ≡ b
    → IsSound world.base world.list world.done session
    → IsSound world.base world.list world.done (cond b (pinned session.seen cuts) session)
again_sound world cuts session true e h = pinned_sound world.base world.list world.done session.seen cuts h.seen e
again_sound world cuts session false e h = h

again_rises : (cuts : List (List ℕ)) (session : SessionState) (b : Bool) → session.seen ≤ (cond b (pinned session.seen cuts) session).seen
again_rises cuts session true = omega arith
again_rises cuts session false = omega arith

pub again_keeps : (world : World) (cuts : List (List ℕ)) → Keeps world.base world.list world.done (begun_again world cuts)
again_keeps world cuts = record {
  sound = λ c h. again_sound world cuts c (is_cut world.base world.list c.seen cuts) refl h;
  rises = λ c h. again_rises cuts c (is_cut world.base world.list c.seen cuts);
}

both_true : (a b c : Bool) → (a && (b && c)) ≡ true → (a ≡ true) × (b ≡ true) × (c ≡ true)
both_true true true c e = (refl, refl, e)
both_true true false c e = cc
both_true false b c e = cc

-- a session that goes back to a version has seen that one or a later one
back_most : (session : SessionState) (version : ℕ) → may_go_back session version ≡ true → version ≤ session.seen
back_most session version may =
    let yes : nat_le version session.seen ≡ true =
    (both_true (is_some session.pin) (nat_le version session.seen) (nat_lt session.seen (version + 64)) may).1 in
    grind (arith, nat_tests, yes)

back_sound : (base : State) (list : List Change) (done version : ℕ) (cuts : List (List ℕ)) (session : SessionState)
    → version ≤ session.seen → is_cut base list version cuts ≡ true → IsSound base list done session
    → IsSound base list done (pinned_back version cuts session)
back_sound base list done version cuts session most cut h = record {
  seen = h.seen;
  pin = λ v e. let same : version ≡ v = same_some version v e in omega (arith, same, most);
  cut = λ v e. subst (λ n. is_cut base list n cuts ≡ true) (same_some version v e) cut;
  pieces = λ v e table number rows found. absurd (no_some rows found);
}

back_if : (world : World) (version : ℕ) (cuts : List (List ℕ)) (session : SessionState) (may fits : Bool)
    → may_go_back session version ≡ may → is_cut world.base world.list version cuts ≡ fits
    → IsSound world.base world.list world.done session
    → IsSound world.base world.list world.done (cond (may && fits) (pinned_back version cuts session) session)
back_if world version cuts session true true may fits h =
    back_sound world.base world.list world.done version cuts session (back_most session version may) fits h
back_if world version cuts session true false may fits h = h
back_if world version cuts session false fits may e h = h

back_rises : (version : ℕ) (cuts : List (List ℕ)) (session : SessionState) (b : Bool)
    → session.seen ≤ (cond b (pinned_back version cuts session) session).seen
back_rises version cuts session true = omega arith
back_rises version cuts session false = omega arith

pub back_keeps : (world : World) (version : ℕ) (cuts : List (List ℕ))
    → Keeps world.base world.list world.done (gone_back world version cuts)
back_keeps world version cuts = record {
  sound = λ c h. back_if world version cuts c (may_go_back c version) (is_cut world.base world.list version cuts) refl refl h;
  rises = λ c h. back_rises version cuts c (may_go_back c version && is_cut world.base world.list version cuts);
}

learnt_sound : (world : World) (note : ℕ) (session : SessionState) (b : Bool) → nat_le note (published world) ≡ b
    → IsSound world.base world.list world.done session
    → IsSound world.base world.list world.done (cond b (record session { seen = max session.seen note }) session)
learnt_sound world note session true e h = record {
  seen = let a = h.seen in let le : note ≤ accepted world.base world.list world.done = grind (arith, nat_tests) in omega (arith, a, le);
  pin = λ v pin. let a = h.pin v pin in omega (arith, a);
  cut = h.cut;
  pieces = h.pieces;
}
learnt_sound world note session false e h = h

learnt_rises : (note : ℕ) (session : SessionState) (b : Bool)
    → session.seen ≤ (cond b (record session { seen = max session.seen note }) session).seen
learnt_rises note session true = omega arith
learnt_rises note session false = omega arith

pub learnt_keeps : (world : World) (note : ℕ) → Keeps world.base world.list world.done (learnt world note)
learnt_keeps world note = record {
  sound = λ c h. learnt_sound world note c (nat_le note (published world)) refl h;
  rises = λ c h. learnt_rises note c (nat_le note (published world));
}

pub finished_keeps : (base : State) (list : List Change) (done : ℕ) → Keeps base list done finished
finished_keeps base list done = record {
  sound = λ c h. record {
    seen = h.seen;
    pin = λ v e. absurd (no_some v e);
    cut = λ v e. absurd (no_some v e);
    pieces = λ v e. absurd (no_some v e);
  };
  rises = λ c h. omega arith;
}
