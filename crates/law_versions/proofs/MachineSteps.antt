-- What running sessions and a publisher do, in the machine's steps.
use Rattle.std.proofs.Common.{◌≡◌, ℕ, zero, suc, ◌+◌, ◌<◌, ◌≤◌, Bool, true, false, ◌&&◌, Ok, Err, List, [], ◌∷◌, ◌++◌, length, refl, sym, ap, subst, ◌∙◌, arith, inl, inr, length-append}
use Rattle.std.specs.Prelude.{nat_le, nat_lt, slice_index_or, slice_set}
use Rattle.std.specs.Option.{is_some}
use Rattle.std.proofs.lemmas.Bool.Decides.{nat_tests}
use Rattle.std.proofs.lemmas.List.{get_or-set_same, set-get_or}
use Rattle.store_versions.specs.Older.{IsGone, IsRecent, IsUnknown}
use Rattle.store_state.specs.Refresh.{Change}
use Rattle.store_versions.specs.Trials.{Trials, offered, one_more, version_of}
use Rattle.store_versions.specs.declared.attachment.Attachment.{Ghosts}
use Rattle.store_versions.specs.declared.version_error.VersionError.TheVariants.{Unknown, Gone, OutOfMemory}
use Rattle.store_snapshots.specs.declared.publisher.Given.TheVariants.{Published as GivenPublished, Refused as GivenRefused, OutOfMemory as GivenNoMemory}
use Rattle.store_snapshots.specs.declared.publisher.Published.TheVariants.{Published, Refused, NoMore, OutOfMemory as NoMemory}
use Rattle.store_machine.specs.Machine.{SessionState, World, begun, begun_again, changed_in, gone_back, happens, is_cut, learnt, may_go_back, new_session, pinned, pinned_back, published, session_in, session_of, with_session}
use Rattle.store_machine.specs.declared.steps.Step.TheVariants.{Back, Publish}
use Rattle.law_versions.specs.RunningSteps.{BackLaw, BeginLaw, CompactLaw, GiveLaw, LearnLaw, OfferLaw, PublishLaw, world_at}

both_false : (a : Bool) → (a && false) ≡ false
both_false true = refl
both_false false = refl

changed_here : (world : World) (number : ℕ) (change : SessionState → SessionState) → 0 < number → number ≤ length world.sessions
    → session_in (changed_in world.sessions number change) number ≡ change (session_in world.sessions number)
changed_here world zero change some within = absurd (omega (arith, some))
changed_here world (suc place) change some within =
    get_or-set_same world.sessions place (change (slice_index_or world.sessions place new_session)) new_session (omega (arith, within))

pub begin_law : BeginLaw
begin_law world session cuts entries more refusals others seen version is same began cut =
    elim began [
      | inl entered ↦
          let here = changed_here world session (begun world cuts) is.0 is.1 in
          let fits : is_cut world.base world.list (published world) cuts ≡ true = subst (λ v. is_cut world.base world.list v cuts ≡ true) entered.1 cut in
          inl (entered.0, here ∙ rw fits (ap (λ v. pinned v cuts) (sym entered.1)))
      | inr refused ↦
          let here = changed_here world session (begun_again world cuts) is.0 is.1 in
          let at : version ≡ (session_of world session).seen = refused.1 ∙ sym same in
          let fits : is_cut world.base world.list (session_of world session).seen cuts ≡ true = subst (λ v. is_cut world.base world.list v cuts ≡ true) at cut in
          inr (refused.0, here ∙ rw fits (ap (λ v. pinned v cuts) (sym at)))
    ]

-- whether a session may go back is whether the version is recent
may_back : (session : SessionState) (last number : ℕ) → is_some session.pin ≡ true → session.seen ≡ last → IsRecent last number
    → may_go_back session number ≡ true
may_back session last number some same recent =
    let most : nat_le number session.seen ≡ true = let a = recent.0 in grind (arith, nat_tests, a, same) in
    let less : nat_lt session.seen (number + 64) ≡ true = let a = recent.1 in grind (arith, nat_tests, a, same) in
    rw (some, most, less) refl

not_unknown : (session : SessionState) (pin number : ℕ) → session.seen ≡ pin → IsUnknown pin number → may_go_back session number ≡ false
not_unknown session pin number same unknown =
    let no : nat_le number session.seen ≡ false = grind (arith, nat_tests, unknown, same) in
    rw no (both_false (is_some session.pin))

not_gone : (session : SessionState) (pin number : ℕ) → session.seen ≡ pin → IsGone pin number → may_go_back session number ≡ false
not_gone session pin number same gone =
    let yes : nat_le number session.seen ≡ true = grind (arith, nat_tests, gone, same) in
    let no : nat_lt session.seen (number + 64) ≡ false = grind (arith, nat_tests, gone, same) in
    rw (yes, no) (both_false (is_some session.pin))

-- a session that stays as it is leaves the machine
nothing_changed : (world : World) (number : ℕ) (change : SessionState → SessionState)
    → change (session_of world number) ≡ session_of world number → with_session world number change ≡ world
nothing_changed world zero change same = refl
nothing_changed world (suc place) change same =
    ap (λ s. record world { sessions = s })
    (ap (slice_set world.sessions place) same ∙ set-get_or world.sessions place new_session)

stays : (world : World) (session number : ℕ) (cuts : List (List ℕ)) → may_go_back (session_of world session) number ≡ false
    → happens world (Back session number cuts) ≡ world
stays world session number cuts may = nothing_changed world session (gone_back world number cuts) (rw may refl)

pub back_law : BackLaw
back_law world session number cuts last (Ok older) is pin same cut gives =
    let here = changed_here world session (gone_back world number cuts) is.0 is.1 in
    let may = may_back (session_of world session) (version_of last) number pin same gives.0 in
    here ∙ rw (may, cut) (ap (λ v. pinned_back v cuts (session_of world session)) (sym gives.1.version))
back_law world session number cuts last (Err Unknown) is pin same cut gives =
    stays world session number cuts (not_unknown (session_of world session) (version_of last) number same gives)
back_law world session number cuts last (Err Gone) is pin same cut gives =
    stays world session number cuts (not_gone (session_of world session) (version_of last) number same gives)
back_law world session number cuts last (Err OutOfMemory) is pin same cut gives = tt

pub learn_law : LearnLaw
learn_law world session note is told =
    let yes : nat_le note (published world) ≡ true = grind (arith, nat_tests) in
    changed_here world session (learnt world note) is.0 is.1 ∙ rw yes refl

next_world : (old new : Trials) (sessions : List SessionState) → old.done < length old.list → new ≡ one_more old
    → happens (world_at old sessions) Publish ≡ world_at new sessions
next_world old new sessions left is =
    let yes : nat_lt old.done (length old.list) ≡ true = grind (arith, nat_tests) in
    rw yes (ap (λ t. world_at t sessions) (sym is))

pub publish_law : {A : Type 0} (g : Ghosts A) → PublishLaw g
publish_law g old new (Published note) sessions tries not_memory = next_world old new sessions tries.0 tries.1.0
publish_law g old new (Refused cause) sessions tries not_memory = next_world old new sessions tries.0 tries.1.0
publish_law g old new NoMore sessions tries not_memory =
    let no : nat_lt old.done (length old.list) ≡ false = let at = tries.0 in grind (arith, nat_tests, at) in
    rw no (ap (λ t. world_at t sessions) (sym tries.1))
publish_law g old new NoMemory sessions tries not_memory = absurd (not_memory refl)

pub offer_law : OfferLaw
offer_law old change sessions = refl

one_longer : (old : Trials) (change : Change) → old.done ≡ length old.list → old.done < length (old.list ++ change ∷ [])
one_longer old change done = let long = length-append old.list (change ∷ []) in omega (arith, done, long)

pub give_law : {A : Type 0} (g : Ghosts A) → GiveLaw g
give_law g old new change (GivenPublished note) sessions done tries not_memory =
    next_world (offered change old.version) new.version sessions (one_longer old.version change done) tries.after.0
give_law g old new change (GivenRefused cause) sessions done tries not_memory =
    next_world (offered change old.version) new.version sessions (one_longer old.version change done) tries.after.0
give_law g old new change GivenNoMemory sessions done tries not_memory = absurd (not_memory refl)

pub compact_law : CompactLaw
compact_law old new sessions is = ap (λ t. world_at t sessions) (sym is)
