-- The laws of versions.
use Rattle.std.proofs.Common.{◌≡◌, ℕ, ◌+◌, Bool, true, false, cond, List, [], ◌∷◌, ◌++◌, length, take, drop, Some, refl, ap, sym, ◌∙◌, arith, append_assoc, length-append}
use Rattle.std.specs.Prelude.{slice_get}
use Rattle.std.proofs.lemmas.List.{append-nil, take-append-drop, take-take, take_more}
use Rattle.std.proofs.lemmas.Option.{get_or_from_slice_get, slice_get_within}
use Rattle.std.proofs.Math.Seq.{take-append_seam, take-length}
use Rattle.base_schema.specs.State.{State}
use Rattle.store_state.specs.Refresh.{Change, changed}
use Rattle.store_state.specs.Versions.{accepted, is_accepted, replayed, taken, tried}
use Rattle.store_state.specs.VersionLaws.{AcceptedMoreLaw, AcceptedMostLaw, AcceptedRisesLaw, FirstVersionLaw, StateAcceptedLaw, StateMoreLaw, TakenAppendLaw}

-- replaying what is taken of one refresh is trying it
one_replayed : (b : Bool) (base : State) (change : Change) (rest : List Change)
    → replayed base (cond b (change ∷ []) [] ++ rest) ≡ replayed (cond b (changed base change) base) rest
one_replayed true base change rest = refl
one_replayed false base change rest = refl

pub taken-append : TakenAppendLaw
taken-append base [] second = refl
taken-append base (change ∷ first) second =
    let one = cond (is_accepted base change) (change ∷ []) [] in
    let next = tried base change in
    let more : List Change → List Change = λ changes. one ++ changes in
    let seen : State → List Change = λ state. (one ++ taken next first) ++ taken state second in
    ap more (taken-append next first second)
    ∙ sym (append_assoc one (taken next first) (taken (replayed next (taken next first)) second))
    ∙ ap seen (sym (one_replayed (is_accepted base change) base change (taken next first)))

-- what is taken of a whole list begins with what is taken of its first
taken_split : (base : State) (list : List Change) (done : ℕ)
    → taken base list ≡ taken base (take done list) ++ taken (replayed base (taken base (take done list))) (drop done list)
taken_split base list done =
    ap (taken base) (sym (take-append-drop done list)) ∙ taken-append base (take done list) (drop done list)

pub state-accepted : StateAcceptedLaw
state-accepted base list done =
    ap (replayed base)
    (ap (take (accepted base list done)) (taken_split base list done) ∙ take-append_seam (taken base (take done list)) _)

pub first_version : FirstVersionLaw
first_version base list = (refl, refl)

-- one more refresh
more_taken : (base : State) (list : List Change) (done : ℕ) (change : Change) → slice_get list done ≡ Some change
    → taken base (take (done + 1) list)
    ≡ taken base (take done list) ++ cond (is_accepted (replayed base (taken base (take done list))) change) (change ∷ []) []
more_taken base list done change at =
    let within = slice_get_within list done change at in
    let here = get_or_from_slice_get list done change change at in
    let longer : take (done + 1) list ≡ take done list ++ change ∷ [] =
    take_more list done change within ∙ ap (λ c. take done list ++ c ∷ []) here in
    let state = replayed base (taken base (take done list)) in
    ap (taken base) longer ∙ taken-append base (take done list) (change ∷ [])
    ∙ ap (λ changes. taken base (take done list) ++ changes) (append-nil (cond (is_accepted state change) (change ∷ []) []))

one_counted : (b : Bool) (changes : List Change) (change : Change)
    → length (changes ++ cond b (change ∷ []) []) ≡ length changes + cond b 1 0
one_counted true changes change = length-append changes (change ∷ [])
one_counted false changes change = length-append changes []

pub accepted-more : AcceptedMoreLaw
accepted-more base list done change at =
    let state = replayed base (taken base (take done list)) in
    ap length (more_taken base list done change at)
    ∙ one_counted (is_accepted state change) (taken base (take done list)) change
    ∙ ap (λ s. accepted base list done + cond (is_accepted s change) 1 0) (sym (state-accepted base list done))

-- replaying one list after another
replayed-append : (base : State) (first second : List Change)
    → replayed base (first ++ second) ≡ replayed (replayed base first) second
replayed-append base [] second = refl
replayed-append base (change ∷ first) second = replayed-append (changed base change) first second

one_tried : (b : Bool) (state : State) (change : Change)
    → replayed state (cond b (change ∷ []) []) ≡ cond b (changed state change) state
one_tried true state change = refl
one_tried false state change = refl

pub state-more : StateMoreLaw
state-more base list done change at =
    let state = replayed base (taken base (take done list)) in
    state-accepted base list (done + 1)
    ∙ ap (replayed base) (more_taken base list done change at)
    ∙ replayed-append base (taken base (take done list)) _
    ∙ one_tried (is_accepted state change) state change
    ∙ ap (λ s. tried s change) (sym (state-accepted base list done))

pub accepted-most : AcceptedMostLaw
accepted-most base list done =
    let e = ap length (taken_split base list done) in
    let l = length-append (taken base (take done list)) (taken (replayed base (taken base (take done list))) (drop done list)) in
    let w : length (taken base (take (length list) list)) ≡ length (taken base list) = ap (λ xs. length (taken base xs)) (take-length list) in
    omega (arith, e, l, w)

pub accepted-rises : AcceptedRisesLaw
accepted-rises base list done more =
    let first = take (done + more) list in
    let e = ap length (taken_split base first done) in
    let l = length-append (taken base (take done first)) (taken (replayed base (taken base (take done first))) (drop done first)) in
    let w : length (taken base (take done first)) ≡ accepted base list done = ap (λ xs. length (taken base xs)) (take-take done (done + more) list (omega arith)) in
    omega (arith, e, l, w)
