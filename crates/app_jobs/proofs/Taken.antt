-- What a taker has taken once both senders have ended.
use Rattle.std.proofs.Common.{◌≡◌, ◌∙◌, ℕ, zero, suc, ◌+◌, ◌<◌, Bool, true, false, cond, List, [], ◌∷◌, ◌++◌, drop, length, map, take, ap, arith, refl, subst, sym}
use Rattle.std.specs.List.{AllByRecursion, zip}
use Rattle.std.proofs.lemmas.List.{length-append, length-map}
use Rattle.std.proofs.Math.Seq.{take-length}
use Rattle.base_schema.specs.State.{State}
use Rattle.store_gateway.specs.Feeds.{numbered, sent_from, sender_number}
use Rattle.store_gateway.specs.Queue.{is_same_sender}
use Rattle.store_gateway.specs.Roles.{Sending, Taking, sent_by}
use Rattle.store_gateway.specs.declared.message.SenderId.{SenderId}
use Rattle.store_gateway.specs.declared.message.SenderId.TheVariants.{First, Second}
use Rattle.store_gateway.proofs.Numbers.{sent_from-numbered}
use Rattle.store_snapshots.specs.Turns.{from_nobody}
use Rattle.store_refresh_entries.specs.Change.{MayBeStored}
use Rattle.store_state.specs.Refresh.{Change}
use Rattle.store_versions.specs.Trials.{Trials}
use Rattle.app_sessions.specs.Jobs.{IsOrderText, JobAnswer, JobSession}
use Rattle.app_sessions.specs.Orders.{RefreshOrder, later_by, whole_order}
use Rattle.app_jobs.specs.Senders.{IsSentText, order_sent}

-- what both senders sent is all that was sent
both_counted : (sent : List (SenderId × Change)) → length sent ≡ length (sent_by First sent) + length (sent_by Second sent)
both_counted [] = refl
both_counted ((First, change) ∷ sent) = let so = both_counted sent in omega (arith, so)
both_counted ((Second, change) ∷ sent) = let so = both_counted sent in omega (arith, so)

-- what senders are given is all that is sent

zip_counted : (senders : List SenderId) (sent : List Change) → length sent ≡ length senders → length (zip senders sent) ≡ length senders
zip_counted [] sent same = refl
zip_counted (s ∷ ss) [] same = absurd (omega (arith, same))
zip_counted (s ∷ ss) (c ∷ cs) same = let so = zip_counted ss cs (omega (arith, same)) in omega (arith, so)

pub given_counted : (senders : List SenderId) (sent firsts seconds : List Change) → length sent ≡ length senders → firsts ≡ sent_by First (zip senders sent) → seconds ≡ sent_by Second (zip senders sent)
    → length firsts + length seconds ≡ length senders
given_counted senders sent firsts seconds same first second =
    let a : length firsts ≡ length (sent_by First (zip senders sent)) = ap length first in
    let b : length seconds ≡ length (sent_by Second (zip senders sent)) = ap length second in
    let c = both_counted (zip senders sent) in
    let d = zip_counted senders sent same in
    omega (arith, a, b, c, d)

-- what holds of all that is left holds of the rest
rest_of : (P : Change → Type 0) (count : ℕ) (list : List Change) → AllByRecursion P list → AllByRecursion P (drop count list)
rest_of P zero list all = all
rest_of P (suc count) [] all = tt
rest_of P (suc count) (c ∷ cs) all = rest_of P count cs all.1

pub front_of : (P : Change → Type 0) (count : ℕ) (list : List Change) → AllByRecursion P list → AllByRecursion P (take count list)
front_of P zero list all = tt
front_of P (suc count) [] all = tt
front_of P (suc count) (c ∷ cs) all = (all.0, front_of P count cs all.1)

-- what holds of all that is sent holds of what one sender sends
one_of : (P : Change → Type 0) (mine : Bool) (change : Change) (others : List Change) → P change → AllByRecursion P others → AllByRecursion P (cond mine (change ∷ others) others)
one_of P true change others is are = (is, are)
one_of P false change others is are = are

all_sent : (P : Change → Type 0) (id : SenderId) (senders : List SenderId) (sent : List Change) → AllByRecursion P sent → AllByRecursion P (sent_by id (zip senders sent))
all_sent P id [] sent all = tt
all_sent P id (s ∷ ss) [] all = tt
all_sent P id (s ∷ ss) (c ∷ cs) all = one_of P (is_same_sender id s) c (sent_by id (zip ss cs)) all.0 (all_sent P id ss cs all.1)

pub sender_stored : (id : SenderId) (senders : List SenderId) (list sent mine : List Change) (before : ℕ) → AllByRecursion MayBeStored list → sent ≡ drop before list
    → mine ≡ sent_by id (zip senders sent) → AllByRecursion MayBeStored mine
sender_stored id senders list sent mine before all rest is =
    subst (λ l. AllByRecursion MayBeStored l) (sym is)
    (all_sent MayBeStored id senders sent (subst (λ l. AllByRecursion MayBeStored l) (sym rest) (rest_of MayBeStored before list all)))

-- of each sender that is what it sent
of_sender : (id : SenderId) (taken : List (SenderId × Change)) (sent : List Change) → sent_from (sender_number id) (numbered taken) ≡ sent → sent_by id taken ≡ sent
of_sender id taken sent is = sym (sent_from-numbered id taken) ∙ is

order_counted : (list : List Change) (sent : List (SenderId × Change)) → length (order_sent list sent) ≡ length list + length sent
order_counted list sent =
    let a = length-append (from_nobody list) (numbered sent) in
    let b : length (from_nobody list) ≡ length list = length-map list _ in
    let c : length (numbered sent) ≡ length sent = length-map sent _ in
    omega (arith, a, b, c)

-- so it is not too little
pub not_few : (list firsts seconds : List Change) (taken : List (SenderId × Change)) (most : ℕ) → sent_by First taken ≡ firsts → sent_by Second taken ≡ seconds
    → length list + (length firsts + length seconds) ≡ most → length (order_sent list taken) < most → ⊥
not_few list firsts seconds taken most first second all few =
    let a : length (sent_by First taken) ≡ length firsts = ap length first in
    let b : length (sent_by Second taken) ≡ length seconds = ap length second in
    let c = both_counted taken in
    let d = order_counted list taken in
    absurd (omega (arith, a, b, c, d, all, few))

pub never_few : (list firsts seconds : List Change) (taken : List (SenderId × Change)) (most : ℕ) → sent_from 1 (numbered taken) ≡ firsts → sent_from 2 (numbered taken) ≡ seconds
    → length list + (length firsts + length seconds) ≡ most → length (order_sent list taken) < most → ⊥
never_few list firsts seconds taken most first second all few =
    not_few list firsts seconds taken most (of_sender First taken firsts first) (of_sender Second taken seconds second) all few

-- and a text in the order in which it was taken is one in an order that keeps each sender's own
pub text_sent : (base : State) (list firsts seconds : List Change) (taken : List (SenderId × Change)) (sessions : List JobSession) (job : JobAnswer)
    → sent_from 1 (numbered taken) ≡ firsts → sent_from 2 (numbered taken) ≡ seconds → IsOrderText base (order_sent list taken) 0 (length list) sessions job
    → IsSentText base list firsts seconds sessions job
text_sent base list firsts seconds taken sessions job first second text =
    record { sent = taken; first = of_sender First taken firsts first; second = of_sender Second taken seconds second; text = text }

-- the order of all that is done is the whole list and then what was taken, where the list was done before
whole_taken : (version : Trials) (before : ℕ) (taken : List (SenderId × Change)) → version.done ≡ 0 → before ≡ length version.list
    → whole_order (later_by before version) (numbered taken) ≡ order_sent version.list taken
whole_taken version before taken fresh all =
    let done : version.done + before ≡ length version.list = omega (arith, fresh, all) in
    let first : take (version.done + before) version.list ≡ version.list = ap (λ n. take n version.list) done ∙ take-length version.list in
    ap (λ l. from_nobody l ++ numbered taken) first

-- so a text stands over that order
pub text_taken : (version : Trials) (before : ℕ) (taken : List (SenderId × Change)) (sessions : List JobSession) (job : JobAnswer) → version.done ≡ 0 → before ≡ length version.list
    → IsOrderText version.base (whole_order (later_by before version) (numbered taken)) version.done before sessions job
    → IsOrderText version.base (order_sent version.list taken) 0 (length version.list) sessions job
text_taken version before taken sessions job fresh all text =
    let A : RefreshOrder → Type 0 = λ o. IsOrderText version.base o version.done before sessions job in
    let B : ℕ → Type 0 = λ n. IsOrderText version.base (order_sent version.list taken) n before sessions job in
    let C : ℕ → Type 0 = λ n. IsOrderText version.base (order_sent version.list taken) 0 n sessions job in
    subst C all (subst B fresh (subst A (whole_taken version before taken fresh all) text))

-- and too few refreshes are too few in that order
pub few_taken : (version : Trials) (before : ℕ) (taken : List (SenderId × Change)) → version.done ≡ 0 → before ≡ length version.list
    → length (whole_order (later_by before version) (numbered taken)) < version.most → length (order_sent version.list taken) < version.most
few_taken version before taken fresh all few = subst (λ (o : RefreshOrder). length o < version.most) (whole_taken version before taken fresh all) few
