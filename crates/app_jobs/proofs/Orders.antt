-- The orders in which the refreshes of a job may be tried.
use Rattle.std.proofs.Common.{◌≡◌, ◌∙◌, ℕ, ◌+◌, ◌-◌, ◌<◌, ◌≤◌, List, [], ◌∷◌, ◌++◌, Option, None, length, take, drop, map, ap, arith, refl, subst, sym}
use Rattle.std.specs.List.{zip}
use Rattle.std.proofs.Math.Seq.{take-length}
use Rattle.std.proofs.lemmas.List.{append-nil, length-take-le}
use Rattle.app_sessions.specs.Jobs.{IsJobText, IsOrderText, JobAnswer, JobSession}
use Rattle.app_sessions.specs.Orders.{RefreshOrder}
use Rattle.store_gateway.specs.Feeds.{numbered}
use Rattle.store_gateway.specs.Roles.{sent_by}
use Rattle.store_gateway.specs.declared.message.SenderId.{SenderId}
use Rattle.store_gateway.specs.declared.message.SenderId.TheVariants.{First, Second}
use Rattle.store_snapshots.specs.Turns.{from_nobody}
use Rattle.store_state.specs.Refresh.{Change}
use Rattle.app_jobs.specs.Works.{JobWork}
use Rattle.app_jobs.specs.JobTexts.{IsTextInOrder, whole_list}
use Rattle.app_jobs.specs.Journals.{HoldsThen}
use Rattle.store_state.specs.Versions.{taken}
use Rattle.app_jobs.specs.JobOrders.{IsJobOrder, sent_of, unsent_count, unsent_of}
use Rattle.app_jobs.specs.Senders.{IsSentText, order_sent}

-- where nobody sends a refresh, all are unsent

minus_none : (n : ℕ) → n - 0 ≡ n
minus_none n = omega arith

all_unsent : (work : JobWork) → work.senders ≡ [] → unsent_of work ≡ work.list
all_unsent work none =
    let all : unsent_count work ≡ length work.list = ap (λ (ss : List SenderId). length work.list - length ss) none ∙ minus_none (length work.list) in
    ap (λ n. take n work.list) all ∙ take-length work.list

nothing_sent : (work : JobWork) → work.senders ≡ [] → sent_of work ≡ []
nothing_sent work none = ap (λ (ss : List SenderId). zip ss (drop (unsent_count work) work.list)) none

pub unsent_order : (work : JobWork) → work.senders ≡ [] → IsJobOrder work (from_nobody work.list)
unsent_order work none =
    record {
      sent = [];
      whole = ap from_nobody (sym (all_unsent work none)) ∙ sym (append-nil (from_nobody (unsent_of work)));
      first = ap (sent_by First) (sym (nothing_sent work none));
      second = ap (sent_by Second) (sym (nothing_sent work none));
    }

-- refreshes none of which is of either sender are none
none_sent : (sent : List (SenderId × Change)) → sent_by First sent ≡ [] → sent_by Second sent ≡ [] → sent ≡ []
none_sent [] first second = refl
none_sent ((First, change) ∷ sent) first second = absurd (cc)
none_sent ((Second, change) ∷ sent) first second = absurd (cc)

-- so a job of which none is sent has the order of its lines alone
one_order : (work : JobWork) (order : RefreshOrder) → work.senders ≡ [] → IsJobOrder work order → order ≡ from_nobody work.list
one_order work order none is =
    let nothing = nothing_sent work none in
    let empty : is.sent ≡ [] = none_sent is.sent (is.first ∙ ap (sent_by First) nothing) (is.second ∙ ap (sent_by Second) nothing) in
    is.whole ∙ ap (λ (sent : List (SenderId × Change)). from_nobody (unsent_of work) ++ numbered sent) empty
    ∙ append-nil (from_nobody (unsent_of work)) ∙ ap from_nobody (all_unsent work none)

pub unsent_text : (work : JobWork) (reads : Option (List ℕ)) (sessions : List JobSession) (job : JobAnswer) → work.senders ≡ []
    → IsOrderText work.base (from_nobody work.kept ++ from_nobody work.list) (length work.kept) work.before sessions job
    → HoldsThen work.journal (taken work.base (whole_list work (from_nobody work.list))) reads → IsTextInOrder work reads sessions job
unsent_text work reads sessions job none is holds = record { order = from_nobody work.list; allowed = unsent_order work none; text = is; stored = holds }

-- a job without a journal
pub plain_text : (work : JobWork) (reads : Option (List ℕ)) (sessions : List JobSession) (job : JobAnswer) → work.senders ≡ [] → work.journal ≡ None → work.kept ≡ []
    → IsJobText work.base work.list work.before sessions job → IsTextInOrder work reads sessions job
plain_text work reads sessions job none no_journal nothing is =
    unsent_text work reads sessions job none
    (subst (λ (kept : List Change). IsOrderText work.base (from_nobody kept ++ from_nobody work.list) (length kept) work.before sessions job) (sym nothing) is)
    (subst (λ (j : Option (List ℕ)). HoldsThen j (taken work.base (whole_list work (from_nobody work.list))) reads) (sym no_journal) tt)

pub text_unsent : (work : JobWork) (reads : Option (List ℕ)) (sessions : List JobSession) (job : JobAnswer) → work.senders ≡ [] → work.kept ≡ [] → IsTextInOrder work reads sessions job
    → IsJobText work.base work.list work.before sessions job
text_unsent work reads sessions job none nothing is =
    let own = subst (λ (kept : List Change). IsOrderText work.base (from_nobody kept ++ is.order) (length kept) work.before sessions job) nothing is.text in
    subst (λ (order : RefreshOrder). IsOrderText work.base order 0 work.before sessions job) (one_order work is.order none is.allowed) own

-- where some are sent, the others come first

pub before_sent : (work : JobWork) → work.before + length work.senders ≡ length work.list → unsent_count work ≡ work.before
before_sent work all = omega (arith, all)

pub sent_text : (work : JobWork) (reads : Option (List ℕ)) (firsts seconds : List Change) (sessions : List JobSession) (job : JobAnswer) → work.journal ≡ None → work.kept ≡ [] → work.before + length work.senders ≡ length work.list
    → firsts ≡ sent_by First (zip work.senders (drop work.before work.list)) → seconds ≡ sent_by Second (zip work.senders (drop work.before work.list))
    → IsSentText work.base (take work.before work.list) firsts seconds sessions job → IsTextInOrder work reads sessions job
sent_text work reads firsts seconds sessions job no_journal nothing all first second is =
    let count = before_sent work all in
    let sent : zip work.senders (drop work.before work.list) ≡ sent_of work = ap (λ n. zip work.senders (drop n work.list)) (sym count) in
    let short : length (take work.before work.list) ≡ work.before = length-take-le work.before work.list (omega (arith, all)) in
    record {
      order = order_sent (take work.before work.list) is.sent;
      allowed = record {
        sent = is.sent;
        whole = ap (λ n. from_nobody (take n work.list) ++ numbered is.sent) (sym count);
        first = is.first ∙ first ∙ ap (sent_by First) sent;
        second = is.second ∙ second ∙ ap (sent_by Second) sent;
      };
      text = subst (λ (kept : List Change). IsOrderText work.base (from_nobody kept ++ order_sent (take work.before work.list) is.sent) (length kept) work.before sessions job) (sym nothing)
          (subst (λ n. IsOrderText work.base (order_sent (take work.before work.list) is.sent) 0 n sessions job) short is.text);
      stored = subst (λ (j : Option (List ℕ)). HoldsThen j (taken work.base (whole_list work (order_sent (take work.before work.list) is.sent))) reads) (sym no_journal) tt;
    }
