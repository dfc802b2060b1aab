-- What is played beside two senders over a journal, once all is tried.
use Rattle.std.proofs.Common.{◌≡◌, ◌∙◌, ◌+◌, ℕ, List, ◌++◌, Option, None, Some, ap, append_assoc, arith, drop, length, map, refl, subst, sym, take}
use Rattle.std.specs.List.{zip}
use Rattle.std.proofs.Math.Seq.{take-length}
use Rattle.std.proofs.lemmas.List.{length-drop, map-append, take-append-drop, take_all}
use Rattle.store_durability.specs.Gateway.{IsAtTurn, both_named}
use Rattle.store_durability.proofs.GatewayTurns.{list_over}
use Rattle.store_gateway.specs.Feeds.{gateway_name, gateway_tried, numbered}
use Rattle.store_gateway.specs.Roles.{Taking, sent_by}
use Rattle.store_gateway.specs.declared.message.SenderId.{SenderId}
use Rattle.store_gateway.specs.declared.message.SenderId.TheVariants.{First, Second}
use Rattle.store_journal.specs.Format.{StandsFor}
use Rattle.store_refresh_entries.specs.Change.{IsSpelled, spelling_of}
use Rattle.store_snapshots.specs.Turns.{from_nobody, list_tried}
use Rattle.store_state.specs.Prefixes.{IsPrefix}
use Rattle.store_state.specs.Refresh.{Change}
use Rattle.store_state.specs.Versions.{taken}
use Rattle.store_state.proofs.Prefixes.{take-prefix}
use Rattle.store_versions.specs.Trials.{Trials}
use Rattle.app_sessions.specs.Jobs.{IsOrderText, JobAnswer, JobSession}
use Rattle.app_sessions.specs.Orders.{RefreshOrder, changes_of, version_at_end, whole_order}
use Rattle.app_sessions.proofs.JobEnds.{changes-from_nobody}
use Rattle.app_jobs.specs.Works.{JobWork, kept_under}
use Rattle.app_jobs.specs.JobTexts.{IsTextInOrder}
use Rattle.app_jobs.specs.Journals.{HoldsThen}
use Rattle.app_jobs.specs.OpenedSent.{HoldsSent}
use Rattle.app_jobs.specs.Senders.{order_sent}
use Rattle.app_jobs.proofs.KeptWhole.{told_image}
use Rattle.app_jobs.proofs.Orders.{before_sent}

-- two beginnings of a list that are as long as each other
same_prefix : (first second whole : List Change) → IsPrefix first whole → IsPrefix second whole → length first ≡ length second → first ≡ second
same_prefix first second whole one two same =
    let a : take (length first) whole ≡ first = take-prefix first whole (length first) one (omega arith) ∙ take-length first in
    let b : take (length second) whole ≡ second = take-prefix second whole (length second) two (omega arith) ∙ take-length second in
    sym a ∙ ap (λ (n : ℕ). take n whole) same ∙ b

-- feeds of one name
pub named_done : (start version : Trials) (taker old : Taking) → both_named start taker ≡ both_named version old → start.done ≡ version.done
named_done start version taker old e = cc

pub named_long : (start version : Trials) (taker old : Taking) → both_named start taker ≡ both_named version old → length start.list ≡ length version.list
named_long start version taker old e = cc

pub named_gateway : (start version : Trials) (taker old : Taking) → both_named start taker ≡ both_named version old → gateway_name taker.gateway ≡ gateway_name old.gateway
named_gateway start version taker old e = cc

-- all that was tried is a version's list, and then what was taken
pub order_both : (version start : Trials) (count : ℕ) (taker old : Taking) → both_named start taker ≡ both_named version old
    → IsPrefix version.list (changes_of (whole_order version (list_tried start count ++ gateway_tried taker)))
    → IsAtTurn start count taker (version_at_end version (list_tried start count ++ gateway_tried taker))
    → whole_order version (list_tried start count ++ gateway_tried taker) ≡ order_sent version.list taker.taken
order_both version start count taker old names begins turn =
    let order = list_tried start count ++ gateway_tried taker in
    let over = list_over start count taker (version_at_end version order) refl turn in
    let list : start.list ≡ version.list = same_prefix start.list version.list (changes_of (whole_order version order)) over.1 begins (named_long start version taker old names) in
    let done : start.done ≡ version.done = named_done start version taker old names in
    let rest = drop start.done start.list in
    let size = length-drop start.done start.list in
    let whole = over.0 in
    let all : list_tried start count ≡ from_nobody rest = ap from_nobody (take_all count rest (omega (arith, size, whole))) in
    let mine : list_tried start count ≡ from_nobody (drop version.done version.list) = all ∙ (λ i. from_nobody (drop (done i) (list i))) in
    let front = from_nobody (take version.done version.list) in
    let both : front ++ from_nobody (drop version.done version.list) ≡ from_nobody version.list =
    sym (map-append (λ change. (None, change)) (take version.done version.list) (drop version.done version.list))
    ∙ ap from_nobody (take-append-drop version.done version.list) in
    ap (λ (o : RefreshOrder). front ++ (o ++ gateway_tried taker)) mine
    ∙ sym (append_assoc front (from_nobody (drop version.done version.list)) (gateway_tried taker))
    ∙ ap (λ (o : RefreshOrder). o ++ gateway_tried taker) both

-- the order behind what is kept

order_parts : (kept front : List Change) (sent : List (SenderId × Change)) → order_sent (kept ++ front) sent ≡ from_nobody kept ++ order_sent front sent
order_parts kept front sent =
    ap (λ (o : RefreshOrder). o ++ numbered sent) (map-append (λ change. (None, change)) kept front)
    ∙ append_assoc (from_nobody kept) (from_nobody front) (numbered sent)

changes_parts : (kept front : List Change) (sent : List (SenderId × Change)) → changes_of (order_sent (kept ++ front) sent) ≡ kept ++ changes_of (order_sent front sent)
changes_parts kept front sent =
    ap changes_of (order_parts kept front sent)
    ∙ map-append (λ e. e.1) (from_nobody kept) (order_sent front sent)
    ∙ ap (λ (l : List Change). l ++ changes_of (order_sent front sent)) (changes-from_nobody kept)

-- the text of a job of which two senders send
pub kept_sent_text : (work : JobWork) (name : List ℕ) (kept : List Change) (reads : Option (List ℕ)) (may_leave : List ℕ → Type 0) (firsts seconds : List Change) (sessions : List JobSession) (job : JobAnswer)
    (sent : List (SenderId × Change)) → work.before + length work.senders ≡ length work.list
    → firsts ≡ sent_by First (zip work.senders (drop work.before work.list)) → seconds ≡ sent_by Second (zip work.senders (drop work.before work.list))
    → sent_by First sent ≡ firsts → sent_by Second sent ≡ seconds → ((f : List ℕ) → reads ≡ Some f → may_leave f)
    → IsOrderText work.base (order_sent (kept ++ take work.before work.list) sent) (length kept) work.before sessions job
    → HoldsSent may_leave work.base (kept ++ take work.before work.list) sent
    → IsTextInOrder (kept_under work name kept) reads sessions job
kept_sent_text work name kept reads may_leave firsts seconds sessions job sent all first second mine yours image text holds =
    let count = before_sent work all in
    let front = take work.before work.list in
    let given = ap (λ (n : ℕ). zip work.senders (drop n work.list)) (sym count) in
    record {
      order = order_sent front sent;
      allowed = record {
        sent = sent;
        whole = ap (λ (n : ℕ). from_nobody (take n work.list) ++ numbered sent) (sym count);
        first = mine ∙ first ∙ ap (sent_by First) given;
        second = yours ∙ second ∙ ap (sent_by Second) given;
      };
      text = subst (λ (o : RefreshOrder). IsOrderText work.base o (length kept) work.before sessions job) (order_parts kept front sent) text;
      stored = subst (λ (l : List Change). HoldsThen (Some name) (taken work.base l) reads) (changes_parts kept front sent)
          (told_image reads may_leave (λ c. StandsFor IsSpelled c (map spelling_of (taken work.base (changes_of (order_sent (kept ++ front) sent))))) image holds);
    }
