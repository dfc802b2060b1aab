use Rattle.std.proofs.Common.{◌≡◌, ◌∙◌, ℕ, ◌+◌, List, drop, take, length, ap, arith, refl, rules, subst, sym}
use Rattle.std.specs.List.{zip}
use Rattle.std.specs.Prelude.{option_map}
use Rattle.std.specs.String.{string_bytes}
use Rattle.std.proofs.lemmas.List.{length-take-le}
use Rattle.std.proofs.lemmas.Result.{IfOk-weaker}
use Rattle.app_sessions.specs.Asked.{job_sessions}
use Rattle.store_gateway.specs.Roles.{Sending, Taking, sent_by}
use Rattle.store_gateway.specs.declared.message.SenderId.{SenderId}
use Rattle.store_gateway.specs.declared.message.SenderId.TheVariants.{First, Second}
use Rattle.store_state.specs.Refresh.{Change}
use Rattle.app_jobs.specs.JobTexts.{IsTextInOrder}
use Rattle.app_jobs.specs.Sources.{work_view}
use Rattle.app_jobs.specs.Senders.{IsSentText}
use Rattle.app_jobs.proofs.Orders.{sent_text}
use Rattle.app_jobs.proofs.Taken.{given_counted, sender_stored}
use Rattle.app_jobs.proofs.senders.run_with_senders.Goals as goal

pub run_joined-requires-clause-senders : goal.run_joined-requires-clause-senders
run_joined-requires-clause-senders g c κs within =
    let s = c.args.sources in
    let stored = λ (id : SenderId) (mine : List Change) (is : mine ≡ sent_by id (zip c.as_slice.result.now c.in_ok-sent.sent.items)).
    sender_stored id c.as_slice.result.now s.list.items c.in_ok-sent.sent.items mine s.before c.requires.keepable c.in_ok-sent.ensures.tail is in
    record {
      first = record {
        fresh = ap (λ (x : Sending). x.sent) c.in_ok-first.ensures.first;
        quota = search rules;
        storable = stored First c.in_ok-firsts.firsts.items c.in_ok-firsts.ensures.first;
      };
      second = record {
        fresh = ap (λ (x : Sending). x.sent) c.in_ok-first.ensures.second;
        quota = search rules;
        storable = stored Second c.in_ok-firsts.seconds.items c.in_ok-firsts.ensures.second;
      };
    }

pub run_joined-requires-clause-receiver : goal.run_joined-requires-clause-receiver
run_joined-requires-clause-receiver g c κs within =
    let s = c.args.sources in
    let runnable = c.requires.runnable in
    let all : s.before + length s.senders.items ≡ length s.list.items = runnable.all c.requires.sent in
    let first : length c.split_off.new.self.items ≡ s.before = ap length c.in_ok-sent.ensures.items ∙ length-take-le s.before s.list.items (omega (arith, all)) in
    let rest : length c.in_ok-sent.sent.items ≡ length c.as_slice.result.now = search rules in
    let slice : c.as_slice.result.now ≡ s.senders.items = search rules in
    let counted : length c.in_ok-firsts.firsts.items + length c.in_ok-firsts.seconds.items ≡ length c.as_slice.result.now =
    given_counted c.as_slice.result.now c.in_ok-sent.sent.items c.in_ok-firsts.firsts.items c.in_ok-firsts.seconds.items rest c.in_ok-firsts.ensures.first c.in_ok-firsts.ensures.second in
    let q : c.in_ok-first.taker.quotas.0 ≡ length c.in_ok-firsts.firsts.items = search rules in
    let r : c.in_ok-first.taker.quotas.1 ≡ length c.in_ok-firsts.seconds.items = search rules in
    let most : c.len-most.result ≡ length s.list.items = search rules in
    record {
      right = c.requires.right;
      some = runnable.some;
      few = runnable.few;
      unasked = runnable.unasked;
      taker = record {
        fresh = ap (λ (t : Taking). t.taken) c.in_ok-first.ensures.taker;
        room = let sl : length c.as_slice.result.now ≡ length s.senders.items = ap length slice in omega (arith, all, first, counted, q, r, most, sl);
      };
    }

pub run_joined-requires-clause-both : goal.run_joined-requires-clause-both
run_joined-requires-clause-both g c κs within =
    let s = c.args.sources in
    let all : s.before + length s.senders.items ≡ length s.list.items = c.requires.runnable.all c.requires.sent in
    let first : length c.split_off.new.self.items ≡ s.before = ap length c.in_ok-sent.ensures.items ∙ length-take-le s.before s.list.items (omega (arith, all)) in
    let rest : length c.in_ok-sent.sent.items ≡ length c.as_slice.result.now = search rules in
    let slice : c.as_slice.result.now ≡ s.senders.items = search rules in
    let counted : length c.in_ok-firsts.firsts.items + length c.in_ok-firsts.seconds.items ≡ length c.as_slice.result.now =
    given_counted c.as_slice.result.now c.in_ok-sent.sent.items c.in_ok-firsts.firsts.items c.in_ok-firsts.seconds.items rest c.in_ok-firsts.ensures.first c.in_ok-firsts.ensures.second in
    let most : c.len-most.result ≡ length s.list.items = search rules in
    record {
      gateways = (ap (λ (x : Sending). x.gateway) c.in_ok-first.ensures.first, ap (λ (x : Sending). x.gateway) c.in_ok-first.ensures.second);
      ids = (ap (λ (x : Sending). x.id) c.in_ok-first.ensures.first, ap (λ (x : Sending). x.id) c.in_ok-first.ensures.second);
      most = let sl : length c.as_slice.result.now ≡ length s.senders.items = ap length slice in omega (arith, all, first, counted, most, sl);
    }

pub returns : goal.returns
returns g c reads =
    let s = c.args.sources in
    let all : s.before + length s.senders.items ≡ length s.list.items = c.requires.runnable.all c.requires.sent in
    let slice : c.as_slice.result.now ≡ s.senders.items = search rules in
    let given = λ (id : SenderId). ap (λ (ss : List SenderId). sent_by id (zip ss c.in_ok-sent.sent.items)) slice ∙ ap (λ (l : List Change). sent_by id (zip s.senders.items l)) c.in_ok-sent.ensures.tail in
    IfOk-weaker c.run_joined.result _ _ (λ job is. sent_text (work_view s) reads c.in_ok-firsts.firsts.items c.in_ok-firsts.seconds.items (job_sessions s.sessions.items) job (ap (λ j. option_map string_bytes j) c.requires.plain) refl all
    (c.in_ok-firsts.ensures.first ∙ given First) (c.in_ok-firsts.ensures.second ∙ given Second)
    (subst (λ (l : List Change). IsSentText s.base l c.in_ok-firsts.firsts.items c.in_ok-firsts.seconds.items (job_sessions s.sessions.items) job) c.in_ok-sent.ensures.items is)) c.run_joined.ensures
