use Rattle.std.proofs.Common.{rules, ◌≡◌, ◌∙◌, ◌+◌, ◌++◌, ◌<◌, ◌≤◌, ◌^◌, ℕ, List, Ok, ap, arith, drop, length, length-append, refl, subst, sym, take, vec_len}
use Rattle.std.specs.List.{zip}
use Rattle.std.proofs.lemmas.List.{length-take-le}
use Rattle.std.proofs.lemmas.Result.{IfOk-weaker}
use Rattle.store_gateway.specs.Roles.{Sending, Taking, sent_by}
use Rattle.store_gateway.specs.declared.message.SenderId.{SenderId}
use Rattle.store_gateway.specs.declared.message.SenderId.TheVariants.{First, Second}
use Rattle.store_refresh_entries.specs.Change.{MayBeStored}
use Rattle.store_state.specs.Refresh.{Change}
use Rattle.store_versions.specs.Trials.{Trials}
use Rattle.store_snapshots.specs.declared.ruled.RuledEntry.{RuledEntry}
use Rattle.app_jobs.specs.Sources.{work_view}
use Rattle.app_jobs.specs.Opened.{OpensJob}
use Rattle.app_jobs.specs.declared.kept_senders.SentJob.{SentJob}
use Rattle.app_jobs.proofs.KeptJoined.{can_receive, plays_sent}
use Rattle.app_jobs.proofs.Taken.{front_of, given_counted, sender_stored}
use Rattle.app_jobs.proofs.kept_senders.run_kept_sent.Goals as goal

pub play_sent_over-requires-clause-playable : goal.play_sent_over-requires-clause-playable
play_sent_over-requires-clause-playable g c κs within =
    let s = c.args.sources in
    let kept = c.args.kept.items in
    let front = take s.before s.list.items in
    let job : SentJob g.row.A.Denot (RuledEntry g.row.A.Denot) _ _ = record {
      opened = c.in-Ok.opened;
      senders = record { first = c.in_ok-first.first; second = c.in_ok-first.second; firsts = c.in_ok-firsts.firsts; seconds = c.in_ok-firsts.seconds };
      taker = c.in_ok-first.taker;
      most = c.len-count.result + c.len.result;
    } in
    let all : s.before + length s.senders.items ≡ length s.list.items = c.requires.runnable.all c.requires.sent in
    let begins : c.split_off.new.self.items ≡ front = c.in_ok-sent.ensures.items in
    let count : c.len-count.result ≡ length kept = search rules in
    let list : c.append.new.self.items ≡ kept ++ front = c.in_ok-append.ensures.items ∙ ap (λ (l : List Change). kept ++ l) begins in
    let slice : c.as_slice.result.now ≡ s.senders.items = search rules in
    let told = rw c.in-Ok.is at c.in_ok-opened.ensures in
    let opens = subst (λ (y : ℕ × List Change). OpensJob y.0 (c.len-count.result + c.len.result) c.args.journal y.1 s.sessions.items s.base s.before (Ok c.in-Ok.opened)) (λ i. (count i, list i)) told in
    let stored = λ (id : SenderId) (mine : List Change) (is : mine ≡ sent_by id (zip c.as_slice.result.now c.in_ok-sent.sent.items)).
    sender_stored id c.as_slice.result.now s.list.items c.in_ok-sent.sent.items mine s.before c.requires.keepable c.in_ok-sent.ensures.tail is in
    let first : length front ≡ s.before = length-take-le s.before s.list.items (omega (arith, all)) in
    let rest : length c.in_ok-sent.sent.items ≡ length c.as_slice.result.now = search rules in
    let counted : length c.in_ok-firsts.firsts.items + length c.in_ok-firsts.seconds.items ≡ length c.as_slice.result.now =
    given_counted c.as_slice.result.now c.in_ok-sent.sent.items c.in_ok-firsts.firsts.items c.in_ok-firsts.seconds.items rest c.in_ok-firsts.ensures.first c.in_ok-firsts.ensures.second in
    let sl : length c.as_slice.result.now ≡ length s.senders.items = ap length slice in
    let q0 : c.in_ok-first.taker.quotas.0 ≡ length c.in_ok-firsts.firsts.items = search rules in
    let q1 : c.in_ok-first.taker.quotas.1 ≡ length c.in_ok-firsts.seconds.items = search rules in
    let many : c.len.result ≡ length s.list.items = search rules in
    let sum = length-append kept front in
    let r = c.requires.runnable in
    let ok = c.in-Ok.opened.sessions.ok.0 in
    let same = ap length opens.0 in
    let least = r.some in
    let limit = r.few in
    let room = r.refreshes in
    let some : 0 < vec_len c.in-Ok.opened.sessions = omega (arith, ok, same, least) in
    let few : vec_len c.in-Ok.opened.sessions < 2 ^ 32 = omega (arith, ok, same, limit) in
    let long : length c.in-Ok.opened.publisher.version.list ≡ length (kept ++ front) = ap (λ (t : Trials). length t.list) opens.4 in
    record {
      receives = can_receive g.D.Disk.is_reached g.D.Disk.may_leave c.args.disk.now c.args.journal kept front (c.len-count.result + c.len.result) (length s.senders.items) s.sessions.items s.base s.before job
          opens some few r.unasked first (omega (arith, sum, first, all, count, many)) refl (omega (arith, first, all, room)) c.requires.reached c.requires.working c.requires.short c.requires.stands
          (ap (λ (t : Taking). t.taken) c.in_ok-first.ensures.taker) (omega (arith, q0, q1, counted, sl)) (front_of MayBeStored s.before s.list.items c.requires.keepable);
      senders = record {
        first = record {
          fresh = ap (λ (x : Sending). x.sent) c.in_ok-first.ensures.first;
          quota = search rules;
          storable = stored First c.in_ok-firsts.firsts.items c.in_ok-firsts.ensures.first;
        };
        second = record {
          fresh = ap (λ (x : Sending). x.sent) c.in_ok-first.ensures.second;
          quota = search rules;
          storable = stored Second c.in_ok-firsts.seconds.items c.in_ok-firsts.ensures.second;
        };
      };
      gateways = (ap (λ (x : Sending). x.gateway) c.in_ok-first.ensures.first, ap (λ (x : Sending). x.gateway) c.in_ok-first.ensures.second);
      ids = (ap (λ (x : Sending). x.id) c.in_ok-first.ensures.first, ap (λ (x : Sending). x.id) c.in_ok-first.ensures.second);
      whole = omega (arith, long, sum, first, counted, sl, all, count, many);
    }

pub returns-in-Ok-clause-played : goal.returns-in-Ok-clause-played
returns-in-Ok-clause-played g c =
    let s = c.args.sources in
    let kept = c.args.kept.items in
    let front = take s.before s.list.items in
    let job : SentJob g.row.A.Denot (RuledEntry g.row.A.Denot) _ _ = record {
      opened = c.in-Ok.opened;
      senders = record { first = c.in_ok-first.first; second = c.in_ok-first.second; firsts = c.in_ok-firsts.firsts; seconds = c.in_ok-firsts.seconds };
      taker = c.in_ok-first.taker;
      most = c.len-count.result + c.len.result;
    } in
    let all : s.before + length s.senders.items ≡ length s.list.items = c.requires.runnable.all c.requires.sent in
    let begins : c.split_off.new.self.items ≡ front = c.in_ok-sent.ensures.items in
    let count : c.len-count.result ≡ length kept = search rules in
    let list : c.append.new.self.items ≡ kept ++ front = c.in_ok-append.ensures.items ∙ ap (λ (l : List Change). kept ++ l) begins in
    let slice : c.as_slice.result.now ≡ s.senders.items = search rules in
    let told = rw c.in-Ok.is at c.in_ok-opened.ensures in
    let opens = subst (λ (y : ℕ × List Change). OpensJob y.0 (c.len-count.result + c.len.result) c.args.journal y.1 s.sessions.items s.base s.before (Ok c.in-Ok.opened)) (λ i. (count i, list i)) told in
    let given = λ (id : SenderId). ap (λ (ss : List SenderId). sent_by id (zip ss c.in_ok-sent.sent.items)) slice ∙ ap (λ (l : List Change). sent_by id (zip s.senders.items l)) c.in_ok-sent.ensures.tail in
    let disk = c.play_sent_over.new.disk in
    -- a law of the disk, as it holds in this thread
    let image = (g.met.D.Disk g.world.𝓛 g.world.𝓜 g.world.𝓡 ((λ s x. x), (λ x. x), (λ x. x), λ x. x)).reads_image disk in
    IfOk-weaker c.play_sent_over.result _ _
    (λ result plays. plays_sent g.D.Disk.may_leave (g.D.Disk.reads disk) disk c.args.journal kept (c.len-count.result + c.len.result) (work_view s) s.sessions.items job result all opens
    (c.in_ok-firsts.ensures.first ∙ given First) (c.in_ok-firsts.ensures.second ∙ given Second) image plays)
    c.play_sent_over.ensures.played
