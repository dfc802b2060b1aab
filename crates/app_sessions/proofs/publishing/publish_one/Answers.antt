use Rattle.std.proofs.Common.{◌≡◌, ◌∙◌, ◌+◌, ◌≤◌, ap, arith, subst, sym}
use Rattle.store_snapshots.specs.Publishers.{Edition}
use Rattle.store_snapshots.specs.Turns.{TakesTurn}
use Rattle.store_versions.specs.Trials.{version_of}
use Rattle.app_sessions.specs.Orders.{RefreshOrder}
use Rattle.app_sessions.specs.Reports.{PublishesRefresh}
use Rattle.app_sessions.specs.declared.report.Report.{Report}
use Rattle.app_sessions.proofs.JobSteps.{done_more, done_within, published_one, refused_one}
use Rattle.app_sessions.proofs.publishing.publish_one.Goals as goal

pub end_refresh-requires-clause-room : goal.end_refresh-requires-clause-room
end_refresh-requires-clause-room g c =
    let i = c.waiting.invariant in
    let old = c.waiting.publisher in
    let new = c.turn.new.publisher in
    let t = subst (TakesTurn (g.F.Feed.tried c.waiting.feed) (g.F.Feed.tried c.turn.new.self) (g.F.Feed.is_over c.turn.new.self) old new) c.in-Published.is c.in_ok-sender.ensures.turn in
    let more : new.version.done ≡ old.version.done + 1 = done_more t.0 old.version t.1 new.version t.3 t.4.after.0 in
    let room : c.waiting.report.count ≤ old.version.done =
    subst (λ (y : Edition × Report). y.1.count ≤ y.0.version.done) (λ j. (sym i.publisher j, sym i.report j)) c.requires.room in
    omega (arith, more, room)

pub end_refresh-requires-clause-within : goal.end_refresh-requires-clause-within
end_refresh-requires-clause-within g c =
    let old = c.waiting.publisher in
    let new = c.turn.new.publisher in
    let t = subst (TakesTurn (g.F.Feed.tried c.waiting.feed) (g.F.Feed.tried c.turn.new.self) (g.F.Feed.is_over c.turn.new.self) old new) c.in-Published.is c.in_ok-sender.ensures.turn in
    done_within t.0 old.version t.1 new.version t.3 t.4.after.0

pub end_refresh-requires-in-Refused-clause-room : goal.end_refresh-requires-in-Refused-clause-room
end_refresh-requires-in-Refused-clause-room g c =
    let i = c.waiting.invariant in
    let old = c.waiting.publisher in
    let new = c.turn.new.publisher in
    let t = subst (TakesTurn (g.F.Feed.tried c.waiting.feed) (g.F.Feed.tried c.turn.new.self) (g.F.Feed.is_over c.turn.new.self) old new) c.in-Refused.is c.in_ok-sender.ensures.turn in
    let more : new.version.done ≡ old.version.done + 1 = done_more t.0 old.version t.1 new.version t.3 t.4.after.0 in
    let room : c.waiting.report.count ≤ old.version.done =
    subst (λ (y : Edition × Report). y.1.count ≤ y.0.version.done) (λ j. (sym i.publisher j, sym i.report j)) c.requires.room in
    omega (arith, more, room)

pub end_refresh-requires-in-Refused-clause-within : goal.end_refresh-requires-in-Refused-clause-within
end_refresh-requires-in-Refused-clause-within g c =
    let old = c.waiting.publisher in
    let new = c.turn.new.publisher in
    let t = subst (TakesTurn (g.F.Feed.tried c.waiting.feed) (g.F.Feed.tried c.turn.new.self) (g.F.Feed.is_over c.turn.new.self) old new) c.in-Refused.is c.in_ok-sender.ensures.turn in
    done_within t.0 old.version t.1 new.version t.3 t.4.after.0

pub returns-in-Published-clause-one : goal.returns-in-Published-clause-one
returns-in-Published-clause-one g c =
    let i = c.waiting.invariant in
    let e = c.in_ok-end_refresh-in-Published.ensures in
    let tried = g.F.Feed.tried c.waiting.feed in
    let more = g.F.Feed.tried c.turn.new.self in
    let old = c.waiting.publisher in
    let middle = c.turn.new.publisher in
    let new = c.end_refresh.new.publisher in
    let after = c.end_refresh.new.report in
    let t = subst (TakesTurn tried more (g.F.Feed.is_over c.turn.new.self) old middle) c.in-Published.is c.in_ok-sender.ensures.turn in
    let one = published_one tried more old middle new c.waiting.report after c.in-Published.sender t.0 t.1 c.version.result
    (record { version = e.version; shown = e.shown; count = e.count; text = e.text }) e.accepted t.2 t.3 t.4.after t.4.shown (c.version.ensures ∙ ap version_of t.4.tells) in
    subst (λ (y : RefreshOrder × Edition × Report). PublishesRefresh y.0 more y.1 new y.2 after) (λ j. (i.tried j, i.publisher j, i.report j)) one

pub returns-in-Refused-clause-one : goal.returns-in-Refused-clause-one
returns-in-Refused-clause-one g c =
    let i = c.waiting.invariant in
    let e = c.in_ok-end_refresh-in-Refused.ensures in
    let tried = g.F.Feed.tried c.waiting.feed in
    let more = g.F.Feed.tried c.turn.new.self in
    let old = c.waiting.publisher in
    let middle = c.turn.new.publisher in
    let new = c.end_refresh-in-Refused.new.publisher in
    let after = c.end_refresh-in-Refused.new.report in
    let t = subst (TakesTurn tried more (g.F.Feed.is_over c.turn.new.self) old middle) c.in-Refused.is c.in_ok-sender.ensures.turn in
    let one = refused_one tried more old middle new c.waiting.report after c.in-Refused.sender t.0 t.1 c.in-Refused.cause
    (record { version = e.version; shown = e.shown; count = e.count; text = e.text }) e.accepted t.2 t.3 t.4.after t.4.shown in
    subst (λ (y : RefreshOrder × Edition × Report). PublishesRefresh y.0 more y.1 new y.2 after) (λ j. (i.tried j, i.publisher j, i.report j)) one

pub returns-in-Ended-clause-one : goal.returns-in-Ended-clause-one
returns-in-Ended-clause-one g c =
    let i = c.waiting.invariant in
    let t = subst (TakesTurn (g.F.Feed.tried c.waiting.feed) (g.F.Feed.tried c.turn.new.self) (g.F.Feed.is_over c.turn.new.self) c.waiting.publisher c.turn.new.publisher) c.in-Ended.is c.in_ok-sender.ensures.turn in
    (t.0 ∙ i.tried, t.1 ∙ i.publisher, i.report, t.2, t.3)
