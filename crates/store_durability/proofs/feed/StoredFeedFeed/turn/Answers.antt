use Rattle.std.proofs.Common.{◌+◌, ℕ, None, subst, sym}
use Rattle.store_snapshots.specs.Turns.{IsAllTried, TakesTurn, list_tried}
use Rattle.store_snapshots.specs.declared.feed.FeedTurn.TheVariants as turn
use Rattle.store_versions.specs.Trials.{Trials}
use Rattle.store_durability.proofs.ListTurns.{TakesRefused, list_published, list_refused}
use Rattle.store_durability.proofs.feed.StoredFeedFeed.turn.Goals as goal

pub returns-in-Published-clause-turn : goal.returns-in-Published-clause-turn
returns-in-Published-clause-turn g c =
    let start = c.args.self.now.start in
    let count = c.args.self.now.count in
    let old = c.args.publisher.now in
    let new = c.try_next.new.publisher in
    let note = c.in-Published.note in
    let takes = rw c.in-Published.is at c.in_ok-note.ensures.turn in
    let same = c.in_ok-note.ensures.count in
    subst (λ (y : Trials × ℕ). TakesTurn (list_tried start count) (list_tried y.0 (y.1 + 1)) IsAllTried old new (turn.Published None note)) (λ i. (sym same.1 i, sym same.0 i))
    (list_published start count old new note c.requires.1 takes.0 takes.1)

pub returns-in-Refused-clause-turn : goal.returns-in-Refused-clause-turn
returns-in-Refused-clause-turn g c =
    let start = c.args.self.now.start in
    let count = c.args.self.now.count in
    let old = c.args.publisher.now in
    let new = c.try_next.new.publisher in
    let cause = c.in-Refused.cause in
    let takes = rw c.in-Refused.is at c.in_ok-note.ensures.turn in
    let same = c.in_ok-note.ensures.count in
    subst (λ (y : Trials × ℕ). TakesRefused (list_tried start count) (list_tried y.0 (y.1 + 1)) cause old new) (λ i. (sym same.1 i, sym same.0 i))
    (list_refused start count old new cause c.requires.1 takes.0 takes.1)
