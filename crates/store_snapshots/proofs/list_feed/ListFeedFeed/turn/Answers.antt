use Rattle.store_snapshots.proofs.FeedLaws.{turn_published, turn_refused}
use Rattle.store_snapshots.proofs.list_feed.ListFeedFeed.turn.Goals as goal

pub returns-in-Published-clause-turn : goal.returns-in-Published-clause-turn
returns-in-Published-clause-turn g c =
    let f = c.args.self.now in
    let t = c.in-Published.ensures in
    turn_published f.start f.count c.args.publisher.now c.publish_next.new.self c.in-Published.note c.requires t.tries t.shown

pub returns-in-Refused-clause-turn : goal.returns-in-Refused-clause-turn
returns-in-Refused-clause-turn g c =
    let f = c.args.self.now in
    let t = c.in-Refused.ensures in
    turn_refused g.row.A.Denot g.A.Attachment f.start f.count c.args.publisher.now c.publish_next.new.self c.in-Refused.cause c.requires t.tries t.shown
