use Rattle.std.proofs.Common.{◌≡◌}
use Rattle.store_gateway.proofs.gateway_feed.GatewayFeedFeed.turn.Given as goal

abbrev pub invariant-taking : goal.invariant-taking
invariant-taking g l = record {
  publisher : l.publisher ≡ l.fn.publisher;
  gateway : l.self.taker.gateway ≡ l.fn.self.taker.gateway;
  taken : l.self.taker.taken ≡ l.fn.self.taker.taken;
  quotas : l.self.taker.quotas ≡ l.fn.self.taker.quotas;
}
