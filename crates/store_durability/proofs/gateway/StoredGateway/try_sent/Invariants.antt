use Rattle.std.proofs.Common.{◌≡◌}
use Rattle.store_durability.proofs.gateway.StoredGateway.try_sent.Given as goal

abbrev pub invariant-taking : goal.invariant-taking
invariant-taking g l = record {
  publisher : l.publisher ≡ l.fn.publisher;
  journal : l.self.journal ≡ l.fn.self.journal;
  disk : l.self.disk ≡ l.fn.self.disk;
  start : l.self.start ≡ l.fn.self.start;
  count : l.self.count ≡ l.fn.self.count;
  gateway : l.self.taker.gateway ≡ l.fn.self.taker.gateway;
  taken : l.self.taker.taken ≡ l.fn.self.taker.taken;
  quotas : l.self.taker.quotas ≡ l.fn.self.taker.quotas;
}
