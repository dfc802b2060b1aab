use Rattle.std.proofs.Common.{ap, sym, ◌∙◌}
use Rattle.store_gateway.specs.Roles.{sent_by}
use Rattle.store_gateway.specs.declared.message.SenderId.TheVariants.{First, Second}
use Rattle.store_gateway.proofs.Numbers.{all_from_either, one_gateway, sent_from-numbered}
use Rattle.store_gateway.proofs.gateway_feed.GatewayFeed.close.Goals as goal

pub close-requires-clause-gateway : goal.close-requires-clause-gateway
close-requires-clause-gateway g c = (one_gateway _ _ c.requires.first, one_gateway _ _ c.requires.second)

pub returns-clause-first : goal.returns-clause-first
returns-clause-first g c = sent_from-numbered First c.args.self.taker.taken ∙ ap (λ es. sent_by First es) (sym c.close.ensures.taken) ∙ c.close.ensures.first

pub returns-clause-second : goal.returns-clause-second
returns-clause-second g c = sent_from-numbered Second c.args.self.taker.taken ∙ ap (λ es. sent_by Second es) (sym c.close.ensures.taken) ∙ c.close.ensures.second

pub returns-clause-others : goal.returns-clause-others
returns-clause-others g c = all_from_either c.args.self.taker.taken
