use Rattle.std.proofs.Common.{◌≡◌, ◌∙◌, ◌+◌, ◌++◌, ℕ, Some, arith, refl, subst, sym}
use Rattle.store_gateway.specs.Feeds.{GatewayIsOver, gateway_tried}
use Rattle.store_gateway.specs.Roles.{Taking}
use Rattle.store_snapshots.specs.Turns.{TakesTurn, list_tried}
use Rattle.store_versions.specs.Trials.{Trials}
use Rattle.store_durability.specs.Gateway.{BothFit}
use Rattle.store_durability.proofs.Feeding.{all_tried}
use Rattle.store_durability.proofs.GatewayTurns.{left_counted, left_fits, left_listed, left_storable, left_takes}
use Rattle.store_durability.proofs.gateway.StoredGatewayFeed.turn.Goals as goal

pub try_this-requires-clause-storable : goal.try_this-requires-clause-storable
try_this-requires-clause-storable g c =
    let s = c.args.self.now in
    let at = sym c.in_ok-refresh.ensures ∙ c.in-Some.is in
    left_storable g.D.Disk.is_reached g.D.Disk.may_leave s.journal s.disk s.start s.count s.taker c.args.publisher.now.version c.requires c.in-Some.refresh at

pub try_this-requires-clause-list_room : goal.try_this-requires-clause-list_room
try_this-requires-clause-list_room g c =
    let s = c.args.self.now in
    let at = sym c.in_ok-refresh.ensures ∙ c.in-Some.is in
    left_listed g.D.Disk.is_reached g.D.Disk.may_leave s.journal s.disk s.start s.count s.taker c.args.publisher.now.version c.requires c.in-Some.refresh at

pub overflow_add-self : goal.overflow_add-self
overflow_add-self g c =
    let s = c.args.self.now in
    let at = sym c.in_ok-refresh.ensures ∙ c.in-Some.is in
    let few = left_counted g.D.Disk.is_reached g.D.Disk.may_leave s.journal s.disk s.start s.count s.taker c.args.publisher.now.version c.requires c.in-Some.refresh at in
    let same : c.try_this.new.self.count ≡ s.count = c.try_this.ensures.count.0 in
    let listed = c.listed-listed.ensures.listed in
    omega (arith, few, same, listed, c.listed-listed.type_inv)

pub try_sent-requires-clause-none : goal.try_sent-requires-clause-none
try_sent-requires-clause-none g c = all_tried c.args.publisher.now.version c.requires.keeps.within (sym c.in_ok-refresh.ensures ∙ c.in-None.is)

pub returns-in_ok-turn-in-Some-clause-turn : goal.returns-in_ok-turn-in-Some-clause-turn
returns-in_ok-turn-in-Some-clause-turn g c =
    let s = c.args.self.now in
    let old = c.args.publisher.now in
    let new = c.try_this.new.publisher in
    let later = c.try_this.new.self.taker in
    let e = c.in_ok-turn-in-Some.ensures in
    let at = sym c.in_ok-refresh.ensures ∙ c.in-Some.is in
    subst (λ (y : Trials × ℕ × Taking). TakesTurn (list_tried s.start s.count ++ gateway_tried s.taker) (list_tried y.0 (y.1 + 1) ++ gateway_tried y.2) (GatewayIsOver later) old new c.in_ok-turn-in-Some.turn)
    (λ i. (sym e.count.1 i, sym e.count.0 i, sym e.taker i))
    (left_takes g.D.Disk.is_reached g.D.Disk.may_leave s.journal s.disk s.start s.count s.taker old.version c.requires c.in-Some.refresh at (GatewayIsOver later) old new refl c.in_ok-turn-in-Some.turn e.turn)

pub returns-in_ok-turn-in-Some-clause-fits : goal.returns-in_ok-turn-in-Some-clause-fits
returns-in_ok-turn-in-Some-clause-fits g c =
    let s = c.args.self.now in
    let version = c.args.publisher.now.version in
    let new = c.try_this.new.publisher.version in
    let now = c.try_this.new.self in
    let e = c.in_ok-turn-in-Some.ensures in
    let at = sym c.in_ok-refresh.ensures ∙ c.in-Some.is in
    subst (λ (y : Trials × ℕ × Taking). BothFit g.D.Disk.is_reached g.D.Disk.may_leave now.journal now.disk y.0 (y.1 + 1) y.2 new)
    (λ i. (sym e.count.1 i, sym e.count.0 i, sym e.taker i))
    (left_fits g.D.Disk.is_reached g.D.Disk.may_leave s.journal s.disk s.start s.count s.taker version c.requires c.in-Some.refresh at now.journal now.disk new e.version e.keeps)
