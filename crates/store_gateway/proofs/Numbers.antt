-- The refreshes that a gateway's feed tried, by the numbers of their senders.
use Rattle.std.proofs.Common.{◌≡◌, ℕ, List, [], ◌∷◌, drop, get_or, ap, refl, inl, inr}
use Rattle.std.specs.List.{All, AllByRecursion}
use Rattle.std.proofs.lemmas.List.Elements.{All-from_recursion}
use Rattle.atomic_table.specs.Seated.{TableId}
use Rattle.store_state.specs.Refresh.{Change}
use Rattle.store_gateway.specs.Feeds.{IsFromEither, gateway_name, numbered, sender_number, sent_from}
use Rattle.store_gateway.specs.Roles.{sent_by}
use Rattle.store_gateway.specs.declared.message.SenderId.{SenderId}
use Rattle.store_gateway.specs.declared.message.SenderId.TheVariants.{First, Second}

pub sent_from-numbered : (id : SenderId) (es : List (SenderId × Change)) → sent_from (sender_number id) (numbered es) ≡ sent_by id es
sent_from-numbered First [] = refl
sent_from-numbered Second [] = refl
sent_from-numbered First ((First, r) ∷ es) = ap (λ rs. r ∷ rs) (sent_from-numbered First es)
sent_from-numbered First ((Second, r) ∷ es) = sent_from-numbered First es
sent_from-numbered Second ((First, r) ∷ es) = sent_from-numbered Second es
sent_from-numbered Second ((Second, r) ∷ es) = ap (λ rs. r ∷ rs) (sent_from-numbered Second es)

from_either : (es : List (SenderId × Change)) → AllByRecursion IsFromEither (numbered es)
from_either [] = tt
from_either ((First, r) ∷ es) = (inl refl, from_either es)
from_either ((Second, r) ∷ es) = (inr refl, from_either es)

pub all_from_either : (es : List (SenderId × Change)) → All IsFromEither (numbered es)
all_from_either es = All-from_recursion IsFromEither (numbered es) (from_either es)

-- gateways of one name are one
pub one_gateway : (a b : TableId) → gateway_name a ≡ gateway_name b → a ≡ b
one_gateway a b e =
    let named : List ℕ → TableId = λ l. record {
      words = get_or l 0 0;
      slots = get_or l 1 0;
      views_name = get_or l 2 0;
      atom = get_or l 3 0;
      block = get_or l 4 0;
      offset = get_or l 5 0;
      slot_names = drop 6 l;
    } in
    ap named e
