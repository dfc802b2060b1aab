-- What a gateway means as a feed.
use Rattle.std.specs.Prelude.{◌≡◌, ◌⊎◌, ℕ, ◌+◌, ◌≤◌, ◌==◌, Bool, true, false, List, [], ◌∷◌, Option}
use Rattle.std.specs.Prelude.{Some, None, if◌then◌else◌, length, map}
use Rattle.atomic_table.specs.Seated.{TableId}
use Rattle.store_state.specs.Refresh.{Change}
use Rattle.store_versions.specs.Trials.{Trials}
use Rattle.store_gateway.specs.Roles.{Taking}
use Rattle.store_gateway.specs.declared.message.SenderId.{SenderId}
use Rattle.store_gateway.specs.declared.message.SenderId.TheVariants.{First, Second}

-- the number of a sender
abbrev pub sender_number : SenderId → ℕ
sender_number First = 1
sender_number Second = 2

-- refreshes, each with the number of its sender
abbrev pub numbered : List (SenderId × Change) → List (Option ℕ × Change)
numbered es = map (λ e. (Some (sender_number e.0), e.1)) es

-- what a gateway's feed tried: all that was taken
abbrev pub gateway_tried : Taking → List (Option ℕ × Change)
gateway_tried taker = numbered taker.taken

-- the numbers that name a gateway
abbrev pub gateway_name : TableId → List ℕ
gateway_name gateway = gateway.words ∷ gateway.slots ∷ gateway.views_name ∷ gateway.atom
    ∷ gateway.block ∷ gateway.offset ∷ gateway.slot_names

-- A publisher of the version fits it: each refresh of the version's list was tried, and the list
-- may get longer by all that may still be taken.
pub record GatewayFits (taker : Taking) (version : Trials) : Type 0 where
  pub all : version.done ≡ length version.list
  pub room : length version.list + (taker.quotas.0 + taker.quotas.1)
      ≤ version.most + length taker.taken

-- the ends of both senders were taken, and each refresh of the version's list was tried
pub record GatewayIsOver (taker : Taking) (version : Trials) : Type 0 where
  pub all : version.done ≡ length version.list
  pub ended : taker.ended ≡ (true, true)

-- whether a refresh is from the sender of this number
abbrev pub has_number : ℕ → Option ℕ → Bool
has_number number None = false
has_number number (Some from) = from == number

-- the refreshes from the sender of this number, in order
abbrev pub sent_from : ℕ → List (Option ℕ × Change) → List Change
sent_from number [] = []
sent_from number (e ∷ es) =
    if has_number number e.0 then e.1 ∷ sent_from number es else sent_from number es

-- a refresh is from one of two senders
abbrev pub IsFromEither : Option ℕ × Change → Type 0
IsFromEither e = (e.0 ≡ Some 1) ⊎ (e.0 ≡ Some 2)
