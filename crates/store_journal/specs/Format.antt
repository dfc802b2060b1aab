-- What the bytes of a journal stand for. Of its payloads only one thing is known here: which byte
-- lists are one.
use Rattle.std.specs.Prelude.{◌≡◌, ◌≢◌, ◌⊎◌, ℕ, ◌^◌, ◌<◌, List, [], ◌∷◌, ◌++◌, length}
use Rattle.std.specs.List.{AllByRecursion}
use Rattle.std.specs.Int.{w64, to_be_bytes}

-- a payload that an entry can hold
pub record IsEntry (is_payload : List ℕ → Type 0) (payload : List ℕ) : Type 0 where
  pub spelled : is_payload payload
  pub short : length payload < 2 ^ 64

-- what stands behind an entry's gate: its length in 8 bytes, high byte first, and its payload
abbrev pub framed : List ℕ → List ℕ
framed payload = to_be_bytes w64 (length payload) ++ payload

-- open entries of these payloads
abbrev pub entries : List (List ℕ) → List ℕ
entries [] = []
entries (payload ∷ payloads) = 1 ∷ (framed payload ++ entries payloads)

-- the file is open entries of these payloads, a closed gate, and bytes that mean nothing
pub record StandsFor (is_payload : List ℕ → Type 0) (file : List ℕ)
    (payloads : List (List ℕ)) : Type 0 where
  pub gate : ℕ
  pub rest : List ℕ
  pub shut : gate ≢ 1
  pub whole : file ≡ entries payloads ++ gate ∷ rest
  pub fits : AllByRecursion (IsEntry is_payload) payloads

-- no entry begins behind an open gate
abbrev pub NoEntry : (List ℕ → Type 0) → List ℕ → Type 0
NoEntry is_payload bytes =
    (payload rest : List ℕ) → IsEntry is_payload payload → bytes ≡ framed payload ++ rest → ⊥

-- a gate is missing, or what stands behind an open one is no entry
abbrev pub IsBroken : (List ℕ → Type 0) → List ℕ → Type 0
IsBroken is_payload rest =
    (rest ≡ []) ⊎ ((bytes : List ℕ) × (rest ≡ 1 ∷ bytes) × NoEntry is_payload bytes)

-- open entries, and behind them at that place no journal
pub record IsBad (is_payload : List ℕ → Type 0) (file : List ℕ) (place : ℕ) : Type 0 where
  pub payloads : List (List ℕ)
  pub rest : List ℕ
  pub whole : file ≡ entries payloads ++ rest
  pub fits : AllByRecursion (IsEntry is_payload) payloads
  pub here : place ≡ length (entries payloads)
  pub broken : IsBroken is_payload rest
