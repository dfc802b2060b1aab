-- Which refreshes are accepted, in terms of their keys.
use Rattle.std.specs.Prelude.{◌≡◌, ◌≢◌, ◌↔◌, List, ℤ, None}
use Rattle.std.specs.List.{All, AllPairs, Contains}
use Rattle.base_value.specs.declared.value.Value.{Value}
use Rattle.base_schema.specs.State.{State}
use Rattle.store_state.specs.Keys.{line_keys, order_keys}
use Rattle.store_state.specs.Refresh.{DeleteKeys, InsertRows, cause_of}

-- no key stands twice
abbrev pub AreDistinct : {K : Type 0} → List K → Type 0
AreDistinct keys = AllPairs (λ a b. a ≢ b) keys

-- no key is there already, and none stands twice
pub record AreNew {K : Type 0} (there keys : List K) : Type 0 where
  pub absent : All (λ key. Contains there key → ⊥) keys
  pub apart : AreDistinct keys

-- an insert may be applied: its orders and its lineitems are new, and each lineitem is of one of
-- its orders
pub record MayInsert (state : State) (orders : List ℤ) (lines : List (ℤ × ℤ)) : Type 0 where
  pub new_orders : AreNew (order_keys state.orders) orders
  pub new_lines : AreNew (line_keys state.lineitem) lines
  pub owned : All (λ line. Contains orders line.0) lines

-- a delete may be applied: its orders are there, and none stands twice
pub record MayDelete (state : State) (keys : List ℤ) : Type 0 where
  pub there : All (Contains (order_keys state.orders)) keys
  pub apart : AreDistinct keys

-- an insert has no cause against it exactly where it may be applied
abbrev pub InsertLaw : Type 0
InsertLaw = (state : State) (orders lineitems : List (List Value))
    → (cause_of state (InsertRows orders lineitems) ≡ None)
    ↔ MayInsert state (order_keys orders) (line_keys lineitems)

-- a delete has no cause against it exactly where its keys may be deleted
abbrev pub DeleteLaw : Type 0
DeleteLaw = (state : State) (keys : List ℤ)
    → (cause_of state (DeleteKeys keys) ≡ None) ↔ MayDelete state keys
