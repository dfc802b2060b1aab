-- Steps of binding: each goes on with what is collected so far, or refuses.
use Rattle.std.specs.Prelude.{ℕ, ◌+◌, ◌≡◌, List, [], ◌∷◌, ◌++◌, length, Result, Ok, Err}
use Rattle.std.specs.Prelude.{if◌then◌else◌, nat_le}
use Rattle.sql_bound_query.specs.declared.query.BoundAggregate.{BoundAggregate}
use Rattle.sql_bound_query.specs.declared.query.Input.{Input}
use Rattle.base_refusals.specs.declared.bind.BindRefusal.{BindRefusal}
use Rattle.base_refusals.specs.declared.bind.BindRefusal.TheVariants.{TooManyTables}
use Rattle.sql_binder_steps.specs.declared.collected.Collected.{Collected}
use Rattle.sql_binder_steps.specs.declared.collected.Part.{Part}
use Rattle.sql_binder_steps.specs.declared.collected.Typed.{Typed}
use Rattle.sql_binder_steps.specs.declared.fault.BindFault.{BindFault}
use Rattle.sql_binder_steps.specs.declared.fault.BindFault.TheVariants.{OutOfMemory, Refused}

-- a name, as its bytes
abbrev pub Name : Type 0
Name = List ℕ

-- a value or a refusal
abbrev pub Checked : Type 0 → Type 0
Checked A = Result A BindRefusal

-- goes on with the value, or stays refused
abbrev pub and_then : {A B : Type 0} → Checked A → (A → Checked B) → Checked B
and_then (Ok a) f = f a
and_then (Err why) f = Err why

-- what a call answers that is to give a value or a refusal, unless memory is refused
abbrev pub Gives : {A : Type 0} → Checked A → Result A BindFault → Type 0
Gives said (Ok a) = said ≡ Ok a
Gives said (Err OutOfMemory) = Unit {0}
Gives said (Err (Refused why)) = said ≡ Err why

-- a step of binding, from what is collected before it to its value and what is collected after it
abbrev pub Binding : Type 0 → Type 0
Binding A = Collected → Checked (A × Collected)

-- one step after another
infixl 10 ◌>>=◌
abbrev pub ◌>>=◌ : {A B : Type 0} → Binding A → (A → Binding B) → Binding B
p >>= f = λ s. and_then (p s) (λ r. f r.0 r.1)

-- a value, nothing collected
abbrev pub pure : {A : Type 0} → A → Binding A
pure a = λ s. Ok (a, s)

-- a refusal
abbrev pub refuse : {A : Type 0} → BindRefusal → Binding A
refuse why = λ s. Err why

-- a value or a refusal, nothing collected
abbrev pub lift : {A : Type 0} → Checked A → Binding A
lift r = λ s. and_then r (λ a. Ok (a, s))

-- what a call answers and leaves that is to make a step, unless memory is refused
abbrev pub Binds : {A : Type 0} → Checked (A × Collected) → Result A BindFault → Collected → Type 0
Binds said (Ok a) new = said ≡ Ok (a, new)
Binds said (Err OutOfMemory) new = Unit {0}
Binds said (Err (Refused why)) new = said ≡ Err why

-- one input more of the clause; its number
unfoldable pub input : Input → Binding ℕ
input i = λ s. Ok (length s.inputs, record s { inputs = s.inputs ++ i ∷ [] })

-- one aggregate more of the query; its number
unfoldable pub aggregate : BoundAggregate → Binding ℕ
aggregate a = λ s. Ok (length s.aggregates, record s { aggregates = s.aggregates ++ a ∷ [] })

-- an expression with inputs of its own
unfoldable pub alone : Binding Typed → Binding Part
alone p = λ s.
    and_then (p (record s { inputs = [] }))
    (λ r. Ok (
      record { expr = record { inputs = r.1.inputs; expr = r.0.value }; kind = r.0.kind },
      record r.1 { inputs = s.inputs },
    ))

-- a query with aggregates of its own
unfoldable pub apart : {A : Type 0} → Binding A → Binding A
apart p = λ s. and_then (p (record s { aggregates = [] }))
    (λ r. Ok (r.0, record r.1 { aggregates = s.aggregates }))

-- how many FROM items a statement has at most
abbrev pub most_items : ℕ
most_items = 32

-- n FROM items more; past the most of a statement they are TooManyTables
unfoldable pub counted : ℕ → Binding (Unit {0})
counted n = λ s.
    if nat_le (s.items + n) most_items
    then Ok (tt, record s { items = s.items + n })
    else Err TooManyTables

-- the aggregates of the query, which are taken out
unfoldable pub take_aggregates : Binding (List BoundAggregate)
take_aggregates = λ s. Ok (s.aggregates, record s { aggregates = [] })
