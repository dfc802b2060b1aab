-- Rows of which those past a row limit were dropped early.
use Rattle.std.specs.Prelude.{◌≡◌, ℕ, List, ◌++◌, Option}
use Rattle.base_value.specs.declared.value.Value.{Value}
use Rattle.base_order_limit.specs.declared.key.OrderKey.{OrderKey}
use Rattle.base_order_limit.specs.Answers.{comes_before, in_order, limited}

-- Whether rows stand for others: with whatever rows more, the first ones in order are the same.
abbrev pub AreEnough : List OrderKey → Option ℕ → List (List Value) → List (List Value) → Type 0
AreEnough keys limit kept all = (more : List (List Value))
    → limited limit (in_order (comes_before keys) (kept ++ more))
    ≡ limited limit (in_order (comes_before keys) (all ++ more))
