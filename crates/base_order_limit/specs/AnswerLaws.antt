-- The answer of a bag.
use Rattle.std.specs.Prelude.{◌≡◌, ℕ, List, Option}
use Rattle.base_row_laws.specs.Ranked.{Ranked}
use Rattle.base_row_laws.specs.Bags.{SameBag}
use Rattle.base_value.specs.declared.value.Value.{Value}
use Rattle.base_order_limit.specs.declared.key.OrderKey.{OrderKey}
use Rattle.base_order_limit.specs.Answers.{finished}

-- Rows in another order have the same answer.
abbrev pub AnswersOfBags : Type 0
AnswersOfBags = (keys : List OrderKey) (limit : Option ℕ) (xs ys : List (Ranked Value))
    → SameBag xs ys → finished keys limit xs ≡ finished keys limit ys
