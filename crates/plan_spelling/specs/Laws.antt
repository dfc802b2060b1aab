-- What is printed of a plan determines it.
use Rattle.std.specs.Prelude.{◌≡◌, ℕ, List, ◌++◌}
use Rattle.plan_algebra.specs.declared.node.Node.{Node}
use Rattle.plan_spelling.specs.Plans.{EndsWithPlan, plan_spelling}

-- The numbers that spell a plan, with any others after them, are those of no other plan.
abbrev pub SpellingIsUnique : Type 0
SpellingIsUnique = (nodes others : List Node) (after further : List ℕ)
    → plan_spelling nodes ++ after ≡ plan_spelling others ++ further
    → (nodes ≡ others) × (after ≡ further)

-- A text that ends with the line of a plan ends with that of no other plan.
abbrev pub TextDeterminesPlan : Type 0
TextDeterminesPlan = (nodes others : List Node) (text : List ℕ)
    → EndsWithPlan nodes text → EndsWithPlan others text → nodes ≡ others
