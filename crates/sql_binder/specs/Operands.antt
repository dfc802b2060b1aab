-- Lists of operands: AND and OR, IN lists, chains of operations, and the arms of CASE.
use Rattle.std.specs.Prelude.{List, [], ◌∷◌, Option, Some, None}
use Rattle.sql_ast.specs.declared.words.Adding.{Adding}
use Rattle.sql_ast.specs.declared.words.Span.{Span}
use Rattle.sql_binder_steps.specs.declared.collected.Chain.{Chain}
use Rattle.sql_binder_steps.specs.declared.collected.Conditions.{Conditions}
use Rattle.sql_binder_steps.specs.declared.collected.Operands.{Operands}
use Rattle.sql_binder_steps.specs.declared.collected.Typed.{Typed}
use Rattle.sql_binder_steps.specs.Steps.{Name, Binding, ◌>>=◌, pure, lift}
use Rattle.sql_binder_steps.specs.Names.{Sight}
use Rattle.sql_binder_steps.specs.Values.{begun, operated, adding_of, shifted, ended}
use Rattle.sql_binder_steps.specs.Values.{first_condition}
use Rattle.sql_binder_steps.specs.Values.{next_condition, no_operands, with_operand}
use Rattle.sql_binder.specs.Meanings.{Meaning, ChainMeaning, ArmMeaning}

-- AND and OR: the first two operands are tested once both are bound, each further one once it is
abbrev pub conditions_from : Sight → Conditions → List Meaning → Binding Conditions
conditions_from sight done [] = pure done
conditions_from sight done (m ∷ ms) =
    m.binds sight >>= (λ a. lift (next_condition done a) >>= (λ d. conditions_from sight d ms))

-- conditions joined by AND or OR
unfoldable pub conditions : Sight → Typed → List Meaning → Binding Conditions
conditions sight first rest = conditions_from sight (first_condition first) rest

-- operands of a list or a CASE, which are tested once all are bound
abbrev pub operands_from : Sight → Operands → List Meaning → Binding Operands
operands_from sight done [] = pure done
operands_from sight done (m ∷ ms) =
    m.binds sight >>= (λ a. operands_from sight (with_operand done a) ms)

-- all operands of a list, in order
unfoldable pub operands : Sight → List Meaning → Binding Operands
operands sight ms = operands_from sight no_operands ms

-- a chain of operations, each on what stands to its left
abbrev pub chain_from : Sight → Chain → List ChainMeaning → Binding Typed
chain_from sight done [] = pure (ended done)
chain_from sight done (m ∷ ms) = m.adds sight done >>= (λ d. chain_from sight d ms)

-- an operand and the operations after it
unfoldable pub chain : Sight → Typed → List ChainMeaning → Binding Typed
chain sight first rest = chain_from sight (begun first) rest

-- the conditions of a CASE's arms
abbrev pub conditions_of_arms : Sight → Operands → List ArmMeaning → Binding Operands
conditions_of_arms sight done [] = pure done
conditions_of_arms sight done (a ∷ arms) =
    a.condition.binds sight >>= (λ x. conditions_of_arms sight (with_operand done x) arms)

-- the conditions of all arms
unfoldable pub arm_conditions : Sight → List ArmMeaning → Binding Operands
arm_conditions sight arms = conditions_of_arms sight no_operands arms

-- the branches of a CASE's arms
abbrev pub values_of_arms : Sight → Operands → List ArmMeaning → Binding Operands
values_of_arms sight done [] = pure done
values_of_arms sight done (a ∷ arms) =
    a.value.binds sight >>= (λ x. values_of_arms sight (with_operand done x) arms)

-- the branches of all arms
unfoldable pub arm_values : Sight → List ArmMeaning → Binding Operands
arm_values sight arms = values_of_arms sight no_operands arms

-- a term: an interval moves the date literal before it
abbrev pub term_by : Option (Name × Span) → Adding → Meaning → Sight → Chain → Binding Chain
term_by (Some i) operator m sight c = lift (shifted operator c i.0 i.1)
term_by None operator m sight c = m.binds sight >>= (λ b. lift (operated (adding_of operator) c b))
