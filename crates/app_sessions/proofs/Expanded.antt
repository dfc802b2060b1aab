-- The statements that a script stands for, statement by statement.
use Rattle.std.proofs.Common.{◌≡◌, ◌∙◌, List, [], ◌∷◌, ◌++◌, refl, sym, ap, subst, append_assoc, reverse}
use Rattle.std.proofs.lemmas.List.{append-nil, reverse-append, reverse-reverse}
use Rattle.sql_ast.specs.declared.statement.Statement.{Statement}
use Rattle.app_sessions.specs.Expansion.{ExpandAll, Expands}

-- the first statements stand for the steps so far, and those that are left stand in reverse
pub record Expanding (statements left steps : List Statement) : Type 0 where
  pub done : List Statement
  pub expanded : ExpandAll done steps
  pub all : statements ≡ done ++ reverse left

expand_more : (done steps : List Statement) (s : Statement) (more : List Statement) → ExpandAll done steps → Expands s more → ExpandAll (done ++ s ∷ []) (steps ++ more)
expand_more [] steps s more all one = (more, [], one, refl, ap (λ l. l ++ more) all ∙ sym (append-nil more))
expand_more (d ∷ done) steps s more (first, rest, is, all, e) one =
    (first, rest ++ more, is, expand_more done rest s more all one, ap (λ l. l ++ more) e ∙ append_assoc first rest more)

pub expanding_none : (statements : List Statement) → Expanding statements (reverse statements) []
expanding_none statements = record { done = []; expanded = refl; all = sym (reverse-reverse statements) }

pub expanding_more : (statements left : List Statement) (s : Statement) (steps more : List Statement) → Expanding statements (left ++ s ∷ []) steps → Expands s more → Expanding statements left (steps ++ more)
expanding_more statements left s steps more before one = record {
  done = before.done ++ s ∷ [];
  expanded = expand_more before.done steps s more before.expanded one;
  all = before.all ∙ ap (λ l. before.done ++ l) (reverse-append left (s ∷ [])) ∙ sym (append_assoc before.done (s ∷ []) (reverse left));
}

pub expanding_all : (statements steps : List Statement) → Expanding statements [] steps → ExpandAll statements steps
expanding_all statements steps before = subst (λ l. ExpandAll l steps) (sym (before.all ∙ append-nil before.done)) before.expanded
