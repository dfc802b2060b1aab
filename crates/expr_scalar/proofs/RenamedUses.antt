-- The columns that an expression over other columns uses.
use Rattle.std.proofs.Common.{◌≡◌, ℕ, List, [], ◌∷◌, ◌++◌, map, refl, ap, sym, ◌∙◌, Option, Some, None, slice_get}
use Rattle.std.specs.List.{filter_map, cons_option}
use Rattle.std.proofs.lemmas.List.Elements.{filter_map-append}
use Rattle.base_value.specs.declared.value.Value.TheVariants.{Null}
use Rattle.expr_operators.specs.declared.operator.Arithmetic.{Arithmetic}
use Rattle.expr_scalar.specs.declared.expr.Branch.{Branch}
use Rattle.expr_scalar.specs.declared.expr.Expr.{Expr}
use Rattle.expr_scalar.specs.declared.expr.Expr.TheVariants as e
use Rattle.expr_scalar.specs.declared.expr.Operation.{Operation}
use Rattle.expr_scalar.specs.Rename.{column_or_null, renamed, renamed_branch, renamed_operation}
use Rattle.expr_scalar.specs.Used.{used, branch_used, operation_used, all_used, branches_used, operations_used}
use Rattle.expr_scalar.proofs.Induction.{Exprs, Branches, Operations, exprs, branches, operations, induction}
use Rattle.expr_scalar.proofs.Renamed.{renamed_branch_is, renamed_operation_is, renamed_Column, renamed_Literal, renamed_Negative, renamed_Arithmetic, renamed_Case, renamed_Extract, renamed_Substring, renamed_Compare, renamed_Between, renamed_Like, renamed_InList, renamed_IsNull, renamed_Not, renamed_All, renamed_Any, renamed_IsMarked}
use Rattle.expr_scalar.proofs.Uses.{branch_used_is, operation_used_is, used_Column, used_Literal, used_Negative, used_Arithmetic, used_Case, used_Extract, used_Substring, used_Compare, used_Between, used_Like, used_InList, used_IsNull, used_Not, used_All, used_Any, used_IsMarked}

-- of the places, those that the columns name
abbrev over : List ℕ → List ℕ → List ℕ
over m places = filter_map (slice_get m) places

over_two : (m : List ℕ) (a b a' b' : List ℕ) → a' ≡ over m a → b' ≡ over m b → a' ++ b' ≡ over m (a ++ b)
over_two m a b a' b' p q = ap (λ l. l ++ b') p ∙ ap (λ l. over m a ++ l) q ∙ sym (filter_map-append (slice_get m) a b)

abbrev Uses : List ℕ → Expr → Type 0
Uses m x = used (renamed m x) ≡ over m (used x)

abbrev BranchUses : List ℕ → Branch → Type 0
BranchUses m b = branch_used (renamed_branch m b) ≡ over m (branch_used b)

abbrev OperationUses : List ℕ → Operation → Type 0
OperationUses m o = operation_used (renamed_operation m o) ≡ over m (operation_used o)

all_over : (m : List ℕ) (xs : Exprs (Uses m)) → all_used (map (renamed m) (exprs {P = Uses m} xs)) ≡ over m (all_used (exprs {P = Uses m} xs))
unfolding all_used
all_over m [] = refl
all_over m (x ∷ xs) = over_two m (used x.0) (all_used (exprs {P = Uses m} xs)) (used (renamed m x.0)) (all_used (map (renamed m) (exprs {P = Uses m} xs))) x.1 (all_over m xs)

branches_over : (m : List ℕ) (bs : Branches (BranchUses m)) → branches_used (map (renamed_branch m) (branches {Q = BranchUses m} bs)) ≡ over m (branches_used (branches {Q = BranchUses m} bs))
unfolding branches_used
branches_over m [] = refl
branches_over m (b ∷ bs) =
    over_two m (branch_used b.0) (branches_used (branches {Q = BranchUses m} bs)) (branch_used (renamed_branch m b.0)) (branches_used (map (renamed_branch m) (branches {Q = BranchUses m} bs))) b.1 (branches_over m bs)

operations_over : (m : List ℕ) (os : Operations (OperationUses m)) → operations_used (map (renamed_operation m) (operations {R = OperationUses m} os)) ≡ over m (operations_used (operations {R = OperationUses m} os))
unfolding operations_used
operations_over m [] = refl
operations_over m (o ∷ os) =
    over_two m (operation_used o.0) (operations_used (operations {R = OperationUses m} os)) (operation_used (renamed_operation m o.0)) (operations_used (map (renamed_operation m) (operations {R = OperationUses m} os))) o.1 (operations_over m os)

column_over : (o : Option ℕ) → used (column_or_null o) ≡ cons_option o []
column_over (Some k) = used_Column k
column_over None = used_Literal Null

branch_over : (m : List ℕ) (when gives : Expr) → Uses m when → Uses m gives → BranchUses m (record { when = when; gives = gives })
branch_over m when gives w g =
    let b : Branch = record { when = when; gives = gives } in
    let new : Branch = record { when = renamed m when; gives = renamed m gives } in
    ap branch_used (renamed_branch_is m b) ∙ branch_used_is new
    ∙ over_two m (used when) (used gives) (used (renamed m when)) (used (renamed m gives)) w g
    ∙ ap (over m) (sym (branch_used_is b))

operation_over : (m : List ℕ) (operator : Arithmetic) (operand : Expr) → Uses m operand → OperationUses m (record { operator = operator; operand = operand })
operation_over m operator operand h =
    let o : Operation = record { operator = operator; operand = operand } in
    let new : Operation = record { operator = operator; operand = renamed m operand } in
    ap operation_used (renamed_operation_is m o) ∙ operation_used_is new ∙ h ∙ ap (over m) (sym (operation_used_is o))

-- from what the new expression is, and the places that it and the old one use
by_node : (m : List ℕ) (x y : Expr) (old new : List ℕ) → renamed m x ≡ y → used y ≡ new → used x ≡ old → new ≡ over m old → Uses m x
by_node m x y old new is uses used_before h = ap used is ∙ uses ∙ h ∙ ap (over m) (sym used_before)

pub renamed_uses : (m : List ℕ) (x : Expr) → used (renamed m x) ≡ filter_map (slice_get m) (used x)
renamed_uses m = induction (Uses m) (BranchUses m) (OperationUses m) (record {
  column = λ i. by_node m _ _ _ _ (renamed_Column m i) (column_over (slice_get m i)) (used_Column i) refl;
  literal = λ v. by_node m _ _ _ _ (renamed_Literal m v) (used_Literal v) (used_Literal v) refl;
  negative = λ a h. by_node m _ _ _ _ (renamed_Negative m a) (used_Negative (renamed m a)) (used_Negative a) h;
  arithmetic = λ a h os. by_node m _ _ _ _ (renamed_Arithmetic m a (operations {R = OperationUses m} os)) (used_Arithmetic _ _) (used_Arithmetic a (operations {R = OperationUses m} os)) (over_two m _ _ _ _ h (operations_over m os));
  case = λ scale bs a h. by_node m _ _ _ _ (renamed_Case m scale (branches {Q = BranchUses m} bs) a) (used_Case _ _ _) (used_Case scale (branches {Q = BranchUses m} bs) a) (over_two m _ _ _ _ (branches_over m bs) h);
  extract = λ part a h. by_node m _ _ _ _ (renamed_Extract m part a) (used_Extract part (renamed m a)) (used_Extract part a) h;
  substring = λ a h from count. by_node m _ _ _ _ (renamed_Substring m a from count) (used_Substring (renamed m a) from count) (used_Substring a from count) h;
  compare = λ comparison a h b k. by_node m _ _ _ _ (renamed_Compare m comparison a b) (used_Compare comparison _ _) (used_Compare comparison a b) (over_two m _ _ _ _ h k);
  between = λ a h b k d l. by_node m _ _ _ _ (renamed_Between m a b d) (used_Between _ _ _) (used_Between a b d) (over_two m _ _ _ _ (over_two m _ _ _ _ h k) l);
  like = λ a h pattern. by_node m _ _ _ _ (renamed_Like m a pattern) (used_Like (renamed m a) pattern) (used_Like a pattern) h;
  in_list = λ a h es. by_node m _ _ _ _ (renamed_InList m a (exprs {P = Uses m} es)) (used_InList _ _) (used_InList a (exprs {P = Uses m} es)) (over_two m _ _ _ _ h (all_over m es));
  is_null = λ a h. by_node m _ _ _ _ (renamed_IsNull m a) (used_IsNull (renamed m a)) (used_IsNull a) h;
  not = λ a h. by_node m _ _ _ _ (renamed_Not m a) (used_Not (renamed m a)) (used_Not a) h;
  all = λ es. by_node m _ _ _ _ (renamed_All m (exprs {P = Uses m} es)) (used_All _) (used_All (exprs {P = Uses m} es)) (all_over m es);
  any = λ es. by_node m _ _ _ _ (renamed_Any m (exprs {P = Uses m} es)) (used_Any _) (used_Any (exprs {P = Uses m} es)) (all_over m es);
  is_marked = λ a h. by_node m _ _ _ _ (renamed_IsMarked m a) (used_IsMarked (renamed m a)) (used_IsMarked a) h;
  branch = branch_over m;
  operation = operation_over m;
})
