-- An expression over other columns means the old one over the row of these columns: node by node,
-- and by induction.
use Rattle.std.proofs.Common.{◌≡◌, ℕ, List, [], ◌∷◌, map, refl, ap, sym, subst, ◌∙◌, zero, suc, Option, Some, None, unwrap_or, slice_get, slice_index_or}
use Rattle.base_value.specs.Truth.{negated}
use Rattle.base_value.specs.declared.truth.Truth.TheVariants.{Unknown}
use Rattle.base_value.specs.declared.value.Value.{Value}
use Rattle.base_value.specs.declared.value.Value.TheVariants.{Null}
use Rattle.expr_operators.specs.declared.operator.Arithmetic.{Arithmetic}
use Rattle.expr_scalar.specs.declared.expr.Branch.{Branch}
use Rattle.expr_operators.specs.declared.operator.Comparison.{Comparison}
use Rattle.expr_operators.specs.declared.operator.DatePart.{DatePart}
use Rattle.expr_scalar.specs.declared.expr.Expr.{Expr}
use Rattle.expr_scalar.specs.declared.expr.Expr.TheVariants as e
use Rattle.expr_scalar.specs.declared.expr.Operation.{Operation}
use Rattle.expr_scalar.specs.Meaning.{value, truth, values, truths, chosen, branch_value, operation_value, operated, first_of, decided, least, greatest, in_list}
use Rattle.expr_operators.specs.Operators.{at_scale, negative, computed, extracted, part_of, compared, between, liked, null_test, truth_of_mark}
use Rattle.expr_scalar.specs.Rename.{column_or_null, renamed, renamed_branch, renamed_operation, gathered, IsRenamed}
use Rattle.expr_scalar.proofs.Opened.{branch_is, operation_is, value_Literal, truth_Literal, value_Negative, truth_Negative, value_Arithmetic, truth_Arithmetic, value_Case, truth_Case, value_Extract, truth_Extract, value_Substring, truth_Substring, value_Compare, truth_Compare, value_Between, truth_Between, value_Like, truth_Like, value_InList, truth_InList, value_IsNull, truth_IsNull, value_Not, truth_Not, value_All, truth_All, value_Any, truth_Any, value_IsMarked, truth_IsMarked, value_Column, truth_Column}
use Rattle.expr_scalar.proofs.Induction.{Exprs, Branches, Operations, exprs, branches, operations, induction}
use Rattle.expr_scalar.proofs.Renamed.{renamed_branch_is, renamed_operation_is, renamed_Column, renamed_Literal, renamed_Negative, renamed_Arithmetic, renamed_Case, renamed_Extract, renamed_Substring, renamed_Compare, renamed_Between, renamed_Like, renamed_InList, renamed_IsNull, renamed_Not, renamed_All, renamed_Any, renamed_IsMarked}

-- the same of the expressions of two lists, one by one
record AreRenamed (columns : List ℕ) (old new : List Expr) : Type 0 where
  values : (row : List Value) → values new row ≡ values old (gathered columns row)
  truths : (row : List Value) → truths new row ≡ truths old (gathered columns row)

-- the same of the branches of two CASEs
record BranchesRenamed (columns : List ℕ) (old new : List Branch) : Type 0 where
  chosen : (row : List Value) → chosen new row ≡ chosen old (gathered columns row)

-- the same of the operations of two chains
record OperationsRenamed (columns : List ℕ) (old new : List Operation) : Type 0 where
  operated : (x : Value) (row : List Value) → operated x new row ≡ operated x old (gathered columns row)

keeps_Literal : (m : List ℕ) (v : Value) → IsRenamed m (e.Literal v) (e.Literal v)
keeps_Literal m v = record {
  value = λ row. value_Literal v row ∙ sym (value_Literal v (gathered m row));
  truth = λ row. truth_Literal v row ∙ sym (truth_Literal v (gathered m row));
}

keeps_Negative : (m : List ℕ) (a a' : Expr) → IsRenamed m a a' → IsRenamed m (e.Negative a) (e.Negative a')
keeps_Negative m a a' ha = record {
  value = λ row. value_Negative a' row ∙ ap (λ x. negative x) (ha.value row) ∙ sym (value_Negative a (gathered m row));
  truth = λ row. truth_Negative a' row ∙ sym (truth_Negative a (gathered m row));
}

keeps_Arithmetic : (m : List ℕ) (a a' : Expr) (os os' : List Operation) → IsRenamed m a a' → OperationsRenamed m os os' → IsRenamed m (e.Arithmetic a os) (e.Arithmetic a' os')
keeps_Arithmetic m a a' os os' ha hos = record {
  value = λ row. value_Arithmetic a' os' row ∙ ap (λ x. operated x os' row) (ha.value row) ∙ hos.operated (value a (gathered m row)) row ∙ sym (value_Arithmetic a os (gathered m row));
  truth = λ row. truth_Arithmetic a' os' row ∙ sym (truth_Arithmetic a os (gathered m row));
}

keeps_Case : (m : List ℕ) (scale : ℕ) (bs bs' : List Branch) (a a' : Expr) → BranchesRenamed m bs bs' → IsRenamed m a a' → IsRenamed m (e.Case scale bs a) (e.Case scale bs' a')
keeps_Case m scale bs bs' a a' hbs ha = record {
  value = λ row. value_Case scale bs' a' row ∙ ap (λ x. at_scale scale (unwrap_or x (value a' row))) (hbs.chosen row) ∙ ap (λ x. at_scale scale (unwrap_or (chosen bs (gathered m row)) x)) (ha.value row) ∙ sym (value_Case scale bs a (gathered m row));
  truth = λ row. truth_Case scale bs' a' row ∙ sym (truth_Case scale bs a (gathered m row));
}

keeps_Extract : (m : List ℕ) (part : DatePart) (a a' : Expr) → IsRenamed m a a' → IsRenamed m (e.Extract part a) (e.Extract part a')
keeps_Extract m part a a' ha = record {
  value = λ row. value_Extract part a' row ∙ ap (λ x. extracted part x) (ha.value row) ∙ sym (value_Extract part a (gathered m row));
  truth = λ row. truth_Extract part a' row ∙ sym (truth_Extract part a (gathered m row));
}

keeps_Substring : (m : List ℕ) (a a' : Expr) (from : ℕ) (count : ℕ) → IsRenamed m a a' → IsRenamed m (e.Substring a from count) (e.Substring a' from count)
keeps_Substring m a a' from count ha = record {
  value = λ row. value_Substring a' from count row ∙ ap (λ x. part_of from count x) (ha.value row) ∙ sym (value_Substring a from count (gathered m row));
  truth = λ row. truth_Substring a' from count row ∙ sym (truth_Substring a from count (gathered m row));
}

keeps_Compare : (m : List ℕ) (comparison : Comparison) (a a' : Expr) (b b' : Expr) → IsRenamed m a a' → IsRenamed m b b' → IsRenamed m (e.Compare comparison a b) (e.Compare comparison a' b')
keeps_Compare m comparison a a' b b' ha hb = record {
  value = λ row. value_Compare comparison a' b' row ∙ sym (value_Compare comparison a b (gathered m row));
  truth = λ row. truth_Compare comparison a' b' row ∙ ap (λ x. compared comparison x (value b' row)) (ha.value row) ∙ ap (λ x. compared comparison (value a (gathered m row)) x) (hb.value row) ∙ sym (truth_Compare comparison a b (gathered m row));
}

keeps_Between : (m : List ℕ) (a a' : Expr) (b b' : Expr) (d d' : Expr) → IsRenamed m a a' → IsRenamed m b b' → IsRenamed m d d' → IsRenamed m (e.Between a b d) (e.Between a' b' d')
keeps_Between m a a' b b' d d' ha hb hd = record {
  value = λ row. value_Between a' b' d' row ∙ sym (value_Between a b d (gathered m row));
  truth = λ row. truth_Between a' b' d' row ∙ ap (λ x. between x (value b' row) (value d' row)) (ha.value row) ∙ ap (λ x. between (value a (gathered m row)) x (value d' row)) (hb.value row) ∙ ap (λ x. between (value a (gathered m row)) (value b (gathered m row)) x) (hd.value row) ∙ sym (truth_Between a b d (gathered m row));
}

keeps_Like : (m : List ℕ) (a a' : Expr) (pattern : List ℕ) → IsRenamed m a a' → IsRenamed m (e.Like a pattern) (e.Like a' pattern)
keeps_Like m a a' pattern ha = record {
  value = λ row. value_Like a' pattern row ∙ sym (value_Like a pattern (gathered m row));
  truth = λ row. truth_Like a' pattern row ∙ ap (λ x. liked pattern x) (ha.value row) ∙ sym (truth_Like a pattern (gathered m row));
}

keeps_InList : (m : List ℕ) (a a' : Expr) (es es' : List Expr) → IsRenamed m a a' → AreRenamed m es es' → IsRenamed m (e.InList a es) (e.InList a' es')
keeps_InList m a a' es es' ha hes = record {
  value = λ row. value_InList a' es' row ∙ sym (value_InList a es (gathered m row));
  truth = λ row. truth_InList a' es' row ∙ ap (λ x. in_list x (values es' row)) (ha.value row) ∙ ap (λ x. in_list (value a (gathered m row)) x) (hes.values row) ∙ sym (truth_InList a es (gathered m row));
}

keeps_IsNull : (m : List ℕ) (a a' : Expr) → IsRenamed m a a' → IsRenamed m (e.IsNull a) (e.IsNull a')
keeps_IsNull m a a' ha = record {
  value = λ row. value_IsNull a' row ∙ sym (value_IsNull a (gathered m row));
  truth = λ row. truth_IsNull a' row ∙ ap (λ x. null_test x) (ha.value row) ∙ sym (truth_IsNull a (gathered m row));
}

keeps_Not : (m : List ℕ) (a a' : Expr) → IsRenamed m a a' → IsRenamed m (e.Not a) (e.Not a')
keeps_Not m a a' ha = record {
  value = λ row. value_Not a' row ∙ sym (value_Not a (gathered m row));
  truth = λ row. truth_Not a' row ∙ ap (λ x. negated x) (ha.truth row) ∙ sym (truth_Not a (gathered m row));
}

keeps_All : (m : List ℕ) (es es' : List Expr) → AreRenamed m es es' → IsRenamed m (e.All es) (e.All es')
keeps_All m es es' hes = record {
  value = λ row. value_All es' row ∙ sym (value_All es (gathered m row));
  truth = λ row. truth_All es' row ∙ ap (λ x. least x) (hes.truths row) ∙ sym (truth_All es (gathered m row));
}

keeps_Any : (m : List ℕ) (es es' : List Expr) → AreRenamed m es es' → IsRenamed m (e.Any es) (e.Any es')
keeps_Any m es es' hes = record {
  value = λ row. value_Any es' row ∙ sym (value_Any es (gathered m row));
  truth = λ row. truth_Any es' row ∙ ap (λ x. greatest x) (hes.truths row) ∙ sym (truth_Any es (gathered m row));
}

keeps_IsMarked : (m : List ℕ) (a a' : Expr) → IsRenamed m a a' → IsRenamed m (e.IsMarked a) (e.IsMarked a')
keeps_IsMarked m a a' ha = record {
  value = λ row. value_IsMarked a' row ∙ sym (value_IsMarked a (gathered m row));
  truth = λ row. truth_IsMarked a' row ∙ ap (λ x. truth_of_mark x) (ha.value row) ∙ sym (truth_IsMarked a (gathered m row));
}

-- ---- lists

abbrev Means : List ℕ → Expr → Type 0
Means m x = IsRenamed m x (renamed m x)

abbrev BranchMeans : List ℕ → Branch → Type 0
BranchMeans m b = (row : List Value) → branch_value (renamed_branch m b) row ≡ branch_value b (gathered m row)

abbrev OperationMeans : List ℕ → Operation → Type 0
OperationMeans m o = (x : Value) (row : List Value) → operation_value (renamed_operation m o) x row ≡ operation_value o x (gathered m row)

values_over : (m : List ℕ) (xs : Exprs (Means m)) (row : List Value) → values (map (renamed m) (exprs {P = Means m} xs)) row ≡ values (exprs {P = Means m} xs) (gathered m row)
unfolding values
values_over m [] row = refl
values_over m (x ∷ xs) row =
    ap (λ v. v ∷ values (map (renamed m) (exprs {P = Means m} xs)) row) (x.1.value row)
    ∙ ap (λ vs. value x.0 (gathered m row) ∷ vs) (values_over m xs row)

truths_over : (m : List ℕ) (xs : Exprs (Means m)) (row : List Value) → truths (map (renamed m) (exprs {P = Means m} xs)) row ≡ truths (exprs {P = Means m} xs) (gathered m row)
unfolding truths
truths_over m [] row = refl
truths_over m (x ∷ xs) row =
    ap (λ t. t ∷ truths (map (renamed m) (exprs {P = Means m} xs)) row) (x.1.truth row)
    ∙ ap (λ ts. truth x.0 (gathered m row) ∷ ts) (truths_over m xs row)

all_over : (m : List ℕ) (xs : Exprs (Means m)) → AreRenamed m (exprs {P = Means m} xs) (map (renamed m) (exprs {P = Means m} xs))
all_over m xs = record { values = values_over m xs; truths = truths_over m xs }

chosen_over : (m : List ℕ) (bs : Branches (BranchMeans m)) (row : List Value)
    → chosen (map (renamed_branch m) (branches {Q = BranchMeans m} bs)) row ≡ chosen (branches {Q = BranchMeans m} bs) (gathered m row)
unfolding chosen
chosen_over m [] row = refl
chosen_over m (b ∷ bs) row =
    ap (λ o. first_of o (chosen (map (renamed_branch m) (branches {Q = BranchMeans m} bs)) row)) (b.1 row)
    ∙ ap (first_of (branch_value b.0 (gathered m row))) (chosen_over m bs row)

branches_over : (m : List ℕ) (bs : Branches (BranchMeans m)) → BranchesRenamed m (branches {Q = BranchMeans m} bs) (map (renamed_branch m) (branches {Q = BranchMeans m} bs))
branches_over m bs = record { chosen = chosen_over m bs }

operated_over : (m : List ℕ) (os : Operations (OperationMeans m)) (x : Value) (row : List Value)
    → operated x (map (renamed_operation m) (operations {R = OperationMeans m} os)) row ≡ operated x (operations {R = OperationMeans m} os) (gathered m row)
unfolding operated
operated_over m [] x row = refl
operated_over m (o ∷ os) x row =
    ap (λ y. operated y (map (renamed_operation m) (operations {R = OperationMeans m} os)) row) (o.1 x row)
    ∙ operated_over m os (operation_value o.0 x (gathered m row)) row

operations_over : (m : List ℕ) (os : Operations (OperationMeans m)) → OperationsRenamed m (operations {R = OperationMeans m} os) (map (renamed_operation m) (operations {R = OperationMeans m} os))
operations_over m os = record { operated = operated_over m os }

-- ---- the induction

column_or_null_means : (m : List ℕ) (i : ℕ) (row : List Value) → value (column_or_null (slice_get m i)) row ≡ slice_index_or (gathered m row) i Null
unfolding gathered
column_or_null_means [] i row = value_Literal Null row
column_or_null_means (k ∷ m) zero row = value_Column k row
column_or_null_means (k ∷ m) (suc i) row = column_or_null_means m i row

column_or_null_unknown : (o : Option ℕ) (row : List Value) → truth (column_or_null o) row ≡ Unknown
column_or_null_unknown (Some k) row = truth_Column k row
column_or_null_unknown None row = truth_Literal Null row

column_means : (m : List ℕ) (i : ℕ) → IsRenamed m (e.Column i) (column_or_null (slice_get m i))
column_means m i = record {
  value = λ row. column_or_null_means m i row ∙ sym (value_Column i (gathered m row));
  truth = λ row. column_or_null_unknown (slice_get m i) row ∙ sym (truth_Column i (gathered m row));
}

branch_means : (m : List ℕ) (when gives : Expr) → Means m when → Means m gives → BranchMeans m (record { when = when; gives = gives })
branch_means m when gives w g row =
    let b : Branch = record { when = when; gives = gives } in
    let new : Branch = record { when = renamed m when; gives = renamed m gives } in
    ap (λ c. branch_value c row) (renamed_branch_is m b) ∙ branch_is new row
    ∙ ap (λ t. decided t (value (renamed m gives) row)) (w.truth row)
    ∙ ap (λ v. decided (truth when (gathered m row)) v) (g.value row)
    ∙ sym (branch_is b (gathered m row))

operation_means : (m : List ℕ) (operator : Arithmetic) (operand : Expr) → Means m operand → OperationMeans m (record { operator = operator; operand = operand })
operation_means m operator operand h x row =
    let o : Operation = record { operator = operator; operand = operand } in
    let new : Operation = record { operator = operator; operand = renamed m operand } in
    ap (λ c. operation_value c x row) (renamed_operation_is m o) ∙ operation_is new x row
    ∙ ap (λ v. computed operator x v) (h.value row) ∙ sym (operation_is o x (gathered m row))

-- from what the new expression is
by_node : (m : List ℕ) (x y : Expr) → renamed m x ≡ y → IsRenamed m x y → Means m x
by_node m x y is h = subst (λ z. IsRenamed m x z) (sym is) h

pub renamed_means : (m : List ℕ) (x : Expr) → IsRenamed m x (renamed m x)
renamed_means m = induction (Means m) (BranchMeans m) (OperationMeans m) (record {
  column = λ i. by_node m _ _ (renamed_Column m i) (column_means m i);
  literal = λ v. by_node m _ _ (renamed_Literal m v) (keeps_Literal m v);
  negative = λ a h. by_node m _ _ (renamed_Negative m a) (keeps_Negative m a (renamed m a) h);
  arithmetic = λ a h os. by_node m _ _ (renamed_Arithmetic m a (operations {R = OperationMeans m} os)) (keeps_Arithmetic m a (renamed m a) _ _ h (operations_over m os));
  case = λ scale bs a h. by_node m _ _ (renamed_Case m scale (branches {Q = BranchMeans m} bs) a) (keeps_Case m scale _ _ a (renamed m a) (branches_over m bs) h);
  extract = λ part a h. by_node m _ _ (renamed_Extract m part a) (keeps_Extract m part a (renamed m a) h);
  substring = λ a h from count. by_node m _ _ (renamed_Substring m a from count) (keeps_Substring m a (renamed m a) from count h);
  compare = λ comparison a h b k. by_node m _ _ (renamed_Compare m comparison a b) (keeps_Compare m comparison a (renamed m a) b (renamed m b) h k);
  between = λ a h b k d l. by_node m _ _ (renamed_Between m a b d) (keeps_Between m a (renamed m a) b (renamed m b) d (renamed m d) h k l);
  like = λ a h pattern. by_node m _ _ (renamed_Like m a pattern) (keeps_Like m a (renamed m a) pattern h);
  in_list = λ a h es. by_node m _ _ (renamed_InList m a (exprs {P = Means m} es)) (keeps_InList m a (renamed m a) _ _ h (all_over m es));
  is_null = λ a h. by_node m _ _ (renamed_IsNull m a) (keeps_IsNull m a (renamed m a) h);
  not = λ a h. by_node m _ _ (renamed_Not m a) (keeps_Not m a (renamed m a) h);
  all = λ es. by_node m _ _ (renamed_All m (exprs {P = Means m} es)) (keeps_All m _ _ (all_over m es));
  any = λ es. by_node m _ _ (renamed_Any m (exprs {P = Means m} es)) (keeps_Any m _ _ (all_over m es));
  is_marked = λ a h. by_node m _ _ (renamed_IsMarked m a) (keeps_IsMarked m a (renamed m a) h);
  branch = branch_means m;
  operation = operation_means m;
})
