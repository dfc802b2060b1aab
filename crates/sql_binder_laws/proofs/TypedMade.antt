-- What a node makes of operands that are bound and typed is typed.
use Rattle.std.proofs.Common.{◌≡◌, ℕ, ◌+◌, nat_lt, List, [], ◌∷◌, ◌++◌, length, Bool, true}
use Rattle.std.proofs.Common.{false, if◌then◌else◌, refl, subst, arith}
use Rattle.std.specs.Prelude.{Option, Ok, Err}
use Rattle.std.specs.Cmp.{first_so, second_so}
use Rattle.expr_operators.specs.declared.operator.Arithmetic.{Arithmetic}
use Rattle.base_refusals.specs.declared.bind.BindRefusal.TheVariants.{TypeMismatch}
use Rattle.expr_scalar.specs.declared.expr.Expr.{Expr as Scalar}
use Rattle.expr_scalar.specs.declared.expr.Operation.{Operation}
use Rattle.expr_scalar.specs.declared.kind.Kind.{Kind}
use Rattle.sql_ast.specs.declared.words.Adding.{Adding}
use Rattle.sql_ast.specs.declared.words.Comparison.{Comparison as Compared}
use Rattle.sql_ast.specs.declared.words.Span.{Span}
use Rattle.sql_binder_steps.specs.declared.collected.BoundKind.{BoundKind}
use Rattle.sql_binder_steps.specs.declared.collected.Chain.{Chain}
use Rattle.sql_binder_steps.specs.declared.collected.Conditions.{Conditions}
use Rattle.sql_binder_steps.specs.declared.collected.Operands.{Operands}
use Rattle.sql_binder_steps.specs.declared.collected.Typed.{Typed}
use Rattle.sql_binder_steps.specs.Kinds as kinds
use Rattle.sql_binder_steps.specs.Steps.{Checked}
use Rattle.sql_binder_steps.specs.Values.{negative, compared}
use Rattle.sql_binder_steps.specs.Values.{comparison_of, null_test, between, liked, in_list, denied}
use Rattle.sql_binder_steps.specs.Values.{extracted, part_of, substring, begun, operated, moved_by}
use Rattle.sql_binder_steps.specs.Values.{interval_count, shifted, ended_by, ended, first_condition}
use Rattle.sql_binder_steps.specs.Values.{next_condition, all_of, any_of}
use Rattle.sql_binder_steps.specs.Values.{case_of, case_else_of, chosen}
use Rattle.sql_binder_laws.proofs.TypedOperands.{went, ok_is, fit, IsOf, IsChain, AreOf, AreTests}
use Rattle.sql_binder_laws.proofs.TypedOperands.{negative_typed, compared_typed}
use Rattle.sql_binder_laws.proofs.TypedOperands.{null_test_typed, between_typed, liked_typed}
use Rattle.sql_binder_laws.proofs.TypedOperands.{denied_typed, extracted_typed, substring_typed}
use Rattle.sql_binder_laws.proofs.TypedOperands.{in_list_typed, operated_typed, chain_typed}
use Rattle.sql_binder_laws.proofs.TypedOperands.{chain_alone}
use Rattle.sql_binder_laws.proofs.TypedOperands.{date_typed, tests_more, test_of, all_typed, any_typed}
use Rattle.sql_binder_laws.proofs.TypedOperands.{begun_typed}
use Rattle.sql_binder_laws.proofs.TypedCases.{case_typed, case_else_typed}

pub length_more : {X : Type 0} (xs : List X) (x : X) → length (xs ++ x ∷ []) ≡ length xs + 1
length_more [] x = refl
length_more (y ∷ xs) x = let h = length_more xs x in omega (arith, h)

-- what is made of bound operands

abbrev pub TypedIs : Typed → List Kind → Type 0
TypedIs t ks = IsOf t.value t.kind ks

pub negative_is : (x r : Typed) (ks : List Kind) → negative x ≡ Ok r → TypedIs x ks → TypedIs r ks
unfolding negative
negative_is x r ks h p = let f = fit _ _ r h in
    subst (λ (y : Typed). TypedIs y ks) f.same (negative_typed x.value x.kind ks f.test p)

pub compared_is : (c : Compared) (x y r : Typed) (ks : List Kind) → compared c x y ≡ Ok r
    → TypedIs x ks
    → TypedIs y ks → TypedIs r ks
unfolding compared
compared_is c x y r ks h p q = let f = fit _ _ r h in
    subst (λ (z : Typed). TypedIs z ks) f.same
    (compared_typed (comparison_of c) x.kind y.kind x.value y.value ks f.test p q)

pub null_test_is : (x r : Typed) (ks : List Kind) → null_test x ≡ Ok r → TypedIs x ks → TypedIs r ks
unfolding null_test
null_test_is x r ks h p = let f = fit _ _ r h in
    subst (λ (y : Typed). TypedIs y ks) f.same (null_test_typed x.kind x.value ks f.test p)

pub between_is : (x y z r : Typed) (ks : List Kind) → between x y z ≡ Ok r → TypedIs x ks
    → TypedIs y ks
    → TypedIs z ks → TypedIs r ks
unfolding between
between_is x y z r ks h p q o = let f = fit _ _ r h in
    subst (λ (t : Typed). TypedIs t ks) f.same
    (between_typed x.kind y.kind z.kind x.value y.value z.value ks f.test p q o)

pub liked_is : (pattern : List ℕ) (x r : Typed) (ks : List Kind) → liked x pattern ≡ Ok r
    → TypedIs x ks
    → TypedIs r ks
unfolding liked
liked_is pattern x r ks h p = let f = fit _ _ r h in
    subst (λ (y : Typed). TypedIs y ks) f.same (liked_typed x.kind x.value pattern ks f.test p)

pub denied_is : (x r : Typed) (ks : List Kind) → denied x ≡ Ok r → TypedIs x ks → TypedIs r ks
unfolding denied
denied_is x r ks h p = let f = fit _ _ r h in
    subst (λ (y : Typed). TypedIs y ks) f.same (denied_typed x.kind x.value ks f.test p)

pub extracted_is : (s : Span) (x r : Typed) (ks : List Kind) → extracted s x ≡ Ok r → TypedIs x ks
    → TypedIs r ks
unfolding extracted
extracted_is s x r ks h p = let f = fit _ _ r h in
    subst (λ (y : Typed). TypedIs y ks) f.same
    (extracted_typed (part_of s) x.kind x.value ks f.test p)

pub substring_is : (from count : ℕ) (x r : Typed) (ks : List Kind) → substring x from count ≡ Ok r
    → TypedIs x ks → TypedIs r ks
unfolding substring
substring_is from count x r ks h p = let f = fit _ _ r h in
    subst (λ (y : Typed). TypedIs y ks) f.same
    (substring_typed x.kind x.value from count ks
    (first_so (kinds.is_text x.kind) (nat_lt 0 from) f.test) p)

pub in_list_is : (x : Typed) (o : Operands) (r : Typed) (ks : List Kind) → in_list x o ≡ Ok r
    → TypedIs x ks → AreOf o.values o.kinds ks → TypedIs r ks
unfolding in_list
in_list_is x o r ks h p q = let f = fit _ _ r h in
    subst (λ (z : Typed). TypedIs z ks) f.same
    (in_list_typed x.kind x.value o.values o.kinds ks f.test p q)

-- ---- chains

abbrev pub ChainIs : Chain → List Kind → Type 0
ChainIs c ks = IsChain c.value c.operations c.kind ks

pub begun_is : (x : Typed) (ks : List Kind) → TypedIs x ks → ChainIs (begun x) ks
begun_is x ks p = begun_typed x.value x.kind ks p

pub operated_is : (operator : Arithmetic) (c : Chain) (b : Typed) (d : Chain) (ks : List Kind)
    → operated operator c b ≡ Ok d → ChainIs c ks → TypedIs b ks → ChainIs d ks
unfolding operated
operated_is operator c b d ks h p q =
    let w = went (kinds.operated_kind operator c.kind b.kind) _ d h in
    subst (λ (x : Chain). ChainIs x ks) (ok_is _ d w.gives)
    (operated_typed operator c.value c.operations c.kind b.value b.kind w.it ks w.is p q)

pub shifted_is : (operator : Adding) (c d : Chain) (text : List ℕ) (s : Span) (ks : List Kind)
    → shifted operator c text s ≡ Ok d → ChainIs d ks
unfolding shifted
shifted_is operator c d text s ks h =
    let w = went (moved_by c.date operator (interval_count text) s) _ d h in
    subst (λ (x : Chain). ChainIs x ks) (ok_is _ d w.gives) (date_typed w.it ks)

ended_by_is : (v : Scalar) (os : List Operation) (k : BoundKind) (d : Option ℕ) (ks : List Kind)
    → IsChain v os k ks → TypedIs (ended_by v os k d) ks
ended_by_is v [] k d ks p = chain_alone v k ks p
ended_by_is v (o ∷ os) k d ks p = chain_typed v (o ∷ os) k ks p (λ none. cc)

pub ended_is : (c : Chain) (ks : List Kind) → ChainIs c ks → TypedIs (ended c) ks
unfolding ended
ended_is c ks p = ended_by_is c.value c.operations c.kind c.date ks p

-- ---- AND and OR

abbrev pub TestsIn : Conditions → List Kind → Type 0
TestsIn c ks = c.are_conditions ≡ true → AreTests c.values ks

pub first_is : (x : Typed) (ks : List Kind) → TypedIs x ks → TestsIn (first_condition x) ks
unfolding first_condition
first_is x ks p = λ t. (test_of x.kind x.value ks t p, tt)

pub next_is : (c : Conditions) (x : Typed) (d : Conditions) (ks : List Kind)
    → next_condition c x ≡ Ok d
    → TestsIn c ks → TypedIs x ks → TestsIn d ks
unfolding next_condition
next_is c x d ks h p q =
    let f = fit _ _ d h in
    let a = first_so c.are_conditions (kinds.is_condition x.kind) f.test in
    let b = second_so c.are_conditions (kinds.is_condition x.kind) f.test in
    subst (λ (y : Conditions). TestsIn y ks) f.same
    (λ t. tests_more c.values x.value ks (p a) (test_of x.kind x.value ks b q))

pub all_of_is : (c : Conditions) (r : Typed) (ks : List Kind) → all_of c ≡ Ok r → TestsIn c ks
    → TypedIs r ks
unfolding all_of
all_of_is c r ks h p = let f = fit _ _ r h in
    subst (λ (y : Typed). TypedIs y ks) f.same (all_typed c.values ks (p f.test))

pub any_of_is : (c : Conditions) (r : Typed) (ks : List Kind) → any_of c ≡ Ok r → TestsIn c ks
    → TypedIs r ks
unfolding any_of
any_of_is c r ks h p = let f = fit _ _ r h in
    subst (λ (y : Typed). TypedIs y ks) f.same (any_typed c.values ks (p f.test))

-- ---- CASE

tested_case : {A : Type 0} (b : Bool) (r : Checked A) (a : A)
    → (let x : Checked A = if b then r else Err TypeMismatch in x ≡ Ok a) → (b ≡ true) × (r ≡ Ok a)
tested_case true r a h = (refl, h)
tested_case false r a h = cc

pub case_is : (whens gives : Operands) (r : Typed) (ks : List Kind) → case_of whens gives ≡ Ok r
    → length whens.values ≡ length gives.values
    → AreOf whens.values whens.kinds ks → AreOf gives.values gives.kinds ks → TypedIs r ks
unfolding case_of chosen
case_is whens gives r ks h same p q =
    let t = tested_case _ _ r h in
    let w = went (kinds.common_kind gives.kinds) _ r t.1 in
    subst (λ (y : Typed). TypedIs y ks) (ok_is _ r w.gives)
    (case_typed whens.values gives.values whens.kinds gives.kinds w.it ks same t.0 w.is p q)

pub case_else_is : (whens gives : Operands) (x r : Typed) (ks : List Kind)
    → case_else_of whens gives x ≡ Ok r → length whens.values ≡ length gives.values
    → AreOf whens.values whens.kinds ks → AreOf gives.values gives.kinds ks → TypedIs x ks
    → TypedIs r ks
unfolding case_else_of chosen
case_else_is whens gives x r ks h same p q o =
    let t = tested_case _ _ r h in
    let w = went (kinds.common_kind (gives.kinds ++ x.kind ∷ [])) _ r t.1 in
    subst (λ (y : Typed). TypedIs y ks) (ok_is _ r w.gives)
    (case_else_typed whens.values gives.values whens.kinds gives.kinds x.value x.kind w.it ks same
    t.0 w.is p q o)
