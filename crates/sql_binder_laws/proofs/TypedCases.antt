-- A CASE of what is typed is typed.
use Rattle.std.proofs.Common.{◌≡◌, ℕ, max, ◌≤◌, ◌⊎◌, List, [], ◌∷◌, ◌++◌}
use Rattle.std.proofs.Common.{length, map, Bool, true, if◌then◌else◌, refl, sym}
use Rattle.std.proofs.Common.{ap, ◌∙◌, subst, arith, inl, inr}
use Rattle.std.specs.Prelude.{Ok}
use Rattle.std.specs.Cmp.{first_so, second_so}
use Rattle.std.specs.List.{list_all}
use Rattle.std.proofs.lemmas.Bool.{le-leb}
use Rattle.std.proofs.Math.Nat.{le-max_left, le-max_right}
use Rattle.std.proofs.lemmas.Bool.Decides.{Decides-eqb}
use Rattle.expr_scalar.specs.declared.expr.Branch.{Branch}
use Rattle.expr_scalar.specs.declared.expr.Expr.{Expr}
use Rattle.expr_scalar.specs.declared.expr.Expr.TheVariants as e
use Rattle.expr_scalar.specs.declared.kind.Kind.{Kind}
use Rattle.expr_scalar.specs.declared.kind.Kind.TheVariants.{Number, Text, Date}
use Rattle.expr_scalar.specs.Typing.{Sort, Unfit, Nulls, Of, same_kind, sort_of}
use Rattle.expr_scalar.specs.Typing.{branch_sort}
use Rattle.expr_scalar.specs.Typing.{scaled_sort, both_sorts}
use Rattle.expr_scalar.specs.Typing.{all_sorts, branches_sorts}
use Rattle.expr_scalar.specs.Typing.{is_condition as is_test}
use Rattle.expr_scalar.proofs.Typed.{branch_sort_is}
use Rattle.base_value.specs.declared.value.Value.TheVariants as value
use Rattle.sql_binder_steps.specs.declared.collected.BoundKind.{BoundKind}
use Rattle.sql_binder_steps.specs.declared.collected.BoundKind.TheVariants.{Value, Condition}
use Rattle.sql_binder_steps.specs.Kinds as kinds
use Rattle.sql_binder_steps.specs.Values.{branches}
use Rattle.sql_binder_laws.proofs.TypedOperands.{IsOf, went, ok_is, case_is, null_is, AreTests, test_of}
use Rattle.sql_binder_laws.proofs.TypedOperands.{AreOf}

-- ---- CASE

pub tests_of : (vs : List Expr) (js : List BoundKind) (ks : List Kind)
    → list_all kinds.is_condition js ≡ true → AreOf vs js ks → AreTests vs ks
tests_of [] [] ks f a = tt
tests_of [] (j ∷ js) ks f a = absurd a
tests_of (v ∷ vs) [] ks f a = absurd a
tests_of (v ∷ vs) (j ∷ js) ks f a = (
  test_of j v ks (first_so (kinds.is_condition j) (list_all kinds.is_condition js) f) a.0,
  tests_of vs js ks (second_so (kinds.is_condition j) (list_all kinds.is_condition js) f) a.1,
)

-- a kind that CASE brings to another
abbrev pub RaisesKind : Kind → Kind → Type 0
RaisesKind (Number s) (Number t) = s ≤ t
RaisesKind Text Text = Unit {0}
RaisesKind Date Date = Unit {0}
RaisesKind j k = ⊥

abbrev pub Raises : BoundKind → Kind → Type 0
Raises (Value j) k = RaisesKind j k
Raises Condition k = ⊥

raises_self : (k : Kind) → RaisesKind k k
raises_self (Number s) = omega arith
raises_self Text = tt
raises_self Date = tt

raises_on : (i j k : Kind) → RaisesKind i j → RaisesKind j k → RaisesKind i k
raises_on (Number s) (Number t) (Number u) p q = let a : s ≤ t = p in let b : t ≤ u = q in
    omega arith
raises_on (Number s) (Number t) Text p q = absurd q
raises_on (Number s) (Number t) Date p q = absurd q
raises_on (Number s) Text k p q = absurd p
raises_on (Number s) Date k p q = absurd p
raises_on Text (Number t) k p q = absurd p
raises_on Text Text Text p q = tt
raises_on Text Text (Number t) p q = absurd q
raises_on Text Text Date p q = absurd q
raises_on Text Date k p q = absurd p
raises_on Date (Number t) k p q = absurd p
raises_on Date Text k p q = absurd p
raises_on Date Date Date p q = tt
raises_on Date Date (Number t) p q = absurd q
raises_on Date Date Text p q = absurd q

-- what two branches are brought to
record Merged (j : Kind) (k : BoundKind) (m : Kind) : Type 0 where
  left : RaisesKind j m
  right : Raises k m

merged : (j : Kind) (k : BoundKind) (m : Kind) → kinds.merged_kind j k ≡ Ok m → Merged j k m
merged (Number s) (Value (Number t)) m h =
    subst (λ n. Merged (Number s) (Value (Number t)) n) (ok_is (Number (max s t)) m h)
    (record { left = le-max_left s t; right = le-max_right s t })
merged (Number s) (Value Text) m h = cc
merged (Number s) (Value Date) m h = cc
merged (Number s) Condition m h = cc
merged Text (Value Text) m h =
    subst (λ n. Merged Text (Value Text) n) (ok_is Text m h) (record { left = tt; right = tt })
merged Text (Value (Number t)) m h = cc
merged Text (Value Date) m h = cc
merged Text Condition m h = cc
merged Date (Value Date) m h =
    subst (λ n. Merged Date (Value Date) n) (ok_is Date m h) (record { left = tt; right = tt })
merged Date (Value (Number t)) m h = cc
merged Date (Value Text) m h = cc
merged Date Condition m h = cc

-- all are brought to one kind
abbrev pub AllRaise : List BoundKind → Kind → Type 0
AllRaise [] k = Unit {0}
AllRaise (j ∷ js) k = Raises j k × AllRaise js k

raises_by : (k : BoundKind) (m n : Kind) → Raises k m → RaisesKind m n → Raises k n
raises_by (Value j) m n p q = raises_on j m n p q
raises_by Condition m n p q = absurd p

record Common (j : Kind) (js : List BoundKind) (m : Kind) : Type 0 where
  first : RaisesKind j m
  others : AllRaise js m

common_of : (j : Kind) (js : List BoundKind) (m : Kind) → kinds.common_from j js ≡ Ok m
    → Common j js m
common_of j [] m h = record {
  first = subst (RaisesKind j) (ok_is j m h) (raises_self j);
  others = tt;
}
common_of j (k ∷ js) m h =
    let w = went (kinds.merged_kind j k) _ m h in
    let both = merged j k w.it w.is in
    let rest = common_of w.it js m w.gives in
    record {
      first = raises_on j w.it m both.left rest.first;
      others = (raises_by k w.it m both.right rest.first, rest.others);
    }

value_kind_is : (k : BoundKind) (j : Kind) → kinds.value_kind k ≡ Ok j → k ≡ Value j
value_kind_is (Value i) j h = ap Value (ok_is i j h)
value_kind_is Condition j h = cc

pub all_raise : (js : List BoundKind) (m : Kind) → kinds.common_kind js ≡ Ok m → AllRaise js m
all_raise [] m h = cc
all_raise (k ∷ js) m h =
    let w = went (kinds.value_kind k) _ m h in
    let c = common_of w.it js m w.gives in
    (subst (λ (i : BoundKind). Raises i m) (sym (value_kind_is k w.it w.is)) c.first, c.others)

scaled_number : (s t : ℕ) → s ≤ t → scaled_sort t (Of (Number s)) ≡ Of (Number t)
scaled_number s t h = rw (le-leb s t h) refl

pub scaled_is : (j : BoundKind) (m : Kind) (v : Expr) (ks : List Kind) → Raises j m → IsOf v j ks
    → scaled_sort (kinds.scale_of m) (sort_of v ks) ≡ Of m
scaled_is (Value (Number s)) (Number t) v ks r h = ap (scaled_sort t) h ∙ scaled_number s t r
scaled_is (Value Text) Text v ks r h = ap (scaled_sort 0) h
scaled_is (Value Date) Date v ks r h = ap (scaled_sort 0) h
scaled_is (Value (Number s)) Text v ks r h = absurd r
scaled_is (Value (Number s)) Date v ks r h = absurd r
scaled_is (Value Text) (Number t) v ks r h = absurd r
scaled_is (Value Text) Date v ks r h = absurd r
scaled_is (Value Date) (Number t) v ks r h = absurd r
scaled_is (Value Date) Text v ks r h = absurd r
scaled_is Condition m v ks r h = absurd r

same_self : (k : Kind) → same_kind k k ≡ true
same_self (Number s) = (Decides-eqb s s).1 refl
same_self Text = refl
same_self Date = refl

both_same : (k : Kind) → both_sorts (Of k) (Of k) ≡ Of k
both_same k = rw (same_self k) refl

-- what the branches give
branch_is : (w v : Expr) (k : Kind) (m : ℕ) (ks : List Kind) → is_test w ks ≡ true
    → scaled_sort m (sort_of v ks) ≡ Of k
    → scaled_sort m (branch_sort (record { when = w; gives = v }) ks) ≡ Of k
branch_is w v k m ks t h =
    let b : Branch = record { when = w; gives = v } in
    ap (scaled_sort m) (branch_sort_is b ks
    ∙ ap (λ (c : Bool). if c then sort_of v ks else Unfit) t) ∙ h

both_step : (x y : Sort) (m : Kind) → x ≡ Of m → (y ≡ Of m) ⊎ (y ≡ Nulls) → both_sorts x y ≡ Of m
both_step x y m p (inl q) = rw (p, q) (both_same m)
both_step x y m p (inr q) = rw (p, q) refl

both_last : (x y : Sort) (m : Kind) → (x ≡ Of m) ⊎ (x ≡ Nulls) → y ≡ Of m → both_sorts x y ≡ Of m
both_last x y m (inl p) q = rw (p, q) (both_same m)
both_last x y m (inr p) q = rw (p, q) refl

-- what all branches give
abbrev branches_sort : Kind → List Expr → List Expr → List Kind → Sort
branches_sort m ws vs ks =
    all_sorts (map (scaled_sort (kinds.scale_of m))
    (branches_sorts (map branch_sort (branches ws vs)) ks))

branches_are : (ws vs : List Expr) (js : List BoundKind) (m : Kind) (ks : List Kind)
    → length ws ≡ length vs → AreTests ws ks → AreOf vs js ks → AllRaise js m
    → (branches_sort m ws vs ks ≡ Of m) ⊎ (branches_sort m ws vs ks ≡ Nulls)
branches_are [] [] js m ks same t a r = inr refl
branches_are [] (v ∷ vs) js m ks same t a r = absurd (let no : ⊥ = omega (arith, same) in no)
branches_are (w ∷ ws) [] js m ks same t a r = absurd (let no : ⊥ = omega (arith, same) in no)
branches_are (w ∷ ws) (v ∷ vs) [] m ks same t a r = absurd a
branches_are (w ∷ ws) (v ∷ vs) (j ∷ js) m ks same t a r =
    inl (both_step _ _ m (branch_is w v m (kinds.scale_of m) ks t.0 (scaled_is j m v ks r.0 a.0))
    (branches_are ws vs js m ks (omega (arith, same)) t.1 a.1 r.1))

pub case_typed : (ws vs : List Expr) (is js : List BoundKind) (m : Kind) (ks : List Kind)
    → length ws ≡ length vs → list_all kinds.is_condition is ≡ true
    → kinds.common_kind js ≡ Ok m → AreOf ws is ks → AreOf vs js ks
    → IsOf (e.Case (kinds.scale_of m) (branches ws vs) (e.Literal value.Null)) (Value m) ks
case_typed ws vs is [] m ks same f h a b = cc
case_typed ws [] is (j ∷ js) m ks same f h a b = absurd b
case_typed [] (v ∷ vs) is (j ∷ js) m ks same f h a b =
    absurd (let no : ⊥ = omega (arith, same) in no)
case_typed (w ∷ ws) (v ∷ vs) is (j ∷ js) m ks same f h a b =
    let t : AreTests (w ∷ ws) ks = tests_of (w ∷ ws) is ks f a in
    let r : AllRaise (j ∷ js) m = all_raise (j ∷ js) m h in
    case_is (kinds.scale_of m) (branches (w ∷ ws) (v ∷ vs)) (e.Literal value.Null) ks
    ∙ both_step _ _ m
    (both_step _ _ m (branch_is w v m (kinds.scale_of m) ks t.0 (scaled_is j m v ks r.0 b.0))
    (branches_are ws vs js m ks (omega (arith, same)) t.1 b.1 r.1))
    (inr (ap (scaled_sort (kinds.scale_of m)) (null_is ks)))

raise_split : (js : List BoundKind) (k : BoundKind) (m : Kind) → AllRaise (js ++ k ∷ []) m
    → AllRaise js m × Raises k m
raise_split [] k m h = (tt, h.0)
raise_split (j ∷ js) k m h = let r = raise_split js k m h.1 in ((h.0, r.0), r.1)

pub case_else_typed : (ws vs : List Expr) (is js : List BoundKind) (other : Expr) (k : BoundKind)
    (m : Kind) (ks : List Kind) → length ws ≡ length vs → list_all kinds.is_condition is ≡ true
    → kinds.common_kind (js ++ k ∷ []) ≡ Ok m → AreOf ws is ks → AreOf vs js ks → IsOf other k ks
    → IsOf (e.Case (kinds.scale_of m) (branches ws vs) other) (Value m) ks
case_else_typed ws vs is js other k m ks same f h a b o =
    let r = raise_split js k m (all_raise (js ++ k ∷ []) m h) in
    case_is (kinds.scale_of m) (branches ws vs) other ks
    ∙ both_last _ _ m (branches_are ws vs js m ks same (tests_of ws is ks f a) b r.0)
    (scaled_is k m other ks r.1 o)
