-- What is asked of rows whose own columns stand for a domain's.
use Rattle.std.proofs.Common.{◌≡◌, ℕ, ◌+◌, ◌-◌, ◌<◌, ◌≤◌, List, [], ◌∷◌, ◌++◌, Bool, true, false, refl, sym, ◌∙◌, ap, subst, arith, length, take, get_or, ℤ, ◌&&◌}
use Rattle.std.specs.Prelude.{min, not, IsTrue, Option, Some, None, slice_index_or}
use Rattle.std.specs.Ordering.{int_eq, int_cmp, nat_cmp, is_eq}
use Rattle.std.specs.Cmp.{unsigned_ties}
use Rattle.std.specs.Cmp.Lexicographic.{texts_ties}
use Rattle.std.proofs.lemmas.Bool.{true≢false, eq-eqb}
use Rattle.std.proofs.lemmas.List.{take_more, length-map, get_or_append_left, get_or-append_right}
use Rattle.base_decimal.proofs.Powers.{scaled_alike}
use Rattle.base_row_laws.specs.Rows.{columns}
use Rattle.base_value.specs.declared.value.Value.{Value}
use Rattle.base_value.specs.declared.value.Value.TheVariants as value
use Rattle.base_value.specs.declared.value.Value.TheVariants.{Null}
use Rattle.base_value.specs.Truth.{truth_rank}
use Rattle.base_value.proofs.Identity.{value_identity}
use Rattle.expr_operators.specs.declared.operator.Comparison.{Comparison}
use Rattle.expr_operators.specs.declared.operator.Comparison.TheVariants.{Equal}
use Rattle.expr_operators.specs.Operators.{truth_of, compared}
use Rattle.expr_scalar.specs.declared.expr.Expr.{Expr}
use Rattle.expr_scalar.specs.declared.expr.Expr.TheVariants as e
use Rattle.expr_scalar.specs.declared.kind.Kind.{Kind}
use Rattle.expr_scalar.specs.declared.kind.Kind.TheVariants as kind
use Rattle.expr_conditions.specs.Ranks.{rank_of, all_rank}
use Rattle.expr_conditions.proofs.Ranks.{all_rank-le, all_rank-push, rank_All}
use Rattle.plan_unnested_nodes.specs.declared.origins.Known.{Known}
use Rattle.plan_unnested_nodes.specs.Domains.{is_unchanged}
use Rattle.plan_unnested_nodes.specs.OwnRows.{own_row, IsAt, EqualsItself, IsAlwaysTrue, IsPutAsked, AreAsked, AreAskedOfAll}
use Rattle.plan_unnested_nodes.specs.PlanKinds.{ColumnKinds, can_stand, FitsKinds}
use Rattle.plan_unnested_nodes.proofs.Asked.{rank_equal, compared_columns}
use Rattle.plan_unnested_nodes.proofs.Owned.{rank_within}
use Rattle.plan_unnested_nodes.proofs.Turns.{columns_at}

no : {A : Type 0} → false ≡ true → A
no h = absurd (true≢false (sym h))

true_rank_of : (b : Bool) → b ≡ true → truth_rank (truth_of b) ≡ 5
true_rank_of b e = rw e refl

number_equal : (s : ℕ) (c : ℤ) → truth_rank (compared Equal (value.Number s c) (value.Number s c)) ≡ 5
number_equal s c =
    let e : int_eq c c ≡ true = ap (λ t. t && int_eq c c) (sym (eq-eqb s s refl)) ∙ value_identity.meets (value.Number s c) in
    ap (λ o. truth_rank (truth_of (is_eq o))) (sym (scaled_alike c c s s refl)) ∙ true_rank_of (is_eq (int_cmp c c)) e

-- a value that is no null and no fault is equal to itself
equal_itself : (k : Kind) (v : Value) → IsTrue (can_stand (Some (record { kind = k; may_be_null = false })) v) → truth_rank (compared Equal v v) ≡ 5
equal_itself k Null h = no h
equal_itself k (value.Number s c) h = number_equal s c
equal_itself k (value.Date d) h = true_rank_of (is_eq (nat_cmp d d)) (sym (unsigned_ties d d) ∙ value_identity.meets (value.Date d))
equal_itself k (value.Text t) h = true_rank_of _ (sym (texts_ties t t) ∙ value_identity.meets (value.Text t))
equal_itself k (value.Fault f) h = no h

is_false : (b : Bool) → IsTrue (not b) → b ≡ false
is_false true h = no h
is_false false h = refl

pub equals_itself : (known : Known) {o : Option Known} → o ≡ Some known → IsTrue (not known.may_be_null) → EqualsItself o
equals_itself known is never v h =
    equal_itself known.kind v
    (subst (λ b. IsTrue (can_stand (Some (record { kind = known.kind; may_be_null = b })) v)) (is_false known.may_be_null never) (subst (λ o. IsTrue (can_stand o v)) is h))

-- a place before the row itself, and one within it
pub at_own : (own : List ℕ) (place c : ℕ) → place < length own → c ≡ slice_index_or own place 0 → IsAt own place c
at_own own place c h is t =
    get_or_append_left (columns Null own t) t Null place (let l = length-map own (λ k. slice_index_or t k Null) in omega (arith, h, l)) ∙ columns_at own place c t h is

pub at_row : (own : List ℕ) (place c : ℕ) → length own ≤ place → c ≡ place - length own → IsAt own place c
at_row own place c h is t =
    let l = length-map own (λ k. slice_index_or t k Null) in
    get_or-append_right (columns Null own t) t (length own) place Null l h ∙ ap (λ j. slice_index_or t j Null) (sym is)

-- the equality of a column with itself says True where it is never null
pub always_true : (ks : ColumnKinds) (own : List ℕ) {c first second u v : Expr} {o : Comparison} {i j a b : ℕ} → c ≡ e.Compare o first second → o ≡ Equal → u ≡ first → u ≡ e.Column i
    → v ≡ second → v ≡ e.Column j → IsAt own i a → IsAt own j b → a ≡ b → EqualsItself (slice_index_or ks a None) → IsAlwaysTrue ks own c
always_true ks own {c = c} {first = first} {second = second} {u = u} {v = v} {o = o} {i = i} {j = j} {a = a} {b = b} is same f p g q at_i at_j one itself t fit =
    let row = own_row own t in
    let x = slice_index_or t a Null in
    ap (λ z. rank_of z row) (compared_columns c first second u v o i j is same f p g q) ∙ rank_equal i j row
    ∙ ap (λ z. truth_rank (compared Equal z (slice_index_or row j Null))) (at_i t)
    ∙ ap (λ z. truth_rank (compared Equal x z)) (at_j t ∙ ap (λ k. slice_index_or t k Null) (sym one)) ∙ itself x (fit a)

-- conditions one after the other
pub not_put : {ks : ColumnKinds} {own : List ℕ} {x : Expr} {old new : List Expr} → IsAlwaysTrue ks own x → new ≡ old → IsPutAsked ks own x old new
not_put {own = own} {x = x} {old = old} always same = record {
  says = λ t fit.
      let row = own_row own t in
      let l = all_rank-le old row in
      let a : rank_of x row ≡ 5 = always t fit in
      ap (λ es. all_rank es row) same ∙ omega (arith, l, a);
}

pub is_put : {ks : ColumnKinds} {own : List ℕ} {x copied : Expr} {old new : List Expr} → copied ≡ x → new ≡ old ++ copied ∷ [] → IsPutAsked ks own x old new
is_put {own = own} {x = x} {copied = copied} {old = old} same is = record {
  says = λ t fit.
      let row = own_row own t in
      ap (λ es. all_rank es row) is ∙ all_rank-push old copied row ∙ ap (λ o. min (all_rank old row) (rank_of o row)) same;
}

pub none_asked : (ks : ColumnKinds) (own : List ℕ) → AreAskedOfAll ks own [] []
none_asked ks own = record { says = λ t fit. refl }

pub more_asked : (ks : ColumnKinds) (own : List ℕ) (es asked now : List Expr) (i : ℕ) (x : Expr) → i < length es → x ≡ get_or es i x → AreAskedOfAll ks own (take i es) asked
    → IsPutAsked ks own x asked now → AreAskedOfAll ks own (take (i + 1) es) now
more_asked ks own es asked now i x h is a p = record {
  says = λ t fit.
      let row = own_row own t in
      p.says t fit ∙ ap (λ k. min k (rank_of x row)) (a.says t fit) ∙ sym (all_rank-push (take i es) x row)
      ∙ ap (λ l. all_rank l row) (ap (λ y. take i es ++ y ∷ []) is ∙ sym (take_more es i x h));
}

pub one_asked : {ks : ColumnKinds} {own : List ℕ} {c : Expr} {none asked : List Expr} → none ≡ [] → IsPutAsked ks own c none asked → AreAsked ks own c asked
one_asked {own = own} {c = c} {none = none} is p = record {
  says = λ t fit.
      let row = own_row own t in
      let l = rank_within c row in
      let z : all_rank none row ≡ 5 = ap (λ es. all_rank es row) is in
      p.says t fit ∙ omega (arith, l, z);
}

pub all_asked : {ks : ColumnKinds} {own : List ℕ} {c : Expr} {es seen asked : List Expr} → c ≡ e.All es → seen ≡ es → AreAskedOfAll ks own seen asked → AreAsked ks own c asked
all_asked {own = own} {c = c} {seen = seen} is same a = record {
  says = λ t fit. let row = own_row own t in a.says t fit ∙ sym (rank_All seen row) ∙ ap (λ o. rank_of o row) (ap e.All same ∙ sym is);
}
