-- Columns of rows that a condition asks to be equal to a domain's.
use Rattle.std.proofs.Common.{◌≡◌, ℕ, zero, suc, ◌+◌, ◌<◌, ◌≤◌, ◌⊎◌, List, [], ◌∷◌, Bool, true, false, refl, sym, ◌∙◌, ap, subst, arith, inl, inr, length, get_or}
use Rattle.std.specs.Prelude.{map, max, not, int_lt, pos, IsTrue, Option, Some, None, slice_index_or, ◌==◌, ◌&&◌, ◌||◌}
use Rattle.std.proofs.lemmas.Bool.{true≢false, eqb-true}
use Rattle.base_row_laws.specs.Ranked.{Ranked}
use Rattle.base_row_laws.specs.Bags.{Each}
use Rattle.base_value.specs.declared.value.Value.{Value}
use Rattle.base_value.specs.declared.value.Value.TheVariants.{Null, Fault, Number, Text, Date}
use Rattle.base_value.specs.Truth.{truth_rank}
use Rattle.expr_operators.specs.declared.operator.Comparison.{Comparison}
use Rattle.expr_operators.specs.declared.operator.Comparison.TheVariants.{Equal}
use Rattle.expr_operators.specs.Operators.{compared}
use Rattle.expr_scalar.specs.declared.expr.Expr.{Expr}
use Rattle.expr_scalar.specs.declared.expr.Expr.TheVariants as e
use Rattle.expr_scalar.specs.declared.kind.Kind.{Kind}
use Rattle.expr_scalar.specs.declared.kind.Kind.TheVariants as kind
use Rattle.expr_scalar.specs.Meaning.{value}
use Rattle.expr_scalar.specs.Typing.{same_kind}
use Rattle.expr_scalar.proofs.Opened.{truth_Compare, value_Column}
use Rattle.expr_conditions.specs.Ranks.{rank_of, all_rank}
use Rattle.expr_conditions.proofs.Ranks.{rank_All}
use Rattle.base_schema.specs.declared.column.ColumnKind.{ColumnKind}
use Rattle.base_schema.specs.declared.column.ColumnKind.TheVariants as column
use Rattle.base_schema.specs.declared.column.LineColumn.{LineColumn}
use Rattle.base_schema.specs.Kinds.{is_narrow, is_of_kind, can_hold, can_hold_row}
use Rattle.base_schema.proofs.Columns.{may_hold}
use Rattle.plan_algebra.proofs.Fits.{first_of_both, second_of_both}
use Rattle.plan_unnested_nodes.specs.declared.domain.Origin.{Origin}
use Rattle.plan_unnested_nodes.specs.Domains.{is_unchanged, KeepsNotes}
use Rattle.plan_unnested_nodes.specs.OwnColumns.{stored_as, kind_known, KeepsKind, AreNoted, columns_equal, IsAskedOf, IsAskedOfAll, StandsFor}
use Rattle.plan_unnested_nodes.specs.declared.origins.Known.{Known}
use Rattle.plan_unnested_nodes.specs.PlanKinds.{known_as, can_stand, FitsKinds}

pub rank_equal : (a b : ℕ) (row : List Value) → rank_of (e.Compare Equal (e.Column a) (e.Column b)) row ≡ truth_rank (compared Equal (get_or row a Null) (get_or row b Null))
unfolding rank_of
rank_equal a b row =
    ap truth_rank (truth_Compare Equal (e.Column a) (e.Column b) row)
    ∙ ap (λ u. truth_rank (compared Equal u (value (e.Column b) row))) (value_Column a row) ∙ ap (λ v. truth_rank (compared Equal (get_or row a Null) v)) (value_Column b row)

-- what an equality of two columns, of which one is k and the other one stands n columns further, says
equality_says : (c : Expr) (i j n k x : ℕ) → c ≡ e.Compare Equal (e.Column i) (e.Column j) → ((i ≡ k) × (j ≡ n + x)) ⊎ ((j ≡ k) × (i ≡ n + x)) → (row : List Value)
    → rank_of c row ≤ columns_equal k (n + x) row
equality_says c i j n k x is (inl (p, q)) row =
    let u = get_or row k Null in
    let v = get_or row (n + x) Null in
    let r : rank_of c row ≡ truth_rank (compared Equal u v) =
    ap (λ o. rank_of o row) is ∙ rank_equal i j row ∙ ap (λ m. truth_rank (compared Equal (get_or row m Null) (get_or row j Null))) p
    ∙ ap (λ m. truth_rank (compared Equal u (get_or row m Null))) q in
    let m : truth_rank (compared Equal u v) ≤ max (truth_rank (compared Equal u v)) (truth_rank (compared Equal v u)) = omega arith in
    omega (arith, r, m)
equality_says c i j n k x is (inr (p, q)) row =
    let u = get_or row k Null in
    let v = get_or row (n + x) Null in
    let r : rank_of c row ≡ truth_rank (compared Equal v u) =
    ap (λ o. rank_of o row) is ∙ rank_equal i j row ∙ ap (λ m. truth_rank (compared Equal (get_or row m Null) (get_or row j Null))) q
    ∙ ap (λ m. truth_rank (compared Equal v (get_or row m Null))) p in
    let m : truth_rank (compared Equal v u) ≤ max (truth_rank (compared Equal u v)) (truth_rank (compared Equal v u)) = omega arith in
    omega (arith, r, m)

-- the equality, as the code reads it
pub compared_columns : (c first second u v : Expr) (o : Comparison) (i j : ℕ) → c ≡ e.Compare o first second → o ≡ Equal → u ≡ first → u ≡ e.Column i → v ≡ second → v ≡ e.Column j
    → c ≡ e.Compare Equal (e.Column i) (e.Column j)
compared_columns c first second u v o i j is same f p g q =
    is ∙ ap (λ d. e.Compare d first second) same ∙ ap (λ z. e.Compare Equal z second) (sym f ∙ p) ∙ ap (e.Compare Equal (e.Column i)) (sym g ∙ q)

pub equality_asks : {ks : List (Option Known)} {n k : ℕ} {q : Kind} {c first second u v : Expr} {o : Comparison} {i j x : ℕ} → c ≡ e.Compare o first second → o ≡ Equal
    → u ≡ first → u ≡ e.Column i → v ≡ second → v ≡ e.Column j → ((i ≡ k) × (j ≡ n + x)) ⊎ ((j ≡ k) × (i ≡ n + x)) → kind_known (slice_index_or ks x None) ≡ Some q → IsAskedOf ks n k q c x
equality_asks {n = n} {k = k} {c = c} {first = first} {second = second} {u = u} {v = v} {o = o} {i = i} {j = j} {x = x} is same f p g q either stored = record {
  stored = stored;
  asks = equality_says c i j n k x (compared_columns c first second u v o i j is same f p g q) either;
}

-- one of the conditions of an AND
all_rank-at : (es : List Expr) (i : ℕ) (d : Expr) (row : List Value) → i < length es → all_rank es row ≤ rank_of (get_or es i d) row
all_rank-at [] i d row h = absurd (omega arith)
all_rank-at (x ∷ es) zero d row h = omega arith
all_rank-at (x ∷ es) (suc i) d row h = let ih = all_rank-at es i d row (omega arith) in omega (arith, ih)

pub all_ask : {ks : List (Option Known)} {n k : ℕ} {q : Kind} (es : List Expr) (i : ℕ) (x : Expr) {b : ℕ} → i < length es → x ≡ get_or es i x → IsAskedOf ks n k q x b
    → IsAskedOfAll ks n k q es b
all_ask {n = n} {k = k} es i x {b = b} h is a = record {
  stored = a.stored;
  asks = λ row.
      let r : rank_of (get_or es i x) row ≡ rank_of x row = ap (λ o. rank_of o row) (sym is) in
      let l = all_rank-at es i x row h in
      let m : rank_of x row ≤ columns_equal k (n + b) row = a.asks row in
      omega (arith, r, l, m);
}

pub and_asks : {ks : List (Option Known)} {n k : ℕ} {q : Kind} {c : Expr} {es seen : List Expr} {b : ℕ} → c ≡ e.All es → seen ≡ es → IsAskedOfAll ks n k q seen b → IsAskedOf ks n k q c b
and_asks {n = n} {k = k} {c = c} {seen = seen} {b = b} is same a = record {
  stored = a.stored;
  asks = λ row.
      let r : rank_of c row ≡ all_rank seen row = ap (λ o. rank_of o row) (is ∙ ap e.All (sym same)) ∙ rank_All seen row in
      let m : all_rank seen row ≤ columns_equal k (n + b) row = a.asks row in
      omega (arith, r, m);
}

-- a kind that is noted, and a column that is asked for
pub stands_for : {ks : List (Option Known)} {notes : List Origin} {n : ℕ} {c : Expr} {k b : ℕ} {q : Kind} → AreNoted notes k q → IsAskedOf ks n k q c b → StandsFor ks notes n c k b
stands_for {q = q} a s = record { kind = q; noted = a; asked = s }

no : {A : Type 0} → false ≡ true → A
no h = absurd (true≢false (sym h))

-- a stored value comes unchanged from its column, a null too
pub stored_unchanged : (k : ColumnKind) (v : Value) → IsTrue (may_hold k v) → IsTrue (is_unchanged (stored_as k) v)
stored_unchanged k Null h = refl
stored_unchanged column.Key (Number s c) h =
    rw (eqb-true s 0 (first_of_both (s == 0) (not (int_lt c (pos 0))) (first_of_both ((s == 0) && not (int_lt c (pos 0))) (is_narrow c) h))) refl
stored_unchanged column.Whole (Number s c) h = rw (eqb-true s 0 (first_of_both (s == 0) (is_narrow c) h)) refl
stored_unchanged column.Decimal (Number s c) h = rw (eqb-true s 2 (first_of_both (s == 2) (is_narrow c) h)) refl
stored_unchanged column.Date (Date d) h = refl
stored_unchanged (column.Text most) (Text t) h = refl
stored_unchanged column.Key (Text t) h = no h
stored_unchanged column.Key (Date t) h = no h
stored_unchanged column.Key (Fault t) h = no h
stored_unchanged column.Whole (Text t) h = no h
stored_unchanged column.Whole (Date t) h = no h
stored_unchanged column.Whole (Fault t) h = no h
stored_unchanged column.Decimal (Text t) h = no h
stored_unchanged column.Decimal (Date t) h = no h
stored_unchanged column.Decimal (Fault t) h = no h
stored_unchanged column.Date (Number s c) h = no h
stored_unchanged column.Date (Text t) h = no h
stored_unchanged column.Date (Fault t) h = no h
stored_unchanged (column.Text most) (Number s c) h = no h
stored_unchanged (column.Text most) (Date t) h = no h
stored_unchanged (column.Text most) (Fault t) h = no h

one_kind : (j k : Kind) → IsTrue (same_kind j k) → j ≡ k
one_kind (kind.Number s) (kind.Number t) h = ap kind.Number (eqb-true s t h)
one_kind kind.Text kind.Text h = refl
one_kind kind.Date kind.Date h = refl
one_kind (kind.Number s) kind.Text h = no h
one_kind (kind.Number s) kind.Date h = no h
one_kind kind.Text (kind.Number t) h = no h
one_kind kind.Text kind.Date h = no h
one_kind kind.Date (kind.Number t) h = no h
one_kind kind.Date kind.Text h = no h

-- a column that is known to be of this kind
pub is_stored : (ks : List (Option Known)) (b : ℕ) (j : Known) (q : Kind) {o : Option Known} → o ≡ slice_index_or ks b None → o ≡ Some j → same_kind j.kind q ≡ true
    → kind_known (slice_index_or ks b None) ≡ Some q
is_stored ks b j q g e h = ap kind_known (sym g ∙ e) ∙ ap (λ k. Some k) (one_kind j.kind q h)

-- a null stands only in a column that may be null
null_held : (k : ColumnKind) (nullable : Bool) → IsTrue ((nullable && true) || is_of_kind k Null) → IsTrue nullable
null_held k true h = refl
null_held column.Key false h = no h
null_held column.Whole false h = no h
null_held column.Decimal false h = no h
null_held column.Date false h = no h
null_held (column.Text most) false h = no h

held : (nullable of_kind : Bool) → IsTrue ((nullable && false) || of_kind) → IsTrue of_kind
held true of_kind h = h
held false of_kind h = h

-- what a column can hold can stand in it
stored_stands : (column : LineColumn) (v : Value) → IsTrue (can_hold column v) → IsTrue (can_stand (known_as column) v)
stored_stands column Null h = null_held column.kind column.nullable h
stored_stands column (Number s c) h = stored_unchanged column.kind (Number s c) (held column.nullable (is_of_kind column.kind (Number s c)) h)
stored_stands column (Text t) h = stored_unchanged column.kind (Text t) (held column.nullable (is_of_kind column.kind (Text t)) h)
stored_stands column (Date d) h = stored_unchanged column.kind (Date d) (held column.nullable (is_of_kind column.kind (Date d)) h)
stored_stands column (Fault f) h = stored_unchanged column.kind (Fault f) (held column.nullable (is_of_kind column.kind (Fault f)) h)

-- a table's row keeps what is known of its columns
pub kinds_fit : (cols : List LineColumn) (row : List Value) → IsTrue (can_hold_row cols row) → FitsKinds (map known_as cols) row
kinds_fit [] row h c = refl
kinds_fit (k ∷ cols) [] h c = no h
kinds_fit (k ∷ cols) (v ∷ row) h zero = stored_stands k v (first_of_both (can_hold k v) (can_hold_row cols row) h)
kinds_fit (k ∷ cols) (v ∷ row) h (suc c) = kinds_fit cols row (second_of_both (can_hold k v) (can_hold_row cols row) h) c

each_at : {X : Type 0} (P : X → Type 0) (xs : List X) (i : ℕ) (d : X) → i < length xs → Each P xs → P (get_or xs i d)
each_at P [] i d h all = absurd (omega arith)
each_at P (x ∷ xs) zero d h all = all.0
each_at P (x ∷ xs) (suc i) d h all = each_at P xs i d (omega (arith, h)) all.1

noted_rows : (notes : List Origin) (i : ℕ) (note : Origin) (rows : List (Ranked Value)) → i < length notes → note ≡ get_or notes i note → KeepsNotes notes rows → KeepsKind note.kind note.column rows
noted_rows notes i note [] h is all = tt
noted_rows notes i note (r ∷ rows) h is all = (
  subst (λ (o : Origin). IsTrue (is_unchanged o.kind (slice_index_or r.values o.column Null))) (sym is)
      (each_at (λ (o : Origin). IsTrue (is_unchanged o.kind (slice_index_or r.values o.column Null))) notes i note h all.0),
  noted_rows notes i note rows h is all.1,
)

-- a note says of its column what it says
pub is_noted : (notes : List Origin) (i : ℕ) (note : Origin) {column : ℕ} → i < length notes → note ≡ get_or notes i note → note.column ≡ column → AreNoted notes column note.kind
is_noted notes i note h is e = record { keeps = λ rows all. subst (λ k. KeepsKind note.kind k rows) e (noted_rows notes i note rows h is all) }
