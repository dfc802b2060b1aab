-- What set operations bind is typed.
use Rattle.std.proofs.Common.{◌≡◌, ℕ, ◌+◌, ◌==◌, List, [], ◌∷◌, ◌++◌, length, map}
use Rattle.std.proofs.Common.{Bool, true, false, refl, sym, ap, ◌∙◌, subst, inl, inr}
use Rattle.std.specs.Prelude.{Option, Some, None, Ok, slice_get}
use Rattle.std.proofs.lemmas.Bool.{cases_Bool, eqb-true, eq-eqb}
use Rattle.std.proofs.lemmas.List.{append_assoc, length-append, map-append}
use Rattle.base_row_laws.specs.Bags.{Each}
use Rattle.base_set_rows.specs.declared.kind.SetOperation.{SetOperation}
use Rattle.expr_scalar.specs.declared.expr.Expr.TheVariants as e
use Rattle.expr_scalar.specs.declared.kind.Kind.{Kind}
use Rattle.expr_scalar.specs.declared.kind.Kind.TheVariants.{Number, Text, Date}
use Rattle.expr_scalar.specs.Typing.{Of, same_kind, sort_of}
use Rattle.sql_ast.specs.declared.words.SetOperator.{SetOperator}
use Rattle.sql_ast.specs.declared.words.SetOperator.TheVariants as operator
use Rattle.sql_bound_query.proofs.TypingOpened.{kinds_Distinct, kinds_Set}
use Rattle.sql_bound_query.specs.declared.query.BoundBlock.{BoundBlock}
use Rattle.sql_bound_query.specs.declared.query.BoundBlock.TheVariants as block
use Rattle.sql_bound_query.specs.declared.query.SetColumn.{SetColumn}
use Rattle.sql_bound_query.specs.Typing.{EnvKinds, KindsMeaning, all_some, block_kinds, where_some}
use Rattle.sql_bound_query.specs.Typing.{common_kind, set_kinds}
use Rattle.sql_binder_steps.specs.declared.collected.BoundKind.TheVariants.{Value}
use Rattle.sql_binder_steps.specs.declared.collected.BoundTable.{BoundTable}
use Rattle.sql_binder_steps.specs.declared.collected.Collected.{Collected}
use Rattle.sql_binder_steps.specs.declared.sets.SetColumns.{SetColumns}
use Rattle.sql_binder_steps.specs.declared.view.Header.{Header}
use Rattle.sql_binder_steps.specs.Kinds as kinds
use Rattle.sql_binder_steps.specs.Names.{Sight}
use Rattle.sql_binder_steps.specs.Sets.{rescaled, set_column, with_column, columns_from, set_columns}
use Rattle.sql_binder_steps.specs.Sets.{set_block, set_table}
use Rattle.sql_binder_steps.specs.Steps.{◌>>=◌, lift}
use Rattle.sql_binder.specs.Blocks.{combined, combined_from}
use Rattle.sql_binder.specs.Meanings.{BlockMeaning, SetPartMeaning}
use Rattle.sql_binder_laws.specs.WellTyped.{header_kinds}
use Rattle.sql_binder_laws.proofs.TypedOperands.{went, ok_is, case_is, column_typed}
use Rattle.sql_binder_laws.proofs.TypedCases.{RaisesKind, AllRaise, all_raise, scaled_is}
use Rattle.sql_binder_laws.proofs.TypedSteps.{Ready, same_pair}
use Rattle.sql_binder_laws.proofs.TypedQueries.{BlockIs, BlockMeaningIs}

-- ---- columns

-- kinds of one scale, of which one is brought to the other, are one
same_scale : (own whole : Kind) → RaisesKind own whole
    → kinds.scale_of own ≡ kinds.scale_of whole → own ≡ whole
same_scale (Number s) (Number t) r h = ap Number h
same_scale (Number s) Text r h = absurd r
same_scale (Number s) Date r h = absurd r
same_scale Text Text r h = refl
same_scale Text (Number t) r h = absurd r
same_scale Text Date r h = absurd r
same_scale Date Date r h = refl
same_scale Date (Number t) r h = absurd r
same_scale Date Text r h = absurd r

rescaled_is : (at : ℕ) (own whole : Kind) (ks : List Kind) → RaisesKind own whole
    → slice_get ks at ≡ Some own → sort_of (rescaled at own whole) ks ≡ Of whole
rescaled_is at own whole ks r here = elim (cases_Bool (kinds.scale_of own == kinds.scale_of whole)) [
  | inl t ↦ rw t (column_typed at own ks here
      ∙ ap Of (same_scale own whole r (eqb-true (kinds.scale_of own) (kinds.scale_of whole) t)))
  | inr f ↦ rw f (case_is (kinds.scale_of whole) [] (e.Column at) ks
      ∙ scaled_is (Value own) whole (e.Column at) ks r (column_typed at own ks here))
]

same_self : (k : Kind) → same_kind k k ≡ true
same_self (Number s) = eq-eqb s s refl
same_self Text = refl
same_self Date = refl

column_kind : (at : ℕ) (l r whole : Kind) (left right : List Kind) → RaisesKind l whole
    → RaisesKind r whole → slice_get left at ≡ Some l → slice_get right at ≡ Some r
    → common_kind (sort_of (set_column at l r whole).left left)
    (sort_of (set_column at l r whole).right right) ≡ Some whole
column_kind at l r whole left right a b x y =
    rw (rescaled_is at l whole left a x, rescaled_is at r whole right b y, same_self whole) refl

-- the element behind the first part
get_seam : {A : Type 0} (xs : List A) (x : A) (ys : List A)
    → slice_get (xs ++ x ∷ ys) (length xs) ≡ Some x
get_seam [] x ys = refl
get_seam (z ∷ xs) x ys = get_seam xs x ys

-- one more before and one more behind
all_behind : {A : Type 0} (x o : A) (rest longer : Option (List A)) (all : List A)
    → ((ys : List A) → rest ≡ Some ys → longer ≡ Some (ys ++ o ∷ []))
    → where_some rest (λ ys. Some (x ∷ ys)) ≡ Some all
    → where_some longer (λ ys. Some (x ∷ ys)) ≡ Some (all ++ o ∷ [])
all_behind x o None longer all f h = cc
all_behind x o (Some ys) longer all f h =
    let same : x ∷ ys ≡ all = cc in
    ap (λ z. where_some z (λ zs. Some (x ∷ zs))) (f ys refl) ∙ ap (λ xs. Some (xs ++ o ∷ [])) same

all_more : {A : Type 0} (os : List (Option A)) (o : A) (all : List A) → all_some os ≡ Some all
    → all_some (os ++ Some o ∷ []) ≡ Some (all ++ o ∷ [])
all_more [] o all h = let none : [] ≡ all = cc in ap (λ xs. Some (xs ++ o ∷ [])) none
all_more (Some x ∷ os) o all h =
    all_behind x o (all_some os) (all_some (os ++ Some o ∷ [])) all (λ ys e. all_more os o ys e) h
all_more (None ∷ os) o all h = cc

-- the columns from a place on
columns_typed : (left right : List Kind) (before behind : List Kind) (ls rs : List Header) (at : ℕ)
    (done c : SetColumns) → left ≡ before ++ header_kinds ls → right ≡ behind ++ header_kinds rs
    → at ≡ length before → at ≡ length behind → columns_from done at ls rs ≡ Ok c
    → set_kinds done.columns left right ≡ Some (header_kinds done.headers)
    → set_kinds c.columns left right ≡ Some (header_kinds c.headers)
columns_typed left right before behind [] rs at done c p q m n h is =
    subst (λ (x : SetColumns). set_kinds x.columns left right ≡ Some (header_kinds x.headers))
    (ok_is done c h) is
columns_typed left right before behind (l ∷ ls) [] at done c p q m n h is =
    subst (λ (x : SetColumns). set_kinds x.columns left right ≡ Some (header_kinds x.headers))
    (ok_is done c h) is
columns_typed left right before behind (l ∷ ls) (r ∷ rs) at done c p q m n h is =
    let w = went (kinds.common_kind (Value l.kind ∷ Value r.kind ∷ [])) _ c h in
    let raise : AllRaise (Value l.kind ∷ Value r.kind ∷ []) w.it =
    all_raise (Value l.kind ∷ Value r.kind ∷ []) w.it w.is in
    let x : slice_get left at ≡ Some l.kind =
    ap (λ z. slice_get z at) p ∙ ap (λ k. slice_get (before ++ header_kinds (l ∷ ls)) k) m
    ∙ get_seam before l.kind (header_kinds ls) in
    let y : slice_get right at ≡ Some r.kind =
    ap (λ z. slice_get z at) q ∙ ap (λ k. slice_get (behind ++ header_kinds (r ∷ rs)) k) n
    ∙ get_seam behind r.kind (header_kinds rs) in
    let both : SetColumn → Option Kind =
    λ k. common_kind (sort_of k.left left) (sort_of k.right right) in
    columns_typed left right (before ++ l.kind ∷ []) (behind ++ r.kind ∷ []) ls rs (at + 1)
    (with_column done at l r w.it) c
    (p ∙ sym (append_assoc before (l.kind ∷ []) (header_kinds ls)))
    (q ∙ sym (append_assoc behind (r.kind ∷ []) (header_kinds rs)))
    (ap (λ k. k + 1) m ∙ sym (length-append before (l.kind ∷ [])))
    (ap (λ k. k + 1) n ∙ sym (length-append behind (r.kind ∷ []))) w.gives
    (ap all_some (map-append both done.columns (set_column at l.kind r.kind w.it ∷ []))
    ∙ ap (λ o. all_some (map both done.columns ++ o ∷ []))
    (column_kind at l.kind r.kind w.it left right raise.0 raise.1.0 x y)
    ∙ all_more (map both done.columns) w.it (header_kinds done.headers) is
    ∙ ap Some (sym (map-append (λ (x : Header). x.kind) done.headers
    (record { name = l.name; kind = w.it } ∷ []))))

-- ---- one operation

set_kinds_are : (a b : BoundBlock) (columns : List SetColumn) (operation : SetOperation)
    (ls rs ks : List Kind) (env : EnvKinds) → block_kinds a env ≡ Some ls
    → block_kinds b env ≡ Some rs → set_kinds columns ls rs ≡ Some ks
    → block_kinds (block.Set a b columns operation) env ≡ Some ks
set_kinds_are a b columns operation ls rs ks env p q h =
    ap (λ (m : KindsMeaning). m env) (kinds_Set a b columns operation)
    ∙ ap (λ o. where_some o (λ js. where_some (block_kinds b env) (λ ks. set_kinds columns js ks))) p
    ∙ ap (λ o. where_some o (λ ks. set_kinds columns ls ks)) q ∙ h

set_block_kinds : (op : SetOperator) (all : Bool) (a b : BoundBlock) (columns : List SetColumn)
    (ls rs ks : List Kind) (env : EnvKinds) → block_kinds a env ≡ Some ls
    → block_kinds b env ≡ Some rs → set_kinds columns ls rs ≡ Some ks
    → block_kinds (set_block op all a b columns) env ≡ Some ks
set_block_kinds operator.Union true a b columns ls rs ks env p q h =
    set_kinds_are a b columns _ ls rs ks env p q h
set_block_kinds operator.Union false a b columns ls rs ks env p q h =
    ap (λ (m : KindsMeaning). m env) (kinds_Distinct _)
    ∙ set_kinds_are a b columns _ ls rs ks env p q h
set_block_kinds operator.Intersect all a b columns ls rs ks env p q h =
    set_kinds_are a b columns _ ls rs ks env p q h
set_block_kinds operator.Except all a b columns ls rs ks env p q h =
    set_kinds_are a b columns _ ls rs ks env p q h

table_kinds : (op : SetOperator) (all : Bool) (a b t : BoundTable) (env : EnvKinds)
    → set_table op all a b ≡ Ok t → block_kinds a.block env ≡ Some (header_kinds a.headers)
    → block_kinds b.block env ≡ Some (header_kinds b.headers)
    → block_kinds t.block env ≡ Some (header_kinds t.headers)
unfolding set_table set_columns
table_kinds op all a b t env h p q =
    elim (cases_Bool (length a.headers == length b.headers)) [
      | inl same ↦
          let g = rw same at h in
          let w = went (columns_from (record { columns = []; headers = [] }) 0 a.headers b.headers) _
          t g in
          let is : set_kinds w.it.columns (header_kinds a.headers) (header_kinds b.headers)
          ≡ Some (header_kinds w.it.headers) =
          columns_typed (header_kinds a.headers) (header_kinds b.headers) [] [] a.headers b.headers 0
          (record { columns = []; headers = [] }) w.it refl refl refl refl w.is refl in
          subst (λ (x : BoundTable). block_kinds x.block env ≡ Some (header_kinds x.headers))
          (ok_is _ t w.gives)
          (set_block_kinds op all a.block b.block w.it.columns (header_kinds a.headers)
          (header_kinds b.headers) (header_kinds w.it.headers) env p q is)
      | inr other ↦ let no = rw other at h in cc
    ]

-- ---- chains

-- a query after the first one is typed, where those before it are
abbrev pub SetPartMeaningIs : SetPartMeaning → Type 0
SetPartMeaningIs m = (sight : Sight) (r s : Collected) → Ready sight → (a : BoundTable)
    → BlockIs sight r s a → (b : BoundTable) (t : Collected) → m sight a s ≡ Ok (b, t)
    → BlockIs sight r t b

pub set_part_typed : (op : SetOperator) (all : Bool) (q : BlockMeaning) → BlockMeaningIs q
    → SetPartMeaningIs (λ sight t. q sight >>= (λ u. lift (set_table op all t u)))
set_part_typed op all q is sight r s ready a before b t h =
    let w = went (q sight s) _ (b, t) h in
    let one = is sight s ready w.it.0 w.it.1 w.is in
    let v = went (set_table op all a w.it.0) _ (b, t) w.gives in
    let e = same_pair (v.it, w.it.1) b t (ok_is (v.it, w.it.1) (b, t) v.gives) in
    subst (λ u. BlockIs sight r u b) e.1
    (record {
      inputs = one.inputs ∙ before.inputs;
      aggregates = one.aggregates ∙ before.aggregates;
      kinds = λ env f.
          subst (λ (x : BoundTable). block_kinds x.block env ≡ Some (header_kinds x.headers)) e.0
          (table_kinds op all a w.it.0 v.it env v.is (before.kinds env f) (one.kinds env f));
    })

chain_typed : (ms : List SetPartMeaning) → Each SetPartMeaningIs ms → (sight : Sight)
    (r s : Collected) → Ready sight → (a : BoundTable) → BlockIs sight r s a → (b : BoundTable)
    (t : Collected) → combined_from sight a ms s ≡ Ok (b, t) → BlockIs sight r t b
chain_typed [] each sight r s ready a before b t h =
    let e = same_pair (a, s) b t (ok_is (a, s) (b, t) h) in
    subst (λ u. BlockIs sight r u b) e.1 (subst (λ x. BlockIs sight r s x) e.0 before)
chain_typed (m ∷ ms) each sight r s ready a before b t h =
    let w = went (m sight a s) _ (b, t) h in
    chain_typed ms each.1 sight r w.it.1 ready w.it.0
    (each.0 sight r s ready a before w.it.0 w.it.1 w.is) b t w.gives

pub combined_typed : (first : BlockMeaning) (ms : List SetPartMeaning) → BlockMeaningIs first
    → Each SetPartMeaningIs ms → BlockMeaningIs (combined first ms)
unfolding combined
combined_typed first ms is each sight s ready b t h =
    let w = went (first sight s) _ (b, t) h in
    chain_typed ms each sight s w.it.1 ready w.it.0 (is sight s ready w.it.0 w.it.1 w.is) b t
    w.gives
