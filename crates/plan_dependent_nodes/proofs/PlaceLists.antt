-- Lists of places, one more.
use Rattle.std.proofs.Common.{◌≡◌, ℕ, zero, suc, ◌+◌, ◌<◌, List, [], ◌∷◌, ◌++◌, map, refl}
use Rattle.std.proofs.Common.{sym, ap, ◌∙◌, subst, arith, length, take, get_or}
use Rattle.std.specs.Prelude.{Option, Some, slice_index_or}
use Rattle.std.proofs.lemmas.List.{length-append, map-append, length-take-le}
use Rattle.base_value.specs.declared.value.Value.TheVariants.{Null}
use Rattle.expr_scalar.specs.declared.expr.Expr.{Expr}
use Rattle.expr_scalar.specs.declared.expr.Expr.TheVariants.{Column}
use Rattle.expr_scalar.specs.Meaning.{value, truth}
use Rattle.expr_scalar.specs.Rename.{IsRenamed, gathered}
use Rattle.expr_conditions.specs.Ranks.{columns_from}
use Rattle.expr_conditions.proofs.Ranks.{run_more}
use Rattle.sql_bound_query.specs.declared.query.BoundExpr.{BoundExpr}
use Rattle.sql_bound_query.specs.declared.query.Input.{Input}
use Rattle.sql_bound_query.specs.declared.query.Input.TheVariants as input
use Rattle.sql_bound_query.specs.Meaning.{InputMeaning, ExprMeaning, column, input_meaning}
use Rattle.plan_kept_queries.specs.Scans.{tables_of_input}
use Rattle.sql_bound_query.proofs.Opened.{input_Column_at, expr_is}
use Rattle.plan_kept_queries.proofs.ScansOpened.{in_Column, expr_tables_is}
use Rattle.plan_dependent_nodes.specs.declared.sight.OuterColumn.{OuterColumn}
use Rattle.plan_dependent_nodes.specs.Growth.{IsAt, AreAt, AreKeys, ArePlain, IsPlain, InputsAt}
use Rattle.plan_dependent_nodes.specs.Growth.{ExprAt}
use Rattle.plan_dependent_nodes.proofs.InputTrees.{both_more, joined_more, inputs_valued}

-- the columns from k on, one more
pub columns_more : (k i : ℕ) (all now : List ℕ) (at : ℕ) → all ≡ columns_from k i → at ≡ k + i
    → now ≡ all ++ at ∷ [] → now ≡ columns_from k (i + 1)
columns_more k i all now at e is f = f ∙ ap (λ l. l ++ at ∷ []) e
    ∙ ap (λ n. columns_from k i ++ n ∷ []) is ∙ sym (run_more k i)

-- the same as a select list
pub exprs_more : (k i : ℕ) (all now : List Expr) (at : ℕ) → all ≡ map Column (columns_from k i)
    → at ≡ k + i → now ≡ all ++ Column at ∷ [] → now ≡ map Column (columns_from k (i + 1))
exprs_more k i all now at e is f =
    f ∙ ap (λ l. l ++ Column at ∷ []) e ∙ sym (map-append Column (columns_from k i) (at ∷ []))
    ∙ ap (map Column) (ap (λ n. columns_from k i ++ n ∷ []) is ∙ sym (run_more k i))

-- a list of one element more
pub length_put : {X : Type 0} (xs now : List X) (x : X) (n : ℕ) → length xs ≡ n → now ≡ xs ++ x ∷ []
    → length now ≡ n + 1
length_put xs now x n h e = ap length e ∙ length-append xs (x ∷ []) ∙ ap (λ k. k + 1) h

-- an element that is there, whatever stands for one that isn't
pub same_get : {X : Type 0} (xs : List X) (i : ℕ) (d e : X) → i < length xs
    → get_or xs i d ≡ get_or xs i e
same_get [] i d e h = absurd (omega arith)
same_get (x ∷ xs) zero d e h = refl
same_get (x ∷ xs) (suc i) d e h = same_get xs i d e (omega arith)

module _ (outer : List OuterColumn) (start w : ℕ) where
  -- ---- columns of the rows around

  pub at_none : AreAt outer start w [] []
  at_none = record { reads = λ env r flat s. refl }

  pub at_more : (wanted : List OuterColumn) (i : ℕ) (c : OuterColumn) (places now : List ℕ) (at : ℕ)
      → i < length wanted → c ≡ get_or wanted i c → now ≡ places ++ at ∷ []
      → AreAt outer start w (take i wanted) places → IsAt outer start w c.level c.place at
      → AreAt outer start w (take (i + 1) wanted) now
  at_more wanted i c places now at h is e a p = record {
    reads = λ env r flat s.
        both_more (λ k. slice_index_or flat k Null)
        (λ (x : OuterColumn). column (r ∷ env) x.level x.place) places now at wanted i c h is e
        (a.reads env r flat s) (p.reads env r flat s);
  }

  pub at_put : (wanted : List OuterColumn) (i : ℕ) (places now : List ℕ) (at : ℕ)
      → i < length wanted → now ≡ places ++ at ∷ []
      → AreAt outer start w (take i wanted) places
      → IsAt outer start w (get_or wanted i (record { level = 0; place = 0 })).level
      (get_or wanted i (record { level = 0; place = 0 })).place at
      → AreAt outer start w (take (i + 1) wanted) now
  at_put wanted i places now at h e a p =
      let none : OuterColumn = record { level = 0; place = 0 } in
      at_more wanted i (get_or wanted i none) places now at h
      (same_get wanted i none (get_or wanted i none) h) e a p

  -- ---- columns of the query's own row

  pub keys_none : AreKeys outer start w [] []
  keys_none = record { count = refl; reads = λ env r flat s. refl }

  pub keys_more : (keys : List ℕ) (i k : ℕ) (places now : List ℕ) (at : ℕ) → i < length keys
      → k ≡ get_or keys i k → now ≡ places ++ at ∷ []
      → AreKeys outer start w (take i keys) places → IsAt outer start w 0 k at
      → AreKeys outer start w (take (i + 1) keys) now
  keys_more keys i k places now at h is e a p = record {
    count =
        let m : length places ≡ length (take i keys) = a.count in
        let n : length (take i keys) ≡ i = length-take-le i keys (omega arith) in
        let o : length (take (i + 1) keys) ≡ i + 1 = length-take-le (i + 1) keys (omega arith) in
        let q : length now ≡ length places + 1 = ap length e ∙ length-append places (at ∷ []) in
        omega (arith, m, n, o, q);
    reads = λ env r flat s.
        both_more (λ j. slice_index_or flat j Null) (λ j. slice_index_or r j Null) places now at
        keys i k h is e (a.reads env r flat s) (p.reads env r flat s);
  }

  pub keys_put : (keys : List ℕ) (i : ℕ) (places now : List ℕ) (at : ℕ) → i < length keys
      → now ≡ places ++ at ∷ []
      → AreKeys outer start w (take i keys) places → IsAt outer start w 0 (get_or keys i 0) at
      → AreKeys outer start w (take (i + 1) keys) now
  keys_put keys i places now at h e a p =
      keys_more keys i (get_or keys i 0) places now at h (same_get keys i 0 (get_or keys i 0) h) e a
      p

  -- ---- inputs that are columns

  pub plain_none : ArePlain outer start w [] (Some [])
  unfolding InputsAt
  plain_none = (refl, λ state env r flat s. refl)

  pub plain_more : (inputs : List Input) (i : ℕ) (x : Input) (level place : ℕ) (places now : List ℕ)
      (at : ℕ) → i < length inputs → x ≡ get_or inputs i x → x ≡ input.Column level place
      → now ≡ places ++ at ∷ [] → ArePlain outer start w (take i inputs) (Some places)
      → IsAt outer start w level place at
      → ArePlain outer start w (take (i + 1) inputs) (Some now)
  unfolding InputsAt
  plain_more inputs i x level place places now at h is isc e a p = (
    sym (joined_more tables_of_input inputs i x h is) ∙ ap (λ l. l ++ tables_of_input x) a.0
        ∙ ap tables_of_input isc ∙ in_Column level place,
    λ state env r flat s.
        both_more (λ k. slice_index_or flat k Null) (λ y. input_meaning state y (r ∷ env)) places
        now at inputs i x h is e (a.1 state env r flat s)
        (p.reads env r flat s ∙ sym (input_Column_at state level place (r ∷ env))
        ∙ sym (ap (λ y. input_meaning state y (r ∷ env)) isc)),
  )

  -- an expression over them
  pub plain_expr : (e : BoundExpr) (places : List ℕ) (x : Expr)
      → ArePlain outer start w e.inputs (Some places) → IsRenamed places e.expr x
      → IsPlain outer start w e (Some x)
  unfolding InputsAt ExprAt gathered
  plain_expr e places x a is = (
    expr_tables_is e ∙ a.0,
    λ state env r flat s.
        let row : map (λ k. slice_index_or flat k Null) places
        ≡ map (λ (i : InputMeaning). i (r ∷ env)) (map (input_meaning state) e.inputs) =
        a.1 state env r flat s ∙ inputs_valued state (r ∷ env) e.inputs in (
          is.value flat ∙ ap (value e.expr) row
              ∙ sym (ap (λ (m : ExprMeaning). m.value (r ∷ env)) (expr_is state e)),
          is.truth flat ∙ ap (truth e.expr) row
              ∙ sym (ap (λ (m : ExprMeaning). m.truth (r ∷ env)) (expr_is state e)),
        ),
  )

  -- the same as the code reads it
  pub condition_seen : {e : BoundExpr} {inputs : List Input} {found : Option (List ℕ)}
      {places seen : List ℕ} {expr x y : Expr} → inputs ≡ e.inputs
      → ArePlain outer start w inputs found
      → found ≡ Some places → seen ≡ places → expr ≡ e.expr → IsRenamed seen expr x → y ≡ x
      → IsPlain outer start w e (Some y)
  condition_seen {e} {inputs} {found} {places} {seen} {expr} {x} {y} f a g h k r l =
      subst (λ z. IsPlain outer start w e (Some z)) (sym l)
      (plain_expr e places x (subst (λ z. ArePlain outer start w z (Some places)) f
      (subst (ArePlain outer start w inputs) g a))
      (subst (λ z. IsRenamed places z x) k (subst (λ z. IsRenamed z expr x) h r)))
