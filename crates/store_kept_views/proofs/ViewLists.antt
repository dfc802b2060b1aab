-- Lists of views.
use Rattle.std.proofs.Common.{◌≡◌, ℕ, ◌+◌, ◌<◌, List, [], ◌∷◌, ◌++◌, sym, ◌∙◌, ap, subst, arith, length, zero, suc}
use Rattle.std.specs.Prelude.{take}
use lib.ListN.{get_or}
use Rattle.std.proofs.lemmas.List.{map-append}
use Rattle.plan_algebra.specs.declared.kept_plan.KeptPlan.{KeptPlan}
use Rattle.base_schema.specs.State.{State, table_rows}
use Rattle.base_value.specs.declared.value.Value.{Value}
use Rattle.store_groups.specs.Entries.{Entries}
use Rattle.store_state.specs.Moves.{IsMoved}
use Rattle.store_kept_views.specs.Standing.{CanMove}
use Rattle.store_kept_views.specs.Kept.{plans_of, AreKept, IsKept, CanMoveView}

plans_suc : (views : List (KeptPlan × Entries)) (i : ℕ) (v : KeptPlan × Entries) → i < length views → v ≡ get_or views i v → plans_of (take (suc i) views) ≡ plans_of (take i views) ++ v.0 ∷ []
plans_suc [] i v less is = absurd (omega arith)
plans_suc (x ∷ views) zero v less is = ap (λ (x : KeptPlan × Entries). x.0 ∷ []) (sym is)
plans_suc (x ∷ views) (suc i) v less is = ap (λ l. x.0 ∷ l) (plans_suc views i v (omega arith) is)

pub plans_more : (views next new : List (KeptPlan × Entries)) (i : ℕ) (v w : KeptPlan × Entries) → i < length views → v ≡ get_or views i v → w.0 ≡ v.0 → plans_of next ≡ plans_of (take i views) → new ≡ next ++ w ∷ []
    → plans_of new ≡ plans_of (take (i + 1) views)
plans_more views next new i v w less is same old push =
    let s : suc i ≡ i + 1 = omega arith in
    ap plans_of push ∙ map-append (λ (v : KeptPlan × Entries). v.0) next (w ∷ []) ∙ ap (λ l. l ++ w.0 ∷ []) old ∙ ap (λ p. plans_of (take i views) ++ p ∷ []) same
    ∙ sym (plans_suc views i v less is) ∙ ap (λ n. plans_of (take n views)) s

all_push : {X : Type 0} (P : X → Type 0) (xs : List X) (w : X) → ((k : ℕ) (d : X) → k < length xs → P (get_or xs k d)) → P w → (k : ℕ) (d : X) → k < length (xs ++ w ∷ []) → P (get_or (xs ++ w ∷ []) k d)
all_push P [] w all p zero d less = p
all_push P [] w all p (suc k) d less = absurd (omega arith)
all_push P (x ∷ xs) w all p zero d less = all zero d (omega arith)
all_push P (x ∷ xs) w all p (suc k) d less = all_push P xs w (λ k d less. all (suc k) d (omega arith)) p k d (omega arith)

pub kept_more : (tables : State) (views new : List (KeptPlan × Entries)) (w : KeptPlan × Entries) → new ≡ views ++ w ∷ [] → AreKept tables views → IsKept tables w → AreKept tables new
kept_more tables views new w e all one = subst (λ l. AreKept tables l) (sym e) (all_push (IsKept tables) views w all one)

-- a view's groups may be moved
pub can_move : (v : KeptPlan × Entries) (added removed rows : State) (more less all : List (List Value)) → CanMoveView v added removed rows
    → more ≡ table_rows added v.0.table → less ≡ table_rows removed v.0.table → all ≡ table_rows rows v.0.table → CanMove v.0 v.1 more less all
can_move v added removed rows more less all can is_more is_less is_all = record {
  old = table_rows can.old v.0.table;
  moved =
      subst (λ x. IsMoved (table_rows can.old v.0.table) x less all) (sym is_more)
      (subst (λ x. IsMoved (table_rows can.old v.0.table) (table_rows added v.0.table) x all) (sym is_less)
      (subst (λ x. IsMoved (table_rows can.old v.0.table) (table_rows added v.0.table) (table_rows removed v.0.table) x) (sym is_all) (can.moved v.0.table)));
  stands = can.stands;
}

pub plans_push : (views new : List (KeptPlan × Entries)) (w : KeptPlan × Entries) → new ≡ views ++ w ∷ [] → plans_of new ≡ plans_of views ++ w.0 ∷ []
plans_push views new w is = ap plans_of is ∙ map-append (λ (v : KeptPlan × Entries). v.0) views (w ∷ [])
