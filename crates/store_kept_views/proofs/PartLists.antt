-- The rows of parts, part by part.
use Rattle.std.proofs.Common.{◌≡◌, ℕ, ◌+◌, ◌<◌, ◌≤◌, refl, List, [], ◌∷◌, ◌++◌, Bool, true, false, cond, sym, ◌∙◌, ap, subst, arith, zero, suc}
use Rattle.std.specs.Prelude.{take}
use lib.ListN.{get_or, drop, length}
use Rattle.std.proofs.lemmas.List.{append_assoc, append-nil}
use Rattle.base_columns.specs.Lists.{one_list}
use Rattle.base_row_laws.specs.Ranked.{Ranked}
use Rattle.base_value.specs.declared.value.Value.{Value}
use Rattle.plan_algebra.specs.declared.kept_plan.KeptPlan.{KeptPlan}
use Rattle.plan_algebra.specs.KeptPlans.{selected}
use Rattle.store_groups.specs.Entries.{Entries}
use Rattle.store_kept_views.specs.Standing.{StandsBy}
use Rattle.store_kept_views.proofs.Made.{selected_append}

list_suc : {X : Type 0} (parts : List (List X)) (i : ℕ) (part : List X) → i < length parts → part ≡ get_or parts i part → one_list (take (suc i) parts) ≡ one_list (take i parts) ++ part
list_suc [] i part less is = absurd (omega arith)
list_suc (x ∷ parts) zero part less is = append-nil x ∙ sym is
list_suc (x ∷ parts) (suc i) part less is = ap (λ l. x ++ l) (list_suc parts i part (omega arith) is) ∙ sym (append_assoc x (one_list (take i parts)) part)

pub list_more : {X : Type 0} (parts : List (List X)) (i : ℕ) (part : List X) → i < length parts → part ≡ get_or parts i part → one_list (take (i + 1) parts) ≡ one_list (take i parts) ++ part
list_more parts i part less is = let s : i + 1 ≡ suc i = omega arith in rw s (list_suc parts i part less is)

more_rows : (p : KeptPlan) (parts : List (List (List Value))) (i : ℕ) (part : List (List Value)) (rows ys : List (Ranked Value)) → i < length parts → part ≡ get_or parts i part → rows ≡ selected p part
    → (ys ++ selected p (one_list (take i parts))) ++ rows ≡ ys ++ selected p (one_list (take (i + 1) parts))
more_rows p parts i part rows ys less is same =
    append_assoc ys (selected p (one_list (take i parts))) rows
    ∙ ap (λ l. ys ++ (selected p (one_list (take i parts)) ++ l)) same
    ∙ ap (λ l. ys ++ l) (sym (selected_append p (one_list (take i parts)) part))
    ∙ ap (λ l. ys ++ selected p l) (sym (list_more parts i part less is))

pub more_parts : (wanted : Bool) (p : KeptPlan) (es st : Entries) (parts : List (List (List Value))) (i : ℕ) (part : List (List Value)) (rows xs ys : List (Ranked Value))
    → i < length parts → part ≡ get_or parts i part → rows ≡ selected p part
    → let before = cond wanted (xs ++ selected p (one_list (take i parts))) xs in let others = cond wanted ys (ys ++ selected p (one_list (take i parts))) in
    StandsBy p es st (cond wanted (before ++ rows) before) (cond wanted others (others ++ rows))
    → StandsBy p es st (cond wanted (xs ++ selected p (one_list (take (i + 1) parts))) xs) (cond wanted ys (ys ++ selected p (one_list (take (i + 1) parts))))
more_parts true p es st parts i part rows xs ys less is same old = subst (λ l. StandsBy p es st l ys) (more_rows p parts i part rows xs less is same) old
more_parts false p es st parts i part rows xs ys less is same old = subst (λ l. StandsBy p es st xs l) (more_rows p parts i part rows ys less is same) old

-- the parts from one on
rest_suc : {X : Type 0} (parts : List (List X)) (i : ℕ) (part : List X) → i < length parts → part ≡ get_or parts i part → one_list (drop i parts) ≡ part ++ one_list (drop (suc i) parts)
rest_suc [] i part less is = absurd (omega arith)
rest_suc (x ∷ parts) zero part less is = ap (λ y. y ++ one_list parts) (sym is)
rest_suc (x ∷ parts) (suc i) part less is = rest_suc parts i part (omega arith) is

pub next_part : (p : KeptPlan) (parts : List (List (List Value))) (i : ℕ) (part : List (List Value)) (rows zs : List (Ranked Value)) → i < length parts → part ≡ get_or parts i part → rows ≡ selected p part
    → selected p (one_list (drop i parts)) ++ zs ≡ rows ++ (selected p (one_list (drop (i + 1) parts)) ++ zs)
next_part p parts i part rows zs less is same =
    let s : suc i ≡ i + 1 = omega arith in
    ap (λ l. selected p l ++ zs) (rest_suc parts i part less is ∙ ap (λ n. part ++ one_list (drop n parts)) s)
    ∙ ap (λ l. l ++ zs) (selected_append p part (one_list (drop (i + 1) parts)) ∙ ap (λ l. l ++ selected p (one_list (drop (i + 1) parts))) (sym same))
    ∙ append_assoc rows (selected p (one_list (drop (i + 1) parts))) zs

past : {X : Type 0} (parts : List (List X)) (i : ℕ) → length parts ≤ i → one_list (drop i parts) ≡ []
past [] zero le = refl
past [] (suc i) le = refl
past (x ∷ parts) zero le = absurd (omega arith)
past (x ∷ parts) (suc i) le = past parts i (omega arith)

none_selected : (p : KeptPlan) (zs : List (Ranked Value)) → selected p [] ++ zs ≡ zs
unfolding selected
none_selected p zs = refl

pub no_parts : (p : KeptPlan) (parts : List (List (List Value))) (i : ℕ) (zs : List (Ranked Value)) → length parts ≤ i → selected p (one_list (drop i parts)) ++ zs ≡ zs
no_parts p parts i zs le = ap (λ l. selected p l ++ zs) (past parts i le) ∙ none_selected p zs
