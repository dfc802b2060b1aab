-- The rows of an answer as text, row by row.
use Rattle.std.proofs.Common.{◌≡◌, ℕ, ◌+◌, ◌<◌, ◌≤◌, List, [], ◌∷◌, ◌++◌, true, sym, ◌∙◌, ap, inl, inr, length, take, get_or, IsTrue}
use Rattle.std.proofs.lemmas.Bool.{cases_Bool, true≢false}
use Rattle.std.proofs.lemmas.Grind.{flat_map-append}
use Rattle.std.proofs.lemmas.List.{append_assoc, append-nil, take_more, take_all}
use Rattle.std.proofs.lemmas.List.Folds.{list_all_at}
use Rattle.base_value.specs.declared.value.Value.{Value}
use Rattle.app_result_text.specs.Answer.{answer_text, has_no_fault, row_written, rows_have_no_fault}

pub row_fine : (rows : List (List Value)) (i : ℕ) (row : List Value)
    → IsTrue (rows_have_no_fault rows) → i < length rows → row ≡ get_or rows i []
    → IsTrue (has_no_fault row)
row_fine rows i row all h e = elim (cases_Bool (has_no_fault (get_or rows i []))) [
  | inl t ↦ ap has_no_fault e ∙ t
  | inr f ↦ absurd (true≢false (sym all ∙ list_all_at has_no_fault rows i [] h f))
]

pub row_more : (old text text' : List ℕ) (rows : List (List Value)) (i : ℕ) (row : List Value)
    → i < length rows → row ≡ get_or rows i [] → text ≡ old ++ answer_text (take i rows)
    → text' ≡ text ++ row_written row → text' ≡ old ++ answer_text (take (i + 1) rows)
row_more old text text' rows i row h e before step =
    let one : answer_text (take (i + 1) rows) ≡ answer_text (take i rows) ++ row_written row =
    ap answer_text (take_more rows i [] h) ∙ flat_map-append row_written (take i rows) _
    ∙ ap (λ t. answer_text (take i rows) ++ t) (append-nil (row_written (get_or rows i [])))
    ∙ ap (λ r. answer_text (take i rows) ++ row_written r) (sym e) in
    step ∙ ap (λ t. t ++ row_written row) before
    ∙ append_assoc old (answer_text (take i rows)) (row_written row)
    ∙ ap (λ t. old ++ t) (sym one)

pub rows_end : (old text : List ℕ) (rows : List (List Value)) (i : ℕ) → length rows ≤ i
    → text ≡ old ++ answer_text (take i rows) → text ≡ old ++ answer_text rows
rows_end old text rows i h before = before ∙ ap (λ r. old ++ answer_text r) (take_all i rows h)

pub ruleset answers = (row_fine, row_more, rows_end)
