-- The text of a session is that of its statements, each at its moment.
use Rattle.std.proofs.Common.{◌≡◌, ◌∙◌, ◌⊎◌, ℕ, ◌+◌, List, [], ◌∷◌, ◌++◌, Bool, true, false, refl, sym, ap, subst, inl, inr, drop, drop-cons, append_assoc, suc, add-one}
use Rattle.std.specs.Prelude.{◌&&◌, Some, None, slice_get}
use Rattle.std.proofs.lemmas.List.{append-nil, drop_all}
use Rattle.std.proofs.lemmas.Option.{slice_get_cases}
use Rattle.sql_ast.specs.declared.statement.Statement.{Statement}
use Rattle.sql_binder_steps.specs.declared.view.View.{View}
use Rattle.app_sessions.specs.Laws.{SessionsText, course_through, turn_or_end}
use Rattle.app_sessions.specs.Outcomes.{Moment}
use Rattle.app_sessions.specs.Sessions.{Course, are_clean, course_after, lines_of}

-- the text and the cleanness after moments
abbrev pub Told : Course → List Statement → List Moment → Type 0
Told course left moments =
    ((course_through course moments).text ≡ course.text ++ lines_of course.shows_rows (course.answered + 1) course.views left moments)
    × ((course_through course moments).is_clean ≡ (course.is_clean && are_clean course.views left moments))

no_lines : (shows : Bool) (n : ℕ) (views : List View) (left : List Statement) → lines_of shows n views left [] ≡ []
no_lines shows n views [] = refl
no_lines shows n views (s ∷ left) = refl

none_refused : (views : List View) (left : List Statement) → are_clean views left [] ≡ true
none_refused views [] = refl
none_refused views (s ∷ left) = refl

and_true : (b : Bool) → (b && true) ≡ b
and_true true = refl
and_true false = refl

and_assoc : (a b c : Bool) → ((a && b) && c) ≡ (a && (b && c))
and_assoc true b c = refl
and_assoc false b c = refl

-- the statements that are left, by the next one
left_by : (xs : List Statement) (k : ℕ) → ((s : Statement) × (slice_get xs k ≡ Some s) × (drop k xs ≡ s ∷ drop (k + 1) xs)) ⊎ ((slice_get xs k ≡ None) × (drop k xs ≡ []))
left_by xs k = elim (slice_get_cases xs k).1 [
  | inl (s, lt, is, at) ↦ inl (s, is, drop-cons xs k s lt ∙ ap (λ x. x ∷ drop (suc k) xs) at ∙ ap (λ j. s ∷ drop j xs) (sym (add-one k)))
  | inr (past, none) ↦ inr (none, drop_all k xs past)
]

told : (course : Course) (moments : List Moment) → Told course (drop course.answered course.steps) moments
told course [] = (
  sym (ap (λ l. course.text ++ l) (no_lines course.shows_rows (course.answered + 1) course.views (drop course.answered course.steps)) ∙ append-nil course.text),
  sym (ap (λ b. course.is_clean && b) (none_refused course.views (drop course.answered course.steps)) ∙ and_true course.is_clean),
)
told course (m ∷ moments) = elim (left_by course.steps course.answered) [
  | inl (s, is, left) ↦
      let next = course_after course m s in
      let rest = told next moments in
      subst (λ l. Told course l (m ∷ moments)) (sym left) (
        ap (λ o. (course_through (turn_or_end course m o) moments).text) is ∙ rest.0 ∙ append_assoc course.text _ _,
        ap (λ o. (course_through (turn_or_end course m o) moments).is_clean) is ∙ rest.1 ∙ and_assoc course.is_clean _ _,
      )
  | inr (none, left) ↦
      let rest : Told course [] moments = subst (λ l. Told course l moments) left (told course moments) in
      subst (λ l. Told course l (m ∷ moments)) (sym left) (
        ap (λ o. (course_through (turn_or_end course m o) moments).text) none ∙ rest.0,
        ap (λ o. (course_through (turn_or_end course m o) moments).is_clean) none ∙ rest.1,
      )
]

pub sessions_text : SessionsText
sessions_text = told
