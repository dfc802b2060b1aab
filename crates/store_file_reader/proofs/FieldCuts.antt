-- The fields of a line are those between its bars, and no others.
use Rattle.std.proofs.Common.{◌≡◌, ℕ, zero, suc, ◌+◌, ◌-◌, ◌<◌, Bool, true, false, cond, ◌&&◌, ◌||◌, ◌==◌, nat_eq, List, [], ◌∷◌, ◌++◌, length, take, refl, sym, ◌∙◌, ap, arith, append_assoc, length-append, ◌⊎◌, inl, inr}
use Rattle.std.specs.Prelude.{All, count_by}
use Rattle.std.specs.List.{before_first, after_first, position_or_len, join_with_byte, list_any, ends_with}
use Rattle.std.proofs.lemmas.Bool.{eqb-true}
use Rattle.std.proofs.lemmas.Bool.Decides.{Decides-eqb}
use Rattle.std.proofs.lemmas.List.{append-nil}
use Rattle.std.proofs.lemmas.List.Elements.{All-cons, All-head, All-tail}
use Rattle.std.proofs.lemmas.List.Sums.{sum_by-cons, sum_by-append}
use Rattle.std.proofs.lemmas.Slice.Eq.{ends_is}
use Rattle.store_file_reader.specs.Line.{is_bar, has_fields}
use Rattle.store_file_reader.specs.LineLaws.{AreFieldsOf}

-- n fields, cut from the left
abbrev pub cuts : ℕ → List ℕ → List (List ℕ)
cuts zero text = []
cuts (suc n) text = before_first is_bar text ∷ cuts n (after_first is_bar text)

abbrev pub HasNoBar : List ℕ → Type 0
HasNoBar field = list_any is_bar field ≡ false

pub neither : (a b : Bool) → (a || b) ≡ false → (a ≡ false) × (b ≡ false)
neither true b e = cc
neither false b e = (refl, e)

-- up to a bar, and after it

before_bar : (field more : List ℕ) → HasNoBar field → before_first is_bar (field ++ 124 ∷ more) ≡ field
before_bar [] more e = refl
before_bar (b ∷ field) more e =
    let one : 1 + position_or_len is_bar (field ++ 124 ∷ more) ≡ suc (position_or_len is_bar (field ++ 124 ∷ more)) = omega arith in
    rw ((neither (b == 124) _ e).0, one) (ap (λ l. b ∷ l) (before_bar field more (neither (b == 124) _ e).1))

after_bar : (field more : List ℕ) → HasNoBar field → after_first is_bar (field ++ 124 ∷ more) ≡ more
after_bar [] more e = refl
after_bar (b ∷ field) more e =
    let one : 1 + position_or_len is_bar (field ++ 124 ∷ more) + 1 ≡ suc (position_or_len is_bar (field ++ 124 ∷ more) + 1) = omega arith in
    rw ((neither (b == 124) _ e).0, one) (after_bar field more (neither (b == 124) _ e).1)

before_none : (field : List ℕ) → HasNoBar field → before_first is_bar field ≡ field
before_none [] e = refl
before_none (b ∷ field) e =
    let one : 1 + position_or_len is_bar field ≡ suc (position_or_len is_bar field) = omega arith in
    rw ((neither (b == 124) _ e).0, one) (ap (λ l. b ∷ l) (before_none field (neither (b == 124) _ e).1))

-- how many bars

pub bars-cons : (b : ℕ) (text : List ℕ) → count_by is_bar (b ∷ text) ≡ cond (is_bar b) 1 0 + count_by is_bar text
bars-cons b text = sum_by-cons (λ byte. cond (is_bar byte) 1 0) b text

pub bars-append : (front more : List ℕ) → count_by is_bar (front ++ more) ≡ count_by is_bar front + count_by is_bar more
bars-append front more = sum_by-append (λ byte. cond (is_bar byte) 1 0) front more

pub no_bars : (field : List ℕ) → HasNoBar field → count_by is_bar field ≡ 0
no_bars [] e = refl
no_bars (b ∷ field) e =
    rw (bars-cons b field, (neither (b == 124) _ e).0, no_bars field (neither (b == 124) _ e).1) refl

none_at : (t : Bool) (b : ℕ) (field : List ℕ) → (b == 124) ≡ t → (count_by is_bar field ≡ 0 → HasNoBar field) → count_by is_bar (b ∷ field) ≡ 0 → HasNoBar (b ∷ field)
none_at true b field e others h =
    let more : count_by is_bar (b ∷ field) ≡ 1 + count_by is_bar field = bars-cons b field ∙ rw e refl in
    absurd (omega (arith, h, more))
none_at false b field e others h =
    let same : count_by is_bar (b ∷ field) ≡ 0 + count_by is_bar field = bars-cons b field ∙ rw e refl in
    rw e (others (omega (arith, h, same)))

none_counted : (field : List ℕ) → count_by is_bar field ≡ 0 → HasNoBar field
none_counted [] h = refl
none_counted (b ∷ field) h = none_at (b == 124) b field refl (none_counted field) h

pub none-cons : (b : ℕ) (field : List ℕ) → (b == 124) ≡ false → HasNoBar field → HasNoBar (b ∷ field)
none-cons b field e none = rw e none

-- a text that has a bar
record FirstBar (text : List ℕ) : Type 0 where
  front : List ℕ
  more : List ℕ
  is : text ≡ front ++ 124 ∷ more
  none : HasNoBar front

bar_at : (t : Bool) (b : ℕ) (text : List ℕ) → (b == 124) ≡ t → (0 < count_by is_bar text → FirstBar text) → 0 < count_by is_bar (b ∷ text) → FirstBar (b ∷ text)
bar_at true b text e others h = record {
  front = [];
  more = text;
  is = ap (λ byte. byte ∷ text) (eqb-true b 124 e);
  none = refl;
}
bar_at false b text e others h =
    let same : count_by is_bar (b ∷ text) ≡ 0 + count_by is_bar text = bars-cons b text ∙ rw e refl in
    let found : FirstBar text = others (omega (arith, h, same)) in
    record {
      front = b ∷ found.front;
      more = found.more;
      is = ap (λ l. b ∷ l) found.is;
      none = none-cons b found.front e found.none;
    }

first_bar : (text : List ℕ) → 0 < count_by is_bar text → FirstBar text
first_bar [] h = absurd (omega (arith, h))
first_bar (b ∷ text) h = bar_at (b == 124) b text refl (first_bar text) h

-- the fields are those cut

abbrev IsEnd : List ℕ → Type 0
IsEnd end = (end ≡ []) ⊎ (end ≡ 124 ∷ [])

last_field : (field end : List ℕ) → IsEnd end → HasNoBar field → before_first is_bar (field ++ end) ≡ field
last_field field end (inl e) none = rw (e, append-nil field) (before_none field none)
last_field field end (inr e) none = rw e (before_bar field [] none)

only_cuts : (fields : List (List ℕ)) (end : List ℕ) → IsEnd end → All HasNoBar fields → 0 < length fields
    → cuts (length fields) (join_with_byte 124 fields ++ end) ≡ fields
only_cuts [] end is none h = absurd (omega (arith, h))
only_cuts (field ∷ []) end is none h = ap (λ l. l ∷ []) (last_field field end is (All-head HasNoBar field [] none))
only_cuts (field ∷ next ∷ fields) end is none h =
    let here : HasNoBar field = All-head HasNoBar field (next ∷ fields) none in
    let shape : (field ++ 124 ∷ join_with_byte 124 (next ∷ fields)) ++ end ≡ field ++ 124 ∷ (join_with_byte 124 (next ∷ fields) ++ end) =
    append_assoc field (124 ∷ join_with_byte 124 (next ∷ fields)) end in
    let others : cuts (length (next ∷ fields)) (join_with_byte 124 (next ∷ fields) ++ end) ≡ next ∷ fields =
    only_cuts (next ∷ fields) end is (All-tail HasNoBar field (next ∷ fields) none) (omega arith) in
    ap (cuts (suc (length (next ∷ fields)))) shape
    ∙ (λ i. before_bar field (join_with_byte 124 (next ∷ fields) ++ end) here i ∷ cuts (length (next ∷ fields)) (after_bar field (join_with_byte 124 (next ∷ fields) ++ end) here i))
    ∙ ap (λ l. field ∷ l) others

joined_bars : (fields : List (List ℕ)) → All HasNoBar fields → 0 < length fields → count_by is_bar (join_with_byte 124 fields) + 1 ≡ length fields
joined_bars [] none h = absurd (omega (arith, h))
joined_bars (field ∷ []) none h = omega (arith, no_bars field (All-head HasNoBar field [] none))
joined_bars (field ∷ next ∷ fields) none h =
    let here : count_by is_bar field ≡ 0 = no_bars field (All-head HasNoBar field (next ∷ fields) none) in
    let others : count_by is_bar (join_with_byte 124 (next ∷ fields)) + 1 ≡ length (next ∷ fields) =
    joined_bars (next ∷ fields) (All-tail HasNoBar field (next ∷ fields) none) (omega arith) in
    let sum : count_by is_bar (field ++ 124 ∷ join_with_byte 124 (next ∷ fields)) ≡ count_by is_bar field + count_by is_bar (124 ∷ join_with_byte 124 (next ∷ fields)) =
    bars-append field (124 ∷ join_with_byte 124 (next ∷ fields)) in
    let bar : count_by is_bar (124 ∷ join_with_byte 124 (next ∷ fields)) ≡ 1 + count_by is_bar (join_with_byte 124 (next ∷ fields)) = bars-cons 124 (join_with_byte 124 (next ∷ fields)) in
    omega (arith, here, others, sum, bar)

eqb_yes : (a b : ℕ) → a ≡ b → (a == b) ≡ true
eqb_yes a b e = (Decides-eqb a b).1 e

or_left : (a b : Bool) → a ≡ true → (a || b) ≡ true
or_left a b e = rw e refl

or_right : (a b : Bool) → b ≡ true → (a || b) ≡ true
or_right true b e = refl
or_right false b e = e

both_true : (a b : Bool) → a ≡ true → b ≡ true → (a && b) ≡ true
both_true a b p q = rw (p, q) refl

-- a line with these fields has as many, and cut at its bars it gives them
pub record Cut (columns : ℕ) (line : List ℕ) (fields : List (List ℕ)) : Type 0 where
  pub has : has_fields columns line ≡ true
  pub are : fields ≡ cuts columns line

fields_from : (line end : List ℕ) (fields : List (List ℕ)) → line ≡ join_with_byte 124 fields ++ end → IsEnd end → All HasNoBar fields → 0 < length fields
    → Cut (length fields) line fields
fields_from line end fields e (inl is) none h =
    let whole : line ≡ join_with_byte 124 fields = e ∙ rw is (append-nil (join_with_byte 124 fields)) in
    record {
      has = or_left _ _ (eqb_yes _ _ (ap (λ l. count_by is_bar l + 1) whole ∙ joined_bars fields none h));
      are = rw e (sym (only_cuts fields end (inl is) none h));
    }
fields_from line end fields e (inr is) none h =
    let whole : line ≡ join_with_byte 124 fields ++ 124 ∷ [] = e ∙ rw is refl in
    let sum : count_by is_bar (join_with_byte 124 fields ++ 124 ∷ []) ≡ count_by is_bar (join_with_byte 124 fields) + 1 = bars-append (join_with_byte 124 fields) (124 ∷ []) in
    record {
      has = or_right _ _ (both_true _ _ (eqb_yes _ _ (ap (count_by is_bar) whole ∙ sum ∙ joined_bars fields none h)) ((ends_is Decides-eqb line (124 ∷ []) _ refl).1 (join_with_byte 124 fields) whole));
      are = rw e (sym (only_cuts fields end (inr is) none h));
    }

parted_from : (columns : ℕ) (line : List ℕ) (fields : List (List ℕ)) → length fields ≡ columns → 0 < columns → All HasNoBar fields
    → (line ≡ join_with_byte 124 fields) ⊎ (line ≡ join_with_byte 124 fields ++ 124 ∷ []) → Cut columns line fields
parted_from columns line fields n h none (inl e) =
    rw (← n) (fields_from line [] fields (e ∙ sym (append-nil (join_with_byte 124 fields))) (inl refl) none (omega (arith, n, h)))
parted_from columns line fields n h none (inr e) =
    rw (← n) (fields_from line (124 ∷ []) fields e (inr refl) none (omega (arith, n, h)))

pub fields_are_cuts : (columns : ℕ) (line : List ℕ) (fields : List (List ℕ)) → 0 < columns → AreFieldsOf columns line fields → Cut columns line fields
fields_are_cuts columns line fields h are = parted_from columns line fields are.as_many h are.no_bar are.parted

-- a line that has as many fields is cut into them

-- the line ends with a bar
record Ends (line : List ℕ) : Type 0 where
  front : List ℕ
  is : line ≡ front ++ 124 ∷ []

ends_later : (xs more front : List ℕ) → xs ++ 124 ∷ more ≡ front ++ 124 ∷ [] → 0 < length more → Ends more
ends_later [] more [] e h = let none : more ≡ [] = cc in absurd (omega (arith, h, ap length none))
ends_later [] more (b ∷ front) e h = let is : more ≡ front ++ 124 ∷ [] = cc in record { front = front; is = is }
ends_later (x ∷ xs) more [] e h =
    let none : xs ++ 124 ∷ more ≡ [] = cc in
    absurd (omega (arith, ap length none, length-append xs (124 ∷ more)))
ends_later (x ∷ xs) more (b ∷ front) e h = let rest : xs ++ 124 ∷ more ≡ front ++ 124 ∷ [] = cc in ends_later xs more front rest h

-- one bar fewer than fields, or as many and one at the end
abbrev HasBars : ℕ → List ℕ → Type 0
HasBars columns line = (count_by is_bar line + 1 ≡ columns) ⊎ ((count_by is_bar line ≡ columns) × Ends line)

rest_bars : (n : ℕ) (line front more : List ℕ) → line ≡ front ++ 124 ∷ more → count_by is_bar line ≡ 1 + count_by is_bar more
    → HasBars (suc (suc n)) line → HasBars (suc n) more
rest_bars n line front more is count (inl e) = inl (omega (arith, count, e))
rest_bars n line front more is count (inr e) =
    let some : 0 < count_by is_bar more = omega (arith, count, e.0) in
    let at : FirstBar more = first_bar more some in
    inr (omega (arith, count, e.0), ends_later front more e.1.front (sym is ∙ e.1.is) (omega (arith, ap length at.is, length-append at.front (124 ∷ at.more))))

parted_more : (front line more : List ℕ) (field : List ℕ) (fields : List (List ℕ)) → line ≡ front ++ 124 ∷ more
    → (more ≡ join_with_byte 124 (field ∷ fields)) ⊎ (more ≡ join_with_byte 124 (field ∷ fields) ++ 124 ∷ [])
    → (line ≡ join_with_byte 124 (front ∷ field ∷ fields)) ⊎ (line ≡ join_with_byte 124 (front ∷ field ∷ fields) ++ 124 ∷ [])
parted_more front line more field fields is (inl e) = inl (is ∙ ap (λ l. front ++ 124 ∷ l) e)
parted_more front line more field fields is (inr e) =
    inr (is ∙ ap (λ l. front ++ 124 ∷ l) e ∙ sym (append_assoc front (124 ∷ join_with_byte 124 (field ∷ fields)) (124 ∷ [])))

one_field : (line field : List ℕ) → HasNoBar field → (line ≡ field) ⊎ (line ≡ field ++ 124 ∷ []) → AreFieldsOf 1 line (field ∷ [])
one_field line field none parted = record {
  as_many = refl;
  no_bar = All-cons HasNoBar field [] none (λ k d h. absurd (omega (arith, h)));
  parted = parted;
}

only_field : (line : List ℕ) → HasBars 1 line → AreFieldsOf 1 line (cuts 1 line)
only_field line (inl e) =
    let none : HasNoBar line = none_counted line (omega (arith, e)) in
    rw (before_none line none) (one_field line line none (inl refl))
only_field line (inr e) =
    let sum : count_by is_bar (e.1.front ++ 124 ∷ []) ≡ count_by is_bar e.1.front + 1 = bars-append e.1.front (124 ∷ []) in
    let count : count_by is_bar e.1.front ≡ 0 = omega (arith, sum, ap (count_by is_bar) e.1.is, e.0) in
    let none : HasNoBar e.1.front = none_counted e.1.front count in
    let field : before_first is_bar line ≡ e.1.front = ap (before_first is_bar) e.1.is ∙ before_bar e.1.front [] none in
    rw field (one_field line e.1.front none (inr e.1.is))

cut_more : (n : ℕ) (line : List ℕ) → (at : FirstBar line) → AreFieldsOf (suc n) at.more (cuts (suc n) at.more) → AreFieldsOf (suc (suc n)) line (cuts (suc (suc n)) line)
cut_more n line at are =
    let field : before_first is_bar line ≡ at.front = ap (before_first is_bar) at.is ∙ before_bar at.front at.more at.none in
    let rest : after_first is_bar line ≡ at.more = ap (after_first is_bar) at.is ∙ after_bar at.front at.more at.none in
    rw (field, rest)
    (record {
      as_many = ap suc are.as_many;
      no_bar = All-cons HasNoBar at.front (cuts (suc n) at.more) at.none are.no_bar;
      parted = parted_more at.front line at.more (before_first is_bar at.more) (cuts n (after_first is_bar at.more)) at.is are.parted;
    })

bars_cut : (n : ℕ) (line : List ℕ) → HasBars (suc n) line → AreFieldsOf (suc n) line (cuts (suc n) line)
bars_cut zero line has = only_field line has
bars_cut (suc n) line has =
    let some : 0 < count_by is_bar line = some_bar n line has in
    let at : FirstBar line = first_bar line some in
    let sum : count_by is_bar (at.front ++ 124 ∷ at.more) ≡ count_by is_bar at.front + count_by is_bar (124 ∷ at.more) = bars-append at.front (124 ∷ at.more) in
    let count : count_by is_bar line ≡ 1 + count_by is_bar at.more = omega (arith, ap (count_by is_bar) at.is, sum, no_bars at.front at.none, bars-cons 124 at.more) in
    cut_more n line at (bars_cut n at.more (rest_bars n line at.front at.more at.is count has))
  where
    some_bar : (n : ℕ) (line : List ℕ) → HasBars (suc (suc n)) line → 0 < count_by is_bar line
    some_bar n line (inl e) = omega (arith, e)
    some_bar n line (inr e) = omega (arith, e.0)

bars_from : (columns : ℕ) (line : List ℕ) (a b c : Bool) → (count_by is_bar line + 1 == columns) ≡ a → (count_by is_bar line == columns) ≡ b
    → ends_with nat_eq line (124 ∷ []) ≡ c → (a || (b && c)) ≡ true → HasBars columns line
bars_from columns line true b c p q r e = inl ((Decides-eqb _ _).0 p)
bars_from columns line false true true p q r e = inr ((Decides-eqb _ _).0 q, record { front = take (length line - 1) line; is = (ends_is Decides-eqb line (124 ∷ []) _ (sym r)).0 refl })
bars_from columns line false true false p q r e = cc
bars_from columns line false false c p q r e = cc

pub cuts_are_fields : (columns : ℕ) (line : List ℕ) → 0 < columns → has_fields columns line ≡ true → AreFieldsOf columns line (cuts columns line)
cuts_are_fields zero line h e = absurd (omega (arith, h))
cuts_are_fields (suc n) line h e = bars_cut n line (bars_from (suc n) line _ _ _ refl refl refl e)
