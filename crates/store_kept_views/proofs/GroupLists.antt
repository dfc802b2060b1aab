-- Cells and groups of lists, one value or row more or less.
use Rattle.std.proofs.Common.{◌≡◌, ℕ, ◌+◌, ◌-◌, ◌≤◌, ◌<◌, ◌^◌, ◌==◌, List, [], ◌∷◌, ◌++◌, Bool, true, false, cond, refl, sym, ◌∙◌, ap, subst, arith, inl, inr, length, ℤ, pos, negsuc, ◌-ℤ◌, suc}
use Rattle.std.specs.Prelude.{not, map, min, max, replicate, ◌&&◌, nat_lt, Ok, Err}
use Rattle.std.proofs.lemmas.Int.{ints}
use Rattle.std.proofs.lemmas.Bool.{eqb-true, ltb-true, ltb-false, lt-ltb, le-ltb, cases_Bool, true≢false}
use Rattle.std.proofs.lemmas.List.{length-map}
use Rattle.base_decimal.specs.declared.arithmetic.NumberFault.TheVariants as decimal
use Rattle.base_decimal.specs.Tally.{Sums, sums, no_terms, with_term, is_small, total_of}
use Rattle.base_decimal.specs.Tally.{without_term, HasTerm, IsInRange}
use Rattle.base_row_laws.specs.Ranked.{Ranked, ranked, true_rank}
use Rattle.base_row_laws.specs.Bags.{weigh, SameBag}
use Rattle.base_row_laws.specs.Operators.{least}
use Rattle.base_row_laws.specs.Aggregates.{not_null, least_fault, aggregated}
use Rattle.base_row_laws.proofs.Bags.{SameBag-map, SameBag-filter}
use Rattle.base_row_laws.proofs.OfBags.{bottom_most, OfBag-bottom, OfBag-length}
use Rattle.base_value.specs.declared.value.Value.{Value}
use Rattle.base_value.specs.declared.value.Value.TheVariants.{Null, Fault, Number, Text, Date}
use Rattle.expr_aggregates.specs.Values.{written, value_rank, is_null, above, below, reading, number_or_fault}
use Rattle.plan_algebra.specs.declared.kept_plan.KeptAggregate.{KeptAggregate}
use Rattle.plan_algebra.specs.declared.kept_plan.KeptAggregate.TheVariants as kept
use Rattle.plan_algebra.specs.KeptPlans.{item_of}
use Rattle.store_groups.specs.Groups.{Cell, cell, group, no_rows, cell_of, term_of, with_value, without_value, with_values, without_values, with_row, without_row}
use Rattle.store_kept_views.specs.RowGroups.{arguments, cells_of, group_of}
use Rattle.store_groups.specs.Groups.{is_plain, are_plain, is_faultless, HasValue, HaveValues, HasRow}
use Rattle.store_kept_views.specs.RowGroups.{unless_rank, shown, all_shown, row_of}
use Rattle.store_kept_views.specs.Standing.{arguments_in}

alike : (l m a b c x y z : ℕ) → l ≡ m → a ≡ x → b ≡ y → c ≡ z → cell l (sums a b c) ≡ cell m (sums x y z)
alike l m a b c x y z o p q r = cc

grouped_alike : (a b l m : ℕ) (cs ds : List Cell) → a ≡ b → l ≡ m → cs ≡ ds → group a l cs ≡ group b m ds
grouped_alike a b l m cs ds p q r = cc

abbrev present : List Value → List Value
present vs = not_null (reading 0) vs

-- one value more
pub cell_more : (v : Value) (vs : List Value) → cell_of (v ∷ vs) ≡ with_value (cell_of vs) v
cell_more Null vs = alike _ _ _ _ _ _ _ _ (omega arith) refl (omega arith) (omega arith)
cell_more (Fault f) vs = alike _ _ _ _ _ _ _ _ (omega arith) (omega arith) (omega arith) (omega arith)
cell_more (Number s (pos n)) vs = alike _ _ _ _ _ _ _ _ (omega arith) (omega arith) (omega arith) (omega arith)
cell_more (Number s (negsuc n)) vs = alike _ _ _ _ _ _ _ _ (omega arith) (omega arith) (omega arith) (omega arith)
cell_more (Text t) vs = alike _ _ _ _ _ _ _ _ (omega arith) (omega arith) (omega arith) (omega arith)
cell_more (Date d) vs = alike _ _ _ _ _ _ _ _ (omega arith) (omega arith) (omega arith) (omega arith)

pub cells_more : (ags : List KeptAggregate) (y : Ranked Value) (ys : List (Ranked Value)) → cells_of ags (y ∷ ys) ≡ with_values (cells_of ags ys) (arguments_in ags y.values)
unfolding cells_of
cells_more [] y ys = refl
cells_more (a ∷ ags) y ys = rw (cell_more ((item_of a).0 y.values) (arguments a ys), cells_more ags y ys)

pub group_more : (ags : List KeptAggregate) (y : Ranked Value) (ys : List (Ranked Value)) → group_of ags (y ∷ ys) ≡ with_row (group_of ags ys) (arguments_in ags y.values) y.standing
unfolding group_of
group_more ags y ys = grouped_alike _ _ _ _ _ _ (omega arith) (omega arith) (cells_more ags y ys)

cells_none : (ags : List KeptAggregate) → cells_of ags [] ≡ replicate (length ags) (cell true_rank no_terms)
unfolding cells_of
cells_none [] = refl
cells_none (a ∷ ags) = ap (λ cs. cell true_rank no_terms ∷ cs) (cells_none ags)

pub group_none : (ags : List KeptAggregate) → group_of ags [] ≡ no_rows (length ags)
unfolding group_of
group_none ags = ap (λ cs. group 0 true_rank cs) (cells_none ags)

-- nothing is added up of nulls alone
nothing : (vs : List Value) → length (present vs) ≡ 0 → (weigh above vs ≡ 0) × (weigh below vs ≡ 0)
nothing [] e = (refl, refl)
nothing (Null ∷ vs) e = let h = nothing vs e in (omega (arith, h.0), omega (arith, h.1))
nothing (Fault f ∷ vs) e = let h : suc (length (present vs)) ≡ 0 = e in absurd (omega (arith, h))
nothing (Number s c ∷ vs) e = let h : suc (length (present vs)) ≡ 0 = e in absurd (omega (arith, h))
nothing (Text t ∷ vs) e = let h : suc (length (present vs)) ≡ 0 = e in absurd (omega (arith, h))
nothing (Date d ∷ vs) e = let h : suc (length (present vs)) ≡ 0 = e in absurd (omega (arith, h))

-- what was added last is held
has_last : (s : Sums) (z : ℤ) → (s.terms ≡ 0 → (s.above ≡ 0) × (s.below ≡ 0)) → HasTerm (with_term s z) z
has_last s (pos n) none = (omega arith, omega arith, λ e. let h = none (omega arith) in (omega (arith, h.0), omega (arith, h.1)))
has_last s (negsuc n) none = (omega arith, omega arith, λ e. let h = none (omega arith) in (omega (arith, h.1), omega (arith, h.0)))

taken_back : (s : Sums) (z : ℤ) → without_term (with_term s z) z ≡ s
taken_back s (pos n) = let e : cell 0 (sums (s.terms + 1 - 1) (s.above + n - n) s.below) ≡ cell 0 (sums s.terms s.above s.below) = alike _ _ _ _ _ _ _ _ refl (omega arith) (omega arith) refl in ap (λ c. c.sums) e
taken_back s (negsuc n) = let e : cell 0 (sums (s.terms + 1 - 1) s.above (s.below + (n + 1) - (n + 1))) ≡ cell 0 (sums s.terms s.above s.below) = alike _ _ _ _ _ _ _ _ refl (omega arith) refl (omega arith) in ap (λ c. c.sums) e

terms_last : (s : Sums) (z : ℤ) → (with_term s z).terms ≡ s.terms + 1
terms_last s (pos n) = refl
terms_last s (negsuc n) = refl

and_left : (a b : Bool) → (a && b) ≡ true → a ≡ true
and_left true b e = refl
and_left false b e = e

and_right : (a b : Bool) → (a && b) ≡ true → b ≡ true
and_right true b e = e
and_right false b e = absurd (true≢false (sym e))

is_five : (n : ℕ) → (n == 5) ≡ true → n ≡ 5
is_five n e = eqb-true n 5 e

is_below : (n : ℕ) → is_small n ≡ true → n < 2 ^ 127
is_below n e = ltb-true n (2 ^ 127) e

-- what a plain cell says
plain_least : (c : Cell) → is_plain c ≡ true → c.least ≡ 5
plain_least c e = is_five c.least (and_left (c.least == 5) (is_small c.sums.above && is_small c.sums.below) e)

plain_range : (c : Cell) → is_plain c ≡ true → IsInRange c.sums
plain_range c e = let r = and_right (c.least == 5) (is_small c.sums.above && is_small c.sums.below) e in
    (is_below c.sums.above (and_left (is_small c.sums.above) (is_small c.sums.below) r), is_below c.sums.below (and_right (is_small c.sums.above) (is_small c.sums.below) r))

within_true : (vs : List Value) → (cell_of vs).least ≤ 5
within_true vs = bottom_most 5 value_rank vs

-- the sums with a value more, and without it
sums_back : (s : Sums) (v : Value) → cond (is_null v) (cond (is_null v) s (with_term s (term_of v))) (without_term (cond (is_null v) s (with_term s (term_of v))) (term_of v)) ≡ s
sums_back s v = elim (cases_Bool (is_null v)) [ inl t ↦ rw t | inr f ↦ rw f (taken_back s (term_of v)) ]

-- one value less
pub cell_less : (v : Value) (vs : List Value) → is_plain (cell_of (v ∷ vs)) ≡ true → without_value (cell_of (v ∷ vs)) v ≡ cell_of vs
cell_less v vs e =
    let more = cell_more v vs in
    let low : min (cell_of vs).least (value_rank v) ≡ 5 = sym (ap (λ c. c.least) more) ∙ plain_least (cell_of (v ∷ vs)) e in
    let within = within_true vs in
    let l : min (cell_of vs).least (value_rank v) ≡ (cell_of vs).least = omega (arith, low, within) in
    ap (λ c. without_value c v) more ∙ ap (λ n. cell n (cond (is_null v) (cond (is_null v) (cell_of vs).sums (with_term (cell_of vs).sums (term_of v))) (without_term (cond (is_null v) (cell_of vs).sums (with_term (cell_of vs).sums (term_of v))) (term_of v)))) l
    ∙ ap (λ s. cell (cell_of vs).least s) (sums_back (cell_of vs).sums v)

has_value : (v : Value) (vs : List Value) → is_plain (cell_of (v ∷ vs)) ≡ true → HasValue (cell_of (v ∷ vs)) v
has_value v vs e f =
    let more = cell_more v vs in
    let s : (cell_of (v ∷ vs)).sums ≡ with_term (cell_of vs).sums (term_of v) = ap (λ c. c.sums) more ∙ rw f in
    (subst (λ s. HasTerm s (term_of v)) (sym s) (has_last (cell_of vs).sums (term_of v) (λ z. nothing vs z)), plain_range (cell_of (v ∷ vs)) e)

-- cell by cell
pub cells_less : (ags : List KeptAggregate) (y : Ranked Value) (ys : List (Ranked Value)) → are_plain (cells_of ags (y ∷ ys)) ≡ true
    → without_values (cells_of ags (y ∷ ys)) (arguments_in ags y.values) ≡ cells_of ags ys
unfolding cells_of
cells_less [] y ys e = refl
cells_less (a ∷ ags) y ys e =
    let c = cell_of (arguments a (y ∷ ys)) in
    let first = and_left (is_plain c) (are_plain (cells_of ags (y ∷ ys))) e in
    let others = and_right (is_plain c) (are_plain (cells_of ags (y ∷ ys))) e in
    rw (cell_less ((item_of a).0 y.values) (arguments a ys) first, cells_less ags y ys others)

have_values : (ags : List KeptAggregate) (y : Ranked Value) (ys : List (Ranked Value)) → are_plain (cells_of ags (y ∷ ys)) ≡ true → HaveValues (cells_of ags (y ∷ ys)) (arguments_in ags y.values)
unfolding cells_of
have_values [] y ys e = tt
have_values (a ∷ ags) y ys e =
    let c = cell_of (arguments a (y ∷ ys)) in (
      has_value ((item_of a).0 y.values) (arguments a ys) (and_left (is_plain c) (are_plain (cells_of ags (y ∷ ys))) e),
      have_values ags y ys (and_right (is_plain c) (are_plain (cells_of ags (y ∷ ys))) e),
    )

within_least : (ys : List (Ranked Value)) → least ys ≤ 5
within_least ys = bottom_most 5 (λ y. y.standing) ys

-- a row less
pub group_less : (ags : List KeptAggregate) (y : Ranked Value) (ys : List (Ranked Value)) → is_faultless (group_of ags (y ∷ ys)) ≡ true
    → without_row (group_of ags (y ∷ ys)) (arguments_in ags y.values) ≡ group_of ags ys
unfolding group_of
group_less ags y ys e =
    let low = is_five (least (y ∷ ys)) (and_left (least (y ∷ ys) == 5) (are_plain (cells_of ags (y ∷ ys))) e) in
    let within = within_least ys in
    grouped_alike _ _ _ _ _ _ (omega arith) (omega (arith, low, within)) (cells_less ags y ys (and_right (least (y ∷ ys) == 5) (are_plain (cells_of ags (y ∷ ys))) e))

pub has_row : (ags : List KeptAggregate) (y : Ranked Value) (ys : List (Ranked Value)) → is_faultless (group_of ags (y ∷ ys)) ≡ true
    → HasRow (group_of ags (y ∷ ys)) (arguments_in ags y.values)
unfolding group_of
has_row ags y ys e = record {
  some = omega arith;
  each = have_values ags y ys (and_right (least (y ∷ ys) == 5) (are_plain (cells_of ags (y ∷ ys))) e);
}

-- what is kept depends on the bag of rows only
cell_alike : (vs ws : List Value) → SameBag vs ws → cell_of vs ≡ cell_of ws
cell_alike vs ws e = alike _ _ _ _ _ _ _ _ ((OfBag-bottom 5 value_rank).alike vs ws e)
    (OfBag-length.alike (present vs) (present ws) (SameBag-filter (λ v. not (is_null v)) e)) (e.weighs above) (e.weighs below)

cells_alike : (ags : List KeptAggregate) (ys zs : List (Ranked Value)) → SameBag ys zs → cells_of ags ys ≡ cells_of ags zs
unfolding cells_of
cells_alike [] ys zs e = refl
cells_alike (a ∷ ags) ys zs e = rw (cell_alike (arguments a ys) (arguments a zs) (SameBag-map (λ y. (item_of a).0 y.values) e), cells_alike ags ys zs e)

pub group_alike : (ags : List KeptAggregate) (ys zs : List (Ranked Value)) → SameBag ys zs → group_of ags ys ≡ group_of ags zs
unfolding group_of
group_alike ags ys zs e = grouped_alike _ _ _ _ _ _ (OfBag-length.alike ys zs e) ((OfBag-bottom 5 (λ y. y.standing)).alike ys zs e) (cells_alike ags ys zs e)

-- the aggregates that a group shows
difference : (a b : ℕ) → pos a -ℤ pos b ≡ pos (a - b) -ℤ pos (b - a)
difference a b = omega (arith, ints)

max_below : (a b m : ℕ) → nat_lt (max a b) m ≡ (nat_lt a m && nat_lt b m)
max_below a b m = elim (cases_Bool (nat_lt a m)) [
  | inl t ↦ elim (cases_Bool (nat_lt b m)) [
    | inl u ↦ let x = ltb-true a m t in let y = ltb-true b m u in rw (t, u) (lt-ltb (max a b) m (omega (arith, x, y)))
    | inr g ↦ let y = ltb-false b m g in rw (t, g) (le-ltb (max a b) m (omega (arith, y)))
  ]
  | inr f ↦ let x = ltb-false a m f in rw f (le-ltb (max a b) m (omega (arith, x)))
]

range_is : (scale : ℕ) (p q r : Bool) (y z : ℤ) → r ≡ (p && q) → y ≡ z
    → number_or_fault scale (cond (p && q) (Ok y) (Err decimal.NumberRange)) ≡ cond r (Number scale z) (written 4)
range_is scale true true r y z e f = rw (e, f)
range_is scale true false r y z e f = rw e
range_is scale false q r y z e f = rw e

sum_is : (scale a b : ℕ) → number_or_fault scale (total_of (sums 0 a b)) ≡ cond (nat_lt (max a b) (2 ^ 127)) (Number scale (pos (a - b) -ℤ pos (b - a))) (written 4)
sum_is scale a b = range_is scale (is_small a) (is_small b) (nat_lt (max a b) (2 ^ 127)) (pos a -ℤ pos b) (pos (a - b) -ℤ pos (b - a)) (max_below a b (2 ^ 127)) (difference a b)

shown_is : (a : KeptAggregate) (ys : List (Ranked Value)) → shown a (length ys) (cell_of (arguments a ys)) ≡ (item_of a).1 (arguments a ys)
shown_is kept.CountRows ys = ap (λ n. Number 0 (pos n -ℤ pos 0)) (sym (length-map ys (λ (y : Ranked Value). Null)))
shown_is (kept.Count e) ys = refl
shown_is (kept.Sum scale e) ys =
    let vs = arguments (kept.Sum scale e) ys in
    ap (λ v. unless_rank (least_fault (reading 0) vs) (cond (length (present vs) == 0) Null v)) (sum_is scale (weigh above vs) (weigh below vs))

pub all_shown_is : (ags : List KeptAggregate) (ys : List (Ranked Value)) → all_shown ags (length ys) (cells_of ags ys) ≡ aggregated (map item_of ags) ys
unfolding cells_of
all_shown_is [] ys = refl
all_shown_is (a ∷ ags) ys = rw (shown_is a ys, all_shown_is ags ys)

pub row_is : (ags : List KeptAggregate) (k : List Value) (ys : List (Ranked Value)) → row_of ags k (group_of ags ys) ≡ ranked (k ++ aggregated (map item_of ags) ys) (least ys)
unfolding group_of
row_is ags k ys = ap (λ vs. ranked (k ++ vs) (least ys)) (all_shown_is ags ys)
