-- A line that is cut at its bars from the left, and what the cuts say of its bars.
use Rattle.std.proofs.Common.{◌≡◌, ℕ, suc, ◌+◌, ◌<◌, ◌≤◌, Bool, true, false, cond, ◌&&◌, ◌||◌, ◌==◌, nat_eq, nat_lt, List, [], ◌∷◌, ◌++◌, length, take, drop, position, refl, sym, ◌∙◌, ap, arith, append_assoc, Option, Some, None, is_some, inl, inr, Ok}
use Rattle.std.specs.Prelude.{count_by}
use Rattle.std.specs.List.{ends_with, position_or_len, after_first}
use Rattle.std.proofs.lemmas.Bool.{and_from, ltb-true, ltb-false, eqb-true, eq-eqb}
use Rattle.std.proofs.lemmas.Bool.Decides.{Decides-eqb}
use Rattle.std.proofs.lemmas.List.{append-nil, take_all, take-append-drop}
use Rattle.std.proofs.lemmas.List.Sums.{split_at_first, passes_at_first}
use Rattle.std.proofs.lemmas.Option.{cond_some}
use Rattle.std.proofs.lemmas.Slice.Eq.{ends_is}
use Rattle.std.proofs.Common.{get_or}
use Rattle.base_value.specs.declared.value.Value.{Value}
use Rattle.base_schema.specs.declared.column.LineColumn.{LineColumn}
use Rattle.store_file_reader.specs.Line.{is_bar, has_fields, IsWholeCut, values_of, row_of}
use Rattle.store_file_reader.proofs.Cuts.{after_first-some, after_first-none, values_all}
use Rattle.store_file_reader.proofs.FieldCuts.{HasNoBar, bars-cons, bars-append, no_bars}

-- the bytes before the first bar have none
none_at : (t : Bool) (b : ℕ) (text : List ℕ) → is_bar b ≡ t → HasNoBar (take (position_or_len is_bar text) text)
    → HasNoBar (take (position_or_len is_bar (b ∷ text)) (b ∷ text))
none_at true b text e h = rw e refl
none_at false b text e h =
    let one : 1 + position_or_len is_bar text ≡ suc (position_or_len is_bar text) = omega arith in
    rw (e, one) (rw e h)

none_before : (text : List ℕ) → HasNoBar (take (position_or_len is_bar text) text)
none_before [] = refl
none_before (b ∷ text) = none_at (is_bar b) b text refl (none_before text)

none_from : (b : Bool) (a : ℕ) → cond b (Some a) None ≡ None → b ≡ false
none_from true a e = cc
none_from false a e = refl

-- a text without a bar
no_bar_counted : (text : List ℕ) → position is_bar text ≡ None → count_by is_bar text ≡ 0
no_bar_counted text e =
    let past : length text ≤ position_or_len is_bar text = ltb-false _ _ (none_from _ _ e) in
    let all : take (position_or_len is_bar text) text ≡ text = take_all _ text past in
    ap (count_by is_bar) (sym all) ∙ no_bars (take (position_or_len is_bar text) text) (none_before text)

-- a text with a bar, in parts
record BarAt (text : List ℕ) (place : ℕ) : Type 0 where
  inside : place < length text
  whole : text ≡ take place text ++ 124 ∷ drop (place + 1) text
  count : count_by is_bar text ≡ 1 + count_by is_bar (drop (place + 1) text)

bar_at : (text : List ℕ) (place : ℕ) → position is_bar text ≡ Some place → BarAt text place
bar_at text place e =
    let found : (nat_lt (position_or_len is_bar text) (length text) ≡ true) × (position_or_len is_bar text ≡ place) = cond_some _ _ _ e in
    let within : position_or_len is_bar text < length text = ltb-true _ _ found.0 in
    let bar : get_or text place 0 ≡ 124 = rw (← found.1) (eqb-true _ _ (passes_at_first is_bar text 0 within)) in
    let whole : text ≡ take place text ++ 124 ∷ drop (place + 1) text = rw (← bar, ← found.1) (split_at_first is_bar text 0 within) in
    let none : count_by is_bar (take place text) ≡ 0 = rw (← found.1) (no_bars (take (position_or_len is_bar text) text) (none_before text)) in
    record {
      inside = omega (arith, within, found.1);
      whole = whole;
      count =
          ap (count_by is_bar) whole
          ∙ bars-append (take place text) (124 ∷ drop (place + 1) text)
          ∙ rw none (omega (arith, bars-cons 124 (drop (place + 1) text)));
    }

-- a line of which `columns` columns were cut: `bars` bars stood before the rest, which is empty
-- where one was missing
pub record CutSoFar (line rest : List ℕ) (bars columns : ℕ) : Type 0 where
  pub front : List ℕ
  pub is : line ≡ front ++ rest
  pub count : count_by is_bar line ≡ bars + count_by is_bar rest
  pub bound : bars ≤ columns
  pub ends : 0 < bars → bars ≡ columns → rest ≡ [] → ends_with nat_eq line (124 ∷ []) ≡ true
  pub none : bars < columns → rest ≡ []

pub cut_start : (line : List ℕ) → CutSoFar line line 0 0
cut_start line = record {
  front = [];
  is = refl;
  count = omega arith;
  bound = omega arith;
  ends = λ some all empty. absurd (omega (arith, some));
  none = λ fewer. absurd (omega (arith, fewer));
}

-- one bar more
pub cut_found : (line rest : List ℕ) (bars columns place : ℕ) → CutSoFar line rest bars columns → position is_bar rest ≡ Some place
    → CutSoFar line (drop (place + 1) rest) (bars + 1) (columns + 1)
cut_found line rest bars columns place so_far e =
    let at : BarAt rest place = bar_at rest place e in
    record {
      front = so_far.front ++ take (place + 1) rest;
      is =
          so_far.is
          ∙ ap (λ t. so_far.front ++ t) (sym (take-append-drop (place + 1) rest))
          ∙ sym (append_assoc so_far.front (take (place + 1) rest) (drop (place + 1) rest));
      count = omega (arith, so_far.count, at.count);
      bound = omega (arith, so_far.bound);
      ends = λ some all empty.
          let last : rest ≡ take place rest ++ 124 ∷ [] = at.whole ∙ ap (λ t. take place rest ++ 124 ∷ t) empty in
          let line_is : line ≡ (so_far.front ++ take place rest) ++ 124 ∷ [] =
          so_far.is ∙ ap (λ t. so_far.front ++ t) last ∙ sym (append_assoc so_far.front (take place rest) (124 ∷ [])) in
          (ends_is Decides-eqb line (124 ∷ []) _ refl).1 (so_far.front ++ take place rest) line_is;
      none = λ fewer.
          let empty : rest ≡ [] = so_far.none (omega (arith, fewer)) in
          absurd (omega (arith, at.inside, ap length empty));
    }

-- no bar where one was looked for
pub cut_none : (line rest : List ℕ) (bars columns : ℕ) → CutSoFar line rest bars columns → position is_bar rest ≡ None
    → CutSoFar line [] bars (columns + 1)
cut_none line rest bars columns so_far e = record {
  front = line;
  is = sym (append-nil line);
  count = omega (arith, so_far.count, no_bar_counted rest e);
  bound = omega (arith, so_far.bound);
  ends = λ some all empty. absurd (omega (arith, so_far.bound, all));
  none = λ fewer. refl;
}

-- all columns were cut, by as many bars as the line must have
pub cut_whole : (line rest : List ℕ) (bars columns : ℕ) → CutSoFar line rest bars columns → bars + 1 ≡ columns → has_fields columns line ≡ true
cut_whole line rest bars columns so_far e =
    let empty : rest ≡ [] = so_far.none (omega (arith, e)) in
    let count : count_by is_bar line + 1 ≡ columns = omega (arith, so_far.count, ap (count_by is_bar) empty, e) in
    rw (eq-eqb (count_by is_bar line + 1) columns count) refl

or_true : (a b : Bool) → b ≡ true → (a || b) ≡ true
or_true true b e = refl
or_true false b e = e

pub cut_ended : (line rest : List ℕ) (bars columns : ℕ) → CutSoFar line rest bars columns → 0 < bars → bars ≡ columns → rest ≡ [] → has_fields columns line ≡ true
cut_ended line rest bars columns so_far some all empty =
    let count : count_by is_bar line ≡ columns = omega (arith, so_far.count, ap (count_by is_bar) empty, all) in
    or_true (count_by is_bar line + 1 == columns) ((count_by is_bar line == columns) && ends_with nat_eq line (124 ∷ []))
    (and_from _ _ (eq-eqb (count_by is_bar line) columns count) (so_far.ends some all empty))

pub whole_cut : (line rest : List ℕ) (bars columns : ℕ) → CutSoFar line rest bars columns → IsWholeCut columns bars rest → has_fields columns line ≡ true
whole_cut line rest bars columns so_far (inl e) = cut_whole line rest bars columns so_far e
whole_cut line rest bars columns so_far (inr e) = cut_ended line rest bars columns so_far e.0 e.1 e.2

-- one column more
cut_by : (line rest : List ℕ) (bars columns : ℕ) (place : Option ℕ) → position is_bar rest ≡ place → CutSoFar line rest bars columns
    → CutSoFar line (after_first is_bar rest) (bars + cond (is_some place) 1 0) (columns + 1)
cut_by line rest bars columns (Some place) e so_far =
    rw (after_first-some is_bar rest place e) (cut_found line rest bars columns place so_far e)
cut_by line rest bars columns None e so_far =
    let same : bars + 0 ≡ bars = omega arith in
    rw (after_first-none is_bar rest e, same) (cut_none line rest bars columns so_far e)

pub cut_more : (line rest more : List ℕ) (bars now columns : ℕ) (found : Bool) → CutSoFar line rest bars columns → found ≡ is_some (position is_bar rest)
    → more ≡ after_first is_bar rest → now ≡ bars + cond found 1 0 → CutSoFar line more now (columns + 1)
cut_more line rest more bars now columns found so_far is rest_is now_is =
    rw (now_is, rest_is, is) (cut_by line rest bars columns (position is_bar rest) refl so_far)

-- the row of a line that was cut whole
pub good_row : (columns : List LineColumn) (line rest : List ℕ) (bars count : ℕ) (values : List Value) → CutSoFar line rest bars count → count ≡ length columns
    → IsWholeCut count bars rest → values_of columns line ≡ Ok values → row_of columns line ≡ Ok values
good_row columns line rest bars count values so_far all whole e =
    rw (← all, whole_cut line rest bars count so_far whole) e

pub ruleset good = (good_row, cut_start, values_all)
