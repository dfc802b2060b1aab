-- Which refreshes bytes may spell.
use Rattle.std.proofs.Common.{◌≡◌, ◌≢◌, ℕ, ◌<◌, ◌^◌, List, [], ◌∷◌, ◌++◌, length, refl, sym, ◌∙◌, ap, arith, length-append, Result, Ok}
use Rattle.std.specs.Int.{w64, to_be_bytes}
use Rattle.base_refusals.specs.declared.line.LineRefusal.{LineRefusal}
use Rattle.base_refusals.specs.declared.refresh.RefreshFile.{RefreshFile}
use Rattle.base_refusals.specs.declared.refresh.RefreshFile.TheVariants as file
use Rattle.base_value.specs.declared.value.Value.{Value}
use Rattle.base_schema.specs.declared.table.TableName.TheVariants as name
use Rattle.base_schema.specs.Kinds.{RowsAreOf}
use Rattle.base_schema.specs.LineForm.{RowsFit, refresh_form}
use Rattle.base_schema.proofs.Fits.{rows_fit_are_of}
use Rattle.store_state.specs.Keys.{order_keys}
use Rattle.store_state.specs.Refresh.{Change, DeleteKeys, InsertRows, MalformedFile}
use Rattle.store_file_reader.specs.File.{file_rows}
use Rattle.store_journal.specs.Format.{framed}
use Rattle.store_refresh_text.specs.Laws.{IsTextOf}
use Rattle.store_refresh_text.specs.Text.{keys_text, rows_text}
use Rattle.store_refresh_entries.specs.Change.{IsNone, IsReadable, MayBe, spelling_of}
use Rattle.store_journal.proofs.Frames.{one_entry}

tails : (x y : ℕ) (xs ys : List ℕ) → x ∷ xs ≡ y ∷ ys → xs ≡ ys
tails x y xs ys e = cc

heads : (x y : ℕ) (xs ys : List ℕ) → x ∷ xs ≡ y ∷ ys → x ≡ y
heads x y xs ys e = cc

not_two : (xs ys : List ℕ) → 2 ∷ xs ≡ 1 ∷ ys → ⊥
not_two xs ys e = let two : 2 ≡ 1 = heads 2 1 xs ys e in omega (arith, two)

one_answer : (xs ys : List (List Value)) → ◌≡◌ {A = Result (List (List Value)) LineRefusal} (Ok xs) (Ok ys) → xs ≡ ys
one_answer xs ys e = cc

same_rows : (f : RefreshFile) (text other : List ℕ) (rows others : List (List Value)) → text ≡ other → IsTextOf f text rows → IsTextOf f other others → rows ≡ others
same_rows f text other rows others e a b =
    one_answer rows others (sym a ∙ ap (λ (t : List ℕ). file_rows (refresh_form f) (length t) t) e ∙ b)

-- the same text
moved : (f : RefreshFile) (text other : List ℕ) (rows : List (List Value)) → text ≡ other → IsTextOf f other rows → IsTextOf f text rows
moved f text other rows e a = ap (λ (t : List ℕ). file_rows (refresh_form f) (length t) t) e ∙ a

-- a front that stands behind its length is shorter than all
short : (bytes front rest : List ℕ) → length bytes < 2 ^ 64 → framed front ++ rest ≡ bytes → length front < 2 ^ 64
short bytes front rest less is =
    omega (arith, less, ap length is, length-append (framed front) rest, length-append (to_be_bytes w64 (length front)) front)

-- no insert where nothing stands behind its length
frame_none : (bytes : List ℕ) → length bytes < 2 ^ 64
    → ((front rest : List ℕ) → length front < 2 ^ 64 → bytes ≡ framed front ++ rest → ⊥)
    → (other : Change) → IsReadable other → spelling_of other ≡ 1 ∷ bytes → ⊥
frame_none bytes less none (InsertRows orders lines) readable e =
    let is = tails 1 1 _ bytes e in
    none (rows_text orders) (rows_text lines) (short bytes (rows_text orders) (rows_text lines) less is) (sym is)
frame_none bytes less none (DeleteKeys keys) readable e = not_two (keys_text keys) bytes e
frame_none bytes less none (MalformedFile f set refusal) readable e = readable

pub no_frame : (bytes : List ℕ) → length bytes < 2 ^ 64
    → ((front rest : List ℕ) → length front < 2 ^ 64 → bytes ≡ framed front ++ rest → ⊥) → IsNone (1 ∷ bytes)
no_frame bytes less none = record { none = frame_none bytes less none }

module _ (bytes first second : List ℕ) (less : length bytes < 2 ^ 64) (within : length first < 2 ^ 64) (is : bytes ≡ framed first ++ second) where
  -- the two texts of an insert
  texts : (orders lines : List (List Value)) → spelling_of (InsertRows orders lines) ≡ 1 ∷ bytes → (rows_text orders ≡ first) × (rows_text lines ≡ second)
  texts orders lines e =
      let behind = tails 1 1 _ bytes e in
      one_entry (rows_text orders) first (rows_text lines) second (short bytes (rows_text orders) (rows_text lines) less behind) within (behind ∙ is)

  orders_none : ((rows : List (List Value)) → IsTextOf file.Orders first rows → ⊥) → (other : Change) → IsReadable other → spelling_of other ≡ 1 ∷ bytes → ⊥
  orders_none none (InsertRows orders lines) readable e =
      none orders (moved file.Orders first (rows_text orders) orders (sym (texts orders lines e).0) readable.0)
  orders_none none (DeleteKeys keys) readable e = not_two (keys_text keys) bytes e
  orders_none none (MalformedFile f set refusal) readable e = readable

  pub no_orders : ((rows : List (List Value)) → IsTextOf file.Orders first rows → ⊥) → IsNone (1 ∷ bytes)
  no_orders none = record { none = orders_none none }

  lineitems_none : ((rows : List (List Value)) → IsTextOf file.Lineitem second rows → ⊥) → (other : Change) → IsReadable other → spelling_of other ≡ 1 ∷ bytes → ⊥
  lineitems_none none (InsertRows orders lines) readable e =
      none lines (moved file.Lineitem second (rows_text lines) lines (sym (texts orders lines e).1) readable.1)
  lineitems_none none (DeleteKeys keys) readable e = not_two (keys_text keys) bytes e
  lineitems_none none (MalformedFile f set refusal) readable e = readable

  pub no_lineitems : ((rows : List (List Value)) → IsTextOf file.Lineitem second rows → ⊥) → IsNone (1 ∷ bytes)
  no_lineitems none = record { none = lineitems_none none }

  module _ (orders lines : List (List Value)) (read : IsTextOf file.Orders first orders) (read_lines : IsTextOf file.Lineitem second lines) where
    only_insert : (other : Change) → IsReadable other → spelling_of other ≡ 1 ∷ bytes → other ≡ InsertRows orders lines
    only_insert (InsertRows os ls) readable e =
        let t = texts os ls e in
        let o : os ≡ orders = same_rows file.Orders (rows_text os) first os orders t.0 readable.0 read in
        let l : ls ≡ lines = same_rows file.Lineitem (rows_text ls) second ls lines t.1 readable.1 read_lines in
        ap (λ (x : List (List Value)). InsertRows x ls) o ∙ ap (λ (x : List (List Value)). InsertRows orders x) l
    only_insert (DeleteKeys keys) readable e = absurd (not_two (keys_text keys) bytes e)
    only_insert (MalformedFile f set refusal) readable e = absurd readable

    pub an_insert : MayBe (1 ∷ bytes) (InsertRows orders lines)
    an_insert = record {
      only = only_insert;
      readable = λ e. let t = texts orders lines e in
          (moved file.Orders (rows_text orders) first orders t.0 read, moved file.Lineitem (rows_text lines) second lines t.1 read_lines);
    }

keys_none : (bytes : List ℕ) → ((rows : List (List Value)) → IsTextOf file.Delete bytes rows → ⊥) → (other : Change) → IsReadable other → spelling_of other ≡ 2 ∷ bytes → ⊥
keys_none bytes none (InsertRows orders lines) readable e = not_two bytes _ (sym e)
keys_none bytes none (DeleteKeys keys) readable e =
    none readable.0 (moved file.Delete bytes (keys_text keys) readable.0 (sym (tails 2 2 (keys_text keys) bytes e)) readable.1)
keys_none bytes none (MalformedFile f set refusal) readable e = readable

pub no_keys : (bytes : List ℕ) → ((rows : List (List Value)) → IsTextOf file.Delete bytes rows → ⊥) → IsNone (2 ∷ bytes)
no_keys bytes none = record { none = keys_none bytes none }

module _ (bytes : List ℕ) (rows : List (List Value)) (read : IsTextOf file.Delete bytes rows) where
  only_delete : (other : Change) → IsReadable other → spelling_of other ≡ 2 ∷ bytes → other ≡ DeleteKeys (order_keys rows)
  only_delete (InsertRows orders lines) readable e = absurd (not_two bytes _ (sym e))
  only_delete (DeleteKeys keys) readable e =
      let same : readable.0 ≡ rows = same_rows file.Delete (keys_text keys) bytes readable.0 rows (tails 2 2 (keys_text keys) bytes e) readable.1 read in
      ap DeleteKeys (sym readable.2 ∙ ap order_keys same)
  only_delete (MalformedFile f set refusal) readable e = absurd readable

  pub a_delete : MayBe (2 ∷ bytes) (DeleteKeys (order_keys rows))
  a_delete = record {
    only = only_delete;
    readable = λ e. (rows, moved file.Delete (keys_text (order_keys rows)) bytes rows (tails 2 2 _ bytes e) read, refl);
  }

tag_none : (bytes rest : List ℕ) (tag : ℕ) → bytes ≡ tag ∷ rest → tag ≢ 1 → tag ≢ 2 → (other : Change) → IsReadable other → spelling_of other ≡ bytes → ⊥
tag_none bytes rest tag is one two (InsertRows orders lines) readable e = one (sym (heads 1 tag _ rest (e ∙ is)))
tag_none bytes rest tag is one two (DeleteKeys keys) readable e = two (sym (heads 2 tag _ rest (e ∙ is)))
tag_none bytes rest tag is one two (MalformedFile f set refusal) readable e = readable

-- other bytes spell nothing
pub no_tag : (bytes rest : List ℕ) (tag : ℕ) → bytes ≡ tag ∷ rest → tag ≢ 1 → tag ≢ 2 → IsNone bytes
no_tag bytes rest tag is one two = record { none = tag_none bytes rest tag is one two }

nothing : (other : Change) → IsReadable other → spelling_of other ≡ [] → ⊥
nothing (InsertRows orders lines) readable e = cc
nothing (DeleteKeys keys) readable e = cc
nothing (MalformedFile f set refusal) readable e = readable

-- nor do none
pub no_bytes : (bytes : List ℕ) → bytes ≡ [] → IsNone bytes
no_bytes bytes is = record { none = λ other readable e. nothing other readable (e ∙ is) }

-- rows that fit a refresh file are of its table
pub orders_are_of : (rows : List (List Value)) → RowsFit (refresh_form file.Orders) rows → RowsAreOf name.Orders rows
orders_are_of rows fit = rows_fit_are_of (refresh_form file.Orders) name.Orders rows refl fit

pub lineitems_are_of : (rows : List (List Value)) → RowsFit (refresh_form file.Lineitem) rows → RowsAreOf name.Lineitem rows
lineitems_are_of rows fit = rows_fit_are_of (refresh_form file.Lineitem) name.Lineitem rows refl fit

pub ruleset readings = (no_frame, no_orders, no_lineitems, an_insert, no_keys, a_delete, no_tag, no_bytes, orders_are_of, lineitems_are_of)

-- what is written for one change is written for the same one
pub spells : (change other : Change) (before after : List ℕ) → change ≡ other → after ≡ before ++ spelling_of change → after ≡ before ++ spelling_of other
spells change other before after same is = is ∙ ap (λ (c : Change). before ++ spelling_of c) same

-- refreshes that are read back from the same bytes are the same
pub one_spelling : (a b : Change) → IsReadable a → IsReadable b → length (spelling_of a) < 2 ^ 64 → spelling_of a ≡ spelling_of b → a ≡ b
one_spelling (InsertRows orders lines) (InsertRows others further) x y less e =
    let behind = tails 1 1 (framed (rows_text orders) ++ rows_text lines) (framed (rows_text others) ++ rows_text further) e in
    let one = short (framed (rows_text orders) ++ rows_text lines) (rows_text orders) (rows_text lines) (omega (arith, less)) refl in
    let two = short (framed (rows_text orders) ++ rows_text lines) (rows_text others) (rows_text further) (omega (arith, less)) (sym behind) in
    let texts = one_entry (rows_text orders) (rows_text others) (rows_text lines) (rows_text further) one two behind in
    ap (λ (rows : List (List Value)). InsertRows rows lines) (same_rows file.Orders (rows_text orders) (rows_text others) orders others texts.0 x.0 y.0)
    ∙ ap (λ (rows : List (List Value)). InsertRows others rows) (same_rows file.Lineitem (rows_text lines) (rows_text further) lines further texts.1 x.1 y.1)
one_spelling (DeleteKeys keys) (DeleteKeys others) x y less e =
    let same : x.0 ≡ y.0 = same_rows file.Delete (keys_text keys) (keys_text others) x.0 y.0 (tails 2 2 (keys_text keys) (keys_text others) e) x.1 y.1 in
    ap DeleteKeys (sym x.2 ∙ ap order_keys same ∙ y.2)
one_spelling (InsertRows orders lines) (DeleteKeys keys) x y less e = absurd (not_two (keys_text keys) _ (sym e))
one_spelling (DeleteKeys keys) (InsertRows orders lines) x y less e = absurd (not_two (keys_text keys) _ e)
one_spelling (MalformedFile f set refusal) b x y less e = absurd x
one_spelling (InsertRows orders lines) (MalformedFile f set refusal) x y less e = absurd y
one_spelling (DeleteKeys keys) (MalformedFile f set refusal) x y less e = absurd y
