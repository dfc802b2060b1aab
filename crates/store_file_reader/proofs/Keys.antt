-- The keys of rows, and what is kept of them.
use Rattle.std.proofs.Common.{◌≡◌, ℕ, zero, suc, ◌+◌, ◌<◌, Bool, true, false, not, cond, ◌&&◌, ◌||◌, ◌==◌, ℤ, pos, negsuc, FitsSigned, unwrap_or, w64, ◌^◌, int_lt, int_le, List, [], ◌∷◌, ◌++◌, map, length, take, get_or, refl, sym, ◌∙◌, ap, arith, Decides, Option, Some, None}
use Rattle.std.specs.Cmp.Lexicographic.{pointwise}
use Rattle.std.specs.Ordering.{int_eq}
use Rattle.std.specs.Prelude.{slice_index_or}
use Rattle.std.specs.List.{All, list_any}
use Rattle.std.proofs.lemmas.Bool.{and_parts, and_from, lt-ltb, ltb-true}
use Rattle.std.proofs.lemmas.Bool.Decides.{Decides-int_eq, Decides-eqb}
use Rattle.std.proofs.lemmas.Int.{ints}
use Rattle.std.proofs.lemmas.List.{map-append, take_more}
use Rattle.std.proofs.lemmas.List.Elements.{All-push, All-head, All-tail}
use Rattle.std.proofs.lemmas.List.Folds.{list_any-append, list_any_none}
use Rattle.base_row_laws.specs.Bags.{IsIdentity}
use Rattle.base_value.specs.declared.value.Value.{Value}
use Rattle.base_value.specs.declared.value.Value.TheVariants as value
use Rattle.base_value.specs.Value.{same_row}
use Rattle.base_refusals.specs.declared.refresh.RefreshFile.TheVariants as refresh
use Rattle.base_columns.specs.Numbers.{is_small}
use Rattle.base_schema.specs.declared.column.ColumnKind.TheVariants.{Key as KeyKind, Whole}
use Rattle.base_schema.specs.declared.file.DataFile.{DataFile}
use Rattle.base_schema.specs.declared.file.DataFile.TheVariants.{Table, Refresh}
use Rattle.base_schema.specs.declared.table.TableName.TheVariants.{Region, Nation, Part, Supplier, Partsupp, Customer, Orders, Lineitem}
use Rattle.base_schema.specs.Kinds.{is_of_kind, is_narrow, can_hold}
use Rattle.base_schema.specs.declared.column.LineColumn.{LineColumn}
use Rattle.base_schema.specs.LineForm.{LineForm, never_null, fits, RowsFit, file_form, key_of}
use Rattle.store_file_reader.specs.declared.key.Key.{Key}
use Rattle.store_file_reader.specs.contracts.key.KeyPartialEq.TheImpl.{eq-value as eq-key}
use Rattle.store_file_reader.specs.declared.key.Keys.TheVariants.{Ascending}
use Rattle.store_file_reader.specs.Key.{key_number, row_key, same_key, is_above, comes_after, SameKeys, AreKeys}
use Rattle.store_file_reader.specs.File.{is_taken}

-- two keys

pub derived_test : (k l : Key) → eq-key.it k l ≡ same_key k l
derived_test k l = refl

key_decides : (k l : Key) → Decides (same_key k l) (k ≡ l)
key_decides k l = (
  λ e.
      let first : k.first ≡ l.first = (Decides-int_eq k.first l.first).0 (and_parts _ _ e).0 in
      let second : k.second ≡ l.second = (Decides-int_eq k.second l.second).0 (and_parts _ _ e).1 in
      λ i. record { first = first i; second = second i },
  λ e. and_from _ _ ((Decides-int_eq k.first l.first).1 (ap (λ (m : Key). m.first) e)) ((Decides-int_eq k.second l.second).1 (ap (λ (m : Key). m.second) e)),
)

pub key_identity : IsIdentity eq-key.it
key_identity = record { meets = λ k. (key_decides k k).1 refl; tells = λ k l. (key_decides k l).0 }

not_higher : (a b c d e f : ℤ) → (int_lt e c || (int_le e c && int_lt f d)) ≡ true → (int_lt e a || (int_le e a && int_lt f b)) ≡ false
    → (int_lt c a || (int_le c a && int_lt d b)) ≡ false
not_higher a b c d e f p q = grind (arith, ints)

none_above : (k l m : Key) → is_above l m ≡ true → is_above k m ≡ false → is_above k l ≡ false
none_above k l m p q = not_higher k.first k.second l.first l.second m.first m.second p q

not_above_both : (a b : ℤ) → (int_lt a a || (int_le a a && int_lt b b)) ≡ false
not_above_both a b = grind (arith, ints)

not_above_itself : (k : Key) → is_above k k ≡ false
not_above_itself k = not_above_both k.first k.second

-- keys that ascend

differs : (key k last : Key) (t : Bool) → same_key key k ≡ t → is_above k last ≡ false → is_above key last ≡ true → t ≡ false
differs key k last true e p q = let same : key ≡ k = (key_decides key k).0 e in let r : is_above k last ≡ true = rw (← same) q in cc
differs key k last false e p q = refl

-- a key above the last one is new
pub new_above : (last key : Key) (keys : List Key) → All (λ k. is_above k last ≡ false) keys → is_above key last ≡ true → true ≡ not (list_any (same_key key) keys)
new_above last key keys below above =
    let none : list_any (same_key key) keys ≡ false =
    list_any_none (same_key key) keys (λ i d h. differs key (get_or keys i d) last (same_key key (get_or keys i d)) refl (below i d h) above) in
    rw none refl

-- and then none is above it
pub below_more : (last key : Key) (keys : List Key) → All (λ k. is_above k last ≡ false) keys → is_above key last ≡ true
    → All (λ k. is_above k key ≡ false) (keys ++ key ∷ [])
below_more last key keys below above =
    All-push (λ k. is_above k key ≡ false) keys key (λ i d h. none_above (get_or keys i d) key last above (below i d h)) (not_above_itself key)

pub new_first : (key : Key) (keys : List Key) → keys ≡ [] → true ≡ not (list_any (same_key key) keys)
new_first key keys e = rw e refl

pub below_first : (key : Key) (keys : List Key) → keys ≡ [] → All (λ k. is_above k key ≡ false) (keys ++ key ∷ [])
below_first key keys e = rw e (All-push (λ k. is_above k key ≡ false) [] key (λ i d h. absurd (omega (arith, h))) (not_above_itself key))

-- a set of keys

or_nothing : (b : Bool) → (b || false) ≡ b
or_nothing true = refl
or_nothing false = refl

or_true : (b : Bool) → (b || true) ≡ true
or_true true = refl
or_true false = refl

same_more : (set keys : List Key) (key : Key) → SameKeys set keys → SameKeys (set ++ key ∷ []) (keys ++ key ∷ [])
same_more set keys key same = record {
  members = λ k.
      list_any-append (same_key k) set (key ∷ [])
      ∙ ap (λ b. b || list_any (same_key k) (key ∷ [])) (same.members k)
      ∙ sym (list_any-append (same_key k) keys (key ∷ []));
}

again_by : (set keys : List Key) (key k : Key) (t : Bool) → same_key k key ≡ t → list_any (same_key k) set ≡ list_any (same_key k) keys
    → list_any (same_key key) set ≡ true → list_any (same_key k) set ≡ (list_any (same_key k) keys || (t || false))
again_by set keys key k true e same found =
    let is : k ≡ key = (key_decides k key).0 e in
    let here : list_any (same_key k) set ≡ true = rw is found in
    here ∙ sym (or_true (list_any (same_key k) keys))
again_by set keys key k false e same found = same ∙ sym (or_nothing (list_any (same_key k) keys))

same_again : (set keys : List Key) (key : Key) → SameKeys set keys → list_any (same_key key) set ≡ true → SameKeys set (keys ++ key ∷ [])
same_again set keys key same found = record {
  members = λ k.
      again_by set keys key k (same_key k key) refl (same.members k) found ∙ sym (list_any-append (same_key k) keys (key ∷ []));
}

not_not : (b c : Bool) → c ≡ not b → c ≡ false → b ≡ true
not_not true c e f = refl
not_not false c e f = cc

derived_any : (key : Key) (set : List Key) → list_any (eq-key.it key) set ≡ list_any (same_key key) set
derived_any key set = refl

set_step : (set keys : List Key) (key : Key) (added : Bool) → SameKeys set keys → added ≡ not (list_any (same_key key) set)
    → SameKeys (cond added (set ++ key ∷ []) set) (keys ++ key ∷ [])
set_step set keys key true same e = same_more set keys key same
set_step set keys key false same e = same_again set keys key same (not_not (list_any (same_key key) set) false e refl)

-- the keys of one row more
pub set_more : {A : Type 0} (f : A → Key) (rows : List A) (i : ℕ) (d : A) (set new : List Key) (key : Key) (added : Bool) → i < length rows
    → key ≡ f (get_or rows i d) → SameKeys set (map f (take i rows)) → added ≡ not (list_any (eq-key.it key) set)
    → new ≡ cond added (set ++ key ∷ []) set → SameKeys new (map f (take (i + 1) rows))
set_more f rows i d set new key added h is same e made =
    let shape : map f (take (i + 1) rows) ≡ map f (take i rows) ++ key ∷ [] =
    ap (map f) (take_more rows i d h) ∙ map-append f (take i rows) (get_or rows i d ∷ []) ∙ ap (λ k. map f (take i rows) ++ k ∷ []) (sym is) in
    rw (made, shape) (set_step set (map f (take i rows)) key added same e)

-- what the set tells of a key
pub told : (set keys : List Key) (key : Key) (added : Bool) → SameKeys set keys → added ≡ not (list_any (eq-key.it key) set)
    → added ≡ not (list_any (same_key key) keys)
told set keys key added same e = e ∙ ap not (same.members key)

noted_by : (set keys : List Key) (key : Key) (added : Bool) → SameKeys set keys
    → SameKeys (cond added (set ++ key ∷ []) set) (cond added (keys ++ key ∷ []) keys)
noted_by set keys key true same = same_more set keys key same
noted_by set keys key false same = same

pub noted : (set keys new : List Key) (key : Key) (added : Bool) → SameKeys set keys → new ≡ cond added (set ++ key ∷ []) set
    → SameKeys new (cond added (keys ++ key ∷ []) keys)
noted set keys new key added same made = rw made (noted_by set keys key added same)

-- the last key, if there is one

pub new_after : (last : Option Key) (key : Key) (keys : List Key) → AreKeys (Ascending last) keys → comes_after key last ≡ true
    → true ≡ not (list_any (same_key key) keys)
new_after None key keys none above = new_first key keys none
new_after (Some last) key keys below above = new_above last key keys below above

pub below_after : (last : Option Key) (key : Key) (keys : List Key) → AreKeys (Ascending last) keys → comes_after key last ≡ true
    → AreKeys (Ascending (Some key)) (keys ++ key ∷ [])
below_after None key keys none above = below_first key keys none
below_after (Some last) key keys below above = below_more last key keys below above

pub ruleset sets = (told, noted, new_after, below_after)

-- the keys of rows that fit

abbrev IsKeyNumber : Value → Type 0
IsKeyNumber v = v ≡ value.Number 0 (key_number v)

small_of_narrow : (c : ℤ) → is_narrow c ≡ true → is_small c ≡ true
small_of_narrow (pos n) e = e
small_of_narrow (negsuc n) e = lt-ltb n (2 ^ 63) (omega (arith, ltb-true (suc n) (2 ^ 63) e))

-- a number of 64 bits is the one that a key has
small_number_is : (c : ℤ) → is_small c ≡ true → unwrap_or (cond (is_small c) (Some c) None) (pos 0) ≡ c
small_number_is c e = rw e refl

fits_small : (c : ℤ) → FitsSigned w64 c → is_small c ≡ true
fits_small (pos n) f = lt-ltb n (2 ^ 63) f.sfits
fits_small (negsuc n) f = lt-ltb n (2 ^ 63) f.sfits

pub small_is : (c : ℤ) → FitsSigned w64 c → c ≡ unwrap_or (cond (is_small c) (Some c) None) (pos 0)
small_is c f = sym (small_number_is c (fits_small c f))

narrow_number : (s : ℕ) (c : ℤ) → (s == 0) ≡ true → is_narrow c ≡ true → value.Number s c ≡ value.Number 0 (key_number (value.Number s c))
narrow_number s c e n =
    let zero_scale : s ≡ 0 = (Decides-eqb s 0).0 e in
    let number : key_number (value.Number s c) ≡ c = small_number_is c (small_of_narrow c n) in
    rw (number, zero_scale) refl

key_kind : (v : Value) → is_of_kind KeyKind v ≡ true → IsKeyNumber v
key_kind (value.Number s c) e =
    let p : (((s == 0) && not (int_lt c (pos 0))) ≡ true) × (is_narrow c ≡ true) = and_parts _ _ e in
    narrow_number s c (and_parts _ _ p.0).0 p.1
key_kind v e = cc

whole_kind : (v : Value) → is_of_kind Whole v ≡ true → IsKeyNumber v
whole_kind (value.Number s c) e = narrow_number s c (and_parts _ _ e).0 (and_parts _ _ e).1
whole_kind v e = cc

held_at : (columns : List LineColumn) (row : List Value) (p : ℕ) (d : LineColumn) → pointwise can_hold columns row ≡ true → p < length columns
    → can_hold (get_or columns p d) (slice_index_or row p value.Null) ≡ true
held_at [] row p d e h = absurd (omega (arith, h))
held_at (column ∷ columns) [] p d e h = cc
held_at (column ∷ columns) (v ∷ row) zero d e h = (and_parts _ _ e).0
held_at (column ∷ columns) (v ∷ row) (suc p) d e h = held_at columns row p d (and_parts _ _ e).1 (omega (arith, h))

key_at : (columns : List LineColumn) (row : List Value) (p : ℕ) → pointwise can_hold columns row ≡ true → p < length columns
    → get_or columns p (never_null KeyKind) ≡ never_null KeyKind → IsKeyNumber (slice_index_or row p value.Null)
key_at columns row p e h is =
    key_kind (slice_index_or row p value.Null) (ap (λ column. can_hold column (slice_index_or row p value.Null)) (sym is) ∙ held_at columns row p (never_null KeyKind) e h)

whole_at : (columns : List LineColumn) (row : List Value) (p : ℕ) → pointwise can_hold columns row ≡ true → p < length columns
    → get_or columns p (never_null KeyKind) ≡ never_null Whole → IsKeyNumber (slice_index_or row p value.Null)
whole_at columns row p e h is =
    whole_kind (slice_index_or row p value.Null) (ap (λ column. can_hold column (slice_index_or row p value.Null)) (sym is) ∙ held_at columns row p (never_null KeyKind) e h)

one_number : (a b : ℤ) → (int_eq a b && int_eq (pos 0) (pos 0)) ≡ same_row (value.Number 0 a ∷ []) (value.Number 0 b ∷ [])
one_number a b = refl

two_numbers : (a b c d : ℤ) → (int_eq a c && int_eq b d) ≡ same_row (value.Number 0 a ∷ value.Number 0 b ∷ []) (value.Number 0 c ∷ value.Number 0 d ∷ [])
two_numbers a b c d = ap (λ t. int_eq a c && t) (sym (and_nothing (int_eq b d)))
  where
    and_nothing : (b : Bool) → (b && true) ≡ b
    and_nothing true = refl
    and_nothing false = refl

one_column : (v w : Value) → IsKeyNumber v → IsKeyNumber w → (int_eq (key_number v) (key_number w) && int_eq (pos 0) (pos 0)) ≡ same_row (v ∷ []) (w ∷ [])
one_column v w p q = one_number (key_number v) (key_number w) ∙ (λ i. same_row (sym p i ∷ []) (sym q i ∷ []))

two_columns : (v w x y : Value) → IsKeyNumber v → IsKeyNumber w → IsKeyNumber x → IsKeyNumber y
    → (int_eq (key_number v) (key_number x) && int_eq (key_number w) (key_number y)) ≡ same_row (v ∷ w ∷ []) (x ∷ y ∷ [])
two_columns v w x y p q r s =
    two_numbers (key_number v) (key_number w) (key_number x) (key_number y) ∙ (λ i. same_row (sym p i ∷ sym q i ∷ []) (sym r i ∷ sym s i ∷ []))

-- a key in the first column
first_column : (form : LineForm) (x y : List Value) → form.key ≡ 0 ∷ [] → 0 < length form.columns → get_or form.columns 0 (never_null KeyKind) ≡ never_null KeyKind
    → fits form x ≡ true → fits form y ≡ true → same_key (row_key form x) (row_key form y) ≡ same_row (key_of form x) (key_of form y)
first_column form x y key h is e f =
    rw key (one_column (slice_index_or x 0 value.Null) (slice_index_or y 0 value.Null) (key_at form.columns x 0 e h is) (key_at form.columns y 0 f h is))

-- two rows' keys are the same where the values of their key columns are
same_row_key : (file : DataFile) (x y : List Value) → fits (file_form file) x ≡ true → fits (file_form file) y ≡ true
    → same_key (row_key (file_form file) x) (row_key (file_form file) y) ≡ same_row (key_of (file_form file) x) (key_of (file_form file) y)
same_row_key (Table Region) x y e f = first_column (file_form (Table Region)) x y refl (omega arith) refl e f
same_row_key (Table Nation) x y e f = first_column (file_form (Table Nation)) x y refl (omega arith) refl e f
same_row_key (Table Part) x y e f = first_column (file_form (Table Part)) x y refl (omega arith) refl e f
same_row_key (Table Supplier) x y e f = first_column (file_form (Table Supplier)) x y refl (omega arith) refl e f
same_row_key (Table Customer) x y e f = first_column (file_form (Table Customer)) x y refl (omega arith) refl e f
same_row_key (Table Orders) x y e f = first_column (file_form (Table Orders)) x y refl (omega arith) refl e f
same_row_key (Refresh refresh.Orders) x y e f = first_column (file_form (Refresh refresh.Orders)) x y refl (omega arith) refl e f
same_row_key (Refresh refresh.Delete) x y e f = first_column (file_form (Refresh refresh.Delete)) x y refl (omega arith) refl e f
same_row_key (Table Partsupp) x y e f =
    let columns : List LineColumn = (file_form (Table Partsupp)).columns in
    two_columns _ _ _ _ (key_at columns x 0 e (omega arith) refl) (key_at columns x 1 e (omega arith) refl) (key_at columns y 0 f (omega arith) refl) (key_at columns y 1 f (omega arith) refl)
same_row_key (Table Lineitem) x y e f =
    let columns : List LineColumn = (file_form (Table Lineitem)).columns in
    two_columns _ _ _ _ (key_at columns x 0 e (omega arith) refl) (whole_at columns x 3 e (omega arith) refl) (key_at columns y 0 f (omega arith) refl) (whole_at columns y 3 f (omega arith) refl)
same_row_key (Refresh refresh.Lineitem) x y e f =
    let columns : List LineColumn = (file_form (Refresh refresh.Lineitem)).columns in
    two_columns _ _ _ _ (key_at columns x 0 e (omega arith) refl) (whole_at columns x 3 e (omega arith) refl) (key_at columns y 0 f (omega arith) refl) (whole_at columns y 3 f (omega arith) refl)

-- a row's key is among the keys of rows where an earlier row has it
pub taken_is : (file : DataFile) (rows : List (List Value)) (row : List Value) → RowsFit (file_form file) rows → fits (file_form file) row ≡ true
    → list_any (same_key (row_key (file_form file) row)) (map (row_key (file_form file)) rows) ≡ is_taken (file_form file) rows row
taken_is file [] row fit e = refl
taken_is file (r ∷ rows) row fit e =
    let first : fits (file_form file) r ≡ true = All-head (λ other. fits (file_form file) other ≡ true) r rows fit in
    let others : RowsFit (file_form file) rows = All-tail (λ other. fits (file_form file) other ≡ true) r rows fit in
    λ i. same_row_key file row r e first i || taken_is file rows row others e i

pub keys-push : (form : LineForm) (rows : List (List Value)) (row : List Value)
    → map (row_key form) (rows ++ row ∷ []) ≡ map (row_key form) rows ++ row_key form row ∷ []
keys-push form rows row = map-append (row_key form) rows (row ∷ [])

pub ruleset keyed = (taken_is, keys-push, All-push)
