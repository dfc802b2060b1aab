-- Values of rows where they lie.
use Rattle.std.proofs.Common.{◌≡◌, ℕ, ℤ, ◌+◌, ◌<◌, ◌≤◌, suc, zero, List, [], ◌∷◌, ◌++◌, sym, ap, ◌∙◌, refl, arith, length, get_or, take, map, Bool, true, false, subst, inl, inr}
use Rattle.std.specs.Prelude.{◌||◌}
use Rattle.std.specs.List.{All}
use Rattle.std.proofs.Math.ListN.{get_or-eq_default}
use Rattle.std.proofs.lemmas.Bool.{cases_lt, true≢false}
use Rattle.std.proofs.lemmas.List.{length-map, get_or-map, take_more, take_all, get_or_default, map-append}
use Rattle.base_null_marks.specs.Marks.{marked, has}
use Rattle.base_row_laws.specs.Ranked.{Ranked, ranked, Relation, relation}
use Rattle.base_value.specs.declared.value.Value.{Value}
use Rattle.base_value.specs.declared.value.Value.TheVariants.{Null, Number, Date, Text, Fault}
use Rattle.base_columns.specs.Batches.{cells, column_at, first_columns, row_at}
use Rattle.base_columns.specs.Forms.{is_null, is_text, AreOfForm}
use Rattle.base_columns.specs.declared.column_builder.ColumnForm.TheVariants.{Texts}
use Rattle.base_columns.proofs.MarkedColumns.{long-marked, null_there, value_there}
use Rattle.expr_aggregates.specs.Values.{value_rank}
use Rattle.exec_ordered_rows.specs.Cells.{AreTexts, HaveNoFault}
use Rattle.exec_ordered_rows.specs.Places.{placed_row}
use Rattle.exec_ordered_rows.specs.declared.place.RowPlace.{RowPlace}

pub past_marked : {A : Type 0} (f : A → Value) (ms : List Bool) (xs : List A) (i : ℕ)
    → length xs ≤ i → get_or (marked Null ms (map f xs)) i Null ≡ Null
past_marked f ms xs i h =
    let l = long-marked ms (map f xs) in let m = length-map xs f in
    get_or-eq_default (marked Null ms (map f xs)) Null (omega (arith, l, m, h))

pub marked_there : {A : Type 0} (f : A → Value) (ms : List Bool) (xs : List A) (i : ℕ) (x : A)
    → has ms i ≡ false → i < length xs → x ≡ get_or xs i x
    → get_or (marked Null ms (map f xs)) i Null ≡ f x
marked_there f ms xs i x m h e =
    value_there ms (map f xs) i m ∙ get_or-map f xs i x Null h ∙ ap f (sym e)

pub marked_at : {A : Type 0} (f : A → Value) (ms : List Bool) (xs : List A) (i : ℕ) (d : A)
    → has ms i ≡ false → i < length xs
    → get_or (marked Null ms (map f xs)) i Null ≡ f (get_or xs i d)
marked_at f ms xs i d m h = value_there ms (map f xs) i m ∙ get_or-map f xs i d Null h

pub ruleset reads = (past_marked, marked_there, null_there)

-- each element of a longer part
pub all_one : {X : Type 0} (P : X → Type 0) (x : X) → P x → All P (x ∷ [])
all_one P x p zero d h = p
all_one P x p (suc k) d h = absurd (omega (arith, h))

pub all_push : {X : Type 0} (P : X → Type 0) (xs : List X) (x : X) → All P xs → P x
    → All P (xs ++ x ∷ [])
all_push P [] x a p k d h = all_one P x p k d h
all_push P (y ∷ ys) x a p zero d h = a 0 d (omega arith)
all_push P (y ∷ ys) x a p (suc k) d h =
    all_push P ys x (λ j e l. a (suc j) e (omega (arith, l))) p k d (omega (arith, h))

pub all_more : {X : Type 0} (P : X → Type 0) (xs : List X) (i : ℕ) (d : X) → i < length xs
    → All P (take i xs) → P (get_or xs i d) → All P (take (i + 1) xs)
all_more P xs i d h a p =
    subst (All P) (sym (take_more xs i d h)) (all_push P (take i xs) (get_or xs i d) a p)

pub all_taken : {X : Type 0} (P : X → Type 0) (xs : List X) (i : ℕ) → length xs ≤ i
    → All P (take i xs) → All P xs
all_taken P xs i h a = subst (All P) (take_all i xs h) a

-- texts and nulls, one more
text_more : (values : List Value) (i : ℕ) → i < length values → AreTexts (take i values)
    → is_text (get_or values i Null) ≡ true → AreTexts (take (i + 1) values)
text_more values i h a t =
    all_more (λ v. (is_text v || is_null v) ≡ true) values i Null h a (rw t refl)

is_text_value : (v : Value) (t : List ℕ) → Text t ≡ v → (is_text v || is_null v) ≡ true
is_text_value v t e = subst (λ w. (is_text w || is_null w) ≡ true) e refl

pub text_there : (values : List Value) (i : ℕ) (t : List ℕ) → i < length values
    → AreTexts (take i values) → Text t ≡ get_or values i Null → AreTexts (take (i + 1) values)
text_there values i t h a e =
    all_more (λ v. (is_text v || is_null v) ≡ true) values i Null h a
    (is_text_value (get_or values i Null) t e)

pub null_more : (values : List Value) (i : ℕ) (v : Value) → i < length values
    → AreTexts (take i values) → v ≡ Null → v ≡ get_or values i Null
    → AreTexts (take (i + 1) values)
null_more values i v h a n e =
    let is : get_or values i Null ≡ Null = sym e ∙ n in
    all_more (λ w. (is_text w || is_null w) ≡ true) values i Null h a
    (subst (λ w. (is_text w || is_null w) ≡ true) (sym is) refl)

pub texts_end : (values : List Value) (i : ℕ) → length values ≤ i → AreTexts (take i values)
    → AreTexts values
texts_end values i h a = all_taken (λ v. (is_text v || is_null v) ≡ true) values i h a

pub texts_none : (values : List Value) → AreTexts (take 0 values)
texts_none values k d h = absurd (omega (arith, h))

pub ruleset texts = (text_there, null_more, texts_end, texts_none)

-- a column of texts
text_or_null : (v : Value) → is_text v ≡ true → (is_text v || is_null v) ≡ true
text_or_null v e = rw e refl

pub typed_texts : (values : List Value) → AreOfForm Texts values → AreTexts values
typed_texts values a k d h = text_or_null (get_or values k d) (a k d h)

-- no faults
no_fault_marked : (ms : List Bool) (xs : List Value) → HaveNoFault xs
    → HaveNoFault (marked Null ms xs)
no_fault_marked [] xs a k d h = a k d h
no_fault_marked (m ∷ ms) [] a k d h = absurd (omega (arith, h))
no_fault_marked (true ∷ ms) (x ∷ xs) a zero d h = refl
no_fault_marked (false ∷ ms) (x ∷ xs) a zero d h = a zero d (omega arith)
no_fault_marked (m ∷ ms) (x ∷ xs) a (suc k) d h =
    no_fault_marked ms xs (λ j e l. a (suc j) e (omega (arith, l))) k d (omega (arith, h))

no_fault_map : {A : Type 0} (f : A → Value) (xs : List A) → ((x : A) → value_rank (f x) ≡ 5)
    → HaveNoFault (map f xs)
no_fault_map f [] each k d h = absurd (omega (arith, h))
no_fault_map f (x ∷ xs) each zero d h = each x
no_fault_map f (x ∷ xs) each (suc k) d h = no_fault_map f xs each k d (omega (arith, h))

no_fault_of : (v : Value) → (is_text v || is_null v) ≡ true → value_rank v ≡ 5
no_fault_of (Fault f) e = absurd (true≢false (sym e))
no_fault_of (Number s c) e = refl
no_fault_of (Text t) e = refl
no_fault_of (Date d) e = refl
no_fault_of Null e = refl

pub no_fault_numbers : (s : ℕ) (ms : List Bool) (xs : List ℤ)
    → HaveNoFault (marked Null ms (map (Number s) xs))
no_fault_numbers s ms xs =
    no_fault_marked ms (map (Number s) xs) (no_fault_map (Number s) xs (λ x. refl))

pub no_fault_dates : (ms : List Bool) (xs : List ℕ) → HaveNoFault (marked Null ms (map Date xs))
no_fault_dates ms xs = no_fault_marked ms (map Date xs) (no_fault_map Date xs (λ x. refl))

pub no_fault_texts : (values : List Value) → AreTexts values → HaveNoFault values
no_fault_texts values a k d h = no_fault_of (get_or values k d) (a k d h)

pub ruleset kinds = (typed_texts, no_fault_numbers, no_fault_dates, no_fault_texts)

-- columns without faults
pub faults_none : (columns : List (List Value)) → All HaveNoFault (take 0 columns)
faults_none columns k d h = absurd (omega (arith, h))

pub faults_more : (columns : List (List Value)) (i : ℕ) (c : List Value) → i < length columns
    → All HaveNoFault (take i columns) → c ≡ get_or columns i c → HaveNoFault c
    → All HaveNoFault (take (i + 1) columns)
faults_more columns i c h a e p = all_more HaveNoFault columns i c h a (subst HaveNoFault e p)

pub faults_end : (columns : List (List Value)) (i : ℕ) → length columns ≤ i
    → All HaveNoFault (take i columns) → All HaveNoFault columns
faults_end columns i h a = all_taken HaveNoFault columns i h a

pub ruleset faults = (faults_none, faults_more, faults_end)

-- a row of columns
cells_first : (rows : List (Ranked Value)) (n i : ℕ) (d : Ranked Value) → i < length rows
    → n ≤ length (get_or rows i d).values
    → cells (first_columns rows n) i ≡ take n (get_or rows i d).values
cells_first rows zero i d h l = refl
cells_first rows (suc n) i d h l =
    let e : suc n ≡ n + 1 = omega arith in
    let vs = (get_or rows i d).values in
    map-append (λ (c : List Value). get_or c i Null) (first_columns rows n) (column_at rows n ∷ [])
    ∙ ap (λ xs. xs ++ get_or (column_at rows n) i Null ∷ [])
    (cells_first rows n i d h (omega (arith, l)))
    ∙ ap (λ x. take n vs ++ x ∷ []) (get_or-map (λ (r : Ranked Value). get_or r.values n Null) rows i d Null h)
    ∙ sym (take_more vs n Null (omega (arith, l))) ∙ ap (λ k. take k vs) (sym e)

pub row_there : (columns : List (List Value)) (rows : List (Ranked Value)) (n i : ℕ)
    → columns ≡ first_columns rows n → All (λ r. length r.values ≡ n) rows → i < length rows
    → cells columns i ≡ (row_at rows i).values
row_there columns rows n i c w h =
    let e : length (row_at rows i).values ≡ n = w i (ranked [] 5) h in
    ap (λ cs. cells cs i) c ∙ cells_first rows n i (ranked [] 5) h (omega (arith, e))
    ∙ take_all n (row_at rows i).values (omega (arith, e))

pub row_past : (rows : List (Ranked Value)) (i : ℕ) → length rows ≤ i
    → (row_at rows i).values ≡ []
row_past rows i h = ap (λ (r : Ranked Value). r.values) (get_or-eq_default rows (ranked [] 5) h)

cell_no_fault : (c : List Value) (i : ℕ) → HaveNoFault c → value_rank (get_or c i Null) ≡ 5
cell_no_fault c i a = elim (cases_lt i (length c)) [
  | inl h ↦ a i Null h
  | inr h ↦ ap value_rank (get_or-eq_default c Null h)
]

cells_no_fault : (cs : List (List Value)) (i : ℕ) → All HaveNoFault cs → HaveNoFault (cells cs i)
cells_no_fault [] i a k d h = absurd (omega (arith, h))
cells_no_fault (c ∷ cs) i a zero d h = cell_no_fault c i (a zero [] (omega arith))
cells_no_fault (c ∷ cs) i a (suc k) d h =
    cells_no_fault cs i (λ j e l. a (suc j) e (omega (arith, l))) k d (omega (arith, h))

pub rows_no_fault : (columns : List (List Value)) (rows : List (Ranked Value)) (n : ℕ)
    → columns ≡ first_columns rows n → All (λ r. length r.values ≡ n) rows
    → All HaveNoFault columns → All (λ r. HaveNoFault r.values) rows
rows_no_fault columns rows n c w a i d h =
    let same : get_or rows i d ≡ row_at rows i = get_or_default rows i d (ranked [] 5) h in
    let is : cells columns i ≡ (get_or rows i d).values =
    row_there columns rows n i c w h ∙ ap (λ (r : Ranked Value). r.values) (sym same) in
    subst HaveNoFault is (cells_no_fault columns i a)

pub cell_there : (columns : List (List Value)) (rows : List (Ranked Value)) (n i j : ℕ)
    (c : List Value) → columns ≡ first_columns rows n → All (λ r. length r.values ≡ n) rows
    → i < length rows → j < length columns → c ≡ get_or columns j c
    → get_or (row_at rows i).values j Null ≡ get_or c i Null
cell_there columns rows n i j c is w h l e =
    ap (λ vs. get_or vs j Null) (sym (row_there columns rows n i is w h))
    ∙ get_or-map (λ (b : List Value). get_or b i Null) columns j c Null l
    ∙ ap (λ b. get_or b i Null) (sym e)

pub cell_past : (columns : List (List Value)) (rows : List (Ranked Value)) (n i j : ℕ)
    → columns ≡ first_columns rows n → All (λ r. length r.values ≡ n) rows
    → i < length rows → length columns ≤ j → get_or (row_at rows i).values j Null ≡ Null
cell_past columns rows n i j is w h l =
    let same = row_there columns rows n i is w h in
    ap (λ vs. get_or vs j Null) (sym same)
    ∙ get_or-eq_default (cells columns i) Null
    (let m = length-map columns (λ (b : List Value). get_or b i Null) in omega (arith, m, l))

pub cell_none : (rows : List (Ranked Value)) (i j : ℕ) → length rows ≤ i
    → get_or (row_at rows i).values j Null ≡ Null
cell_none rows i j h = ap (λ vs. get_or vs j Null) (row_past rows i h)

pub width_there : (columns : List (List Value)) (rows : List (Ranked Value)) (n i : ℕ)
    → columns ≡ first_columns rows n → All (λ r. length r.values ≡ n) rows → i < length rows
    → length (row_at rows i).values ≡ length columns
width_there columns rows n i is w h =
    ap length (sym (row_there columns rows n i is w h))
    ∙ length-map columns (λ (b : List Value). get_or b i Null)

pub ruleset rows = (cell_there, cell_past, cell_none, width_there, row_past, rows_no_fault)

-- rows by place
pub no_batch : (batches : List (Relation Value)) (p : RowPlace) → length batches ≤ p.batch
    → placed_row batches p ≡ []
no_batch batches p h =
    ap (λ (b : Relation Value). (row_at b.rows p.row).values)
    (get_or-eq_default batches (relation 0 []) h)

pub in_batch : (batches : List (Relation Value)) (p : RowPlace) (b : Relation Value)
    → p.batch < length batches → b ≡ get_or batches p.batch b
    → placed_row batches p ≡ (row_at b.rows p.row).values
in_batch batches p b h e =
    ap (λ (c : Relation Value). (row_at c.rows p.row).values)
    (get_or_default batches p.batch (relation 0 []) b h ∙ sym e)

pub ruleset places = (no_batch, in_batch)
