-- The rows of the tables, from one table to the next.
use Rattle.std.proofs.Common.{◌≡◌, ◌∙◌, ℕ, ◌+◌, ◌<◌, List, [], ◌∷◌, ◌++◌, Option, None, Some, add-one, ap, append_assoc, arith, drop, drop-cons, length, refl, slice_index_or, suc, sym, zero}
use Rattle.std.proofs.lemmas.List.{length-append}
use Rattle.std.specs.declared.result.Result.{Result}
use Rattle.std.specs.declared.result.Result.TheVariants.{Ok, Err}
use Rattle.base_value.specs.declared.value.Value.{Value}
use Rattle.base_io.specs.Outside.{Folder}
use Rattle.base_schema.specs.declared.table.TableName.{TableName}
use Rattle.store_state.specs.Lists.{IsOfKinds, state_of}
use Rattle.base_schema.specs.Kinds.{RowsAreOf}
use Rattle.base_schema.specs.Tables.{all_tables}
use Rattle.base_schema.specs.declared.table.TableName.TheVariants as table
use Rattle.app_inputs.specs.Lists.{TablesHaveKinds}
use Rattle.app_inputs.specs.Inputs.{BadInput, and_then, lists_in, table_in}
use Rattle.app_inputs.specs.Views.{Explains, IfKnown, refused_view}
use Rattle.app_inputs.specs.declared.input_error.InputError.{InputError}
use Rattle.app_inputs.specs.declared.input_error.InputError.TheVariants as error

-- what is read of further tables, after what was read of those before
abbrev pub behind : List (List (List Value)) → Result (List (List (List Value))) BadInput → Result (List (List (List Value))) BadInput
behind before further = and_then further (λ lists. Ok (before ++ lists))

-- one table's rows and those of further tables
abbrev pub with_first : Result (List (List Value)) BadInput → Result (List (List (List Value))) BadInput → Result (List (List (List Value))) BadInput
with_first first further = and_then first (λ rows. and_then further (λ lists. Ok (rows ∷ lists)))

pub lists_step : (dir : List ℕ) (tables : List TableName) (i : ℕ) (d : TableName) (folder : Folder) → i < length tables → lists_in dir (drop i tables) folder ≡ with_first (table_in dir (slice_index_or tables i d) folder) (lists_in dir (drop (i + 1) tables) folder)
lists_step dir tables i d folder inside = rw (add-one, drop-cons tables i d) refl

pub behind_more : (before : List (List (List Value))) (rows : List (List Value)) (further : Result (List (List (List Value))) BadInput) → behind before (with_first (Ok rows) further) ≡ behind (before ++ rows ∷ []) further
behind_more before rows (Ok lists) = ap Ok (sym (append_assoc before (rows ∷ []) lists))
behind_more before rows (Err refused) = refl

-- one table more was read
pub lists_more : (held later : Option Folder) (dir : List ℕ) (tables : List TableName) (i : ℕ) (d : TableName) (before : List (List (List Value))) (rows : List (List Value)) → later ≡ held → i < length tables
    → IfKnown held (λ folder. lists_in dir tables folder ≡ behind before (lists_in dir (drop i tables) folder))
    → IfKnown later (λ folder. table_in dir (slice_index_or tables i d) folder ≡ Ok rows)
    → IfKnown held (λ folder. lists_in dir tables folder ≡ behind (before ++ rows ∷ []) (lists_in dir (drop (i + 1) tables) folder))
lists_more None later dir tables i d before rows same inside so_far read = tt
lists_more (Some folder) None dir tables i d before rows same inside so_far read = absurd (cc)
lists_more (Some folder) (Some other) dir tables i d before rows same inside so_far read =
    let alike : other ≡ folder = cc in
    let one : table_in dir (slice_index_or tables i d) folder ≡ Ok rows = ap (λ f. table_in dir (slice_index_or tables i d) f) (sym alike) ∙ read in
    so_far ∙ ap (behind before) (lists_step dir tables i d folder inside ∙ ap (λ first. with_first first (lists_in dir (drop (i + 1) tables) folder)) one)
    ∙ behind_more before rows (lists_in dir (drop (i + 1) tables) folder)

-- the first table that is refused
pub lists_refused : (held later : Option Folder) (dir : List ℕ) (tables : List TableName) (i : ℕ) (d : TableName) (before : List (List (List Value))) (made : InputError) → later ≡ held → i < length tables
    → IfKnown held (λ folder. lists_in dir tables folder ≡ behind before (lists_in dir (drop i tables) folder))
    → Explains later (table_in dir (slice_index_or tables i d)) made
    → Explains held (lists_in dir tables) made
lists_refused held later dir tables i d before (error.Unread unread) same inside so_far why = tt
lists_refused None later dir tables i d before (error.Refused refusal) same inside so_far why = tt
lists_refused (Some folder) None dir tables i d before (error.Refused refusal) same inside so_far why = absurd (cc)
lists_refused (Some folder) (Some other) dir tables i d before (error.Refused refusal) same inside so_far why =
    let alike : other ≡ folder = cc in
    let one : table_in dir (slice_index_or tables i d) folder ≡ Err (refused_view refusal) = ap (λ f. table_in dir (slice_index_or tables i d) f) (sym alike) ∙ why in
    so_far ∙ ap (behind before) (lists_step dir tables i d folder inside ∙ ap (λ first. with_first first (lists_in dir (drop (i + 1) tables) folder)) one)

-- the kinds of one list more
pub kinds_more : (tables : List TableName) (lists : List (List (List Value))) (rows : List (List Value)) (i : ℕ) (d : TableName) → length lists ≡ i → i < length tables → TablesHaveKinds tables lists → RowsAreOf (slice_index_or tables i d) rows → TablesHaveKinds tables (lists ++ rows ∷ [])
kinds_more [] lists rows i d many inside all one = absurd (omega arith)
kinds_more (t ∷ ts) [] rows zero d many inside all one = at
  where
    at : TablesHaveKinds (t ∷ ts) (rows ∷ [])
    at zero below = one
    at (suc k) below = absurd (omega arith)
kinds_more (t ∷ ts) [] rows (suc i) d many inside all one = absurd (omega arith)
kinds_more (t ∷ ts) (l ∷ ls) rows zero d many inside all one = absurd (omega arith)
kinds_more (t ∷ ts) (l ∷ ls) rows (suc i) d many inside all one = at (kinds_more ts ls rows i d (omega arith) (omega arith) (λ k below. all (suc k) (omega arith)) one)
  where
    at : TablesHaveKinds ts (ls ++ rows ∷ []) → TablesHaveKinds (t ∷ ts) ((l ∷ ls) ++ rows ∷ [])
    at further zero below = all 0 (omega arith)
    at further (suc k) below = further k (omega arith)

-- eight lists of the eight tables make a state of their kinds
pub eight_kinds : (lists : List (List (List Value))) → length lists ≡ 8 → TablesHaveKinds all_tables lists → IsOfKinds (state_of lists)
eight_kinds lists eight all table.Region = all 0 (omega arith)
eight_kinds lists eight all table.Nation = all 1 (omega arith)
eight_kinds lists eight all table.Part = all 2 (omega arith)
eight_kinds lists eight all table.Supplier = all 3 (omega arith)
eight_kinds lists eight all table.Partsupp = all 4 (omega arith)
eight_kinds lists eight all table.Customer = all 5 (omega arith)
eight_kinds lists eight all table.Orders = all 6 (omega arith)
eight_kinds lists eight all table.Lineitem = all 7 (omega arith)

-- and how many they are
pub count_pushed : (xs later : List (List (List Value))) (v : List (List Value)) (n : ℕ) → later ≡ xs ++ v ∷ [] → length xs ≡ n → length later ≡ n + 1
count_pushed xs later v n pushed many = ap length pushed ∙ length-append xs (v ∷ []) ∙ ap (λ k. k + 1) many
