-- The first bad input, in the order in which they are read, is the one that is refused.
use Rattle.std.proofs.Common.{◌≡◌, ◌∙◌, ℕ, List, [], ◌∷◌, ◌++◌, IsOk, ap, arith, is_ok, refl, suc}
use Rattle.std.proofs.lemmas.List.Elements.{All-cons, All-nil}
use Rattle.std.specs.List.{All}
use Rattle.std.specs.declared.result.Result.{Result}
use Rattle.std.specs.declared.result.Result.TheVariants.{Ok, Err}
use Rattle.base_value.specs.declared.value.Value.{Value}
use Rattle.store_state.specs.Lists.{state_of}
use Rattle.base_io.specs.Outside.{Folder}
use Rattle.base_schema.specs.Tables.{all_tables}
use Rattle.base_schema.specs.declared.table.TableName.{TableName}
use Rattle.app_inputs.specs.Inputs.{BadInput, and_then, lists_in, state_in, table_in}
use Rattle.app_run.specs.Laws.{IsFirstBadTable, TablesOrderLaw}

-- what is made of an input doesn't change its refusal
still_refused : {A B : Type 0} → (make : A → B) (input : Result A BadInput) (refused : BadInput) → and_then input (λ x. Ok (make x)) ≡ Err refused → input ≡ Err refused
still_refused make (Ok x) refused e = absurd (cc)
still_refused make (Err first) refused e = let same : first ≡ refused = cc in ap Err same

-- of tables, one more before them
one_before : (dir : List ℕ) (folder : Folder) (t : TableName) (ts : List TableName) (refused : BadInput) → IsOk (table_in dir t folder) → IsFirstBadTable dir folder ts refused → IsFirstBadTable dir folder (t ∷ ts) refused
one_before dir folder t ts refused good first = record {
  before = t ∷ first.before;
  table = first.table;
  after = first.after;
  among = ap (λ tables. t ∷ tables) first.among;
  good = All-cons (λ table. IsOk (table_in dir table folder)) t first.before good first.good;
  bad = first.bad;
}

-- what refuses the tables is the first bad one of them
pub first_bad : (dir : List ℕ) (folder : Folder) (tables : List TableName) (refused : BadInput) → lists_in dir tables folder ≡ Err refused → IsFirstBadTable dir folder tables refused
first_bad dir folder [] refused e = absurd (cc)
first_bad dir folder (t ∷ ts) refused e = at (first_bad dir folder ts refused) (table_in dir t folder) refl e
  where
    at : (lists_in dir ts folder ≡ Err refused → IsFirstBadTable dir folder ts refused) → (r : Result (List (List Value)) BadInput) → table_in dir t folder ≡ r → and_then r (λ rows. and_then (lists_in dir ts folder) (λ lists. Ok (rows ∷ lists))) ≡ Err refused → IsFirstBadTable dir folder (t ∷ ts) refused
    at behind (Ok rows) is e = one_before dir folder t ts refused (ap is_ok is) (behind (still_refused (λ lists. rows ∷ lists) (lists_in dir ts folder) refused e))
    at behind (Err first) is e =
        let same : first ≡ refused = cc in
        record { before = []; table = t; after = ts; among = refl; good = All-nil (λ table. IsOk (table_in dir table folder)); bad = is ∙ ap Err same }

-- a good table before those
behind_good : (dir : List ℕ) (folder : Folder) (t : TableName) (ts : List TableName) (refused : BadInput) → IsOk (table_in dir t folder) → lists_in dir ts folder ≡ Err refused → lists_in dir (t ∷ ts) folder ≡ Err refused
behind_good dir folder t ts refused good bad = at (table_in dir t folder) good
  where
    at : (r : Result (List (List Value)) BadInput) → IsOk r → and_then r (λ rows. and_then (lists_in dir ts folder) (λ lists. Ok (rows ∷ lists))) ≡ Err refused
    at (Ok rows) ok = rw bad refl
    at (Err first) ok = absurd (cc)

-- the first bad one refuses the tables
pub bad_refuses : (dir : List ℕ) (folder : Folder) (before : List TableName) (table : TableName) (behind : List TableName) (refused : BadInput) → All (λ t. IsOk (table_in dir t folder)) before → table_in dir table folder ≡ Err refused → lists_in dir (before ++ table ∷ behind) folder ≡ Err refused
bad_refuses dir folder [] table behind refused good bad = rw bad refl
bad_refuses dir folder (t ∷ before) table behind refused good bad =
    behind_good dir folder t (before ++ table ∷ behind) refused (good 0 t (omega arith)) (bad_refuses dir folder before table behind refused (λ k d inside. good (suc k) d (omega arith)) bad)

-- the same of all eight, which make the state
pub state_refused : (dir : List ℕ) (folder : Folder) (refused : BadInput) → IsFirstBadTable dir folder all_tables refused → state_in dir folder ≡ Err refused
state_refused dir folder refused first = ap (λ lists. and_then lists (λ read. Ok (state_of read))) (ap (λ tables. lists_in dir tables folder) first.among ∙ bad_refuses dir folder first.before first.table first.after refused first.good first.bad)

pub tables_law : TablesOrderLaw
tables_law dir folder refused = (λ e. first_bad dir folder all_tables refused (still_refused state_of (lists_in dir all_tables folder) refused e), state_refused dir folder refused)
