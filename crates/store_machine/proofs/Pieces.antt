-- Pieces that were scanned.
use Rattle.std.proofs.Common.{◌≡◌, ℕ, zero, suc, ◌+◌, ◌<◌, ◌≤◌, Bool, true, false, cond, ◌&&◌, eqb, List, [], ◌∷◌, ◌++◌, length, take, drop, get_or, Option, Some, None, refl, sym, ap, subst, ◌∙◌, inl, inr, ⊎_elim, arith, add-one}
use Rattle.std.specs.Prelude.{◌⊎◌, nat_lt, slice_index_or, slice_get}
use Rattle.std.specs.List.{flat_map, list_all}
use Rattle.std.proofs.lemmas.Bool.Decides.{Decides-eqb}
use Rattle.std.proofs.lemmas.List.{take-append-drop, length-drop}
use Rattle.std.proofs.Math.Seq.{drop-cons, drop-length}
use Rattle.base_value.specs.declared.value.Value.{Value}
use Rattle.base_schema.specs.declared.table.TableName.{TableName}
use Rattle.base_schema.specs.State.{State}
use Rattle.base_schema.specs.Tables.{all_tables}
use Rattle.store_state.specs.Lists.{place_of}
use Rattle.store_state.specs.Refresh.{Change}
use Rattle.store_state.proofs.Order.{place_law}
use Rattle.store_machine.specs.Machine.{ScannedPiece, SessionState, World, joined, lengths_of, piece_of, piece_rows, pieces_of, rows_in, scan_from, scanned_at, session_scan, total}
use Rattle.store_machine.proofs.Sessions.{IsSound, Keeps}

same_some : {A : Type 0} (a b : A) → Some a ≡ Some b → a ≡ b
same_some a b e = cc

and_parts : (a b : Bool) → (a && b) ≡ true → (a ≡ true) × (b ≡ true)
and_parts true b e = (refl, e)
and_parts false b e = cc

place_injective : (a b : TableName) → place_of a ≡ place_of b → a ≡ b
place_injective a b e = same_some a b (sym (place_law a) ∙ ap (slice_get all_tables) e ∙ place_law b)

found_first : (b : Bool) (row : List (List Value)) (rest more : Option (List (List Value))) (rows : List (List Value)) (G : Type 0)
    → (more ≡ Some rows → (rest ≡ Some rows) ⊎ G) → cond b (Some row) more ≡ Some rows → (cond b (Some row) rest ≡ Some rows) ⊎ G
found_first true row rest more rows G f e = inl e
found_first false row rest more rows G f e = f e

found_last : (b : Bool) (row rows : List (List Value)) → cond b (Some row) None ≡ Some rows → (b ≡ true) × (row ≡ rows)
found_last true row rows e = (refl, same_some row rows e)
found_last false row rows e = cc

-- a piece that is found after one more was scanned was there before, or is that one
found_more : (pieces : List ScannedPiece) (piece : ScannedPiece) (table : TableName) (number : ℕ) (rows : List (List Value))
    → piece_rows (pieces ++ piece ∷ []) table number ≡ Some rows
    → (piece_rows pieces table number ≡ Some rows) ⊎ ((piece.table ≡ table) × (piece.number ≡ number) × (piece.rows ≡ rows))
found_more [] piece table number rows e =
    let last = found_last (eqb (place_of piece.table) (place_of table) && eqb piece.number number) piece.rows rows e in
    let both = and_parts (eqb (place_of piece.table) (place_of table)) (eqb piece.number number) last.0 in
    inr (place_injective piece.table table ((Decides-eqb (place_of piece.table) (place_of table)).0 both.0), (Decides-eqb piece.number number).0 both.1, last.1)
found_more (first ∷ pieces) piece table number rows e =
    found_first (eqb (place_of first.table) (place_of table) && eqb first.number number) first.rows (piece_rows pieces table number)
    (piece_rows (pieces ++ piece ∷ []) table number) rows
    ((piece.table ≡ table) × (piece.number ≡ number) × (piece.rows ≡ rows)) (found_more pieces piece table number rows) e

scanned_more : (base : State) (list : List Change) (done version : ℕ) (table : TableName) (number : ℕ) (session : SessionState)
    → session.pin ≡ Some version → IsSound base list done session
    → IsSound base list done (record session { pieces = session.pieces ++ piece_of base list version session.cuts table number ∷ [] })
scanned_more base list done version table number session pin h = record {
  seen = h.seen;
  pin = h.pin;
  cut = h.cut;
  pieces = λ v e other place rows found.
      ⊎_elim (λ before. h.pieces v e other place rows before)
      (λ last.
      let same : version ≡ v = same_some version v (sym pin ∙ e) in
      sym last.2
      ∙ ap (λ n. slice_index_or (pieces_of (lengths_of session.cuts table) (rows_in base list n table)) number []) same
      ∙ ap (λ t. slice_index_or (pieces_of (lengths_of session.cuts t) (rows_in base list v t)) number []) last.0
      ∙ ap (λ k. slice_index_or (pieces_of (lengths_of session.cuts other) (rows_in base list v other)) k []) last.1)
      (found_more session.pieces (piece_of base list version session.cuts table number) other place rows found);
}

scanned_if : (world : World) (version : ℕ) (table : TableName) (number : ℕ) (session : SessionState) (b : Bool) → session.pin ≡ Some version
    → IsSound world.base world.list world.done session
    → IsSound world.base world.list world.done
    (cond b (record session { pieces = session.pieces ++ piece_of world.base world.list version session.cuts table number ∷ [] }) session)
scanned_if world version table number session true e h = scanned_more world.base world.list world.done version table number session e h
scanned_if world version table number session false e h = h

scanned_sound : (world : World) (pin : Option ℕ) (table : TableName) (number : ℕ) (session : SessionState) → session.pin ≡ pin
    → IsSound world.base world.list world.done session
    → IsSound world.base world.list world.done (scanned_at world pin table number session)
scanned_sound world None table number session e h = h
scanned_sound world (Some version) table number session e h =
    scanned_if world version table number session (nat_lt number (length (lengths_of session.cuts table))) e h

rises_if : (session : SessionState) (more : List ScannedPiece) (b : Bool) → session.seen ≤ (cond b (record session { pieces = more }) session).seen
rises_if session more true = omega arith
rises_if session more false = omega arith

scanned_rises : (world : World) (pin : Option ℕ) (table : TableName) (number : ℕ) (session : SessionState)
    → session.seen ≤ (scanned_at world pin table number session).seen
scanned_rises world None table number session = omega arith
scanned_rises world (Some version) table number session =
    rises_if session (session.pieces ++ piece_of world.base world.list version session.cuts table number ∷ [])
    (nat_lt number (length (lengths_of session.cuts table)))

pub scanned_keeps : (world : World) (table : TableName) (number : ℕ) → Keeps world.base world.list world.done (λ s. scanned_at world s.pin table number s)
scanned_keeps world table number = record {
  sound = λ c h. scanned_sound world c.pin table number c refl h;
  rises = λ c h. scanned_rises world c.pin table number c;
}

-- pieces whose lengths add up are the rows, joined
pieces_joined : (lengths : List ℕ) (rows : List (List Value)) → total lengths ≡ length rows → flat_map (λ piece. piece) (pieces_of lengths rows) ≡ rows
pieces_joined [] [] e = refl
pieces_joined [] (row ∷ rows) e = absurd (omega (arith, e))
pieces_joined (n ∷ lengths) rows e =
    let rest : total lengths ≡ length (drop n rows) = let l = length-drop n rows in omega (arith, e, l) in
    ap (λ joint. take n rows ++ joint) (pieces_joined lengths (drop n rows) rest) ∙ take-append-drop n rows

count_pieces : (lengths : List ℕ) (rows : List (List Value)) → length (pieces_of lengths rows) ≡ length lengths
count_pieces [] rows = refl
count_pieces (n ∷ lengths) rows = ap suc (count_pieces lengths (drop n rows))

joined_parts : (first second : Option (List (List Value))) (rows : List (List Value)) → joined first second ≡ Some rows
    → (a : List (List Value)) × ((b : List (List Value)) × ((first ≡ Some a) × (second ≡ Some b) × (rows ≡ a ++ b)))
joined_parts None second rows e = cc
joined_parts (Some a) None rows e = cc
joined_parts (Some a) (Some b) rows e = (a, (b, (refl, refl, sym (same_some (a ++ b) rows e))))

scan_is : (pieces : List ScannedPiece) (table : TableName) (whole : List (List (List Value)))
    → ((number : ℕ) (rows : List (List Value)) → piece_rows pieces table number ≡ Some rows → rows ≡ slice_index_or whole number [])
    → (number : ℕ) (lengths : List ℕ) → number + length lengths ≡ length whole
    → (rows : List (List Value)) → scan_from pieces table number lengths ≡ Some rows → rows ≡ flat_map (λ piece. piece) (drop number whole)
scan_is pieces table whole are number [] count rows e =
    let at_end : number ≡ length whole = omega (arith, count) in
    sym (same_some [] rows e) ∙ ap (flat_map (λ piece. piece)) (sym (ap (λ n. drop n whole) at_end ∙ drop-length whole))
scan_is pieces table whole are number (n ∷ lengths) count rows e =
    let parts = joined_parts (piece_rows pieces table number) (scan_from pieces table (number + 1) lengths) rows e in
    let a = parts.0 in
    let b = parts.1.0 in
    let facts = parts.1.1 in
    let within : number < length whole = omega (arith, count) in
    let more : (number + 1) + length lengths ≡ length whole = omega (arith, count) in
    let first : a ≡ get_or whole number [] = are number a facts.0 in
    let rest : b ≡ flat_map (λ piece. piece) (drop (number + 1) whole) = scan_is pieces table whole are (number + 1) lengths more b facts.1 in
    let here : drop number whole ≡ get_or whole number [] ∷ drop (suc number) whole = drop-cons whole number [] within in
    facts.2 ∙ ap (λ front. front ++ b) first ∙ ap (λ back. get_or whole number [] ++ back) rest
    ∙ ap (λ k. get_or whole number [] ++ flat_map (λ piece. piece) (drop k whole)) (add-one number)
    ∙ ap (flat_map (λ piece. piece)) (sym here)

all_at : {A : Type 0} (test : A → Bool) (items : List A) (place : ℕ) (item : A) → list_all test items ≡ true → slice_get items place ≡ Some item → test item ≡ true
all_at test [] place item e at = cc
all_at test (x ∷ items) zero item e at = subst (λ y. test y ≡ true) (same_some x item at) (and_parts (test x) (list_all test items) e).0
all_at test (x ∷ items) (suc place) item e at = all_at test items place item (and_parts (test x) (list_all test items) e).1 at

-- a finished scan has the table's rows in the pinned version
pub session_scan_is : (base : State) (list : List Change) (done : ℕ) (session : SessionState) (table : TableName) (pin : Option ℕ) → session.pin ≡ pin
    → IsSound base list done session → (rows : List (List Value)) → session_scan pin session table ≡ Some rows
    → (version : ℕ) × ((pin ≡ Some version) × (rows ≡ rows_in base list version table))
session_scan_is base list done session table None e h rows scan = cc
session_scan_is base list done session table (Some version) e h rows scan =
    let lengths = lengths_of session.cuts table in
    let here = rows_in base list version table in
    let fits : eqb (total lengths) (length here) ≡ true =
    all_at (λ t. eqb (total (lengths_of session.cuts t)) (length (rows_in base list version t))) all_tables (place_of table) table (h.cut version e) (place_law table) in
    let sum : total lengths ≡ length here = (Decides-eqb (total lengths) (length here)).0 fits in
    let count : 0 + length lengths ≡ length (pieces_of lengths here) = let l = count_pieces lengths here in omega (arith, l) in
    (version, (refl, scan_is session.pieces table (pieces_of lengths here) (h.pieces version e table) 0 lengths count rows scan ∙ pieces_joined lengths here sum))
