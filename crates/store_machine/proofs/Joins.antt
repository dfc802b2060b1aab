-- Pieces joined one by one.
use Rattle.std.proofs.Common.{◌≡◌, ℕ, ◌+◌, ◌<◌, List, ◌++◌, length, drop, Option, Some, None, refl, sym, ap, ◌∙◌, add-one, append_assoc, drop-cons}
use Rattle.base_value.specs.declared.value.Value.{Value}
use Rattle.base_schema.specs.declared.table.TableName.{TableName}
use Rattle.store_machine.specs.Machine.{ScannedPiece, joined, piece_rows, scan_from}

one_from : (pieces : List ScannedPiece) (table : TableName) (number : ℕ) (lengths : List ℕ) → number < length lengths
    → scan_from pieces table number (drop number lengths)
    ≡ joined (piece_rows pieces table number) (scan_from pieces table (number + 1) (drop (number + 1) lengths))
one_from pieces table number lengths less =
    ap (scan_from pieces table number) (drop-cons lengths number 0 less)
    ∙ ap (λ k. joined (piece_rows pieces table number) (scan_from pieces table (number + 1) (drop k lengths))) (sym (add-one number))

join_more : (all rows : List (List Value)) (rest : Option (List (List Value))) → joined (Some all) (joined (Some rows) rest) ≡ joined (Some (all ++ rows)) rest
join_more all rows None = refl
join_more all rows (Some r) = ap Some (sym (append_assoc all rows r))

pub join_ends : (pieces : List ScannedPiece) (table : TableName) (number : ℕ) (lengths : List ℕ) (all : List (List Value))
    → number < length lengths → piece_rows pieces table number ≡ None
    → joined (Some all) (scan_from pieces table number (drop number lengths)) ≡ None
join_ends pieces table number lengths all less missing =
    let rest = scan_from pieces table (number + 1) (drop (number + 1) lengths) in
    ap (joined (Some all)) (one_from pieces table number lengths less)
    ∙ ap (λ first. joined (Some all) (joined first rest)) missing

pub join_goes : (pieces : List ScannedPiece) (table : TableName) (number : ℕ) (lengths : List ℕ) (all rows : List (List Value))
    → number < length lengths → piece_rows pieces table number ≡ Some rows
    → joined (Some all) (scan_from pieces table number (drop number lengths))
    ≡ joined (Some (all ++ rows)) (scan_from pieces table (number + 1) (drop (number + 1) lengths))
join_goes pieces table number lengths all rows less found =
    let rest = scan_from pieces table (number + 1) (drop (number + 1) lengths) in
    ap (joined (Some all)) (one_from pieces table number lengths less)
    ∙ ap (λ first. joined (Some all) (joined first rest)) found
    ∙ join_more all rows rest
