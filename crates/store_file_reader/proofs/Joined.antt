-- A file's pieces one after the other.
use Rattle.std.proofs.Common.{◌≡◌, ℕ, ◌+◌, ◌<◌, List, [], ◌∷◌, ◌++◌, length, take, drop, get_or, refl, sym, ◌∙◌, ap, Result, Err, Bor}
use Rattle.std.proofs.lemmas.Grind.{flat_map-append}
use Rattle.std.proofs.lemmas.List.{take_more, take-append-drop, append-nil}
use Rattle.base_refusals.specs.declared.line.LineRefusal.{LineRefusal}
use Rattle.base_schema.specs.LineForm.{LineForm}
use Rattle.store_file_reader.specs.declared.error.TableError.{TableError}
use Rattle.store_file_reader.specs.declared.error.TableError.TheVariants.{Refused, OutOfMemory}
use Rattle.store_file_reader.specs.Error.{IsErrorOf}
use Rattle.store_file_reader.specs.File.{file_rows}
use Rattle.store_file_reader.specs.Pieces.{joined}
use Rattle.store_file_reader.specs.Reading.{Reading, HasRead, RefusesAll}

-- one piece more
pub joined_more : (pieces : List (Bor (List ℕ))) (i : ℕ) (d : Bor (List ℕ)) → i < length pieces
    → joined (take (i + 1) pieces) ≡ joined (take i pieces) ++ (get_or pieces i d).now
joined_more pieces i d h =
    ap joined (take_more pieces i d h)
    ∙ flat_map-append (λ (p : Bor (List ℕ)). p.now) (take i pieces) (get_or pieces i d ∷ [])
    ∙ ap (λ t. joined (take i pieces) ++ t) (append-nil (get_or pieces i d).now)

-- the pieces so far and those that follow
pub joined_rest : (pieces : List (Bor (List ℕ))) (i : ℕ) → joined pieces ≡ joined (take i pieces) ++ joined (drop i pieces)
joined_rest pieces i =
    ap joined (sym (take-append-drop i pieces)) ∙ flat_map-append (λ (p : Bor (List ℕ)). p.now) (take i pieces) (drop i pieces)

-- what refuses all that begins so refuses the file
refused_file : (form : LineForm) (limit : ℕ) (text more whole : List ℕ) (error : TableError) → whole ≡ text ++ more
    → ((first : LineRefusal) → error ≡ Refused first → RefusesAll form limit text first)
    → IsErrorOf (file_rows form limit whole) error
refused_file form limit text more whole (Refused first) e refuses = ap (file_rows form limit) e ∙ (refuses first refl).answers more
refused_file form limit text more whole OutOfMemory e refuses = tt

-- a reader that was fed one piece more
pub has_read_more : (old new : Reading) (so_far piece text : List ℕ) → ((t : List ℕ) → HasRead t old → HasRead (t ++ piece) new)
    → HasRead so_far old → text ≡ so_far ++ piece → HasRead text new
has_read_more old new so_far piece text read has e = rw e (read so_far has)

-- a reader that refused a piece
pub refused_more : (old : Reading) (form : LineForm) (limit : ℕ) (so_far piece text more whole : List ℕ) (error : TableError)
    → old.lines.form ≡ form → old.lines.limit ≡ limit
    → ((first : LineRefusal) → ◌≡◌ {A = Result (Unit {0}) TableError} (Err error) (Err (Refused first)) → (t : List ℕ) → HasRead t old
    → RefusesAll old.lines.form old.lines.limit (t ++ piece) first)
    → HasRead so_far old → text ≡ so_far ++ piece → whole ≡ text ++ more → IsErrorOf (file_rows form limit whole) error
refused_more old form limit so_far piece text more whole error same_form same_limit refuses has e f =
    refused_file form limit text more whole error f (λ first is. rw (e, ← same_form, ← same_limit) (refuses first (ap Err is) so_far has))
