-- What is read of a data file, from its pieces.
use Rattle.std.proofs.Common.{◌≡◌, ◌∙◌, ℕ, ◌≤◌, List, [], ◌++◌, Option, None, Some, ◌+◌, ◌-◌, ◌<◌, ap, append_assoc, arith, length, refl, subst, sym, take}
use Rattle.std.proofs.lemmas.List.{append-nil, length-take-le}
use Rattle.std.specs.Io.KnownBytes.{Consumes, IsAtEnd}
use Rattle.std.specs.Prelude.{Err, IfOk, Ok, Result}
use Rattle.base_refusals.specs.declared.line.LineRefusal.{LineRefusal}
use Rattle.base_schema.specs.LineForm.{LineForm}
use Rattle.store_file_reader.specs.File.{file_rows, most_bytes}
use Rattle.store_file_reader.specs.Reading.{RefusesAll}
use Rattle.store_file_reader.specs.declared.error.TableError.{TableError}
use Rattle.store_file_reader.specs.declared.error.TableError.TheVariants as table_error
use Rattle.app_inputs.specs.DataFile.{FailsAs, FileRows, FitForm, IsFileOf, IsGiven}
use Rattle.app_inputs.specs.declared.input_error.ReadError.{ReadError}

-- the bytes that were left, read to their end, and what they give
pub ended_file : (form own : LineForm) (limit : ℕ) (left middle later : Option (List ℕ)) (so_far : List ℕ) (result : Result FileRows ReadError)
    → own ≡ form → limit ≡ most_bytes → Consumes left middle so_far → Consumes middle later [] → IsAtEnd later
    → IfOk result (λ r. r ≡ file_rows own limit so_far) → IfOk result (IsFileOf form left)
ended_file form own limit left middle later so_far (Err error) same most read none ended is = tt
ended_file form own limit None middle later so_far (Ok r) same most read none ended is = tt
ended_file form own limit (Some text) None later so_far (Ok r) same most read none ended is = absurd read
ended_file form own limit (Some text) (Some rest) None so_far (Ok r) same most read none ended is = absurd none
ended_file form own limit (Some text) (Some rest) (Some last) so_far (Ok r) same most read none ended is =
    let all : text ≡ so_far = read ∙ ap (λ more. so_far ++ more) (none ∙ ended) ∙ append-nil so_far in
    is ∙ ap (λ f. file_rows f limit so_far) same ∙ ap (λ l. file_rows form l so_far) most ∙ ap (file_rows form most_bytes) (sym all)

-- a piece that is refused
pub refused_file : (form own : LineForm) (limit : ℕ) (left middle later : Option (List ℕ)) (so_far piece : List ℕ) (why : TableError) (result : Result FileRows ReadError)
    → own ≡ form → limit ≡ most_bytes → Consumes left middle so_far → Consumes middle later piece → FailsAs why result
    → ((first : LineRefusal) → why ≡ table_error.Refused first → RefusesAll own limit (so_far ++ piece) first) → IfOk result (IsFileOf form left)
refused_file form own limit left middle later so_far piece table_error.OutOfMemory result same most read next is all =
    subst (λ (m : Result FileRows ReadError). IfOk m (IsFileOf form left)) (sym is) tt
refused_file form own limit None middle later so_far piece (table_error.Refused first) result same most read next is all =
    subst (λ (m : Result FileRows ReadError). IfOk m (IsFileOf form None)) (sym is) tt
refused_file form own limit (Some text) None later so_far piece (table_error.Refused first) result same most read next is all = absurd read
refused_file form own limit (Some text) (Some rest) None so_far piece (table_error.Refused first) result same most read next is all = absurd next
refused_file form own limit (Some text) (Some rest) (Some last) so_far piece (table_error.Refused first) result same most read next is all =
    let whole : text ≡ (so_far ++ piece) ++ last = read ∙ ap (λ more. so_far ++ more) next ∙ sym (append_assoc so_far piece last) in
    let refused : file_rows form most_bytes text ≡ Err first =
    ap (file_rows form most_bytes) whole ∙ ap (λ f. file_rows f most_bytes ((so_far ++ piece) ++ last)) (sym same)
    ∙ ap (λ l. file_rows own l ((so_far ++ piece) ++ last)) (sym most) ∙ (all first refl).answers last in
    subst (λ (m : Result FileRows ReadError). IfOk m (IsFileOf form (Some text))) (sym is) (sym refused)

-- a bad line is of each form
pub failed_fits : (form : LineForm) (why : TableError) (result : Result FileRows ReadError) → FailsAs why result → IfOk result (FitForm form)
failed_fits form (table_error.Refused first) result is = subst (λ (m : Result FileRows ReadError). IfOk m (FitForm form)) (sym is) tt
failed_fits form table_error.OutOfMemory result is = subst (λ (m : Result FileRows ReadError). IfOk m (FitForm form)) (sym is) tt

-- some file gave the rows that were read to an end
pub given_by : (form own : LineForm) (limit : ℕ) (so_far : List ℕ) (result : Result FileRows ReadError) → own ≡ form → limit ≡ most_bytes
    → IfOk result (λ r. r ≡ file_rows own limit so_far) → IfOk result (IsGiven form)
given_by form own limit so_far (Err error) same most is = tt
given_by form own limit so_far (Ok (Err first)) same most is = tt
given_by form own limit so_far (Ok (Ok rows)) same most is =
    (so_far, sym (is ∙ ap (λ f. file_rows f limit so_far) same ∙ ap (λ l. file_rows form l so_far) most))

-- a bad line gives none
pub failed_given : (form : LineForm) (why : TableError) (result : Result FileRows ReadError) → FailsAs why result → IfOk result (IsGiven form)
failed_given form (table_error.Refused first) result is = subst (λ (m : Result FileRows ReadError). IfOk m (IsGiven form)) (sym is) tt
failed_given form table_error.OutOfMemory result is = subst (λ (m : Result FileRows ReadError). IfOk m (IsGiven form)) (sym is) tt

-- nothing was read yet
pub none_read : (left : Option (List ℕ)) → Consumes left left []
none_read None = tt
none_read (Some text) = refl

-- one piece more was read
pub read_further : (left middle later : Option (List ℕ)) (so_far piece : List ℕ) → Consumes left middle so_far → Consumes middle later piece → Consumes left later (so_far ++ piece)
read_further None middle later so_far piece read next = tt
read_further (Some text) None later so_far piece read next = absurd read
read_further (Some text) (Some rest) None so_far piece read next = absurd next
read_further (Some text) (Some rest) (Some last) so_far piece read next = read ∙ ap (λ more. so_far ++ more) next ∙ sym (append_assoc so_far piece last)

-- fewer bytes may still come after a piece that has some
pub fewer_left : (limit old new count : ℕ) (piece : List ℕ) → count ≤ length piece → 0 < count → new ≡ old + length (take count piece) → new ≤ limit → limit - new < limit - old
fewer_left limit old new count piece inside some fed within = omega (arith, length-take-le count piece inside)
