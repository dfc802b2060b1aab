-- Names of kept views, and a line that adds one.
use Rattle.std.proofs.Common.{◌≡◌, ◌∙◌, ℕ, Bool, true, false, List, [], ◌∷◌, ◌++◌, ap, map, refl, subst, sym}
use Rattle.std.specs.Prelude.{◌||◌, Option, Some, Ok, Err, Result, if◌then◌else◌, is_some, nat_le}
use Rattle.std.specs.List.{list_any}
use Rattle.std.specs.Str.{bytes_eq}
use Rattle.std.specs.String.{string_bytes}
use Rattle.std.proofs.lemmas.List.{map-append}
use Rattle.base_schema.specs.Tables.{table_of}
use Rattle.sql_lexer.specs.Names.{name_of}
use Rattle.app_job_file.specs.Files.{JobParts, KeepParts, Puts, has_most_keeps, is_taken, keep_parts}
use Rattle.app_job_file.specs.Files.{parts_of, refused_line, with_keep, with_name}
use Rattle.app_job_file.specs.declared.reading.JobFileError.{JobFileError}
use Rattle.app_job_file.specs.declared.reading.JobFileError.TheVariants.{Refused}
use Rattle.app_job_file.specs.declared.job.Job.{Job}
use Rattle.app_job_file.specs.declared.job.Keep.{Keep}
use Rattle.app_job_file.specs.declared.refusal.JobRefusal.{JobRefusal}
use Rattle.app_job_file.specs.declared.refusal.JobRefusal.TheVariants.{KeepTwice, TooMany}

-- a line that is refused
pub puts_refused : (number : ℕ) (made : Result JobParts JobRefusal) (new : JobParts)
    (why : JobRefusal) (e : JobFileError) → e ≡ Refused (refused_line why number)
    → made ≡ Err why → Puts number made new (Err e)
puts_refused number made new why e is refused =
    subst (λ e. Puts number made new (Err e)) (sym is) (refused, refl)

any_of_parts : (name : List ℕ) (keeps : List Keep)
    → list_any (λ (k : KeepParts). bytes_eq k.name name) (map keep_parts keeps)
    ≡ list_any (λ (k : Keep). bytes_eq k.name name) keeps
any_of_parts name [] = refl
any_of_parts name (k ∷ ks) = ap (λ b. bytes_eq k.name name || b) (any_of_parts name ks)

-- a name that no table has
pub taken : (job : Job) (name : List ℕ) (found : Bool) → is_some (table_of name) ≡ false
    → found ≡ list_any (λ (k : Keep). bytes_eq k.name name) job.keeps.items
    → found ≡ is_taken (parts_of job) name
taken job name found none is =
    is ∙ sym (any_of_parts name job.keeps.items)
    ∙ sym (ap (λ b. b || list_any (λ (k : KeepParts). bytes_eq k.name name) (parts_of job).keeps) none)

module _ (parts : JobParts) (number : ℕ) (name file own : List ℕ) where
  abbrev pub more : JobParts
  more = record parts {
    keeps = parts.keeps ++ record { name = own; file = file; line = number } ∷ [];
  }

  chosen : name_of name ≡ Some own → has_most_keeps parts ≡ false
      → with_keep parts number name file
      ≡ (if is_taken parts own then Err KeepTwice else Ok more)
  chosen is few =
      ap (λ said. with_name parts number said file) is
      ∙ ap (λ b. if b then Err TooMany else if is_taken parts own then Err KeepTwice else Ok more) few

  -- the name stands twice
  pub refused_twice : name_of name ≡ Some own → has_most_keeps parts ≡ false
      → is_taken parts own ≡ true → with_keep parts number name file ≡ Err KeepTwice
  refused_twice is few twice =
      chosen is few ∙ ap (λ b. if b then Err KeepTwice else Ok more) twice

  -- the name is new
  pub added : name_of name ≡ Some own → has_most_keeps parts ≡ false → is_taken parts own ≡ false
      → with_keep parts number name file ≡ Ok more
  added is few new = chosen is few ∙ ap (λ b. if b then Err KeepTwice else Ok more) new

-- the kept views of a job with one more
pub with_one_more : (old new : List Keep) (k : Keep) (file : List ℕ) → new ≡ old ++ k ∷ []
    → string_bytes k.file ≡ file
    → map keep_parts new
    ≡ map keep_parts old ++ record { name = k.name; file = file; line = k.line } ∷ []
with_one_more old new k file is text =
    ap (map keep_parts) is ∙ map-append keep_parts old (k ∷ [])
    ∙ ap (λ f. map keep_parts old ++ record { name = k.name; file = f; line = k.line } ∷ []) text
