-- The files of the trial, put into a folder one after another, and what is printed over them.
use Rattle.std.proofs.Common.{◌≡◌, ◌∙◌, ℕ, ◌+◌, ◌<◌, ◌≤◌, List, [], ◌∷◌, ◌++◌, None, Option, Some, add-one, ap, append_assoc, append-nil, codes, drop, drop-cons, false, length, map, refl, slice_index_or, suc, sym}
use Rattle.std.proofs.lemmas.List.{drop_all}
use Rattle.std.specs.Result.{result_err}
use Rattle.std.specs.String.{string_bytes}
use Rattle.std.specs.declared.result.Result.{Result}
use Rattle.std.specs.declared.result.Result.TheVariants.{Ok, Err}
use Rattle.app_sample_data.specs.Texts.{named}
use Rattle.app_sample_data.specs.declared.text.NamedText.{NamedText}
use Rattle.base_io.specs.Outside.{Folder}
use Rattle.app_inputs.specs.Inputs.{BadInput, refusal_line}
use Rattle.app_jobs.specs.Works.{JobWork}
use Rattle.app_run.specs.JobMeaning.{DiskTold, IsFirstOfJob, MeansJob, NamesNoJournal, PrintsJob}
use Rattle.app_inputs.specs.Printing.{PrintsOf}
use Rattle.app_inputs.specs.JobFile.{job_in}
use Rattle.app_job_file.specs.Files.{JobParts}
use Rattle.app_run.specs.Trial.{in_made, trial_files, trial_job}
use Rattle.app_inputs.specs.declared.status.Status.TheVariants.{InputRefused}

next_is : {X : Type 0} (xs : List X) (i : ℕ) (x : X) → i < length xs → slice_index_or xs i x ≡ x → drop i xs ≡ x ∷ drop (i + 1) xs
next_is xs i x inside is =
    drop-cons xs i x inside ∙ ap (λ b. b ∷ drop (suc i) xs) is ∙ ap (λ j. x ∷ drop j xs) (sym (add-one i))

-- one made file more
pub made_more : (texts : List NamedText) (i : ℕ) (text : NamedText) (before after all : Folder) → i < length texts → slice_index_or texts i text ≡ text
    → before ++ map in_made (named (drop i texts)) ≡ all → after ≡ before ++ in_made (string_bytes text.name, text.bytes.items) ∷ []
    → after ++ map in_made (named (drop (i + 1) texts)) ≡ all
unfolding named
made_more texts i text before after all inside is so_far put =
    let rest : Folder = map in_made (named (drop (i + 1) texts)) in
    let one = in_made (string_bytes text.name, text.bytes.items) in
    ap (λ (f : Folder). f ++ rest) put ∙ (append_assoc before (one ∷ []) rest
    ∙ (ap (λ (l : List NamedText). before ++ map in_made (named l)) (sym (next_is texts i text inside is)) ∙ so_far))

-- all of them
pub made_all : (texts : List NamedText) (i : ℕ) (now all : Folder) → length texts ≤ i → now ++ map in_made (named (drop i texts)) ≡ all → now ≡ all
unfolding named
made_all texts i now all past so_far =
    sym (append-nil now) ∙ (ap (λ (l : List NamedText). now ++ map in_made (named l)) (sym (drop_all i texts past)) ∙ so_far)

first_of : (reads : Option (List ℕ)) (inputs : Result JobWork BadInput) (first : BadInput) → Some first ≡ result_err inputs → PrintsOf (MeansJob false reads) inputs (refusal_line first) InputRefused
first_of reads (Ok read) first is = absurd (cc)
first_of reads (Err refused) first is =
    let same : first ≡ refused = cc in
    (ap refusal_line same, refl)

-- of a job whose first refused input that is, its line is printed
pub refused_prints : (dir job : List ℕ) (folder : Folder) (disk : DiskTold) (first : BadInput) → IsFirstOfJob dir job folder disk.named (Some first) → PrintsJob false dir job folder disk (refusal_line first) InputRefused
refused_prints dir job folder disk first (inputs, are, is) = (inputs, are, first_of disk.reads inputs first is)

-- the trial's job names no journal
no_journal : (parts : JobParts) → job_in (codes "job") (Some trial_job) ≡ Ok parts → parts.journal ≡ None
no_journal parts is = cc

pub trial_names_none : (number : ℕ) → NamesNoJournal (codes "job") (Some (trial_files number))
trial_names_none number = λ parts is. no_journal parts is
