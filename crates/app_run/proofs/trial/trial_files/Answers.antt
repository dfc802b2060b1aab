use Rattle.std.proofs.Common.{◌≡◌, ◌∙◌, ℕ, List, [], ◌∷◌, ◌++◌, ap, codes, map}
use Rattle.app_sample_data.specs.Texts.{made, named}
use Rattle.base_io.specs.Memory.{folder_of}
use Rattle.base_io.specs.Outside.{Folder}
use Rattle.app_run.specs.Trial.{in_made, trial_job, trial_queries}
use Rattle.app_run.proofs.trial.trial_files.Goals as goal

pub returns : goal.returns
returns c =
    let start : folder_of c.new-files.result.items ≡ [] = ap folder_of c.new-files.ensures.items in
    let texts : named c.as_slice.result.now ≡ made c.args.number = ap named c.as_slice.ensures.value ∙ c.in_ok-texts.ensures in
    c.in_ok-put_made.ensures
    ∙ (ap (λ (f : Folder). f ++ map in_made (named c.as_slice.result.now)) (c.in_ok-put_file-2.ensures ∙ ap (λ (f : Folder). f ++ (codes "queries", trial_queries) ∷ []) (c.in_ok-put_file.ensures ∙ ap (λ (f : Folder). f ++ (codes "job", trial_job) ∷ []) start))
    ∙ ap (λ (n : List (List ℕ × List ℕ)). (codes "job", trial_job) ∷ (codes "queries", trial_queries) ∷ map in_made n) texts)
