use Rattle.std.proofs.Common.{rules, ◌≡◌, ◌∙◌, ◌≤◌, ℕ, List, [], ◌∷◌, ◌++◌, ap, arith, codes, length, map, slice_index_or}
use Rattle.std.specs.String.{string_bytes}
use Rattle.app_sample_data.specs.Texts.{named}
use Rattle.base_io.specs.Memory.{folder_of}
use Rattle.app_run.specs.Trial.{in_made}
use Rattle.app_run.proofs.TrialFiles.{made_all, made_more}
use Rattle.app_run.proofs.trial.put_made.Goals as goal

pub loop-text-preserved : goal.loop-text-preserved
loop-text-preserved c =
    let text = c.text-item.result in
    let before = folder_of c.loop-text.files.items in
    let all = folder_of c.args.files.now.items ++ map in_made (named c.args.texts.now) in
    let same : slice_index_or c.args.texts.now c.loop-text.text-index text ≡ text = search rules in
    let name : c.as_str.result.now ≡ string_bytes text.name = search rules in
    let bytes : c.as_slice.result.now ≡ text.bytes.items = search rules in
    let put = c.in_ok-put_file.ensures ∙ (ap (λ (n : List ℕ). before ++ (codes "made/" ++ n, c.as_slice.result.now) ∷ []) name
    ∙ ap (λ (b : List ℕ). before ++ (codes "made/" ++ string_bytes text.name, b) ∷ []) bytes) in
    made_more c.args.texts.now c.loop-text.text-index text before (folder_of c.put_file.new.files.items) all c.loop-text-test.true same c.loop-text.invariant put

pub returns : goal.returns
returns c =
    let all = folder_of c.args.files.now.items ++ map in_made (named c.args.texts.now) in
    let past : length c.args.texts.now ≤ c.loop-text.text-index = let t = c.loop-text-test.false in omega (arith, t) in
    made_all c.args.texts.now c.loop-text.text-index (folder_of c.loop-text.files.items) all past c.loop-text.invariant
