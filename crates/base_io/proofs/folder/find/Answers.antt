use Rattle.std.proofs.Common.{◌≡◌, ◌<◌, Some, true, length, sym, ◌∙◌, rules, slice_index_or, slice_get}
use Rattle.std.proofs.lemmas.List.{at_drop_more}
use Rattle.std.proofs.lemmas.Option.{slice_get-get_or}
use Rattle.std.specs.Str.{bytes_eq}
use Rattle.std.specs.String.{string_bytes}
use Rattle.base_io.specs.Outside.{file_of}
use Rattle.base_io.specs.Memory.{folder_of}
use Rattle.base_io.proofs.folder.find.Goals as goal

pub returns-then-eq : goal.returns-then-eq
returns-then-eq c =
    let files = c.args.files.now in
    let i = c.loop-index.index in
    let below : i < length files = search rules in
    let file = slice_index_or files i c.index-files-index.result in
    let same : bytes_eq (string_bytes file.name) c.args.name.now ≡ true = cc in
    let got : slice_get files i ≡ Some file = slice_get-get_or files i c.index-files-index.result below in
    let first = at_drop_more (λ l. file_of (folder_of l) c.args.name.now) files i c.index-files-index.result below in
    sym c.loop-index.invariant ∙ first ∙ rw (same, got)
