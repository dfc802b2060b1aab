use Rattle.std.proofs.Common.{refl, sym, length, [], append-nil}
use Rattle.std.proofs.lemmas.Result.{err_from_is_err_and}
use Rattle.base_schema.specs.LineForm.{refresh_form}
use Rattle.store_file_reader.proofs.Joined.{refused_more}
use Rattle.store_refresh_text.proofs.reading.fed.Goals as goal

pub returns-in_err-feed-clause-rows : goal.returns-in_err-feed-clause-rows
returns-in_err-feed-clause-rows c =
    let p = err_from_is_err_and c.from_residual-in_err-feed.result c.from_residual-in_err-feed.ensures.1 in
    let text = c.args.text.now in
    rw (p.1, p.2)
    (refused_more c.in_ok-reader.reader (refresh_form c.args.file) (length text) [] text text [] text c.in_err-feed.field-0.0
    c.in_ok-reader.ensures.form
    c.in_ok-reader.ensures.limit
    c.in_err-feed.ensures.refused
    c.in_ok-reader.ensures.started
    refl
    (sym (append-nil text)))
