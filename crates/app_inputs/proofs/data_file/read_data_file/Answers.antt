use Rattle.std.proofs.Common.{rules, ◌≡◌, ◌∙◌, ◌<◌, [], ◌++◌, Err, ℕ, ap, arith, le_refl, le_trans, refl, subst, take}
use Rattle.std.specs.Prelude.{IfOk}
use Rattle.std.specs.Io.KnownBytes.{Consumes}
use Rattle.store_file_reader.specs.File.{most_bytes}
use Rattle.store_file_reader.specs.Reading.{bytes_fed}
use Rattle.app_inputs.specs.DataFile.{FitForm, reading_of}
use Rattle.app_inputs.proofs.DataFile.{ended_file, failed_fits, failed_given, fewer_left, given_by, none_read, read_further, refused_file}
use Rattle.app_inputs.proofs.data_file.read_data_file.Goals as goal

pub pieces-init : goal.pieces-init
pieces-init g c =
    let b = c.requires.begun in
    ([], none_read _, b.started, refl, b.limit, omega (arith, b.bytes), search rules, search rules, refl, le_refl _, le_refl _)

pub returns-then-count-eq0-clause-rows : goal.returns-then-count-eq0-clause-rows
returns-then-count-eq0-clause-rows g c =
    let i = c.pieces.invariant in
    let piece = c.in_ok-count.ensures.bytes in
    let own = reading_of c.pieces.reader in
    let none = subst (λ (n : ℕ). Consumes (g.F.Files.left c.pieces.files) (g.F.Files.left c.next_piece.new.files) (take n c.next_piece.new.piece)) c.if-count-eq0.true piece.1 in
    ended_file (reading_of c.args.reader).lines.form own.lines.form own.lines.limit (g.F.Files.left c.args.files.now) (g.F.Files.left c.pieces.files) (g.F.Files.left c.next_piece.new.files) i.0 c.finish.result
    i.3 i.4 i.1 none (piece.2 c.if-count-eq0.true) (c.finish.ensures.rows i.0 i.2)

pub returns-then-count-eq0-clause-fits : goal.returns-then-count-eq0-clause-fits
returns-then-count-eq0-clause-fits g c = subst (λ f. IfOk c.finish.result (FitForm f)) c.pieces.invariant.3 c.finish.ensures.fits

pub returns-then-count-eq0-clause-given : goal.returns-then-count-eq0-clause-given
returns-then-count-eq0-clause-given g c =
    let i = c.pieces.invariant in
    given_by (reading_of c.args.reader).lines.form (reading_of c.pieces.reader).lines.form (reading_of c.pieces.reader).lines.limit i.0 c.finish.result i.3 i.4 (c.finish.ensures.rows i.0 i.2)

pub returns-in-Err-clause-given : goal.returns-in-Err-clause-given
returns-in-Err-clause-given g c = failed_given (reading_of c.args.reader).lines.form c.in-Err.error c.first_bad_line.result c.first_bad_line.ensures.failed

pub returns-in-Err-clause-rows : goal.returns-in-Err-clause-rows
returns-in-Err-clause-rows g c =
    let i = c.pieces.invariant in
    let own = reading_of c.pieces.reader in
    refused_file (reading_of c.args.reader).lines.form own.lines.form own.lines.limit (g.F.Files.left c.args.files.now) (g.F.Files.left c.pieces.files) (g.F.Files.left c.next_piece.new.files) i.0 (take c.in_ok-count.count c.next_piece.new.piece) c.in-Err.error c.first_bad_line.result
    i.3 i.4 i.1 c.in_ok-count.ensures.bytes.1 c.first_bad_line.ensures.failed (λ first is. c.in-Err.ensures.refused first (ap Err is) i.0 i.2)

pub returns-in-Err-clause-fits : goal.returns-in-Err-clause-fits
returns-in-Err-clause-fits g c = failed_fits (reading_of c.args.reader).lines.form c.in-Err.error c.first_bad_line.result c.first_bad_line.ensures.failed

pub pieces-smaller : goal.pieces-smaller
pieces-smaller g c =
    let i = c.pieces.invariant in
    let fed = c.in-Ok.ensures in
    let some : 0 < c.in_ok-count.count = omega (arith, c.if-count-eq0.false) in
    fewer_left most_bytes (bytes_fed (reading_of c.pieces.reader)) (bytes_fed (reading_of c.feed.new.self)) c.in_ok-count.count c.next_piece.new.piece c.in_ok-count.ensures.bytes.0 some fed.bytes
    (rw (fed.limit ∙ i.4) at fed.within)

pub pieces-preserved : goal.pieces-preserved
pieces-preserved g c =
    let i = c.pieces.invariant in
    let fed = c.in-Ok.ensures in (
      i.0 ++ take c.in_ok-count.count c.next_piece.new.piece,
      read_further _ _ _ i.0 (take c.in_ok-count.count c.next_piece.new.piece) i.1 c.in_ok-count.ensures.bytes.1,
      fed.read i.0 i.2,
      fed.form ∙ i.3,
      fed.limit ∙ i.4,
      rw (fed.limit ∙ i.4) at fed.within,
      search rules,
      c.in_ok-count.ensures.open,
      c.next_piece.ensures.files.held ∙ i.8,
      le_trans i.9 c.next_piece.ensures.files.faults,
      le_trans i.10 c.next_piece.ensures.files.misses,
    )
