use Rattle.std.proofs.Common.{inl, refl}
use Rattle.app_run.proofs.Texts.{check_printed, check_refused}
use Rattle.app_run.proofs.commands.check_output.Goals as goal

pub returns-in-Ok-clause-text : goal.returns-in-Ok-clause-text
returns-in-Ok-clause-text g c disk = (check_printed c.args.folder.now (g.F.Files.held c.args.files.now) c.in-Ok.text.items c.in-Ok.ensures.answer disk, inl refl)

pub returns-in-Err-clause-text : goal.returns-in-Err-clause-text
returns-in-Err-clause-text g c disk = check_refused c.args.folder.now (g.F.Files.held c.args.files.now) c.in-Err.error c.in-Err.ensures.answer disk
