use Rattle.std.proofs.Common.{refl}
use Rattle.std.specs.Fmt.{digits}
use Rattle.app_sessions.proofs.laws.worked_reports.Goals as goal

pub returns : goal.returns
unfolding digits
returns c = record {
  deleted_first = refl;
  inserted_first = refl;
  none_refused = refl;
  refused = refl;
  not_clean = refl;
  listed = refl;
  kept = refl;
  changes = refl;
}
