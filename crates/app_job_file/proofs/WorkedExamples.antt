-- The values worked out by hand are those of the definitions.
use Rattle.std.proofs.Common.{refl}
use Rattle.app_job_file.specs.Examples.{Examples}

pub examples : Examples
examples = record {
  sent = refl;
  kept = refl;
  second_journal = refl;
  views = refl;
  reserved_name = refl;
  digit_first = refl;
  no_file = refl;
  table_name = refl;
  twice = refl;
  most = refl;
  sent_late = refl;
  beside_late = refl;
  before_late = refl;
  no_third = refl;
  no_number = refl;
}
