-- The values of the words' examples are those that clap's definitions compute.
use Rattle.std.proofs.Common.{refl}
use Rattle.clap.proofs.OnLiterals.{clap_on_literals}
use Rattle.app_inputs.specs.WordLaws.{WordExamples}

pub word_examples : WordExamples
unfolding clap_on_literals
word_examples = record {
  session_read = refl;
  check_read = refl;
  explain_read = refl;
  throughput_read = refl;
  trial_read = refl;
  no_trial = refl;
  trial_too_high = refl;
  trial_of_no_number = refl;
  none_given = refl;
  too_few = refl;
  no_folder = refl;
  too_many = refl;
  unknown = refl;
  empty_folder = refl;
  help = refl;
  help_flag = refl;
  short_help_flag = refl;
  help_named = refl;
  flag = refl;
  minus = refl;
  after_dashes = refl;
  dashes_last = refl;
  dashes_first = refl;
}
