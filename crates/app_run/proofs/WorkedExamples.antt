-- The values worked out by hand are those of the definitions.
use Rattle.std.proofs.Common.{◌≡◌, ◌∙◌, [], ◌∷◌, Err, ap, arith, codes, refl, slice_index_or}
use Rattle.std.proofs.lemmas.Fmt.{decimal_digit}
use Rattle.store_file_reader.specs.File.{file_rows}
use Rattle.store_gateway.specs.Feeds.{sent_from}
use Rattle.store_gateway.specs.declared.message.SenderId.TheVariants.{First, Second}
use Rattle.store_gateway.proofs.Numbers.{sent_from-numbered}
use Rattle.app_run.specs.Examples.{Examples, refused}
use Rattle.app_inputs.specs.declared.input_error.InputFault.TheVariants as fault

pub examples : Examples
unfolding file_rows
examples = record {
  script_first = (refused (codes "s") fault.Absent, (refused (codes "s") fault.Absent, refl, refl), refl);
  region_first = refl;
  line_refused = refl;
  accepted = refl;
  one_missing = refl;
  absent_line = refl;
  bad_line = rw (decimal_digit 2 (omega arith), decimal_digit 7 (omega arith)) refl;
  counted = rw (decimal_digit 3 (omega arith), decimal_digit 0 (omega arith)) refl;
  first_comes = λ one two. record { sent = (First, one) ∷ (Second, two) ∷ []; whole = refl; first = refl; second = refl };
  second_comes = λ one two. record { sent = (Second, two) ∷ (First, one) ∷ []; whole = refl; first = refl; second = refl };
  in_turn = λ one two is. let both : two ∷ one ∷ [] ≡ one ∷ two ∷ [] = ap (sent_from 1) is.whole ∙ sent_from-numbered First is.sent ∙ is.first in
      ap (λ l. slice_index_or l 0 one) both;
}
