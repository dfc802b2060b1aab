use Rattle.std.proofs.Common.{◌∷◌, ◌++◌, ◌∙◌, ap, le_refl, le_trans}
use Rattle.app_sample_data.specs.Texts.{named}
use Rattle.make_data.proofs.Growth.{file_written, grows_none, grows_still, in_part}
use Rattle.make_data.proofs.run.write_texts.Goals as goal

pub loop-text-init : goal.loop-text-init
unfolding named
loop-text-init g c = record { whole = grows_none _; printed = grows_none _; later = le_refl _ }

pub returns-in_err-path-clause-part : goal.returns-in_err-path-clause-part
returns-in_err-path-clause-part g c = in_part _ _ _ _ c.loop-text.text-index c.loop-text.invariant.whole

pub returns-in_err-write_file-clause-part : goal.returns-in_err-write_file-clause-part
returns-in_err-write_file-clause-part g c =
    in_part _ _ _ _ c.loop-text.text-index (grows_still _ _ _ _ c.loop-text.invariant.whole c.in_err-write_file.ensures.none)

pub loop-text-preserved : goal.loop-text-preserved
loop-text-preserved g c = record {
  whole = file_written _ _ _ _ _ _ c.text-item.result _ _ c.loop-text-test.true c.text-item.is (c.as_str-in-loop-text.ensures.value ∙ c.in_ok-path.ensures ∙ ap (λ name. c.args.folder.now ++ 47 ∷ name) c.as_str.ensures.value) c.as_slice.ensures.value c.loop-text.invariant.whole c.in_ok-write_file.ensures.whole;
  printed = grows_still _ _ _ _ c.loop-text.invariant.printed c.write_file.ensures.printed;
  later = le_trans c.loop-text.invariant.later c.write_file.ensures.faults.later;
}

pub returns-clause-part : goal.returns-clause-part
returns-clause-part g c = in_part _ _ _ _ c.loop-text.text-index c.loop-text.invariant.whole
