use Rattle.std.proofs.Common.{◌++◌, ◌∷◌, [], take, ap, sym, ◌∙◌, arith}
use Rattle.std.proofs.lemmas.List.{take_more}
use Rattle.base_value.specs.Value.{same_value}
use Rattle.base_value.proofs.Identity.{value_identity}
use Rattle.exec_accumulators.specs.Accumulators.{added_all}
use Rattle.base_key_tables.specs.Distinct.{added}
use Rattle.exec_accumulators.proofs.DistinctValues.{added_all-push}
use Rattle.exec_accumulators.proofs.distinct.put_values.Goals as goal

pub loop-value-preserved : goal.loop-value-preserved
loop-value-preserved c =
    c.in_ok-put_value.ensures ∙ ap (λ ds. added same_value ds c.value-item.result) c.loop-value.invariant
    ∙ sym (added_all-push same_value value_identity c.args.seen.now (take c.loop-value.value-index c.args.values.now) c.value-item.result)
    ∙ ap (added_all same_value c.args.seen.now)
    (ap (λ v. take c.loop-value.value-index c.args.values.now ++ v ∷ []) c.value-item.is ∙ sym (take_more c.args.values.now c.loop-value.value-index c.value-item.result (omega arith)))
