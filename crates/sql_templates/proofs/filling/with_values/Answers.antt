use Rattle.std.proofs.Common.{◌+◌, ◌++◌, drop, ap, ◌∙◌}
use Rattle.sql_templates.specs.Templates.{filled}
use Rattle.sql_templates.proofs.Bytes.{byte_first}
use Rattle.sql_templates.proofs.filling.with_values.Goals as goal

-- src/filling.rt:133:5
pub bytes-preserved : goal.bytes-preserved
bytes-preserved c = (
  c.bytes.invariant.0
      ∙ ap (λ x. c.bytes.script.items ++ filled c.args.values.now c.bytes.place x) (byte_first c.args.template.now c.bytes.byte-index c.bytes-test.true)
      ∙ c.in_ok-place.ensures.text (drop (c.bytes.byte-index + 1) c.args.template.now),
  c.in_ok-place.ensures.small,
)
