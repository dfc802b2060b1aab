use Rattle.app_sample_data.specs.Lines.{by_supplier, partsupp_line, partsupp_lines}
use Rattle.app_sample_data.proofs.Steps.{four_pushed}
use Rattle.app_sample_data.proofs.partsupp.push_partsupps.Goals as goal

pub returns : goal.returns
unfolding partsupp_lines
returns c =
    four_pushed (partsupp_line c.args.number c.args.key) (by_supplier c.args.number c.args.key) _ _ _ _ _ _ _ _ _
    c.by_supplier-first.ensures.order c.in_ok-push_partsupp.ensures c.in_ok-push_partsupp-2.ensures c.in_ok-push_partsupp-3.ensures c.in_ok-push_partsupp-4.ensures
