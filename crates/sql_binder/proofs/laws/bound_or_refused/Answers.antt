use Rattle.sql_binder.proofs.LawProofs as laws
use Rattle.sql_binder.proofs.laws.bound_or_refused.Goals as goal

pub returns : goal.returns
returns c = record { one = laws.bound_or_refused; apart = laws.not_both; way = laws.one_way }
