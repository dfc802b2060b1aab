use Rattle.base_key_tables.proofs.NumberSteps.{put_as_set}
use Rattle.base_key_tables.proofs.key_set.KeySet.insert.Goals as goal

pub returns-clause-is_new : goal.returns-clause-is_new
returns-clause-is_new g c = (put_as_set g.K.PartialEq.eq c.args.self.now c.put.new.self c.args.key c.in_ok-is_new.is_new c.in_ok-is_new.ensures.keys c.in_ok-is_new.ensures.is_new).0

pub returns-clause-keys : goal.returns-clause-keys
returns-clause-keys g c = (put_as_set g.K.PartialEq.eq c.args.self.now c.put.new.self c.args.key c.in_ok-is_new.is_new c.in_ok-is_new.ensures.keys c.in_ok-is_new.ensures.is_new).1
